-- What ranges have that are read in part.
use Rattle.std.specs.Prelude.{ℕ, Bool, ◌&&◌, ◌||◌, List, map, filter, bytes_eq}
use Rattle.std.specs.List.{list_any, list_all}
use Rattle.std.specs.Ordering.{nat_cmp}
use Rattle.std.specs.Cmp.Lexicographic.{slice_cmp}
use Rattle.std.specs.BTreeSet.{BTreeSet, contains}
use Rattle.cursor_nav.specs.Places.{is_beyond, is_within_upper}
use Rattle.index_intersect.specs.declared.range_bookmarks.RangeBookmarks.{RangeBookmarks}
use Rattle.index_intersect.specs.declared.range_walk.RangeWalk.{RangeWalk}
use Rattle.index_intersect.specs.Intersection.{Indexes, upper_range}

-- the bookmarks of the entries that a walk has before it
abbrev pub bookmarks_ahead : Indexes → RangeWalk → List (List ℕ)
bookmarks_ahead indexes walk =
    map (λ entry. entry.1)
    (filter (λ entry. is_beyond walk.place entry && is_within_upper (upper_range walk.range.now.upper) entry.0) (indexes walk.range.now.table.0 walk.range.now.index.0))

-- whether a bookmark is one of a set
abbrev pub has : BTreeSet (List ℕ) → List ℕ → Bool
has bookmarks bookmark = contains (slice_cmp nat_cmp) bookmarks bookmark

-- whether a bookmark of a range was read, or will be
abbrev pub will_read : Indexes → List ℕ → RangeBookmarks → Bool
will_read indexes bookmark part = has part.read bookmark || list_any (bytes_eq bookmark) (bookmarks_ahead indexes part.walk)

-- the same, where those to come are only read that are also among others
abbrev pub will_have_among : Indexes → BTreeSet (List ℕ) → List ℕ → RangeBookmarks → Bool
will_have_among indexes others bookmark part = has part.read bookmark || (has others bookmark && list_any (bytes_eq bookmark) (bookmarks_ahead indexes part.walk))

abbrev pub will_all_read : Indexes → List ℕ → List RangeBookmarks → Bool
will_all_read indexes bookmark parts = list_all (will_read indexes bookmark) parts
