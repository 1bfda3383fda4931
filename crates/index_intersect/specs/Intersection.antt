-- The bookmarks that lie in all of some ranges of indexes.
use Rattle.std.specs.Prelude.{ℕ, Bool, true, List, [], ◌∷◌, map, filter, bytes_eq, Option, Some, None}
use Rattle.std.specs.List.{list_any, list_all}
use Rattle.std.specs.Ordering.{nat_cmp}
use Rattle.std.specs.Cmp.Lexicographic.{slice_cmp}
use Rattle.std.specs.BTreeSet.{insert_key}
use Rattle.cursor_nav.specs.Places.{Pair, KeyRange, pair_of, entries_from}
use Rattle.index_intersect.specs.declared.ranges.IndexRange.{IndexRange}
use Rattle.index_intersect.specs.declared.ranges.Limit.{Limit}

-- The entries of each index of each table, in order.
abbrev pub Indexes : Type 0
Indexes = ℕ → ℕ → List Pair

-- the upper limit of a range, as cursors have it
abbrev pub upper_range : Option Limit → Option KeyRange
upper_range None = None
upper_range (Some limit) = Some (record { upper = true; inclusive = limit.inclusive; limit = limit.key })

-- the entries of a range: those of its index that are not below the one where it begins, within its limit
abbrev pub entries_in : Indexes → IndexRange → List Pair
entries_in indexes range = entries_from (pair_of range.from) (upper_range range.upper) (indexes range.table.0 range.index.0)

-- their bookmarks: one that several entries have stands there as often
abbrev pub bookmarks_in : Indexes → IndexRange → List (List ℕ)
bookmarks_in indexes range = map (λ entry. entry.1) (entries_in indexes range)

-- A bookmark lies in a range where an entry of the range has it.
abbrev pub lies_in : Indexes → List ℕ → IndexRange → Bool
lies_in indexes bookmark range = list_any (bytes_eq bookmark) (bookmarks_in indexes range)

abbrev pub lies_in_all : Indexes → List ℕ → List IndexRange → Bool
lies_in_all indexes bookmark ranges = list_all (lies_in indexes bookmark) ranges

-- bookmarks in rising order, each once
abbrev pub rising : List (List ℕ) → List (List ℕ)
rising [] = []
rising (bookmark ∷ bookmarks) = insert_key (slice_cmp nat_cmp) (rising bookmarks) bookmark

-- The bookmarks that lie in all ranges, in rising order and each once: what lies in all lies in the first. Without a range
-- there is none.
abbrev pub intersection : Indexes → List IndexRange → List (List ℕ)
intersection indexes [] = []
intersection indexes (range ∷ ranges) = rising (filter (λ bookmark. lies_in_all indexes bookmark ranges) (bookmarks_in indexes range))
