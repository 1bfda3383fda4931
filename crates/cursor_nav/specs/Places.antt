-- Places among the sorted entries of an index, and what lies beyond and before them.
use Rattle.std.specs.Prelude.{ℕ, [], ◌∷◌, Bool, true, false, not, ◌&&◌, ◌||◌, List, filter, find, Option, Some, None, if◌then◌else◌, bytes_eq}
use Rattle.std.specs.List.{last_or, list_any, list_all}
use Rattle.column_set.specs.RecordValues.{bytes_lt, bytes_le}
use Rattle.index_derive.specs.declared.entries.Place.{Place}
use Rattle.index_derive.specs.declared.entries.Place.TheVariants.{Before, After, On, Gap}
use Rattle.index_derive.specs.declared.entries.IndexEntry.{IndexEntry}

-- An entry of an index: its key and the bookmark of its record.
abbrev pub Pair : Type 0
Pair = List ℕ × List ℕ

-- Entries are ordered by key, then by bookmark.
abbrev pub pair_lt : Pair → Pair → Bool
pair_lt one other = bytes_lt one.0 other.0 || (bytes_eq one.0 other.0 && bytes_lt one.1 other.1)

-- whether each entry lies below all that follow it: they are in order, and none stands twice
abbrev pub are_sorted : List Pair → Bool
are_sorted [] = true
are_sorted (entry ∷ entries) = list_all (pair_lt entry) entries && are_sorted entries

-- an entry as a pair
abbrev pub pair_of : IndexEntry → Pair
pair_of entry = (entry.key, entry.bookmark)

-- the same, where there is one
abbrev pub found_pair : Option IndexEntry → Option Pair
found_pair None = None
found_pair (Some entry) = Some (entry.key, entry.bookmark)

-- ---- what a place shows

abbrev pub is_on : Place → Bool
is_on (On key bookmark) = true
is_on _ = false

abbrev pub place_key : Place → List ℕ
place_key (On key bookmark) = key
place_key _ = []

abbrev pub place_bookmark : Place → List ℕ
place_bookmark (On key bookmark) = bookmark
place_bookmark _ = []

abbrev pub place_pair : Place → Pair
place_pair place = (place_key place, place_bookmark place)

-- on the entry, or else this place
abbrev pub on_or : Option Pair → Place → Place
on_or None place = place
on_or (Some entry) place = On entry.0 entry.1

-- ---- neighbours of a place

-- A gap stands just above all entries with its key, or just below them.
abbrev pub is_beyond : Place → Pair → Bool
is_beyond Before entry = true
is_beyond After entry = false
is_beyond (On key bookmark) entry = pair_lt (key, bookmark) entry
is_beyond (Gap key above) entry = if above then bytes_lt key entry.0 else bytes_le key entry.0

abbrev pub is_short_of : Place → Pair → Bool
is_short_of Before entry = false
is_short_of After entry = true
is_short_of (On key bookmark) entry = pair_lt entry (key, bookmark)
is_short_of (Gap key above) entry = if above then bytes_le entry.0 key else bytes_lt entry.0 key

-- the least entry beyond a place, and the greatest before it
abbrev pub entry_after : Place → List Pair → Option Pair
entry_after place entries = find (is_beyond place) entries

abbrev pub entry_before : Place → List Pair → Option Pair
entry_before place entries = last_or None (filter (is_short_of place) entries)

-- the least entry of a record
abbrev pub least_entry_of : List ℕ → List Pair → Option Pair
least_entry_of bookmark entries = find (λ entry. bytes_eq entry.1 bookmark) entries

-- ---- ranges

-- A limit on moves: an upper one concerns Next and counts, a lower one Previous.
pub record KeyRange : Type 0 where
  pub upper : Bool
  pub inclusive : Bool
  pub limit : List ℕ

abbrev pub is_within : KeyRange → List ℕ → Bool
is_within range key =
    if range.upper then (if range.inclusive then bytes_le key range.limit else bytes_lt key range.limit)
    else (if range.inclusive then bytes_le range.limit key else bytes_lt range.limit key)

-- the key of an upper limit, and whether entries with the key lie within it; a lower one concerns no upper end
abbrev pub upper_limit : Option KeyRange → Option (List ℕ × Bool)
upper_limit None = None
upper_limit (Some range) = if range.upper then Some (range.limit, range.inclusive) else None

-- where a move stands that came to the limit: just above its entries for an inclusive upper or an exclusive lower limit
abbrev pub place_at_limit : KeyRange → Place
place_at_limit range = Gap range.limit (if range.upper then range.inclusive else not range.inclusive)

-- whether some entry lies from this one to the limit
abbrev pub reaches_limit : KeyRange → Pair → List Pair → Bool
reaches_limit range from entries = list_any (λ entry. is_within range entry.0 && not (if range.upper then pair_lt entry from else pair_lt from entry)) entries

abbrev pub is_within_upper : Option KeyRange → List ℕ → Bool
is_within_upper None key = true
is_within_upper (Some range) key = not range.upper || is_within range key

-- the entries not below this one, within an upper limit
abbrev pub entries_from : Pair → Option KeyRange → List Pair → List Pair
entries_from from range entries = filter (λ entry. not (pair_lt entry from) && is_within_upper range entry.0) entries
