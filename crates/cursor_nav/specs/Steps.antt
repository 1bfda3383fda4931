-- What the steps of a cursor's calls do.
use Rattle.std.specs.Prelude.{ℕ, Bool, true, false, not, ◌&&◌, List, [], ◌∷◌, reverse, find, filter, Option, Some, None, if◌then◌else◌, bytes_eq}
use Rattle.std.specs.List.{last_or}
use Rattle.jet_base.specs.declared.replies.Jet.TheVariants as jet
use Rattle.index_derive.specs.declared.entries.Place.{Place}
use Rattle.index_derive.specs.declared.entries.Place.TheVariants.{On, Gap}
use Rattle.index_derive.specs.declared.entries.IndexEntry.{IndexEntry}
use Rattle.cursor_nav.specs.Places.{Pair, KeyRange, pair_lt, pair_of, is_beyond, is_short_of, is_within, place_at_limit, place_key, reaches_limit}
use Rattle.cursor_nav.specs.Navigation.{CursorState, Navigated}

-- a move that came to an entry, or else stands at this place
abbrev pub arrived : CursorState → Bool → Place → Navigated
arrived cursor found place =
    if found then record { jet = jet.Success; cursor = cursor }
    else record { jet = jet.NoCurrentRecord; cursor = record cursor { place = place } }

-- a move that came to the cursor's place, where a range with an upper, or else with a lower limit concerns it
abbrev pub arrived_within : CursorState → Bool → Bool → Option KeyRange → Navigated
arrived_within cursor found upper None = arrived cursor found cursor.place
arrived_within cursor found upper (Some range) =
    if (if upper then range.upper else not range.upper) then
    (if found && is_within range (place_key cursor.place) then record { jet = jet.Success; cursor = cursor }
    else record { jet = jet.NoCurrentRecord; cursor = record cursor { place = place_at_limit range; range = None } })
    else arrived cursor found cursor.place

-- whether the place is an entry, and some entry lies from there to the limit
abbrev pub reaches_from : Place → KeyRange → List Pair → Bool
reaches_from (On key bookmark) range entries = reaches_limit range (key, bookmark) entries
reaches_from _ range entries = false

-- the least entry that is not below this one, or else the greatest that is not above it
abbrev pub nearest_entry : Bool → Pair → List Pair → Option Pair
nearest_entry upper from entries = if upper then find (λ entry. not (pair_lt entry from)) entries else last_or None (filter (λ entry. not (pair_lt from entry)) entries)

-- the entry where it has the key
abbrev pub only_equal : List ℕ → Option Pair → Option Pair
only_equal key None = None
only_equal key (Some entry) = if bytes_eq entry.0 key then Some entry else None

-- whether a place is an entry with the key
abbrev pub stands_at : List ℕ → Place → Bool
stands_at key (On found bookmark) = bytes_eq found key
stands_at key _ = false

-- a seek that came to an entry, or else stands just above or just below the key's entries
abbrev pub landed : CursorState → Bool → List ℕ → Bool → Navigated
landed cursor found key above =
    if found then record { jet = jet.Success; cursor = cursor }
    else record { jet = jet.RecordNotFound; cursor = record cursor { place = Gap key above } }

-- the same, with a warning where the entry's key is another
abbrev pub landed_near : CursorState → Bool → List ℕ → Bool → Navigated
landed_near cursor found key above =
    if found && not (stands_at key cursor.place) then record { jet = jet.SeekNotEqual; cursor = cursor }
    else landed cursor found key above

-- whether it lies below the first of the others, where there is one
abbrev pub is_below_first : Pair → List Pair → Bool
is_below_first pair [] = true
is_below_first pair (other ∷ others) = pair_lt pair other

-- ---- a plain list

-- the first of the entries beyond a place, the last before it, and the first with a bookmark
abbrev pub first_beyond : Place → List IndexEntry → Option IndexEntry
first_beyond place entries = find (λ entry. is_beyond place (pair_of entry)) entries

abbrev pub last_before : Place → List IndexEntry → Option IndexEntry
last_before place entries = find (λ entry. is_short_of place (pair_of entry)) (reverse entries)

abbrev pub first_of : List ℕ → List IndexEntry → Option IndexEntry
first_of bookmark entries = find (λ entry. bytes_eq entry.bookmark bookmark) entries
