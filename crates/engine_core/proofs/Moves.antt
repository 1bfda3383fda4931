-- A call that moves a cursor is not answered with want of memory.
use Rattle.std.proofs.Common.{◌≡◌, ℕ, Bool, true, false, List, filter, find, Option, Some, None, refl, if◌then◌else◌, bytes_eq}
use Rattle.std.specs.List.{last_or}
use Rattle.jet_base.specs.declared.replies.Jet.{Jet}
use Rattle.jet_base.specs.declared.replies.Jet.TheVariants as jet
use Rattle.jet_base.specs.declared.words.Way.{Way}
use Rattle.jet_base.specs.declared.words.Way.TheVariants as way
use Rattle.column_set.specs.RecordValues.{bytes_lt, bytes_le}
use Rattle.index_derive.specs.declared.entries.Place.{Place}
use Rattle.index_derive.specs.declared.entries.Place.TheVariants.{Before, After, On, Gap}
use Rattle.cursor_nav.specs.declared.seek_by.SeekBy.{SeekBy}
use Rattle.cursor_nav.specs.declared.seek_by.SeekBy.TheVariants as by
use Rattle.cursor_nav.specs.Places.{Pair, KeyRange, entry_after, entry_before, is_within, reaches_limit}
use Rattle.cursor_nav.specs.Navigation.{MadeKey, CursorState, Navigated, found_or, without_range, limited, moved_next, moved_previous, moved, if_equal, sought_by, sought_with, sought, ranged_from, ranged_with, ranged}
use Rattle.engine_core.proofs.Refusing.{is_memory}

-- a move that was answered with anything but want of memory
abbrev pub IsOtherMove : Navigated → Type 0
IsOtherMove made = is_memory made.jet ≡ false

either : (b : Bool) (one other : Navigated) → IsOtherMove one → IsOtherMove other → IsOtherMove (if b then one else other)
either true one other h k = h
either false one other h k = k

other-found : (cursor : CursorState) (found : Jet) (entry : Option Pair) (missing : Jet) (place : Place) → is_memory found ≡ false → is_memory missing ≡ false → IsOtherMove (found_or cursor found entry missing place)
other-found cursor found (Some entry) missing place h k = h
other-found cursor found None missing place h k = k

-- ---- moves

other-limited : (cursor : CursorState) (range : KeyRange) (entry : Option Pair) → IsOtherMove (limited cursor range entry)
other-limited cursor range None = refl
other-limited cursor range (Some entry) = either (is_within range entry.0) _ _ refl refl

other-next : (cursor : CursorState) (entries : List Pair) (range : Option KeyRange) → IsOtherMove (moved_next cursor entries range)
other-next cursor entries None = other-found cursor jet.Success (entry_after cursor.place entries) jet.NoCurrentRecord After refl refl
other-next cursor entries (Some range) =
    either range.upper (limited cursor range (entry_after cursor.place entries)) (found_or cursor jet.Success (entry_after cursor.place entries) jet.NoCurrentRecord After)
    (other-limited cursor range (entry_after cursor.place entries))
    (other-found cursor jet.Success (entry_after cursor.place entries) jet.NoCurrentRecord After refl refl)

other-previous : (cursor : CursorState) (entries : List Pair) (range : Option KeyRange) → IsOtherMove (moved_previous cursor entries range)
other-previous cursor entries None = other-found cursor jet.Success (entry_before cursor.place entries) jet.NoCurrentRecord Before refl refl
other-previous cursor entries (Some range) =
    either range.upper (found_or cursor jet.Success (entry_before cursor.place entries) jet.NoCurrentRecord Before) (limited cursor range (entry_before cursor.place entries))
    (other-found cursor jet.Success (entry_before cursor.place entries) jet.NoCurrentRecord Before refl refl)
    (other-limited cursor range (entry_before cursor.place entries))

pub other-moved : (cursor : CursorState) (entries : List Pair) (to : Way) → IsOtherMove (moved cursor entries to)
unfolding moved
other-moved cursor entries way.First = other-found (without_range cursor) jet.Success (entry_after Before entries) jet.NoCurrentRecord Before refl refl
other-moved cursor entries way.Last = other-found (without_range cursor) jet.Success (entry_before After entries) jet.NoCurrentRecord After refl refl
other-moved cursor entries way.Next = other-next cursor entries cursor.range
other-moved cursor entries way.Previous = other-previous cursor entries cursor.range

-- ---- seeks

other-if : (b : Bool) (one other : Jet) → is_memory one ≡ false → is_memory other ≡ false → is_memory (if b then one else other) ≡ false
other-if true one other h k = h
other-if false one other h k = k

other-equal : (key : List ℕ) (entry : Option Pair) → is_memory (if_equal key entry) ≡ false
other-equal key None = refl
other-equal key (Some entry) = other-if (bytes_eq entry.0 key) jet.Success jet.SeekNotEqual refl refl

other-by : (cursor : CursorState) (entries : List Pair) (key : List ℕ) (seek : SeekBy) → IsOtherMove (sought_by cursor entries key seek)
other-by cursor entries key by.Eq = other-found cursor jet.Success (find (λ entry. bytes_eq entry.0 key) entries) jet.RecordNotFound (Gap key false) refl refl
other-by cursor entries key by.Ge =
    let entry = find (λ entry. bytes_le key entry.0) entries in other-found cursor (if_equal key entry) entry jet.RecordNotFound (Gap key false) (other-equal key entry) refl
other-by cursor entries key by.Gt = other-found cursor jet.Success (find (λ entry. bytes_lt key entry.0) entries) jet.RecordNotFound (Gap key true) refl refl
other-by cursor entries key by.Le =
    let entry = last_or None (filter (λ entry. bytes_le entry.0 key) entries) in other-found cursor (if_equal key entry) entry jet.RecordNotFound (Gap key true) (other-equal key entry) refl
other-by cursor entries key by.Lt = other-found cursor jet.Success (last_or None (filter (λ entry. bytes_lt entry.0 key) entries)) jet.RecordNotFound (Gap key false) refl refl

other-with : (cursor : CursorState) (entries : List Pair) (seek : SeekBy) (key : Option MadeKey) → IsOtherMove (sought_with cursor entries seek key)
other-with cursor entries seek None = refl
other-with cursor entries seek (Some key) = other-by (record cursor { key = None; range = None }) entries key.bytes seek

pub other-sought : (cursor : CursorState) (entries : List Pair) (seek : SeekBy) → IsOtherMove (sought cursor entries seek)
unfolding sought
other-sought cursor entries seek = other-with cursor entries seek cursor.key

-- ---- ranges

other-from : (cursor : CursorState) (entries : List Pair) (range : KeyRange) (place : Place) → IsOtherMove (ranged_from cursor entries range place)
other-from cursor entries range (On key bookmark) = either (reaches_limit range (key, bookmark) entries) _ _ refl refl
other-from cursor entries range _ = refl

other-within : (cursor : CursorState) (entries : List Pair) (upper inclusive : Bool) (key : Option MadeKey) → IsOtherMove (ranged_with cursor entries upper inclusive key)
other-within cursor entries upper inclusive None = refl
other-within cursor entries upper inclusive (Some key) = other-from cursor entries (record { upper = upper; inclusive = inclusive; limit = key.bytes }) cursor.place

pub other-ranged : (cursor : CursorState) (entries : List Pair) (upper inclusive : Bool) → IsOtherMove (ranged cursor entries upper inclusive)
unfolding ranged
other-ranged cursor entries upper inclusive = other-within cursor entries upper inclusive cursor.key
