-- What the calls of a cursor answer and where they leave it, over the sorted entries of its index in the session's view.
use Rattle.std.specs.Prelude.{ℕ, ◌==◌, ◌||◌, nat_lt, Result, Ok, Err, Bool, true, false, min, length, List, filter, find, Option, Some, None, if◌then◌else◌, bytes_eq}
use Rattle.std.specs.List.{last_or}
use Rattle.jet_base.specs.declared.replies.Jet.{Jet}
use Rattle.jet_base.specs.declared.replies.Jet.TheVariants as jet
use Rattle.jet_base.specs.declared.words.Way.{Way}
use Rattle.jet_base.specs.declared.words.Way.TheVariants as way
use Rattle.column_set.specs.RecordValues.{bytes_lt, bytes_le}
use Rattle.index_derive.specs.declared.entries.Place.{Place}
use Rattle.index_derive.specs.declared.entries.Place.TheVariants.{Before, After, On, Gap}
use Rattle.cursor_nav.specs.declared.seek_by.SeekBy.{SeekBy}
use Rattle.cursor_nav.specs.declared.seek_by.SeekBy.TheVariants as by
use Rattle.cursor_nav.specs.declared.cursor.Moved.{Moved}
use Rattle.cursor_nav.specs.Places.{Pair, KeyRange, entry_after, entry_before, least_entry_of, is_within, place_at_limit, reaches_limit, entries_from}

-- A key being made: how many segments stand, and their bytes, cut to the most that the index's keys have.
pub record MadeKey : Type 0 where
  pub segments : ℕ
  pub bytes : List ℕ

-- A cursor: its table, its index (0 for the order of hidden keys), its place, its made key and its range.
pub record CursorState : Type 0 where
  pub table : ℕ
  pub index : ℕ
  pub place : Place
  pub key : Option MadeKey
  pub range : Option KeyRange

-- What a call answered, and the cursor after it.
pub record Navigated : Type 0 where
  pub jet : Jet
  pub cursor : CursorState

abbrev pub new_cursor : ℕ → ℕ → CursorState
new_cursor table index = record { table = table; index = index; place = Before; key = None; range = None }

-- on the entry that was found, or else at this place with the answer that there is none
abbrev pub found_or : CursorState → Jet → Option Pair → Jet → Place → Navigated
found_or cursor found (Some entry) missing place = record { jet = found; cursor = record cursor { place = On entry.0 entry.1 } }
found_or cursor found None missing place = record { jet = missing; cursor = record cursor { place = place } }

-- ---- moves

abbrev pub without_range : CursorState → CursorState
without_range cursor = record cursor { range = None }

-- A move that its limit concerns and that finds no entry within it ends the range.
abbrev pub limited : CursorState → KeyRange → Option Pair → Navigated
limited cursor range None = record { jet = jet.NoCurrentRecord; cursor = record cursor { place = place_at_limit range; range = None } }
limited cursor range (Some entry) =
    if is_within range entry.0 then record { jet = jet.Success; cursor = record cursor { place = On entry.0 entry.1 } }
    else record { jet = jet.NoCurrentRecord; cursor = record cursor { place = place_at_limit range; range = None } }

abbrev pub moved_next : CursorState → List Pair → Option KeyRange → Navigated
moved_next cursor entries None = found_or cursor jet.Success (entry_after cursor.place entries) jet.NoCurrentRecord After
moved_next cursor entries (Some range) =
    if range.upper then limited cursor range (entry_after cursor.place entries)
    else found_or cursor jet.Success (entry_after cursor.place entries) jet.NoCurrentRecord After

abbrev pub moved_previous : CursorState → List Pair → Option KeyRange → Navigated
moved_previous cursor entries None = found_or cursor jet.Success (entry_before cursor.place entries) jet.NoCurrentRecord Before
moved_previous cursor entries (Some range) =
    if range.upper then found_or cursor jet.Success (entry_before cursor.place entries) jet.NoCurrentRecord Before
    else limited cursor range (entry_before cursor.place entries)

-- First and Last end the range; Next finds the least entry beyond the place and Previous the greatest before it. Where
-- there is none the place is After for Next and Last, Before for Previous and First.
unfoldable pub moved : CursorState → List Pair → Way → Navigated
moved cursor entries way.First = found_or (without_range cursor) jet.Success (entry_after Before entries) jet.NoCurrentRecord Before
moved cursor entries way.Last = found_or (without_range cursor) jet.Success (entry_before After entries) jet.NoCurrentRecord After
moved cursor entries way.Next = moved_next cursor entries cursor.range
moved cursor entries way.Previous = moved_previous cursor entries cursor.range

-- Another index: the place is its first entry, or Before where it has none. The made key and the range are dropped.
unfoldable pub index_set : CursorState → List Pair → ℕ → CursorState
index_set cursor entries index = (found_or (record cursor { index = index; key = None; range = None }) jet.Success (entry_after Before entries) jet.Success Before).cursor

-- ---- seeks

abbrev pub if_equal : List ℕ → Option Pair → Jet
if_equal key None = jet.RecordNotFound
if_equal key (Some entry) = if bytes_eq entry.0 key then jet.Success else jet.SeekNotEqual

-- EQ and GE take the first entry that fits, GT the first above, LE the last that is not above, LT the last below. LE and GE
-- tell a key that is not equal. Where nothing fits, the place is the gap below the key's entries for EQ, GE and LT, and
-- above them for GT and LE.
abbrev pub sought_by : CursorState → List Pair → List ℕ → SeekBy → Navigated
sought_by cursor entries key by.Eq = found_or cursor jet.Success (find (λ entry. bytes_eq entry.0 key) entries) jet.RecordNotFound (Gap key false)
sought_by cursor entries key by.Ge =
    let entry = find (λ entry. bytes_le key entry.0) entries in found_or cursor (if_equal key entry) entry jet.RecordNotFound (Gap key false)
sought_by cursor entries key by.Gt = found_or cursor jet.Success (find (λ entry. bytes_lt key entry.0) entries) jet.RecordNotFound (Gap key true)
sought_by cursor entries key by.Le =
    let entry = last_or None (filter (λ entry. bytes_le entry.0 key) entries) in found_or cursor (if_equal key entry) entry jet.RecordNotFound (Gap key true)
sought_by cursor entries key by.Lt = found_or cursor jet.Success (last_or None (filter (λ entry. bytes_lt entry.0 key) entries)) jet.RecordNotFound (Gap key false)

abbrev pub sought_with : CursorState → List Pair → SeekBy → Option MadeKey → Navigated
sought_with cursor entries seek None = record { jet = jet.KeyNotMade; cursor = cursor }
sought_with cursor entries seek (Some key) = sought_by (record cursor { key = None; range = None }) entries key.bytes seek

-- Without a made key a seek changes nothing. Else it drops the made key and ends the range.
unfoldable pub sought : CursorState → List Pair → SeekBy → Navigated
sought cursor entries seek = sought_with cursor entries seek cursor.key

-- ---- ranges

abbrev pub ranged_from : CursorState → List Pair → KeyRange → Place → Navigated
ranged_from cursor entries range (On key bookmark) =
    if reaches_limit range (key, bookmark) entries then record { jet = jet.Success; cursor = record cursor { key = None; range = Some range } }
    else record { jet = jet.NoCurrentRecord; cursor = record cursor { key = None; range = None } }
ranged_from cursor entries range _ = record { jet = jet.NoCurrentRecord; cursor = record cursor { key = None; range = None } }

abbrev pub ranged_with : CursorState → List Pair → Bool → Bool → Option MadeKey → Navigated
ranged_with cursor entries upper inclusive None = record { jet = jet.KeyNotMade; cursor = cursor }
ranged_with cursor entries upper inclusive (Some key) = ranged_from cursor entries (record { upper = upper; inclusive = inclusive; limit = key.bytes }) cursor.place

-- Without a made key nothing changes. Else the made key is dropped, and the range stands only where the place is an entry
-- and some entry lies from there to the limit.
unfoldable pub ranged : CursorState → List Pair → Bool → Bool → Navigated
ranged cursor entries upper inclusive = ranged_with cursor entries upper inclusive cursor.key

-- ---- counts

-- at most this many, where a most is given
abbrev pub at_most : Option ℕ → ℕ → ℕ
at_most None count = count
at_most (Some most) count = min most count

-- how many entries are not below the place's entry, within an upper limit
unfoldable pub count_from : CursorState → List Pair → Pair → Option ℕ → ℕ
count_from cursor entries from most = at_most most (length (entries_from from cursor.range entries))

-- ---- the current record

-- what a call that needs a current record is answered: the place is an entry, and its record is there
abbrev pub current_answer : (List ℕ → Bool) → Place → Jet
current_answer has_record (On key bookmark) = if has_record bookmark then jet.Success else jet.RecordDeleted
current_answer has_record _ = jet.NoCurrentRecord

-- ---- bookmarks

abbrev pub gone_to_entry : CursorState → Option Pair → Navigated
gone_to_entry cursor None = record { jet = jet.NoCurrentRecord; cursor = cursor }
gone_to_entry cursor (Some entry) = record { jet = jet.Success; cursor = record cursor { place = On entry.0 entry.1; range = None } }

abbrev pub gone_to_record : CursorState → List Pair → Bool → List ℕ → Navigated
gone_to_record cursor entries is_there bookmark = if is_there then gone_to_entry cursor (least_entry_of bookmark entries) else record { jet = jet.RecordDeleted; cursor = cursor }

-- A bookmark has 1 to 255 bytes, and its record is there. The place is the record's least entry, and a range ends; after a
-- refusal nothing moved.
unfoldable pub gone_to : CursorState → List Pair → (List ℕ → Bool) → List ℕ → Navigated
gone_to cursor entries has_record bookmark =
    if (length bookmark == 0) || nat_lt 255 (length bookmark) then record { jet = jet.InvalidBookmark; cursor = cursor }
    else gone_to_record cursor entries (has_record bookmark) bookmark

-- ---- answers in code

-- success and the warnings are no refusals
abbrev pub is_refusal : Jet → Bool
is_refusal jet.Success = false
is_refusal jet.SeekNotEqual = false
is_refusal jet.ColumnNull = false
is_refusal jet.BufferTruncated = false
is_refusal _ = true

-- a refusal is an error; success and the warnings come with a number
abbrev pub answer_of : Jet → ℕ → Result Moved Jet
answer_of reply number = if is_refusal reply then Err reply else Ok (record { jet = reply; number = number })
