-- How each call is written: the words behind its name.
use Rattle.std.specs.Prelude.{◌^◌, ◌==◌, not, unwrap_or, ℕ, Bool, true, false, ◌&&◌, ◌||◌, if◌then◌else◌, List, [], ◌∷◌, drop, length, nat_le, codes, Option, Some, None, is_some}
use Rattle.std.specs.List.{list_all, filter_map}
use Rattle.std.specs.Option.{option_or}
use Rattle.std.specs.Str.{bytes_eq}
use Rattle.jet_base.specs.declared.ids.CursorId.{CursorId}
use Rattle.jet_base.specs.declared.words.ColType.{ColType}
use Rattle.jet_base.specs.declared.words.ColType.TheVariants as kind
use Rattle.jet_base.specs.declared.words.ColumnFlags.{ColumnFlags}
use Rattle.jet_base.specs.declared.words.Prepare.{Prepare}
use Rattle.jet_base.specs.declared.words.Prepare.TheVariants as prepare
use Rattle.jet_base.specs.declared.words.Way.{Way}
use Rattle.jet_base.specs.declared.words.Way.TheVariants as way
use Rattle.index_derive.specs.declared.rules.IndexFlags.{IndexFlags}
use Rattle.index_derive.specs.declared.schema_calls.NamedSegment.{NamedSegment}
use Rattle.index_derive.specs.declared.schema_calls.NamedCondition.{NamedCondition}
use Rattle.cursor_nav.specs.declared.seek_by.SeekBy.{SeekBy}
use Rattle.cursor_nav.specs.declared.seek_by.SeekBy.TheVariants as seek
use Rattle.temp_table.specs.declared.columns.TempColumn.{TempColumn}
use Rattle.temp_table.specs.TempColumns.{are_temp_columns}
use Rattle.session_local.specs.declared.request.Request.{Request}
use Rattle.session_local.specs.declared.request.Request.TheVariants as call
use Rattle.session_local.specs.CallNames as named
use Rattle.script_words.specs.Words.{◌>>=◌, first_word, only_word, two_words, three_words, is_empty_list, begins_with_word, optional_word, choice_of, has_word, are_distinct, after_prefix, number_within, signed_number_of, label_of, name_of, hex_bytes_of}
use Rattle.script_words.specs.Values.{given_of}

-- a call without words
unfoldable pub bare_call : Request → List (List ℕ) → Option Request
bare_call request words = if is_empty_list words then Some request else None

-- a call whose first word is the label of a cursor
unfoldable pub cursor_call : (CursorId → List (List ℕ) → Option Request) → List (List ℕ) → Option Request
cursor_call reading words = do
  first ← first_word words
  cursor ← label_of first.0
  reading (record { 0 = cursor }) first.1

-- a call of which nothing follows the cursor
unfoldable pub only_cursor : (CursorId → Request) → CursorId → List (List ℕ) → Option Request
only_cursor request cursor words = bare_call (request cursor) words

-- a call whose one word is a table's name
unfoldable pub table_call : (List ℕ → Request) → List (List ℕ) → Option Request
table_call request words = do
  word ← only_word words
  table ← name_of word
  Some (request table)

-- a call whose two words are the names of a table and of a part of it
unfoldable pub part_call : (List ℕ → List ℕ → Request) → List (List ℕ) → Option Request
part_call request words = do
  word ← two_words words
  table ← name_of word.0
  part ← name_of word.1
  Some (request table part)

-- `CommitTransaction`, with `lazy` or without
unfoldable pub commit_call : List (List ℕ) → Option Request
commit_call words = optional_word (codes "lazy") words >>= λ lazy. Some (call.CommitTransaction lazy)

-- `Rollback`, with `all` or without
unfoldable pub rollback_call : List (List ℕ) → Option Request
rollback_call words = optional_word (codes "all") words >>= λ all. Some (call.Rollback all)

-- the types of a column
abbrev pub column_types : List (List ℕ × ColType)
column_types =
    (codes "Bit", kind.Bit) ∷
    (codes "UnsignedByte", kind.UnsignedByte) ∷
    (codes "Short", kind.Short) ∷
    (codes "UnsignedShort", kind.UnsignedShort) ∷
    (codes "Long", kind.Long) ∷
    (codes "UnsignedLong", kind.UnsignedLong) ∷
    (codes "LongLong", kind.LongLong) ∷
    (codes "Currency", kind.Currency) ∷
    (codes "GUID", kind.Guid) ∷
    (codes "Binary", kind.Binary) ∷
    (codes "Text", kind.Text) ∷
    (codes "LongBinary", kind.LongBinary) ∷
    (codes "LongText", kind.LongText) ∷ []

-- the flags of a column, each at most once and in any order
abbrev pub column_flag_words : List (List ℕ)
column_flag_words = codes "notnull" ∷ codes "tagged" ∷ codes "multi" ∷ codes "escrow" ∷ []

abbrev pub is_column_flag : List ℕ → Bool
is_column_flag word = has_word word column_flag_words

unfoldable pub column_flags_of : List (List ℕ) → Option ColumnFlags
column_flags_of words =
    if list_all is_column_flag words && are_distinct words
    then Some (record {
      not_null = has_word (codes "notnull") words;
      tagged = has_word (codes "tagged") words;
      multi = has_word (codes "multi") words;
      escrow = has_word (codes "escrow") words;
      version = false;
      auto = false;
    })
    else None

-- `AddColumn T C TYPE FLAGS`
unfoldable pub add_column_call : List (List ℕ) → Option Request
add_column_call words = do
  first ← first_word words
  second ← first_word first.1
  third ← first_word second.1
  table ← name_of first.0
  column ← name_of second.0
  type ← choice_of column_types third.0
  flags ← column_flags_of third.1
  Some (call.AddColumn table column type flags)

-- the flags of an index, each at most once
abbrev pub index_flag_words : List (List ℕ)
index_flag_words =
    codes "primary" ∷
    codes "unique" ∷
    codes "disallownull" ∷
    codes "ignorenull" ∷
    codes "ignoreanynull" ∷
    codes "ignorefirstnull" ∷
    codes "sortnullshigh" ∷
    codes "crossproduct" ∷
    codes "disallowtruncation" ∷
    codes "tuples" ∷ []

abbrev pub is_index_flag : List ℕ → Bool
is_index_flag word = has_word word index_flag_words

-- the flags that stand among the words
unfoldable pub index_flags_of : List (List ℕ) → IndexFlags
index_flags_of words = record {
  primary = has_word (codes "primary") words;
  unique = has_word (codes "unique") words;
  disallownull = has_word (codes "disallownull") words;
  ignorenull = has_word (codes "ignorenull") words;
  ignoreanynull = has_word (codes "ignoreanynull") words;
  ignorefirstnull = has_word (codes "ignorefirstnull") words;
  sortnullshigh = has_word (codes "sortnullshigh") words;
  crossproduct = has_word (codes "crossproduct") words;
  disallowtruncation = has_word (codes "disallowtruncation") words;
  tuples = has_word (codes "tuples") words;
}

-- the sign of a key column, and whether it is descending: `+` (byte 2B) or `-` (byte 2D)
unfoldable pub direction_of : ℕ → Option Bool
direction_of sign = if sign == 43 then Some false else (if sign == 45 then Some true else None)

-- a key column: `+C` ascending, `-C` descending
unfoldable pub segment_of : List ℕ → Option NamedSegment
segment_of [] = None
segment_of (sign ∷ text) = do
  descending ← direction_of sign
  column ← name_of text
  Some (record { column = column; descending = descending })

-- a condition behind one prefix
unfoldable pub prefixed_condition_of : List ℕ → Bool → List ℕ → Option NamedCondition
prefixed_condition_of prefix must_be_null word = do
  text ← after_prefix prefix word
  column ← name_of text
  Some (record { column = column; must_be_null = must_be_null })

-- a condition: `ifnull:C` or `ifnotnull:C`
unfoldable pub condition_of : List ℕ → Option NamedCondition
condition_of word = option_or (prefixed_condition_of (codes "ifnull:") true word) (prefixed_condition_of (codes "ifnotnull:") false word)

-- what may stand behind the names of a new index
unfoldable pub is_index_word : List ℕ → Bool
is_index_word word = is_index_flag word || (is_some (segment_of word) || is_some (condition_of word))

-- whether no flag stands twice among the words
abbrev pub has_flags_once : List (List ℕ) → Bool
has_flags_once [] = true
has_flags_once (word ∷ words) = not (is_index_flag word && has_word word words) && has_flags_once words

-- whether the words may stand behind the names of a new index
unfoldable pub are_index_words : List (List ℕ) → Bool
are_index_words words = list_all is_index_word words && has_flags_once words

-- `CreateIndex T I WORDS`: flags, key columns in key order and conditions, in any order of the three
unfoldable pub create_index_call : List (List ℕ) → Option Request
create_index_call words = do
  first ← first_word words
  second ← first_word first.1
  table ← name_of first.0
  index ← name_of second.0
  if are_index_words second.1
      then Some (call.CreateIndex table index (index_flags_of second.1) 255 (filter_map segment_of second.1) (filter_map condition_of second.1))
      else None

-- `OpenTable c T`
unfoldable pub open_table_call : CursorId → List (List ℕ) → Option Request
open_table_call cursor words = table_call (call.OpenTable cursor) words

-- `SetCurrentIndex c`, or with the name of an index
unfoldable pub set_current_index_call : CursorId → List (List ℕ) → Option Request
set_current_index_call cursor words =
    if is_empty_list words
    then Some (call.SetCurrentIndex cursor None)
    else table_call (λ index. call.SetCurrentIndex cursor (Some index)) words

-- the four moves
abbrev pub ways : List (List ℕ × Way)
ways =
    (codes "First", way.First) ∷
    (codes "Last", way.Last) ∷
    (codes "Next", way.Next) ∷
    (codes "Previous", way.Previous) ∷ []

-- `Move c WAY`
unfoldable pub move_call : CursorId → List (List ℕ) → Option Request
move_call cursor words = do
  word ← only_word words
  way ← choice_of ways word
  Some (call.Move cursor way)

-- `MakeKey c VALUE`, or `MakeKey c new VALUE`
unfoldable pub make_key_call : CursorId → List (List ℕ) → Option Request
make_key_call cursor words = do
  word ← only_word (if begins_with_word (codes "new") words then drop 1 words else words)
  value ← given_of word
  Some (call.MakeKey cursor (begins_with_word (codes "new") words) value)

-- the five comparisons
abbrev pub comparisons : List (List ℕ × SeekBy)
comparisons =
    (codes "EQ", seek.Eq) ∷
    (codes "LT", seek.Lt) ∷
    (codes "LE", seek.Le) ∷
    (codes "GE", seek.Ge) ∷
    (codes "GT", seek.Gt) ∷ []

-- `Seek c COMPARISON`
unfoldable pub seek_call : CursorId → List (List ℕ) → Option Request
seek_call cursor words = do
  word ← only_word words
  by ← choice_of comparisons word
  Some (call.Seek cursor by)

-- what stands behind `SetIndexRange c`, or behind its word `upper`: `inclusive` or nothing
unfoldable pub limit_call : CursorId → Bool → List (List ℕ) → Option Request
limit_call cursor upper words = optional_word (codes "inclusive") words >>= λ inclusive. Some (call.SetIndexRange cursor upper inclusive)

-- `SetIndexRange c`, with `upper`, with `inclusive`, with both in this order, or with `remove`
unfoldable pub set_index_range_call : CursorId → List (List ℕ) → Option Request
set_index_range_call cursor words =
    if begins_with_word (codes "remove") words
    then bare_call (call.RemoveIndexRange cursor) (drop 1 words)
    else (if begins_with_word (codes "upper") words then limit_call cursor true (drop 1 words) else limit_call cursor false words)

-- `IndexRecordCount c MOST`
unfoldable pub limited_count_call : CursorId → List (List ℕ) → Option Request
limited_count_call cursor words = do
  word ← only_word words
  most ← number_within 1 4294967295 word
  Some (call.IndexRecordCount cursor (Some most))

-- `IndexRecordCount c`, or with the most that is counted, 1 to 4294967295
unfoldable pub count_call : CursorId → List (List ℕ) → Option Request
count_call cursor words =
    if is_empty_list words
    then Some (call.IndexRecordCount cursor None)
    else limited_count_call cursor words

-- `GotoBookmark c x:HEX`
unfoldable pub goto_bookmark_call : CursorId → List (List ℕ) → Option Request
goto_bookmark_call cursor words = do
  word ← only_word words
  text ← after_prefix (codes "x:") word
  bookmark ← hex_bytes_of text
  Some (call.GotoBookmark cursor bookmark)

-- what an update is prepared for
abbrev pub preparations : List (List ℕ × Prepare)
preparations =
    (codes "insert", prepare.Insert) ∷
    (codes "insertcopy", prepare.InsertCopy) ∷
    (codes "replace", prepare.Replace) ∷
    (codes "cancel", prepare.Cancel) ∷ []

-- `PrepareUpdate c HOW`
unfoldable pub prepare_update_call : CursorId → List (List ℕ) → Option Request
prepare_update_call cursor words = do
  word ← only_word words
  how ← choice_of preparations word
  Some (call.PrepareUpdate cursor how)

-- the place of a value in its column: 0 to 65535
unfoldable pub sequence_of : List ℕ → Option ℕ
sequence_of word = number_within 0 65535 word

-- `SetColumn c C SEQ VALUE`
unfoldable pub set_column_call : CursorId → List (List ℕ) → Option Request
set_column_call cursor words = do
  word ← three_words words
  column ← name_of word.0
  sequence ← sequence_of word.1
  value ← given_of word.2
  Some (call.SetColumn cursor column sequence value)

-- the greatest number of bytes to answer: `max N` with N from 0 to 1048576, or 255 where nothing is written
unfoldable pub most_bytes_of : List (List ℕ) → Option ℕ
most_bytes_of words =
    if is_empty_list words
    then Some 255
    else (two_words words >>= λ word. if bytes_eq word.0 (codes "max") then number_within 0 1048576 word.1 else None)

-- `RetrieveColumn c C SEQ`, then `copy` or not, then `max N` or not
unfoldable pub retrieve_column_call : CursorId → List (List ℕ) → Option Request
retrieve_column_call cursor words = do
  first ← first_word words
  second ← first_word first.1
  column ← name_of first.0
  sequence ← sequence_of second.0
  most ← most_bytes_of (if begins_with_word (codes "copy") second.1 then drop 1 second.1 else second.1)
  Some (call.RetrieveColumn cursor column sequence (begins_with_word (codes "copy") second.1) most)

-- `EscrowUpdate c C AMOUNT`, the amount from -2147483648 to 2147483647
unfoldable pub escrow_update_call : CursorId → List (List ℕ) → Option Request
escrow_update_call cursor words = do
  word ← two_words words
  column ← name_of word.0
  amount ← signed_number_of (2 ^ 31) word.1
  Some (call.EscrowUpdate cursor column amount)

-- ---- temporary tables

-- the word of a key column: its sign and its type
abbrev pub key_column_of : List ℕ → Option TempColumn
key_column_of [] = None
key_column_of (sign ∷ text) = do
  descending ← direction_of sign
  kind ← choice_of column_types text
  Some (record { kind = kind; is_key = true; descending = descending })

-- the word of another column: its type
abbrev pub plain_column_of : List ℕ → Option TempColumn
plain_column_of word = do
  kind ← choice_of column_types word
  Some (record { kind = kind; is_key = false; descending = false })

-- a column of a temporary table: `+TYPE` ascending or `-TYPE` descending for a key column, `TYPE` for another
unfoldable pub temp_column_of : List ℕ → Option TempColumn
temp_column_of word = option_or (key_column_of word) (plain_column_of word)

-- the reading of each word, where each has one
abbrev pub each_of : {A : Type 0} → (List ℕ → Option A) → List (List ℕ) → Option (List A)
each_of reading [] = Some []
each_of reading (word ∷ words) = do
  first ← reading word
  others ← each_of reading words
  Some (first ∷ others)

-- the columns, where a temporary table may have them
unfoldable pub temp_columns_of : List (List ℕ) → Option (List TempColumn)
temp_columns_of words = each_of temp_column_of words >>= λ columns. if are_temp_columns columns then Some columns else None

-- `TempOpen t COLUMNS`, or `TempOpen t unique COLUMNS`
unfoldable pub temp_open_call : CursorId → List (List ℕ) → Option Request
temp_open_call temp words = do
  columns ← temp_columns_of (if begins_with_word (codes "unique") words then drop 1 words else words)
  Some (call.TempOpen temp (begins_with_word (codes "unique") words) columns)

-- `TempPut t VALUES`, 1 to 12 of them
unfoldable pub temp_put_call : CursorId → List (List ℕ) → Option Request
temp_put_call temp words = do
  values ← each_of given_of words
  if nat_le 1 (length values) && nat_le (length values) 12 then Some (call.TempPut temp values) else None

-- `TempMove t WAY`
unfoldable pub temp_move_call : CursorId → List (List ℕ) → Option Request
temp_move_call temp words = do
  word ← only_word words
  way ← choice_of ways word
  Some (call.TempMove temp way)

-- `TempRead t I`, the column's number from 1 to 99
unfoldable pub temp_read_call : CursorId → List (List ℕ) → Option Request
temp_read_call temp words = do
  word ← only_word words
  column ← number_within 1 99 word
  Some (call.TempRead temp column)

-- the label of a cursor
abbrev pub cursor_of : List ℕ → Option CursorId
cursor_of word = do
  label ← label_of word
  Some (record { 0 = label })

-- `IntersectIndexes t CURSORS`, 2 to 6 of them
unfoldable pub intersect_indexes_call : CursorId → List (List ℕ) → Option Request
intersect_indexes_call temp words = do
  cursors ← each_of cursor_of words
  if nat_le 2 (length cursors) && nat_le (length cursors) 6 then Some (call.IntersectIndexes temp cursors) else None

-- the calls on temporary tables by their names, with what is read behind the label of their table
abbrev pub temp_calls : List (List ℕ × (CursorId → List (List ℕ) → Option Request))
temp_calls =
    (named.temp_open, temp_open_call) ∷
    (named.temp_put, temp_put_call) ∷
    (named.temp_move, temp_move_call) ∷
    (named.temp_read, temp_read_call) ∷
    (named.temp_count, only_cursor call.TempCount) ∷
    (named.temp_close, only_cursor call.TempClose) ∷
    (named.intersect_indexes, intersect_indexes_call) ∷ []

unfoldable pub temp_call : List ℕ → CursorId → List (List ℕ) → Option Request
temp_call name temp words = choice_of temp_calls name >>= λ reading. reading temp words

-- the calls of records by their names, with what is read behind the label of their cursor; a name that is none of them is left
-- to the calls on temporary tables
abbrev pub record_calls : List (List ℕ × (CursorId → List (List ℕ) → Option Request))
record_calls =
    (named.prepare_update, prepare_update_call) ∷
    (named.set_column, set_column_call) ∷
    (named.retrieve_column, retrieve_column_call) ∷
    (named.update, only_cursor call.Update) ∷
    (named.delete, only_cursor call.Delete) ∷
    (named.get_lock, only_cursor call.GetLock) ∷
    (named.escrow_update, escrow_update_call) ∷ []

unfoldable pub record_call : List ℕ → CursorId → List (List ℕ) → Option Request
record_call name cursor words = unwrap_or (choice_of record_calls name) (temp_call name) cursor words

-- the calls of navigation; a name that is none of them is left to the calls of records
abbrev pub place_calls : List (List ℕ × (CursorId → List (List ℕ) → Option Request))
place_calls =
    (named.move, move_call) ∷
    (named.seek, seek_call) ∷
    (named.set_index_range, set_index_range_call) ∷
    (named.index_record_count, count_call) ∷
    (named.retrieve_key, only_cursor call.RetrieveKey) ∷
    (named.get_bookmark, only_cursor call.GetBookmark) ∷
    (named.goto_bookmark, goto_bookmark_call) ∷ []

unfoldable pub place_call : List ℕ → CursorId → List (List ℕ) → Option Request
place_call name cursor words = unwrap_or (choice_of place_calls name) (record_call name) cursor words

-- the other calls of a cursor; a name that is none of them is left to the calls of navigation
abbrev pub cursor_calls : List (List ℕ × (CursorId → List (List ℕ) → Option Request))
cursor_calls =
    (named.open_table, open_table_call) ∷
    (named.close_table, only_cursor call.CloseTable) ∷
    (named.set_current_index, set_current_index_call) ∷
    (named.make_key, make_key_call) ∷ []

unfoldable pub call_of_cursor : List ℕ → CursorId → List (List ℕ) → Option Request
call_of_cursor name cursor words = unwrap_or (choice_of cursor_calls name) (place_call name) cursor words

-- the calls of the schema; a name that is none of them is left to the calls of a cursor
abbrev pub schema_calls : List (List ℕ × (List (List ℕ) → Option Request))
schema_calls =
    (named.create_table, table_call call.CreateTable) ∷
    (named.delete_table, table_call call.DeleteTable) ∷
    (named.add_column, add_column_call) ∷
    (named.delete_column, part_call call.DeleteColumn) ∷
    (named.create_index, create_index_call) ∷
    (named.delete_index, part_call call.DeleteIndex) ∷ []

unfoldable pub schema_call : List ℕ → List (List ℕ) → Option Request
schema_call name words = unwrap_or (choice_of schema_calls name) (cursor_call (call_of_cursor name)) words

-- the calls of sessions and transactions; a name that is none of them is left to the calls of the schema
abbrev pub transaction_calls : List (List ℕ × (List (List ℕ) → Option Request))
transaction_calls =
    (named.begin_session, bare_call call.BeginSession) ∷
    (named.end_session, bare_call call.EndSession) ∷
    (named.begin_transaction, bare_call call.BeginTransaction) ∷
    (named.commit_transaction, commit_call) ∷
    (named.rollback, rollback_call) ∷ []

-- a call by its name and the words behind it
unfoldable pub named_call : List ℕ → List (List ℕ) → Option Request
named_call name words = unwrap_or (choice_of transaction_calls name) (schema_call name) words
