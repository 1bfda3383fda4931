-- The bytes of log entries, each number lowest byte first.
use Rattle.std.specs.Prelude.{ℕ, ℤ, pos, negsuc, ◌+◌, ◌*◌, ◌^◌, ◌≡◌, Bool, true, ◌&&◌, ◌==◌, not, cond, List, [], ◌∷◌, ◌++◌, length, nat_le, nat_lt, Option, Some, None, IsTrue}
use Rattle.std.specs.List.{flat_map, list_all}
use Rattle.std.specs.Int.{w16, w32, to_le_bytes, cast_unsigned}
use Rattle.jet_base.specs.declared.words.ColType.{ColType}
use Rattle.jet_base.specs.declared.words.ColType.TheVariants.{Bit, UnsignedByte, Short, UnsignedShort, Long, UnsignedLong, LongLong, Currency, Guid, Binary, Text, LongBinary, LongText}
use Rattle.column_set.specs.declared.changes.Change.{Change}
use Rattle.column_set.specs.declared.changes.Change.TheVariants as change
use Rattle.column_set.specs.declared.columns.Column.{Column}
use Rattle.column_set.specs.Record.{is_record}
use Rattle.column_set.specs.RecordValues.{RecordFields}
use Rattle.column_set.specs.Rows.{record_values_in_order}
use Rattle.index_derive.specs.declared.log.Entry.{Entry}
use Rattle.index_derive.specs.declared.log.EntryKind.{EntryKind}
use Rattle.index_derive.specs.declared.log.EntryKind.TheVariants as kind
use Rattle.index_derive.specs.declared.rules.Condition.{Condition}
use Rattle.index_derive.specs.declared.rules.IndexFlags.{IndexFlags}
use Rattle.index_derive.specs.declared.rules.IndexRule.{IndexRule}
use Rattle.index_derive.specs.declared.rules.Segment.{Segment}
use Rattle.index_derive.specs.declared.schema_calls.SchemaStep.{SchemaStep}
use Rattle.index_derive.specs.declared.schema_calls.SchemaStep.TheVariants as schema

-- ---- fields

-- a bookmark has a length of two bytes before it
abbrev pub bookmark_bytes : List ℕ → List ℕ
bookmark_bytes bookmark = to_le_bytes w16 (length bookmark) ++ bookmark

-- 0, or 1 and the bookmark of the record that was copied
abbrev pub copied_bytes : Option (List ℕ) → List ℕ
copied_bytes None = 0 ∷ []
copied_bytes (Some bookmark) = 1 ∷ bookmark_bytes bookmark

-- a value has its column and its length before it
abbrev pub value_bytes : ℕ × List ℕ → List ℕ
value_bytes value = to_le_bytes w16 value.0 ++ (to_le_bytes w32 (length value.1) ++ value.1)

-- a count, and so many values by rising column and in their order
abbrev pub values_bytes : List (ℕ × List ℕ) → List ℕ
values_bytes values = to_le_bytes w16 (length values) ++ flat_map value_bytes values

abbrev pub record_bytes : RecordFields → List ℕ
record_bytes fields = values_bytes (record_values_in_order fields)

-- a name has a length of one byte before it
abbrev pub name_bytes : List ℕ → List ℕ
name_bytes name = length name ∷ name

abbrev pub bool_byte : Bool → ℕ
bool_byte flag = cond flag 1 0

-- flags are the bits of a number, the first the lowest
abbrev pub number_of_bits : List Bool → ℕ
number_of_bits [] = 0
number_of_bits (flag ∷ flags) = bool_byte flag + 2 * number_of_bits flags

-- ---- columns

-- the types are numbered from 1
abbrev pub type_number : ColType → ℕ
type_number Bit = 1
type_number UnsignedByte = 2
type_number Short = 3
type_number UnsignedShort = 4
type_number Long = 5
type_number UnsignedLong = 6
type_number LongLong = 7
type_number Currency = 8
type_number Guid = 9
type_number Binary = 10
type_number Text = 11
type_number LongBinary = 12
type_number LongText = 13

abbrev pub column_flags : Column → ℕ
column_flags column = number_of_bits (column.tagged ∷ column.multi ∷ column.not_null ∷ column.escrow ∷ [])

-- its type, its flags and its name
abbrev pub column_bytes : Column → List ℕ
column_bytes column = type_number column.kind ∷ column_flags column ∷ name_bytes column.name

-- ---- indexes

-- the flags are numbered from 0, and each is the bit of its number
abbrev pub index_flags : IndexFlags → ℕ
index_flags flags = number_of_bits (flags.primary ∷ flags.unique ∷ flags.disallownull ∷ flags.ignorenull ∷ flags.ignoreanynull ∷ flags.ignorefirstnull ∷ flags.sortnullshigh ∷ flags.crossproduct ∷ flags.disallowtruncation ∷ flags.tuples ∷ [])

-- a column, and whether it descends
abbrev pub segment_bytes : Segment → List ℕ
segment_bytes segment = to_le_bytes w16 segment.column.0 ++ (bool_byte segment.descending ∷ [])

-- a column, and whether it must be NULL
abbrev pub condition_bytes : Condition → List ℕ
condition_bytes condition = to_le_bytes w16 condition.column.0 ++ (bool_byte condition.must_be_null ∷ [])

-- its root, which a new index does not have yet, its order of making, its flags, a count and its segments, a count and its conditions, and its name
unfoldable pub index_bytes : IndexRule → List ℕ
index_bytes index =
    (to_le_bytes w32 0 ++ (to_le_bytes w32 index.order ++ to_le_bytes w16 (index_flags index.flags)))
    ++ ((length index.segments ∷ flat_map segment_bytes index.segments) ++ ((length index.conditions ∷ flat_map condition_bytes index.conditions) ++ name_bytes index.name))

-- ---- schema changes

abbrev pub schema_kind : SchemaStep → ℕ
schema_kind (schema.CreateTable table name) = 1
schema_kind (schema.DeleteTable table) = 2
schema_kind (schema.AddColumn table column) = 3
schema_kind (schema.DeleteColumn table column) = 4
schema_kind (schema.CreateIndex table index) = 5
schema_kind (schema.DeleteIndex table index) = 6

-- the table, and what its kind has
abbrev pub schema_bytes : SchemaStep → List ℕ
schema_bytes (schema.CreateTable table name) = to_le_bytes w32 table.0 ++ name_bytes name
schema_bytes (schema.DeleteTable table) = to_le_bytes w32 table.0
schema_bytes (schema.AddColumn table column) = to_le_bytes w32 table.0 ++ (to_le_bytes w16 column.id.0 ++ column_bytes column)
schema_bytes (schema.DeleteColumn table column) = to_le_bytes w32 table.0 ++ to_le_bytes w16 column.0
schema_bytes (schema.CreateIndex table index) = to_le_bytes w32 table.0 ++ (to_le_bytes w16 index.id.0 ++ index_bytes index)
schema_bytes (schema.DeleteIndex table index) = to_le_bytes w32 table.0 ++ to_le_bytes w16 index.0

-- ---- changes of records

abbrev pub change_tag : Change → ℕ
change_tag (change.Put table bookmark copied values) = 7
change_tag (change.Drop table bookmark) = 8
change_tag (change.Add table bookmark column amount) = 9
change_tag (change.Hold table bookmark) = 10

abbrev pub change_bytes : Change → List ℕ
change_bytes (change.Put table bookmark copied values) = to_le_bytes w32 table.0 ++ (bookmark_bytes bookmark ++ (copied_bytes copied ++ record_bytes values))
change_bytes (change.Drop table bookmark) = to_le_bytes w32 table.0 ++ bookmark_bytes bookmark
change_bytes (change.Add table bookmark column amount) = to_le_bytes w32 table.0 ++ (bookmark_bytes bookmark ++ (to_le_bytes w16 column.0 ++ to_le_bytes w32 (cast_unsigned w32 amount)))
change_bytes (change.Hold table bookmark) = to_le_bytes w32 table.0 ++ bookmark_bytes bookmark

-- ---- entries

abbrev pub entry_tag : EntryKind → ℕ
entry_tag kind.Enter = 1
entry_tag kind.Leave = 2
entry_tag (kind.Open table) = 3
entry_tag (kind.Shut table) = 4
entry_tag kind.Begin = 5
entry_tag kind.Save = 6
entry_tag (kind.Change change) = change_tag change
entry_tag kind.Release = 11
entry_tag kind.Undo = 12
entry_tag kind.UndoAll = 13
entry_tag kind.Commit = 14
entry_tag (kind.Schema step) = 15

abbrev pub kind_bytes : EntryKind → List ℕ
kind_bytes kind.Enter = []
kind_bytes kind.Leave = []
kind_bytes (kind.Open table) = to_le_bytes w32 table.0
kind_bytes (kind.Shut table) = to_le_bytes w32 table.0
kind_bytes kind.Begin = []
kind_bytes kind.Save = []
kind_bytes (kind.Change change) = change_bytes change
kind_bytes kind.Release = []
kind_bytes kind.Undo = []
kind_bytes kind.UndoAll = []
kind_bytes kind.Commit = []
kind_bytes (kind.Schema step) = schema_kind step ∷ schema_bytes step

-- what stands behind the length: the tag, the session and the fields
abbrev pub entry_rest : Entry → List ℕ
entry_rest entry = entry_tag entry.kind ∷ (to_le_bytes w32 entry.session.0 ++ kind_bytes entry.kind)

-- the length of the rest, and the rest
unfoldable pub entry_bytes : Entry → List ℕ
entry_bytes entry = to_le_bytes w32 (length (entry_rest entry)) ++ entry_rest entry

-- ---- which entries have a spelling

abbrev pub bookmark_fits : List ℕ → Bool
bookmark_fits bookmark = nat_le 1 (length bookmark) && nat_le (length bookmark) 255

abbrev pub copied_fits : Option (List ℕ) → Bool
copied_fits None = true
copied_fits (Some bookmark) = bookmark_fits bookmark

abbrev pub value_fits : ℕ × List ℕ → Bool
value_fits value = nat_lt value.0 (2 ^ 16) && nat_lt (length value.1) (2 ^ 32)

-- whether the length of each value has four bytes
abbrev pub are_short : List (List ℕ) → Bool
are_short values = list_all (λ value. nat_lt (length value) (2 ^ 32)) values

abbrev pub record_fits : RecordFields → Bool
record_fits fields = is_record fields && (nat_lt (length (record_values_in_order fields)) (2 ^ 16) && list_all value_fits (record_values_in_order fields))

-- any bytes are a name
abbrev pub name_fits : List ℕ → Bool
name_fits name = nat_le 1 (length name) && nat_le (length name) 64

-- a whole number of 32 bits
abbrev pub amount_fits : ℤ → Bool
amount_fits (pos n) = nat_lt n (2 ^ 31)
amount_fits (negsuc n) = nat_lt n (2 ^ 31)

-- no flag stands yet for a column that counts or draws numbers
abbrev pub column_fits : Column → Bool
column_fits column = nat_lt column.id.0 (2 ^ 16) && (name_fits column.name && (not column.version && not column.auto))

abbrev pub segment_fits : Segment → Bool
segment_fits segment = nat_lt segment.column.0 (2 ^ 16)

abbrev pub condition_fits : Condition → Bool
condition_fits condition = nat_lt condition.column.0 (2 ^ 16)

-- no field stands yet for keys of another length
abbrev pub index_fits : IndexRule → Bool
index_fits index =
    nat_lt index.id.0 (2 ^ 16) && (nat_lt index.order (2 ^ 32) && ((nat_lt (length index.segments) 256 && list_all segment_fits index.segments)
    && ((nat_lt (length index.conditions) 256 && list_all condition_fits index.conditions) && (name_fits index.name && (index.key_most == 255)))))

abbrev pub schema_fits : SchemaStep → Bool
schema_fits (schema.CreateTable table name) = nat_lt table.0 (2 ^ 32) && name_fits name
schema_fits (schema.DeleteTable table) = nat_lt table.0 (2 ^ 32)
schema_fits (schema.AddColumn table column) = nat_lt table.0 (2 ^ 32) && column_fits column
schema_fits (schema.DeleteColumn table column) = nat_lt table.0 (2 ^ 32) && nat_lt column.0 (2 ^ 16)
schema_fits (schema.CreateIndex table index) = nat_lt table.0 (2 ^ 32) && index_fits index
schema_fits (schema.DeleteIndex table index) = nat_lt table.0 (2 ^ 32) && nat_lt index.0 (2 ^ 16)

abbrev pub change_fits : Change → Bool
change_fits (change.Put table bookmark copied values) = nat_lt table.0 (2 ^ 32) && (bookmark_fits bookmark && (copied_fits copied && record_fits values))
change_fits (change.Drop table bookmark) = nat_lt table.0 (2 ^ 32) && bookmark_fits bookmark
change_fits (change.Add table bookmark column amount) = nat_lt table.0 (2 ^ 32) && (bookmark_fits bookmark && (nat_lt column.0 (2 ^ 16) && amount_fits amount))
change_fits (change.Hold table bookmark) = nat_lt table.0 (2 ^ 32) && bookmark_fits bookmark

abbrev pub kind_fits : EntryKind → Bool
kind_fits kind.Enter = true
kind_fits kind.Leave = true
kind_fits (kind.Open table) = nat_lt table.0 (2 ^ 32)
kind_fits (kind.Shut table) = nat_lt table.0 (2 ^ 32)
kind_fits kind.Begin = true
kind_fits kind.Save = true
kind_fits (kind.Change change) = change_fits change
kind_fits kind.Release = true
kind_fits kind.Undo = true
kind_fits kind.UndoAll = true
kind_fits kind.Commit = true
kind_fits (kind.Schema step) = schema_fits step

-- whether the entry can be written: its session is a label, each field has the bytes for it, and so has the length
unfoldable pub has_spelling : Entry → Bool
has_spelling entry = (nat_le 1 entry.session.0 && nat_le entry.session.0 99) && (kind_fits entry.kind && nat_lt (length (entry_rest entry)) (2 ^ 32))

-- ---- what bytes are

-- the bytes begin with the spelling of the entry
abbrev pub BeginsWith : List ℕ → Entry → Type 0
BeginsWith bytes entry = (rest : List ℕ) × IsTrue (has_spelling entry) × (bytes ≡ entry_bytes entry ++ rest)

-- no entry stands whole at the front
abbrev pub BeginsWithNone : List ℕ → Type 0
BeginsWithNone bytes = (entry : Entry) → BeginsWith bytes entry → ⊥

-- the bytes are less than the whole spelling of an entry: at least one more comes
abbrev pub IsCut : List ℕ → Type 0
IsCut bytes = (entry : Entry) × (byte : ℕ) × (rest : List ℕ) × IsTrue (has_spelling entry) × (entry_bytes entry ≡ bytes ++ byte ∷ rest)
