-- Reading the bytes of an entry from left to right.
use Rattle.std.specs.Prelude.{ℕ, zero, suc, ◌+◌, ◌/◌, ◌%◌, Bool, true, false, ◌&&◌, ◌==◌, cond, List, [], ◌∷◌, length, take, drop, nat_le, nat_lt, Option, Some, None}
use Rattle.std.specs.Int.{w16, w32, cast_signed}
use Rattle.jet_base.specs.Ids.{column_id, index_id, session_id, table_id}
use Rattle.jet_base.specs.declared.words.ColType.{ColType}
use Rattle.jet_base.specs.declared.words.ColType.TheVariants.{Bit, UnsignedByte, Short, UnsignedShort, Long, UnsignedLong, LongLong, Currency, Guid, Binary, Text, LongBinary, LongText}
use Rattle.column_set.specs.declared.changes.Change.{Change}
use Rattle.column_set.specs.declared.changes.Change.TheVariants as change
use Rattle.column_set.specs.declared.columns.Column.{Column}
use Rattle.column_set.specs.RecordValues.{RecordFields}
use Rattle.column_set.specs.NumberReading.{◌>>=◌, number_at}
use Rattle.index_derive.specs.declared.log.Entry.{Entry}
use Rattle.index_derive.specs.declared.log.EntryKind.{EntryKind}
use Rattle.index_derive.specs.declared.log.EntryKind.TheVariants as kind
use Rattle.index_derive.specs.declared.rules.Condition.{Condition}
use Rattle.index_derive.specs.declared.rules.IndexFlags.{IndexFlags}
use Rattle.index_derive.specs.declared.rules.IndexRule.{IndexRule}
use Rattle.index_derive.specs.declared.rules.Segment.{Segment}
use Rattle.index_derive.specs.declared.schema_calls.SchemaStep.{SchemaStep}
use Rattle.index_derive.specs.declared.schema_calls.SchemaStep.TheVariants as schema

-- ---- readers: the value in front, and the bytes behind it

-- one behind the other
abbrev pub both : {A B : Type 0} → (List ℕ → Option (A × List ℕ)) → (A → List ℕ → Option (B × List ℕ)) → List ℕ → Option ((A × B) × List ℕ)
both first second bytes = first bytes >>= λ a. second a.0 a.1 >>= λ b. Some ((a.0, b.0), b.1)

-- with another value made of what was read
abbrev pub changed : {A B : Type 0} → (A → B) → (List ℕ → Option (A × List ℕ)) → List ℕ → Option (B × List ℕ)
changed f read bytes = read bytes >>= λ a. Some (f a.0, a.1)

-- only where what was read passes the test
abbrev pub tested : {A : Type 0} → (A → Bool) → (List ℕ → Option (A × List ℕ)) → List ℕ → Option (A × List ℕ)
tested test read bytes = read bytes >>= λ a. cond (test a.0) (Some a) None

-- so many
abbrev pub many_at : {A : Type 0} → (List ℕ → Option (A × List ℕ)) → ℕ → List ℕ → Option (List A × List ℕ)
many_at read zero bytes = Some ([], bytes)
many_at read (suc n) bytes = read bytes >>= λ x. many_at read n x.1 >>= λ xs. Some (x.0 ∷ xs.0, xs.1)

-- ---- fields

abbrev pub byte_at : List ℕ → Option (ℕ × List ℕ)
byte_at [] = None
byte_at (byte ∷ bytes) = Some (byte, bytes)

abbrev pub bytes_at : ℕ → List ℕ → Option (List ℕ × List ℕ)
bytes_at n bytes = cond (nat_lt (length bytes) n) None (Some (take n bytes, drop n bytes))

unfoldable pub bookmark_at : List ℕ → Option (List ℕ × List ℕ)
bookmark_at bytes = changed (λ x. x.1) (both (tested (λ n. nat_le 1 n && nat_le n 255) (number_at w16)) bytes_at) bytes

unfoldable pub name_at : List ℕ → Option (List ℕ × List ℕ)
name_at bytes = changed (λ x. x.1) (both (tested (λ n. nat_le 1 n && nat_le n 64) byte_at) bytes_at) bytes

-- the flag that a byte is
abbrev pub flag_of : ℕ → Option Bool
flag_of zero = Some false
flag_of (suc zero) = Some true
flag_of (suc (suc n)) = None

unfoldable pub flag_at : List ℕ → Option (Bool × List ℕ)
flag_at bytes = byte_at bytes >>= λ byte. flag_of byte.0 >>= λ flag. Some (flag, byte.1)

unfoldable pub flagged_at : List ℕ → Option ((ℕ × Bool) × List ℕ)
flagged_at bytes = both (number_at w16) (λ column. flag_at) bytes

-- the bookmark of a copied record behind a flag that says that it stands
abbrev pub copied_after : Bool → List ℕ → Option (Option (List ℕ) × List ℕ)
copied_after false bytes = Some (None, bytes)
copied_after true bytes = bookmark_at bytes >>= λ bookmark. Some (Some bookmark.0, bookmark.1)

unfoldable pub copied_at : List ℕ → Option (Option (List ℕ) × List ℕ)
copied_at bytes = flag_at bytes >>= λ flag. copied_after flag.0 flag.1

-- ---- records

-- a value with its column
unfoldable pub value_at : List ℕ → Option ((ℕ × List ℕ) × List ℕ)
value_at bytes = number_at w16 bytes >>= λ column. number_at w32 column.1 >>= λ n. bytes_at n.0 n.1 >>= λ value. Some ((column.0, value.0), value.1)

-- the same where the column is `least` or more
unfoldable pub next_at : ℕ → List ℕ → Option ((ℕ × List ℕ) × List ℕ)
next_at least bytes = tested (λ value. nat_le least value.0) value_at bytes

-- so many values, whose columns do not fall from `least` on
unfoldable pub values_at : ℕ → ℕ → List ℕ → Option (List (ℕ × List ℕ) × List ℕ)
values_at least zero bytes = Some ([], bytes)
values_at least (suc n) bytes = next_at least bytes >>= λ first. values_at first.0.0 n first.1 >>= λ others. Some (first.0 ∷ others.0, others.1)

-- the value in front of a record's fields
abbrev pub in_front : ℕ × List ℕ → RecordFields → RecordFields
in_front value [] = (value.0, value.1 ∷ []) ∷ []
in_front value (field ∷ fields) = cond (value.0 == field.0) ((value.0, value.1 ∷ field.1) ∷ fields) ((value.0, value.1 ∷ []) ∷ field ∷ fields)

-- the record that has the values, where their columns do not fall
abbrev pub grouped : List (ℕ × List ℕ) → RecordFields
grouped [] = []
grouped (value ∷ values) = in_front value (grouped values)

unfoldable pub record_at : List ℕ → Option (RecordFields × List ℕ)
record_at bytes = changed (λ x. grouped x.1) (both (number_at w16) (values_at 0)) bytes

-- ---- columns

-- the type that a number stands for
abbrev pub type_of : ℕ → Option ColType
type_of number =
    cond (number == 1) (Some Bit) (cond (number == 2) (Some UnsignedByte) (cond (number == 3) (Some Short) (cond (number == 4) (Some UnsignedShort)
    (cond (number == 5) (Some Long) (cond (number == 6) (Some UnsignedLong) (cond (number == 7) (Some LongLong) (cond (number == 8) (Some Currency)
    (cond (number == 9) (Some Guid) (cond (number == 10) (Some Binary) (cond (number == 11) (Some Text) (cond (number == 12) (Some LongBinary)
    (cond (number == 13) (Some LongText) None))))))))))))

unfoldable pub type_at : List ℕ → Option (ColType × List ℕ)
type_at bytes = byte_at bytes >>= λ byte. type_of byte.0 >>= λ type. Some (type, byte.1)

-- whether a bit is set, of those from the lowest on
abbrev pub bit : ℕ → ℕ → Bool
bit weight flags = flags / weight % 2 == 1

abbrev pub column_of : ℕ → ColType × (ℕ × List ℕ) → Column
column_of id x = record { id = column_id id; name = x.1.1; kind = x.0; tagged = bit 1 x.1.0; multi = bit 2 x.1.0; not_null = bit 4 x.1.0; escrow = bit 8 x.1.0; version = false; auto = false }

unfoldable pub column_at : ℕ → List ℕ → Option (Column × List ℕ)
column_at id bytes = changed (column_of id) (both type_at (λ kind. both (tested (λ flags. nat_lt flags 16) byte_at) (λ flags. name_at))) bytes

-- ---- indexes

abbrev pub segment_of : ℕ × Bool → Segment
segment_of x = record { column = column_id x.0; descending = x.1 }

abbrev pub condition_of : ℕ × Bool → Condition
condition_of x = record { column = column_id x.0; must_be_null = x.1 }

unfoldable pub segment_at : List ℕ → Option (Segment × List ℕ)
segment_at bytes = changed segment_of flagged_at bytes

unfoldable pub condition_at : List ℕ → Option (Condition × List ℕ)
condition_at bytes = changed condition_of flagged_at bytes

unfoldable pub segments_at : List ℕ → Option (List Segment × List ℕ)
segments_at bytes = changed (λ x. x.1) (both byte_at (many_at segment_at)) bytes

unfoldable pub conditions_at : List ℕ → Option (List Condition × List ℕ)
conditions_at bytes = changed (λ x. x.1) (both byte_at (many_at condition_at)) bytes

abbrev pub flags_of : ℕ → IndexFlags
flags_of flags = record {
  primary = bit 1 flags;
  unique = bit 2 flags;
  disallownull = bit 4 flags;
  ignorenull = bit 8 flags;
  ignoreanynull = bit 16 flags;
  ignorefirstnull = bit 32 flags;
  sortnullshigh = bit 64 flags;
  crossproduct = bit 128 flags;
  disallowtruncation = bit 256 flags;
  tuples = bit 512 flags;
}

-- its root, which is none yet, its order of making and its flags
unfoldable pub index_head_at : List ℕ → Option ((ℕ × IndexFlags) × List ℕ)
index_head_at bytes = changed (λ x. x.1) (both (tested (λ root. root == 0) (number_at w32)) (λ root. both (number_at w32) (λ order. changed flags_of (tested (λ flags. nat_lt flags 1024) (number_at w16))))) bytes

abbrev pub index_of : ℕ → (ℕ × IndexFlags) × (List Segment × (List Condition × List ℕ)) → IndexRule
index_of id x = record { id = index_id id; name = x.1.1.1; order = x.0.0; segments = x.1.0; flags = x.0.1; conditions = x.1.1.0; key_most = 255 }

unfoldable pub index_at : ℕ → List ℕ → Option (IndexRule × List ℕ)
index_at id bytes = changed (index_of id) (both index_head_at (λ head. both segments_at (λ segments. both conditions_at (λ conditions. name_at)))) bytes

-- ---- schema changes

-- what a kind has behind its table
unfoldable pub step_at : ℕ → ℕ → List ℕ → Option (SchemaStep × List ℕ)
step_at number table bytes =
    cond (number == 1) (changed (λ name. schema.CreateTable (table_id table) name) name_at bytes)
    (cond (number == 2) (Some (schema.DeleteTable (table_id table), bytes))
    (cond (number == 3) (number_at w16 bytes >>= λ id. changed (λ column. schema.AddColumn (table_id table) column) (column_at id.0) id.1)
    (cond (number == 4) (changed (λ id. schema.DeleteColumn (table_id table) (column_id id)) (number_at w16) bytes)
    (cond (number == 5) (number_at w16 bytes >>= λ id. changed (λ index. schema.CreateIndex (table_id table) index) (index_at id.0) id.1)
    (cond (number == 6) (changed (λ id. schema.DeleteIndex (table_id table) (index_id id)) (number_at w16) bytes) None)))))

unfoldable pub schema_at : List ℕ → Option (SchemaStep × List ℕ)
schema_at bytes = byte_at bytes >>= λ number. number_at w32 number.1 >>= λ table. step_at number.0 table.0 table.1

-- ---- entries

unfoldable pub table_at : List ℕ → Option ((ℕ × List ℕ) × List ℕ)
table_at bytes = both (number_at w32) (λ table. bookmark_at) bytes

unfoldable pub put_at : List ℕ → Option (Change × List ℕ)
put_at bytes = changed (λ x. change.Put (table_id x.0.0) x.0.1 x.1.0 x.1.1) (both table_at (λ table. both copied_at (λ copied. record_at))) bytes

unfoldable pub add_at : List ℕ → Option (Change × List ℕ)
add_at bytes = changed (λ x. change.Add (table_id x.0.0) x.0.1 (column_id x.1.0) (cast_signed w32 x.1.1)) (both table_at (λ table. both (number_at w16) (λ column. number_at w32))) bytes

unfoldable pub kind_at : ℕ → List ℕ → Option (EntryKind × List ℕ)
kind_at tag bytes =
    cond (tag == 1) (Some (kind.Enter, bytes))
    (cond (tag == 2) (Some (kind.Leave, bytes))
    (cond (tag == 3) (changed (λ table. kind.Open (table_id table)) (number_at w32) bytes)
    (cond (tag == 4) (changed (λ table. kind.Shut (table_id table)) (number_at w32) bytes)
    (cond (tag == 5) (Some (kind.Begin, bytes))
    (cond (tag == 6) (Some (kind.Save, bytes))
    (cond (tag == 7) (changed (λ change. kind.Change change) put_at bytes)
    (cond (tag == 8) (changed (λ x. kind.Change (change.Drop (table_id x.0) x.1)) table_at bytes)
    (cond (tag == 9) (changed (λ change. kind.Change change) add_at bytes)
    (cond (tag == 10) (changed (λ x. kind.Change (change.Hold (table_id x.0) x.1)) table_at bytes)
    (cond (tag == 11) (Some (kind.Release, bytes))
    (cond (tag == 12) (Some (kind.Undo, bytes))
    (cond (tag == 13) (Some (kind.UndoAll, bytes))
    (cond (tag == 14) (Some (kind.Commit, bytes))
    (cond (tag == 15) (changed (λ step. kind.Schema step) schema_at bytes) None))))))))))))))

-- the entry whose tag, session and fields the bytes are, all of them
unfoldable pub rest_at : List ℕ → Option Entry
rest_at bytes = byte_at bytes >>= λ tag. tested (λ session. nat_le 1 session && nat_le session 99) (number_at w32) tag.1 >>= λ session.
    kind_at tag.0 session.1 >>= λ kind. cond (length kind.1 == 0) (Some (record { session = session_id session.0; kind = kind.0 })) None

-- the entry in front and the bytes that it has, where all of them are there
unfoldable pub front_at : List ℕ → Option (Entry × ℕ)
front_at bytes = number_at w32 bytes >>= λ n. bytes_at n.0 n.1 >>= λ rest. rest_at rest.0 >>= λ entry. Some (entry, 4 + n.0)
