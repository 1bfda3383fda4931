-- Columns and index rules that the worked examples speak of.
use Rattle.std.specs.Prelude.{ℕ, List, [], ◌∷◌, true, false, codes}
use Rattle.jet_base.specs.Ids.{column_id, index_id}
use Rattle.jet_base.specs.declared.words.ColType.{ColType}
use Rattle.jet_base.specs.declared.words.ColType.TheVariants.{UnsignedByte, Short, Long, Text, LongText}
use Rattle.column_set.specs.declared.columns.Column.{Column}
use Rattle.index_derive.specs.declared.rules.Segment.{Segment}
use Rattle.index_derive.specs.declared.rules.Condition.{Condition}
use Rattle.index_derive.specs.declared.rules.IndexFlags.{IndexFlags}
use Rattle.index_derive.specs.declared.rules.IndexRule.{IndexRule}
use Rattle.index_derive.specs.declared.rules.Schema.{Schema}

-- a column of one value
abbrev pub plain_column : ℕ → ColType → Column
plain_column id kind = record { id = column_id id; name = codes "c"; kind = kind; tagged = false; multi = false; not_null = false; escrow = false; version = false; auto = false }

-- a tagged text of several values
abbrev pub multi_column : ℕ → Column
multi_column id = record (plain_column id Text) { tagged = true; multi = true }

-- a sum that sessions add to
abbrev pub sum_column : Column
sum_column = record (plain_column 1 Long) { escrow = true }

-- a text that must not be NULL
abbrev pub note_column : Column
note_column = record (plain_column 128 Text) { not_null = true }

-- ---- indexes

-- two numbers 1 and 2, two texts 128 and 129, two texts of several values 256 and 257, a byte 3, a long text 258
abbrev pub sample_schema : Schema
sample_schema = record {
  columns = plain_column 1 Long ∷ plain_column 2 Short ∷ plain_column 3 UnsignedByte ∷ plain_column 128 Text ∷ plain_column 129 Text ∷ multi_column 256 ∷ multi_column 257 ∷ plain_column 258 LongText ∷ [];
  indexes = [];
}

abbrev pub ascending : ℕ → Segment
ascending column = record { column = column_id column; descending = false }

abbrev pub descending : ℕ → Segment
descending column = record { column = column_id column; descending = true }

abbrev pub if_null : ℕ → Condition
if_null column = record { column = column_id column; must_be_null = true }

abbrev pub if_not_null : ℕ → Condition
if_not_null column = record { column = column_id column; must_be_null = false }

-- an index with keys of up to 255 bytes and without conditions
abbrev pub index_over : IndexFlags → List Segment → IndexRule
index_over flags segments = record { id = index_id 1; name = codes "i"; order = 1; segments = segments; flags = flags; conditions = []; key_most = 255 }
