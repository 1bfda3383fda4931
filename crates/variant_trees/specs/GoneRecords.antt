-- A record that goes, as the code has it.
use Rattle.std.specs.Prelude.{IsTrue}
use Rattle.column_set.specs.RecordValues.{RecordFields}
use Rattle.column_set.specs.Rows.{IsRowBytes}
use Rattle.column_set.specs.RowReading.{row_in}
use Rattle.long_rows.specs.WholeRows.{is_whole}
use Rattle.long_value.specs.Values.{Values}
use Rattle.stored_variants.specs.RecordRows.{record_of}
use Rattle.variant_trees.specs.declared.gone.Gone.{Gone}
use Rattle.variant_trees.specs.declared.gone.Gone.TheVariants as gone

-- the record, given the long values of its table
abbrev pub gone_fields : Values → Gone → RecordFields
gone_fields values (gone.Record fields) = fields.now
gone_fields values (gone.Row row) = record_of values row.now

-- A row has the bytes, and each long value that it names is there.
abbrev pub CanRead : Values → Gone → Type 0
CanRead values (gone.Record fields) = Unit {0}
CanRead values (gone.Row row) = IsRowBytes row.now × IsTrue (is_whole values (row_in row.now))
