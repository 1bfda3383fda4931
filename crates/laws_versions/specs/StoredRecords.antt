-- Records as they are stored.
use Rattle.std.specs.Prelude.{◌≤◌, ℕ, Bool, false, ◌||◌, List, IsTrue}
use Rattle.column_set.specs.RecordValues.{RecordFields, record_fits, record_size}
use Rattle.index_derive.specs.declared.log.EntryKind.{EntryKind}
use Rattle.index_derive.specs.declared.log.EntryKind.TheVariants as entry
use Rattle.index_derive.specs.declared.rules.Schema.{Schema}
use Rattle.index_derive.specs.declared.schema_calls.SchemaStep.{SchemaStep}
use Rattle.index_derive.specs.declared.schema_calls.SchemaStep.TheVariants as step

-- a stored record is not too large for its row, and fits the columns of its table
abbrev pub IsStored : ℕ → Schema → List ℕ → RecordFields → Type 0
IsStored number schema bookmark values = (record_size values ≤ 1700) × IsTrue (record_fits schema.columns values)

-- Whether a schema step makes a version or an auto column. The records that stand have no value there.
abbrev pub makes_kept_column : SchemaStep → Bool
makes_kept_column (step.AddColumn table column) = column.version || column.auto
makes_kept_column _ = false

abbrev pub leaves_records_short : EntryKind → Bool
leaves_records_short (entry.Schema made) = makes_kept_column made
leaves_records_short _ = false
