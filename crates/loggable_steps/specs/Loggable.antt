-- Which entries can be written to a log, and what is asked of one besides that it is lawful.
use Rattle.std.specs.Prelude.{ℕ, ◌^◌, Bool, true, ◌&&◌, nat_le, nat_lt, length}
use Rattle.column_set.specs.declared.changes.Change.{Change}
use Rattle.column_set.specs.declared.changes.Change.TheVariants.{Put, Drop, Hold, Add}
use Rattle.column_set.specs.Record.{is_record}
use Rattle.index_derive.specs.declared.log.Entry.{Entry}
use Rattle.index_derive.specs.declared.log.EntryKind.{EntryKind}
use Rattle.index_derive.specs.declared.log.EntryKind.TheVariants as entry
use Rattle.index_derive.specs.declared.log.Step.{Step}
use Rattle.index_derive.specs.declared.log.Step.TheVariants.{One, Alone}
use Rattle.index_derive.specs.declared.schema_calls.SchemaStep.{SchemaStep}
use Rattle.index_derive.specs.declared.schema_calls.SchemaStep.TheVariants as step
use Rattle.log_grammar.specs.EntryBytes.{entry_bytes, has_spelling}

-- whether an entry can be written, by less than 2^27 bytes
abbrev pub is_loggable : Entry → Bool
is_loggable made = has_spelling made && nat_lt (length (entry_bytes made)) (2 ^ 27)

-- the entry of a step that is not its begin or its commit
abbrev pub made_by : Step → Entry
made_by (One made) = made
made_by (Alone made) = made

-- the labels of sessions
abbrev pub is_label : ℕ → Bool
is_label session = nat_le 1 session && nat_le session 99

-- ---- what is asked of an entry

-- Whether an entry's own numbers have the bits of their types, and the columns of a record that is put rise, each with a value. What
-- is lawful is wider than the types here, by data that no program makes.

abbrev pub change_fits_types : Change → Bool
change_fits_types (Put table bookmark copied values) = nat_lt table.0 (2 ^ 32) && is_record values
change_fits_types (Drop table bookmark) = nat_lt table.0 (2 ^ 32)
change_fits_types (Hold table bookmark) = nat_lt table.0 (2 ^ 32)
change_fits_types (Add table bookmark column amount) = nat_lt table.0 (2 ^ 32) && nat_lt column.0 (2 ^ 16)

abbrev pub schema_fits_types : SchemaStep → Bool
schema_fits_types (step.CreateTable table name) = nat_lt table.0 (2 ^ 32)
schema_fits_types (step.DeleteTable table) = nat_lt table.0 (2 ^ 32)
schema_fits_types (step.AddColumn table column) = nat_lt table.0 (2 ^ 32) && nat_lt column.id.0 (2 ^ 16)
schema_fits_types (step.DeleteColumn table column) = nat_lt table.0 (2 ^ 32) && nat_lt column.0 (2 ^ 16)
schema_fits_types (step.CreateIndex table index) = nat_lt table.0 (2 ^ 32) && nat_lt index.id.0 (2 ^ 16) && nat_lt index.order (2 ^ 32)
schema_fits_types (step.DeleteIndex table index) = nat_lt table.0 (2 ^ 32) && nat_lt index.0 (2 ^ 16)

abbrev pub fits_types : EntryKind → Bool
fits_types (entry.Open table) = nat_lt table.0 (2 ^ 32)
fits_types (entry.Shut table) = nat_lt table.0 (2 ^ 32)
fits_types (entry.Change change) = change_fits_types change
fits_types (entry.Schema made) = schema_fits_types made
fits_types _ = true
