-- Of which record a change is.
use Rattle.std.specs.Prelude.{ℕ, List}
use Rattle.column_set.specs.declared.changes.Change.{Change}
use Rattle.column_set.specs.declared.changes.Change.TheVariants.{Put, Drop, Hold, Add}

-- the table that holds the record
abbrev pub changed_table : Change → ℕ
changed_table (Put table bookmark copied values) = table.0
changed_table (Drop table bookmark) = table.0
changed_table (Hold table bookmark) = table.0
changed_table (Add table bookmark column amount) = table.0

-- what the record is found by there
abbrev pub changed_bookmark : Change → List ℕ
changed_bookmark (Put table bookmark copied values) = bookmark
changed_bookmark (Drop table bookmark) = bookmark
changed_bookmark (Hold table bookmark) = bookmark
changed_bookmark (Add table bookmark column amount) = bookmark
