-- Which columns, indexes and tables are built: of all that the definitions speak of, the columns that the engine numbers by
-- itself and the keys of more than 255 bytes are not. And which entries make only what is built.
use Rattle.std.specs.Prelude.{◌≡◌, ℕ, Bool, true, not, ◌&&◌, ◌||◌, nat_le, List}
use Rattle.std.specs.List.{list_all, AllByRecursion}
use Rattle.column_set.specs.declared.columns.Column.{Column}
use Rattle.index_derive.specs.declared.rules.IndexRule.{IndexRule}
use Rattle.index_derive.specs.declared.log.Entry.{Entry}
use Rattle.index_derive.specs.declared.log.EntryKind.{EntryKind}
use Rattle.index_derive.specs.declared.log.EntryKind.TheVariants as entry
use Rattle.index_derive.specs.declared.schema_calls.SchemaStep.TheVariants as step
use Rattle.database_state.specs.SchemaChanges.{is_type_long}
use Rattle.database_state.specs.Table.{Table}

-- the flags of a column that the engine does not number, neither at each change nor at each insert
abbrev pub is_unnumbered : (version auto : Bool) → Bool
is_unnumbered version auto = not (version || auto)

abbrev pub is_unnumbered_column : Column → Bool
is_unnumbered_column column = is_unnumbered column.version column.auto

-- An escrow column is a Long with one value, and a fixed column, whose number is one of 1 to 127: no other is ever added.
abbrev pub is_built_sum : Column → Bool
is_built_sum column = not column.escrow || (is_type_long column.kind && (not column.multi && (nat_le 1 column.id.0 && nat_le column.id.0 127)))

abbrev pub is_built_column : Column → Bool
is_built_column column = is_unnumbered_column column && is_built_sum column

-- keys of so many bytes at most: of 255
abbrev pub is_built_limit : ℕ → Bool
is_built_limit key_most = nat_le key_most 255

abbrev pub is_built_rule : IndexRule → Bool
is_built_rule rule = is_built_limit rule.key_most

abbrev pub is_built_table : Table → Bool
is_built_table table = list_all is_built_column table.columns && list_all is_built_rule table.indexes

abbrev pub are_built : List Table → Bool
are_built tables = list_all is_built_table tables

-- whether an entry makes only what is built: of an escrow column the entry is lawful only where it is a sum that is built
abbrev pub makes_built : EntryKind → Bool
makes_built (entry.Schema (step.AddColumn table column)) = is_unnumbered_column column
makes_built (entry.Schema (step.CreateIndex table rule)) = is_built_rule rule
makes_built _ = true

abbrev pub AllMakeBuilt : List Entry → Type 0
AllMakeBuilt entries = AllByRecursion (λ made. makes_built made.kind ≡ true) entries
