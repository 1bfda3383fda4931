-- Indexes that read no sum.
use Rattle.std.specs.Prelude.{ℕ, ◌==◌, Bool, not, ◌&&◌, List}
use Rattle.std.specs.List.{list_all, list_any}
use Rattle.column_set.specs.declared.columns.Column.{Column}
use Rattle.index_derive.specs.declared.rules.IndexRule.{IndexRule}
use Rattle.database_state.specs.Table.{Table}
use Rattle.database_state.specs.SchemaChanges.{rule_columns}

-- whether an escrow column has the number
abbrev pub is_sum_number : List Column → ℕ → Bool
is_sum_number columns id = list_any (λ c. c.escrow && (c.id.0 == id)) columns

-- whether an index has no escrow column among its segments and conditions
abbrev pub reads_no_sum : Table → IndexRule → Bool
reads_no_sum table rule = not (list_any (is_sum_number table.columns) (rule_columns rule))

abbrev pub read_no_sums : List Table → Bool
read_no_sums tables = list_all (λ t. list_all (reads_no_sum t) t.indexes) tables
