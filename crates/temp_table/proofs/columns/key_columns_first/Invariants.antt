use Rattle.std.proofs.Common.{◌≡◌, cond, drop, not}
use Rattle.std.specs.List.{list_any}
use Rattle.temp_table.specs.TempColumns.{key_columns_first}
use Rattle.temp_table.proofs.columns.key_columns_first.Given as goal

-- the columns that are left decide
abbrev pub invariant-loop-column : goal.invariant-loop-column
invariant-loop-column l =
    key_columns_first l.columns ≡ cond l.is_behind (not (list_any (λ other. other.is_key) (drop l.column-index l.columns))) (key_columns_first (drop l.column-index l.columns))
