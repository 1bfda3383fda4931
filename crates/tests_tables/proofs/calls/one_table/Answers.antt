-- The table is made, and then its index.
use Rattle.std.proofs.Common.{List, [], ◌∷◌, ◌++◌, ap, ◌∙◌}
use Rattle.table_trees.specs.StoredTables.{StoredTable, new_table, with_new_index}
use Rattle.tests_tables.proofs.calls.one_table.Goals as goal

pub returns : goal.returns
returns c = c.in_ok-add_index.ensures.ok ∙ ap (with_new_index 1 2) (c.in_ok-add_table.ensures.ok ∙ ap (λ (s : List StoredTable). s ++ new_table 1 ∷ []) c.new-tables.ensures.tables)
