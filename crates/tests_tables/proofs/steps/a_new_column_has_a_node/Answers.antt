use Rattle.std.proofs.Common.{rules}
use Rattle.tests_tables.specs.OneTable.{one_table, roots}
use Rattle.tests_tables.proofs.steps.a_new_column_has_a_node.Goals as goal

pub get-requires : goal.get-requires
get-requires g c = (c.in_ok-add_column.ensures.ok roots one_table c.in_ok-catalog.ensures (search rules)).0.tree

pub get-requires-2 : goal.get-requires-2
get-requires-2 g c = (c.in_ok-add_column.ensures.ok roots one_table c.in_ok-catalog.ensures (search rules)).0.tree
