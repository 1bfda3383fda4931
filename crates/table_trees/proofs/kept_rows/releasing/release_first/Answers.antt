use Rattle.std.proofs.Common.{sym, ◌∙◌}
use Rattle.long_rows.specs.RowReferences.{named_by}
use Rattle.table_trees.proofs.GivingUp.{first_released}
use Rattle.table_trees.proofs.kept_rows.releasing.release_first.Goals as goal

pub returns-then-not-names-clause-tables : goal.returns-then-not-names-clause-tables
returns-then-not-names-clause-tables c xs stand =
    let law = c.long_values_after_a_change.ensures in
    first_released (record { named = law.named; others = law.others; nodes = law.nodes; indexes = law.indexes }) c.args.table.0 c.args.named c.in-Some.id (named_by xs) c.args.trees.now.tables c.release_long.new.self.tables
    c.in-Some.is (sym (c.names.ensures xs stand) ∙ c.if-not-names.true) c.requires.table c.release_long.ensures.tables
