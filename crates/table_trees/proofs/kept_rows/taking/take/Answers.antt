use Rattle.std.proofs.Common.{sym, ◌∙◌}
use Rattle.common_lemmas.proofs.Results.{OnOk-then}
use Rattle.long_value.specs.Stores.{id_bytes}
use Rattle.table_trees.proofs.Changed.{ChangeLaw}
use Rattle.table_trees.proofs.TakingAll.{take_put, take_shared}
use Rattle.table_trees.proofs.kept_rows.taking.take.Goals as goal

pub returns-then-has_long-clause-ok : goal.returns-then-has_long-clause-ok
returns-then-has_long-clause-ok c =
    let law = c.long_values_after_a_change.ensures in
    let own : ChangeLaw = record { named = law.named; others = law.others; nodes = law.nodes; indexes = law.indexes } in
    take_shared own c.args.table.0 (id_bytes c.args.id, c.args.bytes.now) c.args.trees.now.tables c.share_long.new.self.tables c.requires.table (sym c.has_long.ensures ∙ c.if-has_long.true) c.share_long.ensures.tables

pub returns-else-has_long-clause-ok : goal.returns-else-has_long-clause-ok
returns-else-has_long-clause-ok c =
    let law = c.long_values_after_a_change.ensures in
    let own : ChangeLaw = record { named = law.named; others = law.others; nodes = law.nodes; indexes = law.indexes } in
    OnOk-then c.put_long.result (take_put own c.args.table.0 (id_bytes c.args.id, c.args.bytes.now) c.args.trees.now.tables c.put_long.new.self.tables c.requires.table (sym c.has_long.ensures ∙ c.if-has_long.false)) c.put_long.ensures.ok
