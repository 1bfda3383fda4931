use Rattle.std.proofs.Common.{ap, ◌∙◌}
use Rattle.table_versions.proofs.StoredConflicts.{OfRecord, conflict_in_primary, rule_in_store}
use Rattle.table_versions.proofs.store.TableVersions.key_conflict.Goals as goal

pub conflict_under-requires-clause-legal : goal.conflict_under-requires-clause-legal
conflict_under-requires-clause-legal c =
    (rule_in_store c.self.inside.newest_put c.self.inside.catalog c.self.inside.trees.tables c.self.inside.versions c.self.invariant.kept c.args.self.now c.self.view_is c.args.table.0 c.args.schema.now c.requires.named c.args.rule.now c.requires.rule).0

pub conflict_under-requires-clause-short : goal.conflict_under-requires-clause-short
conflict_under-requires-clause-short c =
    (rule_in_store c.self.inside.newest_put c.self.inside.catalog c.self.inside.trees.tables c.self.inside.versions c.self.invariant.kept c.args.self.now c.self.view_is c.args.table.0 c.args.schema.now c.requires.named c.args.rule.now c.requires.rule).1

pub returns-then-rule : goal.returns-then-rule
returns-then-rule c =
    c.conflict_under.ensures
    ∙ ap (OfRecord c.args.reader c.args.self.now c.args.table.0 c.args.rule.now c.args.schema.now c.args.key.now) c.as_bytes.ensures.value
    ∙ conflict_in_primary c.a_primary_index_has_one_entry.ensures c.args.reader c.args.key.now c.self.inside.newest_put c.self.inside.catalog c.self.inside.trees.tables c.self.inside.versions c.self.invariant.kept c.nodes_are_in_order.ensures.sorted
    c.args.self.now c.self.view_is c.args.table.0 c.args.schema.now c.requires.named c.args.rule.now c.requires.rule c.if-rule.true
