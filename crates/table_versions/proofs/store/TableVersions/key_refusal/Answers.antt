use Rattle.table_versions.proofs.store.TableVersions.key_refusal.Goals as goal

pub has_conflict_over_new-requires-clause-legal : goal.has_conflict_over_new-requires-clause-legal
has_conflict_over_new-requires-clause-legal g c = (c.rules_are_legal.ensures.legal c.args.table.0 c.args.schema.now c.requires.named c.args.rule.now c.requires.rule).0

pub has_conflict_over_new-requires-clause-short : goal.has_conflict_over_new-requires-clause-short
has_conflict_over_new-requires-clause-short g c = (c.rules_are_legal.ensures.legal c.args.table.0 c.args.schema.now c.requires.named c.args.rule.now c.requires.rule).1

pub has_taken_key-requires-clause-legal : goal.has_taken_key-requires-clause-legal
has_taken_key-requires-clause-legal g c = (c.rules_are_legal.ensures.legal c.args.table.0 c.args.schema.now c.requires.named c.args.rule.now c.requires.rule).0

pub has_taken_key-requires-clause-short : goal.has_taken_key-requires-clause-short
has_taken_key-requires-clause-short g c = (c.rules_are_legal.ensures.legal c.args.table.0 c.args.schema.now c.requires.named c.args.rule.now c.requires.rule).1

pub refusal_of_own_key-requires-clause-short : goal.refusal_of_own_key-requires-clause-short
refusal_of_own_key-requires-clause-short g c = (c.rules_are_legal.ensures.legal c.args.table.0 c.args.schema.now c.requires.named c.args.rule.now c.requires.rule).1
