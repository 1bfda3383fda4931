use Rattle.std.proofs.Common.{sym, subst}
use Rattle.record_decisions.specs.Updating.{HasLegalRules}
use Rattle.record_decisions.proofs.OwnKeys.{key-made}
use Rattle.record_decisions.proofs.UpdateTold.{legal-primary}
use Rattle.record_decisions.proofs.updating.put_or_refusal.Goals as goal

pub primary_key-key-requires : goal.primary_key-key-requires
primary_key-key-requires c = record { short = legal-primary c.schema-schema.result.now c.in-Some.rule.now (subst HasLegalRules (sym c.schema-schema.ensures) c.requires.rules) (sym c.in-Some.ensures) }

pub put_or_refusal_by-requires-clause-key : goal.put_or_refusal_by-requires-clause-key
put_or_refusal_by-requires-clause-key c =
    key-made c.args.found.now.schema c.schema-schema.result.now c.args.prepared.now.buffer.fields c.values.result.now c.in-Some.rule.now c.primary_key-key.result
    c.schema-schema.ensures c.values.ensures c.in-Some.ensures c.primary_key-key.ensures
