use Rattle.std.proofs.Common.{sym}
use Rattle.record_decisions.proofs.UpdateTold.{legal-primary}
use Rattle.record_decisions.proofs.refusing_puts.is_other_key.Goals as goal

pub primary_key-key-requires : goal.primary_key-key-requires
primary_key-key-requires c = record { short = legal-primary c.args.schema.now c.in-Some.rule.now c.requires.rules (sym c.in-Some.ensures) }
