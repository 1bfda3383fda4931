use Rattle.std.proofs.Common.{sym, ◌∙◌}
use Rattle.soft_recovery.proofs.Deciding.{numbered, unnumbered}
use Rattle.soft_recovery.proofs.next_entries.entries.lawful.Goals as goal

pub returns-then-has_number : goal.returns-then-has_number
returns-then-has_number c = numbered c.args.engine.now c.args.entry.now c.lawful_kind.result (sym c.has_number.ensures ∙ c.if-has_number.true) c.lawful_kind.ensures

pub returns-else-has_number : goal.returns-else-has_number
returns-else-has_number c = unnumbered c.args.engine.now c.args.entry.now (sym c.has_number.ensures ∙ c.if-has_number.false)
