use Rattle.std.proofs.Common.{sym, ◌∙◌}
use Rattle.session_local.proofs.TempLabels.{add-taken}
use Rattle.session_local.proofs.temps.Temps.add.Goals as goal

pub returns-in-Some : goal.returns-in-Some
returns-in-Some c = add-taken c.args.self.now c.args.label c.args.table c.in-Some.field-0 (sym c.position.ensures ∙ c.in-Some.is)
