use Rattle.std.proofs.Common.{sym, ◌∙◌}
use Rattle.std.specs.List.{position}
use Rattle.session_local.proofs.TempLabels.{open-taken}
use Rattle.session_local.proofs.temps.Temps.open.Goals as goal

pub returns-in-Some : goal.returns-in-Some
returns-in-Some c = open-taken c.args.self.now c.args.label c.args.unique c.args.columns.now c.in-Some.field-0 (sym c.position.ensures ∙ c.in-Some.is)

pub returns-in-None : goal.returns-in-None
returns-in-None c = c.open_new.ensures
