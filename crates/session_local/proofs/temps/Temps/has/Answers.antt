use Rattle.std.proofs.Common.{Option, ℕ, ap, ◌∙◌, is_some}
use Rattle.session_local.proofs.TempLabels.{has-position}
use Rattle.session_local.proofs.temps.Temps.has.Goals as goal

pub returns : goal.returns
returns c = c.is_some.ensures ∙ ap (λ (o : Option ℕ). is_some o) c.position.ensures ∙ has-position c.args.self.now c.args.label
