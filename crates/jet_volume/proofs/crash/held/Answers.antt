use Rattle.std.proofs.Common.{List, ℕ, inr, reverse, sym, subst}
use Rattle.std.proofs.lemmas.Result.{IfOk-weaker}
use Rattle.jet_volume.specs.Record.{Reaches, changes_of}
use Rattle.jet_volume.proofs.Calls.{settled_reached}
use Rattle.jet_volume.proofs.crash.held.Goals as goal

-- what the last sync left is among what a crash may leave
pub returns-then-pick-eq1-clause-may : goal.returns-then-pick-eq1-clause-may
returns-then-pick-eq1-clause-may c =
    let changes = changes_of c.args.file (reverse c.args.calls.now) in
    IfOk-weaker c.settled.result _ _
    (λ bytes is. inr (subst (λ (b : List ℕ). Reaches c.args.now.now changes b) (sym is) (settled_reached c.args.now.now changes))) c.settled.ensures
