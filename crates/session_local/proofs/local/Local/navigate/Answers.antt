use Rattle.std.proofs.Common.{◌≡◌, ℕ, ◌==◌, List, Option, Some, option_map, find, ◌∙◌, ap}
use Rattle.session_local.specs.Local.{OpenCursor}
use Rattle.session_local.specs.SessionSide.{SessionSide, HeldState}
use Rattle.session_local.specs.Holding.{side_with}
use Rattle.session_local.specs.Navigating.{navigated_by}
use Rattle.session_local.proofs.local.Local.navigate.Goals as goal

held_cursors : (session : ℕ) (begun : Option HeldState) (held : HeldState) (seen : SessionSide) → side_with session begun ≡ seen → begun ≡ Some held → held.cursors ≡ seen.state.cursors
held_cursors session begun held seen is e = ap (λ (s : SessionSide). s.state.cursors) (rw e at is)

pub returns-clause-answer : goal.returns-clause-answer
returns-clause-answer g c =
    let answer = λ (o : OpenCursor). (navigated_by (g.W.View.entries c.args.view.now) (g.W.View.has_record c.args.view.now) o c.args.request.now).jet in
    c.navigate.ensures.answer
    ∙ ap (λ (cs : List OpenCursor). option_map answer (find (λ o. o.label == c.args.label.0) cs)) (held_cursors _ _ _ _ c.self.view_is c.in-Some.is)
