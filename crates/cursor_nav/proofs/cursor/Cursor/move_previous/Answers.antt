use Rattle.std.proofs.Common.{◌≡◌, false, ap, ◌∙◌, subst}
use Rattle.cursor_nav.specs.Navigation.{CursorState, Navigated, moved, moved_previous, answer_of}
use Rattle.cursor_nav.specs.Steps.{arrived_within}
use Rattle.cursor_nav.specs.CursorView.{cursor_state}
use Rattle.cursor_nav.proofs.Arriving.{arrived_previous}
use Rattle.cursor_nav.proofs.cursor.Cursor.move_previous.Goals as goal

pub returns-clause-answer : goal.returns-clause-answer
unfolding moved
returns-clause-answer g c =
    let entries = g.W.View.entries c.args.view.now in
    let cursor : CursorState = cursor_state c.self.inside in
    let Answered : CursorState → Type 0 = λ s. c.arrive_within.result ≡ answer_of (moved_previous s (entries s.table s.index) s.range).jet 0 in
    subst Answered c.self.view_is
    (c.arrive_within.ensures.answer
    ∙ (λ i. answer_of (arrived_within (record cursor { place = c.retreat-found.ensures.place i }) (c.retreat-found.ensures.found i) false cursor.range).jet 0)
    ∙ ap (λ (n : Navigated). answer_of n.jet 0) (arrived_previous cursor (entries cursor.table cursor.index) cursor.range))
