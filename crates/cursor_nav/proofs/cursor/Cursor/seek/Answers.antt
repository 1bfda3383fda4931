use Rattle.std.proofs.Common.{◌≡◌, Some, sym, ap, subst, ◌∙◌}
use Rattle.cursor_nav.specs.Navigation.{CursorState, answer_of, sought}
use Rattle.cursor_nav.proofs.Seeking.{sought_taken}
use Rattle.cursor_nav.proofs.cursor.Cursor.seek.Goals as goal

pub returns-clause-answer : goal.returns-clause-answer
returns-clause-answer g c =
    let inside = c.self.inside in
    let entries = g.W.View.entries c.args.view.now inside.table.0 inside.index.0 in
    let was : Some c.in-Some.made ≡ inside.key = sym c.in-Some.is ∙ c.take.ensures.value in
    let IsSought : CursorState → Type 0 = λ s. c.seek_key.result ≡ answer_of (sought s (g.W.View.entries c.args.view.now s.table s.index) c.args.by).jet 0 in
    subst IsSought c.self.view_is
    (c.seek_key.ensures.answer ∙ ap (λ done. answer_of done.jet 0) (sought_taken inside entries c.args.by c.in-Some.made c.take.new.self c.take.ensures.after was))

pub returns-clause-cursor : goal.returns-clause-cursor
returns-clause-cursor g c =
    let inside = c.self.inside in
    let entries = g.W.View.entries c.args.view.now inside.table.0 inside.index.0 in
    let was : Some c.in-Some.made ≡ inside.key = sym c.in-Some.is ∙ c.take.ensures.value in
    let IsSought : CursorState → Type 0 = λ s. c.seek_key.new.self ≡ (sought s (g.W.View.entries c.args.view.now s.table s.index) c.args.by).cursor in
    subst IsSought c.self.view_is
    (c.seek_key.ensures.cursor ∙ ap (λ done. done.cursor) (sought_taken inside entries c.args.by c.in-Some.made c.take.new.self c.take.ensures.after was))
