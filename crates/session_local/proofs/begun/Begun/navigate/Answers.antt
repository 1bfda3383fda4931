use Rattle.std.proofs.Common.{◌==◌, List, Some, get_or, refl, sym, ◌∙◌, ap}
use Rattle.session_local.specs.Local.{OpenCursor}
use Rattle.session_local.specs.SessionSide.{HeldState}
use Rattle.session_local.specs.Navigating.{navigated_by}
use Rattle.session_local.proofs.Distinct.{found-position, missing-position, labels-set}
use Rattle.session_local.proofs.Updates.{moved_at}
use Rattle.session_local.proofs.begun.Begun.navigate.Goals as goal

pub invariant_of-self : goal.invariant_of-self
invariant_of-self g c =
    record {
      distinct = rw (labels-set c.self.inside.cursors.items c.in-Some.at c.navigate.new.self c.index_mut-cursor.result.now (ap (λ (o : OpenCursor). o.label) c.navigate.ensures.cursor ∙ ap (λ (o : OpenCursor). o.label) c.index_mut-cursor.ensures.value)) c.self.invariant.distinct;
      few = c.self.invariant.few;
      room = c.self.invariant.room;
    }

pub returns-in-Some-clause-answer : goal.returns-in-Some-clause-answer
returns-in-Some-clause-answer g c =
    let same = ap (λ (h : HeldState). h.cursors) c.self.view_is in
    let at = c.in-Some.at in
    let found = c.index_mut-cursor.result.now in
    let is = c.index_mut-cursor.ensures.value ∙ ap (λ (cs : List OpenCursor). get_or cs at found) same in
    let known = found-position (λ (o : OpenCursor). o.label == c.args.label.0) c.args.self.now.cursors at found (sym c.position.ensures ∙ c.in-Some.is) is in
    rw known (ap Some c.navigate.ensures.answer)

pub returns-in-Some-clause-cursors : goal.returns-in-Some-clause-cursors
returns-in-Some-clause-cursors g c =
    let same = ap (λ (h : HeldState). h.cursors) c.self.view_is in
    let place = rw (← same) at (sym c.position.ensures ∙ c.in-Some.is) in
    let move = λ (o : OpenCursor). navigated_by (g.W.View.entries c.args.view.now) (g.W.View.has_record c.args.view.now) o c.args.request.now in
    rw (← same) (moved_at c.args.label.0 c.self.inside.cursors.items c.in-Some.at c.index_mut-cursor.result.now c.navigate.new.self move c.self.invariant.distinct place c.index_mut-cursor.ensures.value c.navigate.ensures.cursor)

pub returns-in-None-clause-answer : goal.returns-in-None-clause-answer
returns-in-None-clause-answer g c = rw (missing-position (λ (o : OpenCursor). o.label == c.args.label.0) c.args.self.now.cursors (sym c.position.ensures ∙ c.in-None.is)) refl

pub returns-in-None-clause-cursors : goal.returns-in-None-clause-cursors
returns-in-None-clause-cursors g c = rw (missing-position (λ (o : OpenCursor). o.label == c.args.label.0) c.args.self.now.cursors (sym c.position.ensures ∙ c.in-None.is)) refl
