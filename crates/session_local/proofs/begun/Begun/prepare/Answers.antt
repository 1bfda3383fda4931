use Rattle.std.proofs.Common.{◌==◌, List, get_or, sym, ◌∙◌, ap}
use Rattle.session_local.specs.Local.{OpenCursor}
use Rattle.session_local.specs.SessionSide.{HeldState}
use Rattle.session_local.proofs.Distinct.{found-position, labels-set}
use Rattle.session_local.proofs.Updates.{prepared_at, prepared_nowhere}
use Rattle.session_local.proofs.begun.Begun.prepare.Goals as goal

pub prepare-requires : goal.prepare-requires
prepare-requires c =
    let same = ap (λ (h : HeldState). h.cursors) c.self.view_is in
    let at = c.in-Some.at in
    let found = c.index_mut-cursor.result.now in
    let is = c.index_mut-cursor.ensures.value ∙ ap (λ (cs : List OpenCursor). get_or cs at found) same in
    let known = found-position (λ (o : OpenCursor). o.label == c.args.label.0) c.args.self.now.cursors at found (sym c.position.ensures ∙ c.in-Some.is) is in
    rw known at c.requires

pub invariant_of-self : goal.invariant_of-self
invariant_of-self c =
    record {
      distinct = rw (labels-set c.self.inside.cursors.items c.in-Some.at c.prepare.new.self c.index_mut-cursor.result.now (ap (λ (o : OpenCursor). o.label) c.prepare.ensures ∙ ap (λ (o : OpenCursor). o.label) c.index_mut-cursor.ensures.value)) c.self.invariant.distinct;
      few = c.self.invariant.few;
      room = c.self.invariant.room;
    }

pub returns-in-Some-clause-cursors : goal.returns-in-Some-clause-cursors
returns-in-Some-clause-cursors c =
    let same = ap (λ (h : HeldState). h.cursors) c.self.view_is in
    let place = rw (← same) at (sym c.position.ensures ∙ c.in-Some.is) in
    rw (← same) (prepared_at c.args.label.0 c.self.inside.cursors.items c.in-Some.at c.index_mut-cursor.result.now c.prepare.new.self _ c.self.invariant.distinct place c.index_mut-cursor.ensures.value c.prepare.ensures)

pub returns-in_default-clause-cursors : goal.returns-in_default-clause-cursors
returns-in_default-clause-cursors c = prepared_nowhere c.args.label.0 c.args.self.now.cursors _ (sym c.position.ensures ∙ c.in_default.is)
