use Rattle.std.proofs.Common.{◌==◌, find, refl, sym, ◌∙◌, ap, subst}
use Rattle.std.proofs.Math.ListN.{set}
use Rattle.session_local.specs.Local.{OpenCursor}
use Rattle.session_local.specs.SessionSide.{HeldState}
use Rattle.session_local.specs.Changing.{changed_by, change_at, ChangesBy}
use Rattle.session_local.proofs.Distinct.{missing-position, labels-set}
use Rattle.session_local.proofs.AtCursor.{label-changed, label-changed_to, changed_in_place}
use Rattle.session_local.proofs.begun.Begun.change.Goals as goal

pub returns-in_default-clause-change : goal.returns-in_default-clause-change
returns-in_default-clause-change c = rw (missing-position (λ (o : OpenCursor). o.label == c.args.label.0) c.args.self.now.cursors (sym c.position.ensures ∙ c.in_default.is)) (refl, refl)

pub invariant_of-self : goal.invariant_of-self
invariant_of-self c =
    let found = c.index_mut-cursor.result.now in
    let kept = label-changed_to found c.change.new.self (changed_by found c.args.request.now) c.change.result (label-changed found c.args.request.now) c.change.ensures.change in
    record {
      distinct = rw (labels-set c.self.inside.cursors.items c.in-Some.at c.change.new.self found (kept ∙ ap (λ (o : OpenCursor). o.label) c.index_mut-cursor.ensures.value)) c.self.invariant.distinct;
      few = c.self.invariant.few;
      room = c.self.invariant.room;
    }

pub returns-clause-change : goal.returns-clause-change
returns-clause-change c =
    let same = ap (λ (h : HeldState). h.cursors) c.self.view_is in
    let place = rw (← same) at (sym c.position.ensures ∙ c.in-Some.is) in
    let old : HeldState = record { cursors = c.self.inside.cursors.items; temps = c.self.inside.temps; reply = c.self.inside.reply } in
    let made = changed_in_place old c.args.label.0 c.in-Some.at c.index_mut-cursor.result.now c.change.new.self c.args.request.now c.change.result c.self.invariant.distinct place c.index_mut-cursor.ensures.value c.change.ensures.change in
    let new = c.change.new.self in
    subst (λ (h : HeldState). ChangesBy h (change_at (find (λ (o : OpenCursor). o.label == c.args.label.0) h.cursors) c.args.request.now) c.change.result (record { cursors = set c.self.inside.cursors.items c.in-Some.at new; temps = c.self.inside.temps; reply = c.self.inside.reply })) c.self.view_is made
