use Rattle.std.proofs.Common.{Bool, true, false, List, get_or, take, refl, sym, ◌∙◌, arith, length-set}
use Rattle.std.specs.List.{list_all}
use Rattle.std.proofs.lemmas.List.{get_or-replicate}
use Rattle.image_findings.specs.LiveFindings.{levels_rise}
use Rattle.version_store.specs.Answers.{told_change}
use Rattle.version_store.specs.HeldChanges.{HeldChange}
use Rattle.image_live.proofs.Fronts.{front_done, front_fails, front_goes}
use Rattle.image_live.proofs.Highest.{is_above, known_next, known_shut, le_known, not_above, rises_open, shut_rises}
use Rattle.image_live.proofs.Pairs.{pairs_go}
use Rattle.image_live.specs.Orders.{all_pairs}
use Rattle.image_live.proofs.levels.all_levels_rise.Goals as goal

abbrev more : List HeldChange → HeldChange → Bool
more front y = list_all (λ (x : HeldChange). levels_rise x y) front

pub loop-place-init : goal.loop-place-init
loop-place-init c = record { rise = refl; count = refl; known = λ session lt. get_or-replicate 100 session 0 0 lt }

pub loop-place-preserved-then-not-is_open : goal.loop-place-preserved-then-not-is_open
loop-place-preserved-then-not-is_open c =
    let h = told_change c.change_at-change.result in
    let shut = sym c.is_open.ensures ∙ c.if-not-is_open.true in
    record {
      rise = front_goes (all_pairs levels_rise) more (pairs_go levels_rise) c.args.changes.now c.loop-place.place h c.change_at-change.ensures (shut_rises (take c.loop-place.place c.args.changes.now) h shut) c.loop-place.invariant.rise;
      count = c.loop-place.invariant.count;
      known = known_shut c.loop-place.levels c.args.changes.now c.loop-place.place h c.change_at-change.ensures shut c.loop-place.invariant.known;
    }

pub bounds-levels-label : goal.bounds-levels-label
bounds-levels-label c = c.requires.labels c.loop-place.place (told_change c.change_at-change.result) c.change_at-change.ensures

pub returns-then-change-levels : goal.returns-then-change-levels
returns-then-change-levels c =
    let h = told_change c.change_at-change.result in
    front_fails (all_pairs levels_rise) more (pairs_go levels_rise) c.args.changes.now c.loop-place.place h c.change_at-change.ensures
    (rises_open c.loop-place.levels c.args.changes.now c.loop-place.place h false (c.requires.labels c.loop-place.place h c.change_at-change.ensures) (sym c.is_open.ensures ∙ c.if-not-is_open.false) c.loop-place.invariant.known (is_above h.level (get_or c.loop-place.levels h.session 0) c.if-change-levels.true))
    c.loop-place.invariant.rise

pub loop-place-preserved : goal.loop-place-preserved
loop-place-preserved c =
    let h = told_change c.change_at-change.result in
    let few = c.requires.labels c.loop-place.place h c.change_at-change.ensures in
    let opened = sym c.is_open.ensures ∙ c.if-not-is_open.false in
    let above = not_above h.level (get_or c.loop-place.levels h.session 0) c.if-change-levels.false in
    record {
      rise = front_goes (all_pairs levels_rise) more (pairs_go levels_rise) c.args.changes.now c.loop-place.place h c.change_at-change.ensures (rises_open c.loop-place.levels c.args.changes.now c.loop-place.place h true few opened c.loop-place.invariant.known above) c.loop-place.invariant.rise;
      count = length-set c.loop-place.levels h.session h.level ∙ c.loop-place.invariant.count;
      known = known_next c.loop-place.levels c.args.changes.now c.loop-place.place h c.change_at-change.ensures opened (omega (arith, few, c.loop-place.invariant.count)) (le_known c.loop-place.levels c.args.changes.now c.loop-place.place h few c.loop-place.invariant.known above) c.loop-place.invariant.known;
    }

pub returns : goal.returns
returns c = front_done (all_pairs levels_rise) c.args.changes.now c.loop-place.place (omega (arith, c.loop-place-test.false, c.len-place-end.ensures)) c.loop-place.invariant.rise
