use Rattle.std.proofs.Common.{◌≡◌, ℕ, ◌<◌, ◌+◌, List, [], ◌∷◌, Option, Some, None, length, get_or, ap, refl, sym, subst, ◌∙◌, arith, length-append}
use Rattle.std.specs.Prelude.{slice_get}
use Rattle.std.specs.List.{list_all}
use Rattle.version_store.specs.HeldChanges.{HeldChange}
use Rattle.image_live.proofs.Bases.{known_more}
use Rattle.image_live.proofs.Fronts.{At, front_done, front_fails, front_goes, stands_at}
use Rattle.image_live.proofs.Pairs.{pairs_go}
use Rattle.image_live.specs.Orders.{all_pairs, base_of, stays_apart}
use Rattle.image_live.proofs.apart.are_all_apart.Goals as goal

pub loop-place-init : goal.loop-place-init
loop-place-init c = record { apart = refl; count = ap length c.in_ok-bases.ensures.items; known = λ i h lt at. absurd (omega (arith, lt)) }

pub returns-then-not-is_apart : goal.returns-then-not-is_apart
returns-then-not-is_apart c =
    let here : At c.args.changes.now c.loop-place.place = stands_at c.args.changes.now c.loop-place.place (omega (arith, c.loop-place-test.true, c.len-place-end.ensures)) in
    front_fails (all_pairs (stays_apart c.args.sessions.now)) (λ (front : List HeldChange) (y : HeldChange). list_all (λ (x : HeldChange). stays_apart c.args.sessions.now x y) front) (pairs_go (stays_apart c.args.sessions.now)) c.args.changes.now c.loop-place.place here.item here.is_at
    (sym (c.is_apart.ensures here.item here.is_at) ∙ c.if-not-is_apart.true) c.loop-place.invariant.apart

pub returns : goal.returns
returns c = front_done (all_pairs (stays_apart c.args.sessions.now)) c.args.changes.now c.loop-place.place (omega (arith, c.loop-place-test.false, c.len-place-end.ensures)) c.loop-place.invariant.apart

pub loop-place-preserved : goal.loop-place-preserved
loop-place-preserved c =
    let here : At c.args.changes.now c.loop-place.place = stands_at c.args.changes.now c.loop-place.place (omega (arith, c.loop-place-test.true, c.len-place-end.ensures)) in
    record {
      apart = front_goes (all_pairs (stays_apart c.args.sessions.now)) (λ (front : List HeldChange) (y : HeldChange). list_all (λ (x : HeldChange). stays_apart c.args.sessions.now x y) front) (pairs_go (stays_apart c.args.sessions.now)) c.args.changes.now c.loop-place.place here.item here.is_at
          (sym (c.is_apart.ensures here.item here.is_at) ∙ c.if-not-is_apart.false) c.loop-place.invariant.apart;
      count = omega (arith, ap length c.in_ok-push.ensures.items, length-append c.loop-place.bases.items (c.base_at-base.result ∷ []), c.loop-place.invariant.count);
      known = subst (λ (l : List (Option ℕ)). (i : ℕ) (h : HeldChange) → i < c.loop-place.place + 1 → slice_get c.args.changes.now i ≡ Some h → get_or l i None ≡ base_of c.args.changes.now (i + 1) h) (sym c.in_ok-push.ensures.items)
          (known_more c.loop-place.bases.items c.args.changes.now c.loop-place.place c.base_at-base.result c.loop-place.invariant.count c.loop-place.invariant.known c.base_at-base.ensures);
    }
