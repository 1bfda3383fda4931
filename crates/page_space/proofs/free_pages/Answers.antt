-- A free page goes behind those above it.
use Rattle.std.proofs.Common.{◌≡◌, ℕ, suc, ◌+◌, ◌-◌, ◌<◌, true, false, [], ◌∷◌, ◌++◌, length, get_or, sym, ap, subst, ◌∙◌, arith, rules}
use Rattle.std.specs.Global.{Vec}
use Rattle.std.specs.Vec.{vec_capacity}
use Rattle.std.proofs.lemmas.List.{get_or_default}
use Rattle.page_space.proofs.FrameLemmas.{FreeFrom, free_from-push, free_from-skip}
use Rattle.page_space.proofs.free_pages.Goals as goal
use Rattle.page_space.proofs.free_pages.Goals.{then-not-taken-page+in_ok-push, else-not-taken-page}

pub loop-above-preserved : goal.loop-above-preserved
loop-above-preserved c =
    let taken = c.args.taken.now in
    let page = length taken - 1 - c.loop-above.above in
    let within : page < length taken = omega (arith, c.loop-above-test.true) in
    let next : length taken - c.loop-above.above ≡ suc page = omega (arith, c.loop-above-test.true) in
    let here : page ≡ length taken - (c.loop-above.above + 1) = omega arith in
    let old = c.loop-above.invariant in
    elim c.if-not-taken-page.branch [
      | then-not-taken-page+in_ok-push w ↦
          let mark : get_or taken page true ≡ false = search (rules, get_or_default) in
          let pushed : c.if-not-taken-page.free.items ≡ c.loop-above.free.items ++ page ∷ [] = ap (λ (v : Vec ℕ). v.items) w.free-is ∙ w.in_ok-push.ensures.items in
          record {
            free = subst (λ n. FreeFrom taken n c.if-not-taken-page.free.items) here (subst (FreeFrom taken page) (sym pushed) (free_from-push taken (length taken - c.loop-above.above) page c.loop-above.free.items old.free next mark));
            room = omega (arith, old.room, w.push.ensures.capacity, ap (λ (v : Vec ℕ). vec_capacity v) w.free-is);
          }
      | else-not-taken-page w ↦
          let mark : get_or taken page false ≡ true = search rules in
          record {
            free = subst (λ n. FreeFrom taken n c.if-not-taken-page.free.items) here (subst (λ (v : Vec ℕ). FreeFrom taken page v.items) (sym w.free-is) (free_from-skip taken (length taken - c.loop-above.above) page c.loop-above.free.items old.free next mark));
            room = omega (arith, old.room, ap (λ (v : Vec ℕ). vec_capacity v) w.free-is);
          }
    ]
