-- A key above the last key is above all.
use Rattle.std.proofs.Common.{◌-◌, is_lt, sym, ap, ◌∙◌, arith}
use Rattle.std.specs.Ordering.{nat_cmp}
use Rattle.std.specs.Cmp.Lexicographic.{slice_cmp}
use Rattle.common_lemmas.proofs.Orders.{is_less}
use Rattle.page_image.proofs.Keys.{below_upto}
use Rattle.page_image.proofs.page.Page.may_follow.Goals as goal

pub returns-else-count-eq0 : goal.returns-else-count-eq0
returns-else-count-eq0 c =
    let last = c.len-count.result - 1 in
    let compared = ap (λ x. slice_cmp nat_cmp x c.args.key.now) (sym c.key.ensures) ∙ sym c.cmp.ensures in (
      λ t. record {
        within = omega arith;
        below = λ k lt. below_upto c.args.self.now.nodes last c.args.key.now c.len-count.ensures.page.rising (omega (arith, c.len-count.ensures.value)) (compared ∙ is_less c.cmp.result (sym c.is_lt.ensures ∙ t)) k (omega (arith, c.len-count.ensures.value));
        above = λ k from lt. absurd (omega arith);
      },
      λ place. c.is_lt.ensures ∙ ap is_lt (sym compared ∙ place.below last (omega (arith, c.len-count.ensures.value))),
    )
