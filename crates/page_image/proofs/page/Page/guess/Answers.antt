-- A page has few nodes, and a key above the last one is above all.
use Rattle.std.proofs.Common.{◌≤◌, ◌-◌, sym, ap, ◌∙◌, arith}
use Rattle.std.specs.Ordering.{nat_cmp}
use Rattle.std.specs.Cmp.Lexicographic.{slice_cmp}
use Rattle.page_image.proofs.Fronts.{front_not_lower}
use Rattle.page_image.proofs.Keys.{below_upto}
use Rattle.page_image.proofs.Kept.{few}
use Rattle.page_image.proofs.page.Page.guess.Goals as goal
use Rattle.page_image.proofs.page.Page.guess.Goals.{After-front-low}

pub returns-then-is_lower-clause-behind : goal.returns-then-is_lower-clause-behind
returns-then-is_lower-clause-behind c = λ none.
    let last = c.len-count.result - 1 in
    let lower = ap (λ x. slice_cmp nat_cmp x c.args.key.now) (sym c.key-highest.ensures) ∙ c.is_lower.ensures.keys c.if-is_lower.true in
    record {
      within = omega arith;
      below = λ k lt. below_upto c.args.self.now.nodes last c.args.key.now c.len-count.ensures.page.rising (omega (arith, c.len-count.ensures.value, c.if-count-lt-FEW.false)) lower k (omega (arith, lt, c.len-count.ensures.value, c.if-count-lt-FEW.false));
      above = λ k from lt. absurd (omega (arith, from, lt));
    }

highest : (c : After-front-low) → c.args.key_front ≤ c.front-high.result
highest c = front_not_lower c.front-high.result c.args.key_front (sym c.is_lower.ensures.fronts ∙ c.if-is_lower.false)

pub overflow_sub-high : goal.overflow_sub-high
overflow_sub-high c = omega (arith, highest (goal.at.overflow_sub-high c).After-front-low, c.if-key_front-low.false)

pub share-requires-clause-part : goal.share-requires-clause-part
share-requires-clause-part c = omega (arith, highest (goal.at.share-requires-clause-part c).After-front-low, c.if-key_front-low.false)

pub share-requires-clause-some : goal.share-requires-clause-some
share-requires-clause-some c = omega (arith, highest (goal.at.share-requires-clause-some c).After-front-low, c.if-key_front-low.false)

pub share-requires-clause-few : goal.share-requires-clause-few
share-requires-clause-few c = omega (arith, few c.args.self.now c.len-count.ensures.page, c.len-count.ensures.value)
