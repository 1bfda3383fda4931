use Rattle.std.proofs.Common.{◌++◌, sym, ◌∙◌, ap}
use Rattle.std.specs.Ordering.{nat_cmp}
use Rattle.std.specs.Cmp.Lexicographic.{slice_cmp}
use Rattle.key_normal.specs.KeyBytes.{key_bytes}
use Rattle.key_normal.specs.KeyOrder.{key_order}
use Rattle.key_normal.proofs.Comparing.Keys.{aligned-keys, whole, slice_cmp-of-aligned, ends-there}
use Rattle.key_normal.proofs.order.order_of_whole_keys.Goals as goal

pub returns-clause-order : goal.returns-clause-order
returns-clause-order c columns h most xs ys p q a b =
    let x = key_bytes columns h xs in
    let y = key_bytes columns h ys in
    (λ i. slice_cmp nat_cmp (whole most x a i) (whole most y b i)) ∙ slice_cmp-of-aligned x y (key_order columns h xs ys) (aligned-keys columns h xs ys p q)

pub returns-clause-no_prefix : goal.returns-clause-no_prefix
returns-clause-no_prefix c columns h most xs ys rest p q a b e =
    let x = key_bytes columns h xs in
    let y = key_bytes columns h ys in
    ends-there x y rest (key_order columns h xs ys) (aligned-keys columns h xs ys p q) (sym (whole most y b) ∙ e ∙ ap (λ k. k ++ rest) (whole most x a))
