-- The order of the entries of an index: by key, then by bookmark.
use Rattle.std.specs.Prelude.{Bool}
use Rattle.std.specs.declared.cmp.Ordering.{Ordering}
use Rattle.std.specs.Cmp.{IsTotalOrder, IsEquivalence, IsPartialOrder, partial_order_from_total}
use Rattle.std.specs.Ordering.{as_partial_cmp, eq_by_cmp, nat_cmp, on, then_cmp}
use Rattle.std.specs.Cmp.Lexicographic.{slice_cmp, nat_list_cmp_total}
use Rattle.std.proofs.lemmas.Cmp.{eq_by_cmp_equiv, on_total, then_total}
use Rattle.cursor_nav.specs.Places.{Pair}

abbrev pub pair_cmp : Pair → Pair → Ordering
pair_cmp = then_cmp (on (λ pair. pair.0) (slice_cmp nat_cmp)) (on (λ pair. pair.1) (slice_cmp nat_cmp))

abbrev pub pair_eq : Pair → Pair → Bool
pair_eq = eq_by_cmp pair_cmp

-- ---- its laws

pub pair_total : IsTotalOrder pair_cmp
pair_total = then_total (on_total (λ pair. pair.0) nat_list_cmp_total) (on_total (λ pair. pair.1) nat_list_cmp_total)

pub pair_equiv : IsEquivalence pair_eq
pair_equiv = eq_by_cmp_equiv pair_total

pub pair_partial : IsPartialOrder pair_eq (as_partial_cmp pair_cmp)
pair_partial = partial_order_from_total pair_total
