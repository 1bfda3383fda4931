-- The order of spans: by key, then by when they end.
use Rattle.std.specs.Prelude.{Bool, List, Contains}
use Rattle.std.specs.declared.cmp.Ordering.{Ordering}
use Rattle.std.specs.Cmp.{IsTotalOrder, IsEquivalence, IsPartialOrder, nat_cmp_total, partial_order_from_total}
use Rattle.std.specs.List.Sorted.{IsStrictlySortedBy}
use Rattle.std.specs.Ordering.{as_partial_cmp, eq_by_cmp, nat_cmp, on, then_cmp}
use Rattle.std.specs.Cmp.Lexicographic.{slice_cmp, nat_list_cmp_total}
use Rattle.std.proofs.lemmas.Cmp.{eq_by_cmp_equiv, on_total, then_total}
use Rattle.image_live.specs.KeySpans.{Span}

abbrev pub span_cmp : Span → Span → Ordering
span_cmp = then_cmp (then_cmp (then_cmp (on (λ (s : Span). s.key) (slice_cmp nat_cmp)) (on (λ (s : Span). s.ends) nat_cmp)) (on (λ (s : Span). s.begins) nat_cmp)) (on (λ (s : Span). s.bookmark) (slice_cmp nat_cmp))

abbrev pub span_eq : Span → Span → Bool
span_eq = eq_by_cmp span_cmp

-- ---- its laws

pub span_total : IsTotalOrder span_cmp
span_total = then_total (then_total (then_total (on_total (λ (s : Span). s.key) nat_list_cmp_total) (on_total (λ (s : Span). s.ends) nat_cmp_total)) (on_total (λ (s : Span). s.begins) nat_cmp_total)) (on_total (λ (s : Span). s.bookmark) nat_list_cmp_total)

pub span_equiv : IsEquivalence span_eq
span_equiv = eq_by_cmp_equiv span_total

pub span_partial : IsPartialOrder span_eq (as_partial_cmp span_cmp)
span_partial = partial_order_from_total span_total

-- ---- spans in their order

-- They rise, and are the same as some others.
pub record AreInOrder (spans sorted : List Span) : Type 0 where
  pub order : IsStrictlySortedBy span_cmp sorted
  pub all : (s : Span) → Contains spans s → Contains sorted s
  pub only : (s : Span) → Contains sorted s → Contains spans s
