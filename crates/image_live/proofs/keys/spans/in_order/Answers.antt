use Rattle.std.proofs.Common.{List, refl, sym, subst}
use Rattle.std.specs.Prelude.{Contains}
use Rattle.std.specs.List.Sorted.{IsStrictlySortedBy}
use Rattle.std.proofs.lemmas.List.Filters.{dedup_is}
use Rattle.std.proofs.lemmas.List.Kept.{Contains-dedup, Contains-from_dedup, IsStrictlySortedBy-dedup}
use Rattle.std.proofs.lemmas.List.Sorted.{Contains-permutation, IsPermutation-sym}
use Rattle.image_live.specs.KeySpans.{Span}
use Rattle.image_live.specs.SpanOrder.{span_cmp, span_eq, span_equiv, span_total}
use Rattle.image_live.proofs.SpansInOrder.{same_spans_tie}
use Rattle.image_live.proofs.keys.spans.in_order.Goals as goal

pub returns : goal.returns
returns c = record {
  order = subst (λ (l : List Span). IsStrictlySortedBy span_cmp l) (sym (dedup_is _ _ _ c.dedup.ensures.filtered)) (IsStrictlySortedBy-dedup span_total (λ x y. refl) c.sort_unstable.new.self.items c.sort_unstable.ensures.sorted);
  all = λ s there.
      subst (λ (l : List Span). Contains l s) (sym (dedup_is _ _ _ c.dedup.ensures.filtered))
      (Contains-dedup span_equiv same_spans_tie c.sort_unstable.new.self.items s (Contains-permutation c.args.spans.items c.sort_unstable.new.self.items s c.sort_unstable.ensures.permutation there));
  only = λ s there.
      Contains-permutation c.sort_unstable.new.self.items c.args.spans.items s (IsPermutation-sym c.args.spans.items c.sort_unstable.new.self.items c.sort_unstable.ensures.permutation)
      (Contains-from_dedup span_eq c.sort_unstable.new.self.items s (subst (λ (l : List Span). Contains l s) (dedup_is _ _ _ c.dedup.ensures.filtered) there));
}
