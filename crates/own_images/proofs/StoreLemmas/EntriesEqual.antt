-- Two lists of entries that do not differ are the same.
use Rattle.std.proofs.Common.{◌≡◌, ℕ, Bool, true, false, List, [], ◌∷◌, Some, None, refl, sym, ap, ◌∙◌}
use Rattle.std.specs.Prelude.{if◌then◌else◌}
use Rattle.std.specs.Ordering.{is_lt}
use Rattle.std.specs.declared.cmp.Ordering.{Ordering}
use Rattle.std.specs.declared.cmp.Ordering.TheVariants.{Less, Equal, Greater}
use Rattle.common_lemmas.proofs.Booleans.{impossible}
use Rattle.common_lemmas.proofs.Options.{some_apart}
use Rattle.cursor_nav.specs.Places.{Pair, pair_lt}
use Rattle.laws_versions.proofs.IndexLemmas.PairOrder.{exact_pairs, pair_cmp, pair_lt-is}
use Rattle.laws_versions.proofs.IndexLemmas.Rising.{turned}
use Rattle.image_findings.specs.EntryFindings.{differing}
use Rattle.image_findings.specs.Images.{Finding}

tied : (p q : Pair) → pair_lt p q ≡ false → pair_lt q p ≡ false → p ≡ q
tied p q not-less not-more = by (pair_cmp p q) refl
  where
    by : (o : Ordering) → pair_cmp p q ≡ o → p ≡ q
    by Less e = impossible (sym (sym (pair_lt-is p q) ∙ not-less) ∙ ap is_lt e)
    by Equal e = exact_pairs p q e
    by Greater e = impossible (sym (sym (pair_lt-is q p) ∙ not-more) ∙ ap is_lt (turned p q Greater e))

pub same_entries : (found : Pair → ℕ → ℕ → Finding) (have want : List Pair) → differing found have want ≡ None → have ≡ want
same_entries found [] [] e = refl
same_entries found [] (q ∷ want) e = absurd (some_apart (found q 0 1) e)
same_entries found (p ∷ have) [] e = absurd (some_apart (found p 1 0) e)
same_entries found (p ∷ have) (q ∷ want) e = by (pair_lt p q) (pair_lt q p) refl refl e (λ g. same_entries found have want g)
  where
    by : (less more : Bool) → pair_lt p q ≡ less → pair_lt q p ≡ more → (if less then Some (found p 1 0) else if more then Some (found q 0 1) else differing found have want) ≡ None → (differing found have want ≡ None → have ≡ want) → (p ∷ have) ≡ (q ∷ want)
    by true more l m e rest = absurd (some_apart (found p 1 0) e)
    by false true l m e rest = absurd (some_apart (found q 0 1) e)
    by false false l m e rest = let first : p ≡ q = tied p q l m in let others : have ≡ want = rest e in λ i. first i ∷ others i
