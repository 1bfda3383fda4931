-- The entries of held changes, one after another.
use Rattle.std.proofs.Common.{◌≡◌, ℕ, zero, suc, List, [], ◌∷◌, ◌++◌, drop, Some, sym, ap, ◌∙◌}
use Rattle.std.specs.Prelude.{slice_get}
use Rattle.std.specs.List.{flat_map}
use Rattle.std.proofs.lemmas.List.{append_assoc}
use Rattle.std.proofs.lemmas.List.Concat.{flat_map-append, flat_map-cons}
use Rattle.common_lemmas.proofs.Options.{none_some, same_some}

drop_get : {X : Type 0} (at : ℕ) (xs : List X) (x : X) → slice_get xs at ≡ Some x → drop at xs ≡ x ∷ drop (suc at) xs
drop_get zero [] x e = none_some x e
drop_get (suc at) [] x e = none_some x e
drop_get zero (y ∷ xs) x e = ap (λ z. z ∷ xs) (same_some y x e)
drop_get (suc at) (y ∷ xs) x e = drop_get at xs x e

-- what is left of them loses the entries that are put at the end
pub one_more : {H X Y : Type 0} (R : H → List X) (P : X → List Y) (held : List H) (at next : ℕ) (h : H) (new old base : List Y) → slice_get held at ≡ Some h → next ≡ suc at → new ≡ old ++ flat_map P (R h)
    → old ++ flat_map P (flat_map R (drop at held)) ≡ base → new ++ flat_map P (flat_map R (drop next held)) ≡ base
one_more R P held at next h new old base there is put all =
    let rest = flat_map R (drop (suc at) held) in
    ap (λ (n : ℕ). new ++ flat_map P (flat_map R (drop n held))) is
    ∙ ap (λ l. l ++ flat_map P rest) put
    ∙ append_assoc old (flat_map P (R h)) (flat_map P rest)
    ∙ ap (λ l. old ++ l) (sym (flat_map-append P (R h) rest) ∙ ap (flat_map P) (sym (flat_map-cons R h (drop (suc at) held)) ∙ ap (flat_map R) (sym (drop_get at held h there))))
    ∙ all
