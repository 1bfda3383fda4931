-- Whether a test passes on all of a list, place by place: what is left of it decides.
use Rattle.std.proofs.Common.{◌≡◌, ℕ, ◌+◌, Bool, true, false, ◌&&◌, List, Some, drop, sym, ap, ◌∙◌}
use Rattle.std.specs.Prelude.{slice_get}
use Rattle.std.specs.List.{list_all}
use Rattle.std.proofs.lemmas.List.{at_drop_more}
use Rattle.std.proofs.lemmas.Option.{get_or_from_slice_get, slice_get_within}

abbrev pub RestDecides : {X : Type 0} → (X → Bool) → List X → ℕ → Type 0
RestDecides p xs place = list_all p (drop place xs) ≡ list_all p xs

first_left : {X : Type 0} (p : X → Bool) (xs : List X) (i : ℕ) (x : X) → slice_get xs i ≡ Some x → list_all p (drop i xs) ≡ (p x && list_all p (drop (i + 1) xs))
first_left p xs i x is = at_drop_more (list_all p) xs i x (slice_get_within xs i x is) ∙ ap (λ y. p y && list_all p (drop (i + 1) xs)) (get_or_from_slice_get xs i x x is)

pub goes : {X : Type 0} (p : X → Bool) (xs : List X) (i : ℕ) (x : X) → slice_get xs i ≡ Some x → p x ≡ true → RestDecides p xs i → RestDecides p xs (i + 1)
goes p xs i x is passes so_far = sym (first_left p xs i x is ∙ ap (λ b. b && list_all p (drop (i + 1) xs)) passes) ∙ so_far

pub fails : {X : Type 0} (p : X → Bool) (xs : List X) (i : ℕ) (x : X) → slice_get xs i ≡ Some x → p x ≡ false → RestDecides p xs i → false ≡ list_all p xs
fails p xs i x is refused so_far = sym (first_left p xs i x is ∙ ap (λ b. b && list_all p (drop (i + 1) xs)) refused) ∙ so_far
