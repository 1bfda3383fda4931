-- Two selections of a list, applied one after the other or both in the list's order.
use Rattle.std.proofs.Common.{◌≡◌, Bool, true, false, ◌||◌, cond, List, [], ◌∷◌, filter, refl, sym, ap, ◌∙◌}
use Rattle.std.specs.Prelude.{fold}
use Rattle.std.specs.List.{AllByRecursion}
use Rattle.laws_versions.specs.History.{EachTwo}

-- doing x before y is doing it after
abbrev pub Commute : {X R : Type 0} → (R → X → R) → X → X → Type 0
Commute {R = R} act x y = (r : R) → act (act r x) y ≡ act (act r y) x

pub moved : {X R : Type 0} (act : R → X → R) (f : X → Bool) (x : X) (r : R) (ys : List X) → AllByRecursion (λ y. f y ≡ true → Commute act x y) ys
    → act (fold act r (filter f ys)) x ≡ fold act (act r x) (filter f ys)
moved act f x r [] h = refl
moved act f x r (y ∷ ys) h =
    elim (f y) as (λ b. f y ≡ b → act (fold act r (cond b (y ∷ filter f ys) (filter f ys))) x ≡ fold act (act r x) (cond b (y ∷ filter f ys) (filter f ys))) [
      | true ↦ λ e. moved act f x (act r y) ys h.1 ∙ ap (λ r. fold act r (filter f ys)) (sym (h.0 e r))
      | false ↦ λ e. moved act f x r ys h.1
    ] refl

all_at : {X : Type 0} {A : Type 0} (P : X → Type 0) → A → (ys : List X) → AllByRecursion (λ y. A → P y) ys → AllByRecursion P ys
all_at P a [] h = tt
all_at P a (y ∷ ys) h = (h.0 a, all_at P a ys h.1)

pub merged : {X R : Type 0} (act : R → X → R) (f g : X → Bool) → ((x : X) → f x ≡ true → g x ≡ false)
    → (r : R) (xs : List X) → EachTwo (λ x y. g x ≡ true → f y ≡ true → Commute act x y) xs
    → fold act (fold act r (filter f xs)) (filter g xs) ≡ fold act r (filter (λ x. f x || g x) xs)
merged act f g apart r [] h = refl
merged act f g apart r (x ∷ xs) h =
    elim (f x) as (λ b. f x ≡ b → fold act (fold act r (cond b (x ∷ filter f xs) (filter f xs))) (filter g (x ∷ xs)) ≡ fold act r (cond (b || g x) (x ∷ filter (λ x. f x || g x) xs) (filter (λ x. f x || g x) xs))) [
      | true ↦ λ e. ap (λ b. fold act (fold act (act r x) (filter f xs)) (cond b (x ∷ filter g xs) (filter g xs))) (apart x e) ∙ merged act f g apart (act r x) xs h.1
      | false ↦ λ e.
          elim (g x) as (λ b. g x ≡ b → fold act (fold act r (filter f xs)) (cond b (x ∷ filter g xs) (filter g xs)) ≡ fold act r (cond b (x ∷ filter (λ x. f x || g x) xs) (filter (λ x. f x || g x) xs))) [
            | true ↦ λ p. ap (λ r. fold act r (filter g xs)) (moved act f x r xs (all_at (λ y. f y ≡ true → Commute act x y) p xs h.0)) ∙ merged act f g apart (act r x) xs h.1
            | false ↦ λ p. merged act f g apart r xs h.1
          ] refl
    ] refl
