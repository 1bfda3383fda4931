-- What is asked of tables but for their records.
use Rattle.std.proofs.Common.{◌≡◌, ℕ, Bool, true, Option, Some, None, List, [], ◌∷◌, refl, sym, ap, subst, ◌∙◌}
use Rattle.std.specs.Prelude.{◌==◌, ◌&&◌, find, map, option_map, IfSome}
use Rattle.std.specs.List.{AllByRecursion, list_all}
use Rattle.common_lemmas.proofs.Finding.{find_map}
use Rattle.common_lemmas.proofs.Lists.{all_map, all_weaker}
use Rattle.database_state.specs.Table.{Table, table_with_id}
use Rattle.laws_versions.specs.History.{EachTwo, without_rows}

-- the same tables but for their records have what is asked of the rest
pub carried : (Q : Table → Type 0) → ((t : Table) → Q t → Q (without_rows t)) → ((t : Table) → Q (without_rows t) → Q t) → (one other : List Table) → map without_rows one ≡ map without_rows other → (id : ℕ) → IfSome (table_with_id one id) Q → IfSome (table_with_id other id) Q
carried Q down up one other e id q =
    from (table_with_id other id) (subst (λ (o : Option Table). IfSome o Q) (sym (find_map without_rows (λ (t : Table). t.id == id) one) ∙ ap (find (λ (t : Table). t.id == id)) e ∙ find_map without_rows (λ (t : Table). t.id == id) other) (to (table_with_id one id) q))
  where
    to : (o : Option Table) → IfSome o Q → IfSome (option_map without_rows o) Q
    to None q = tt
    to (Some t) q = down t q

    from : (o : Option Table) → IfSome (option_map without_rows o) Q → IfSome o Q
    from None q = tt
    from (Some t) q = up t q

all_mapped : (Q : Table → Type 0) → ((t : Table) → Q t → Q (without_rows t)) → (xs : List Table) → AllByRecursion Q xs → AllByRecursion Q (map without_rows xs)
all_mapped Q down [] h = tt
all_mapped Q down (t ∷ xs) h = (down t h.0, all_mapped Q down xs h.1)

all_unmapped : (Q : Table → Type 0) → ((t : Table) → Q (without_rows t) → Q t) → (xs : List Table) → AllByRecursion Q (map without_rows xs) → AllByRecursion Q xs
all_unmapped Q up [] h = tt
all_unmapped Q up (t ∷ xs) h = (up t h.0, all_unmapped Q up xs h.1)

pub all_carried : (Q : Table → Type 0) → ((t : Table) → Q t → Q (without_rows t)) → ((t : Table) → Q (without_rows t) → Q t) → (one other : List Table) → map without_rows one ≡ map without_rows other → AllByRecursion Q one → AllByRecursion Q other
all_carried Q down up one other e h = all_unmapped Q up other (subst (AllByRecursion Q) e (all_mapped Q down one h))

each_mapped : (R : Table → Table → Type 0) → ((t u : Table) → R t u → R (without_rows t) (without_rows u)) → (xs : List Table) → EachTwo R xs → EachTwo R (map without_rows xs)
each_mapped R down [] h = tt
each_mapped R down (t ∷ xs) h = (all_map (R (without_rows t)) without_rows xs (all_weaker (R t) (λ u. R (without_rows t) (without_rows u)) (down t) xs h.0), each_mapped R down xs h.1)

each_unmapped : (R : Table → Table → Type 0) → ((t u : Table) → R (without_rows t) (without_rows u) → R t u) → (xs : List Table) → EachTwo R (map without_rows xs) → EachTwo R xs
each_unmapped R up [] h = tt
each_unmapped R up (t ∷ xs) h = (all_up xs h.0, each_unmapped R up xs h.1)
  where
    all_up : (ys : List Table) → AllByRecursion (R (without_rows t)) (map without_rows ys) → AllByRecursion (R t) ys
    all_up [] h = tt
    all_up (u ∷ ys) h = (up t u h.0, all_up ys h.1)

pub each_carried : (R : Table → Table → Type 0) → ((t u : Table) → R t u → R (without_rows t) (without_rows u)) → ((t u : Table) → R (without_rows t) (without_rows u) → R t u)
    → (one other : List Table) → map without_rows one ≡ map without_rows other → EachTwo R one → EachTwo R other
each_carried R down up one other e h = each_unmapped R up other (subst (EachTwo R) e (each_mapped R down one h))

tests_mapped : (f : Table → Bool) → ((t : Table) → f (without_rows t) ≡ f t) → (xs : List Table) → list_all f (map without_rows xs) ≡ list_all f xs
tests_mapped f same [] = refl
tests_mapped f same (t ∷ xs) = λ i. same t i && tests_mapped f same xs i

pub test_carried : (f : Table → Bool) → ((t : Table) → f (without_rows t) ≡ f t) → (one other : List Table) → map without_rows one ≡ map without_rows other → list_all f one ≡ true → list_all f other ≡ true
test_carried f same one other e h = sym (tests_mapped f same other) ∙ sym (ap (list_all f) e) ∙ tests_mapped f same one ∙ h
