-- What stands among entries that were put in their places.
use Rattle.std.proofs.Common.{◌≡◌, ℕ, Bool, true, false, ◌||◌, cond, List, [], ◌∷◌, map, flat_map, refl, ap, ◌∙◌}
use Rattle.std.specs.List.{list_any, AllByRecursion}
use Rattle.common_lemmas.proofs.Booleans.{or_swap}
use Rattle.common_lemmas.proofs.Lists.{all_append}
use Rattle.cursor_nav.specs.Places.{Pair}
use Rattle.index_derive.specs.Entries.{insert_entry, sorted_entries, entry_le}
use Rattle.laws_versions.specs.KeptEntries.{with_entries}

-- ---- what holds of all

pub all_flat : {X Y : Type 0} (P : Y → Type 0) (f : X → List Y) (xs : List X) → AllByRecursion (λ x. AllByRecursion P (f x)) xs → AllByRecursion P (flat_map f xs)
all_flat P f [] h = tt
all_flat P f (x ∷ xs) h = all_append P (f x) (flat_map f xs) h.0 (all_flat P f xs h.1)

pub all_insert : (P : Pair → Type 0) (x : Pair) (es : List Pair) → P x → AllByRecursion P es → AllByRecursion P (insert_entry x es)
all_insert P x [] p h = (p, tt)
all_insert P x (e ∷ es) p h = elim (entry_le x e) as (λ b. AllByRecursion P (cond b (x ∷ e ∷ es) (e ∷ insert_entry x es))) [
  | true ↦ (p, h)
  | false ↦ (h.0, all_insert P x es p h.1)
]

pub all_sorted : (P : Pair → Type 0) (es : List Pair) → AllByRecursion P es → AllByRecursion P (sorted_entries es)
all_sorted P [] h = tt
all_sorted P (e ∷ es) h = all_insert P e (sorted_entries es) h.0 (all_sorted P es h.1)

-- ---- what holds of some

pub any_insert : (p : Pair → Bool) (x : Pair) (es : List Pair) → list_any p (insert_entry x es) ≡ (p x || list_any p es)
any_insert p x [] = refl
any_insert p x (e ∷ es) = elim (entry_le x e) as (λ b. list_any p (cond b (x ∷ e ∷ es) (e ∷ insert_entry x es)) ≡ (p x || (p e || list_any p es))) [
  | true ↦ refl
  | false ↦ ap (λ b. p e || b) (any_insert p x es) ∙ or_swap (p e) (p x) (list_any p es)
]

pub any_sorted : (p : Pair → Bool) (es : List Pair) → list_any p (sorted_entries es) ≡ list_any p es
any_sorted p [] = refl
any_sorted p (e ∷ es) = any_insert p e (sorted_entries es) ∙ ap (λ b. p e || b) (any_sorted p es)

pub any_with : (p : Pair → Bool) (keys : List (List ℕ)) (bookmark : List ℕ) (es : List Pair)
    → list_any p (with_entries keys bookmark es) ≡ (list_any p (map (λ key. (key, bookmark)) keys) || list_any p es)
any_with p [] bookmark es = refl
any_with p (key ∷ keys) bookmark es =
    let here = p (key, bookmark) in
    let there = list_any p (map (λ k. (k, bookmark)) keys) in
    any_with p keys bookmark (insert_entry (key, bookmark) es)
    ∙ ap (λ b. there || b) (any_insert p (key, bookmark) es)
    ∙ or_moved there here (list_any p es)
  where
    or_moved : (a b c : Bool) → (a || (b || c)) ≡ ((b || a) || c)
    or_moved true true c = refl
    or_moved true false c = refl
    or_moved false true c = refl
    or_moved false false c = refl
