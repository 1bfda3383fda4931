-- Entries that are in their places are in their places without some of them too.
use Rattle.std.proofs.Common.{◌≡◌, ℕ, Bool, true, false, ◌&&◌, cond, List, [], ◌∷◌, ◌++◌, filter, find, Some, refl, sym, ap, ◌∙◌, true≢false}
use Rattle.std.specs.List.{AllByRecursion}
use Rattle.std.specs.declared.cmp.Ordering.{Ordering}
use Rattle.std.specs.declared.cmp.Ordering.TheVariants.{Less, Equal, Greater}
use Rattle.std.specs.Ordering.{is_le, is_gt}
use Rattle.common_lemmas.proofs.Lists.{all_filter}
use Rattle.index_derive.specs.Entries.{insert_entry, sorted_entries, entry_le}
use Rattle.cursor_nav.specs.Places.{Pair}
use Rattle.laws_versions.specs.KeptEntries.{with_entries}
use Rattle.laws_versions.proofs.IndexLemmas.PairOrder.{pair_cmp}
use Rattle.laws_versions.proofs.IndexLemmas.InOrder.{IsNotAbove, AreInOrder, in_order_sorted, insert_first, not_above_all}

-- ---- any list

pub filter_alike : {X : Type 0} (p q : X → Bool) (xs : List X) → AllByRecursion (λ x. p x ≡ q x) xs → filter p xs ≡ filter q xs
filter_alike p q [] h = refl
filter_alike p q (x ∷ xs) h = λ i. cond (h.0 i) (x ∷ filter_alike p q xs h.1 i) (filter_alike p q xs h.1 i)

pub filter_twice : {X : Type 0} (p q : X → Bool) (xs : List X) → filter p (filter q xs) ≡ filter (λ x. q x && p x) xs
filter_twice p q [] = refl
filter_twice p q (x ∷ xs) = elim (q x) as (λ b. filter p (cond b (x ∷ filter q xs) (filter q xs)) ≡ cond (b && p x) (x ∷ filter (λ y. q y && p y) xs) (filter (λ y. q y && p y) xs)) [
  | true ↦ ap (λ r. cond (p x) (x ∷ r) r) (filter_twice p q xs)
  | false ↦ filter_twice p q xs
]

-- the first that passes is the first of those that do
pub find-filter : {X : Type 0} (p : X → Bool) (xs : List X) → find p xs ≡ find (λ _. true) (filter p xs)
find-filter p [] = refl
find-filter p (x ∷ xs) = elim (p x) as (λ b. cond b (Some x) (find p xs) ≡ find (λ _. true) (cond b (x ∷ filter p xs) (filter p xs))) [
  | true ↦ refl
  | false ↦ find-filter p xs
]

pub filter-append : {X : Type 0} (p : X → Bool) (xs ys : List X) → filter p (xs ++ ys) ≡ filter p xs ++ filter p ys
filter-append p [] ys = refl
filter-append p (x ∷ xs) ys = elim (p x) as (λ b. cond b (x ∷ filter p (xs ++ ys)) (filter p (xs ++ ys)) ≡ cond b (x ∷ filter p xs) (filter p xs) ++ filter p ys) [
  | true ↦ ap (λ r. x ∷ r) (filter-append p xs ys)
  | false ↦ filter-append p xs ys
]

-- ---- among entries in their places

not_from_le : (r : Ordering) → is_le r ≡ true → is_gt r ≡ false
not_from_le Less h = refl
not_from_le Equal h = refl
not_from_le Greater h = absurd (true≢false (sym h))

not_above_from : (x e : Pair) (es : List Pair) → entry_le x e ≡ true → AllByRecursion (IsNotAbove e) es → AllByRecursion (IsNotAbove x) (e ∷ es)
not_above_from x e es h k = let first = not_from_le (pair_cmp x e) h in (first, not_above_all x e es first k)

behind : (b : Bool) (x e : Pair) (es : List Pair) → entry_le x e ≡ false → e ∷ cond b (insert_entry x es) es ≡ cond b (insert_entry x (e ∷ es)) (e ∷ es)
behind true x e es h = ap (λ t. cond t (x ∷ e ∷ es) (e ∷ insert_entry x es)) (sym h)
behind false x e es h = refl

filter_insert : (p : Pair → Bool) (x : Pair) (es : List Pair) → AreInOrder es → filter p (insert_entry x es) ≡ cond (p x) (insert_entry x (filter p es)) (filter p es)
filter_insert p x [] h = refl
filter_insert p x (e ∷ es) h =
    let left = filter p es in
    elim (entry_le x e) as (λ t. entry_le x e ≡ t → filter p (cond t (x ∷ e ∷ es) (e ∷ insert_entry x es)) ≡ cond (p x) (insert_entry x (filter p (e ∷ es))) (filter p (e ∷ es))) [
      | true ↦ λ t.
          let lowest = all_filter (IsNotAbove x) p (e ∷ es) (not_above_from x e es t h.0) in
          ap (λ kept. cond (p x) kept (filter p (e ∷ es))) (sym (insert_first x (filter p (e ∷ es)) lowest))
      | false ↦ λ t.
          let rest = filter_insert p x es h.1 in
          elim (p e) as (λ b. cond b (e ∷ filter p (insert_entry x es)) (filter p (insert_entry x es)) ≡ cond (p x) (insert_entry x (cond b (e ∷ left) left)) (cond b (e ∷ left) left)) [
            | true ↦ ap (λ kept. e ∷ kept) rest ∙ behind (p x) x e left t
            | false ↦ rest
          ]
    ] refl

pub sorted-filter : (p : Pair → Bool) (es : List Pair) → sorted_entries (filter p es) ≡ filter p (sorted_entries es)
sorted-filter p [] = refl
sorted-filter p (e ∷ es) =
    kept (p e)
    ∙ ap (λ left. cond (p e) (insert_entry e left) left) (sorted-filter p es)
    ∙ sym (filter_insert p e (sorted_entries es) (in_order_sorted es))
  where
    kept : (b : Bool) → sorted_entries (cond b (e ∷ filter p es) (filter p es)) ≡ cond b (insert_entry e (sorted_entries (filter p es))) (sorted_entries (filter p es))
    kept true = refl
    kept false = refl

-- entries that are not kept leave no trace
filter_dropped : (p : Pair → Bool) (x : Pair) (es : List Pair) → p x ≡ false → filter p (insert_entry x es) ≡ filter p es
filter_dropped p x [] h = ap (λ b. cond b (x ∷ []) []) h
filter_dropped p x (e ∷ es) h = elim (entry_le x e) as (λ b. filter p (cond b (x ∷ e ∷ es) (e ∷ insert_entry x es)) ≡ filter p (e ∷ es)) [
  | true ↦ ap (λ b. cond b (x ∷ filter p (e ∷ es)) (filter p (e ∷ es))) h
  | false ↦ ap (λ r. cond (p e) (e ∷ r) r) (filter_dropped p x es h)
]

pub filter_with : (p : Pair → Bool) (keys : List (List ℕ)) (bookmark : List ℕ) (es : List Pair) → AllByRecursion (λ key. p (key, bookmark) ≡ false) keys → filter p (with_entries keys bookmark es) ≡ filter p es
filter_with p [] bookmark es h = refl
filter_with p (key ∷ keys) bookmark es h = filter_with p keys bookmark (insert_entry (key, bookmark) es) h.1 ∙ filter_dropped p (key, bookmark) es h.0
