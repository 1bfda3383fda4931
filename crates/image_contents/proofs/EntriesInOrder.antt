-- Entries that were sorted and freed of doubles are those in order.
use Rattle.std.proofs.Common.{◌≡◌, ℕ, Bool, true, false, ◌&&◌, ◌||◌, cond, List, [], ◌∷◌, refl, sym, ap, ◌∙◌, true≢false}
use Rattle.std.specs.Prelude.{bytes_eq, if◌then◌else◌}
use Rattle.std.specs.List.{AllByRecursion, list_any, dedup, dedup_from}
use Rattle.std.specs.List.Sorted.{IsSorted, IsPermutation, IsStrictlySortedBy}
use Rattle.std.specs.declared.cmp.Ordering.{Ordering}
use Rattle.std.specs.declared.cmp.Ordering.TheVariants.{Less, Equal, Greater}
use Rattle.std.specs.Ordering.{is_eq, is_le, ordering_reverse, ordering_then}
use Rattle.std.specs.Cmp.{tied_back}
use Rattle.std.specs.Cmp.Lexicographic.{texts_ties}
use Rattle.std.specs.BTreeSet.{BTreeSet}
use Rattle.std.proofs.lemmas.List.Sorted.{list_any-IsPermutation}
use Rattle.std.proofs.lemmas.List.Kept.{IsStrictlySortedBy-dedup}
use Rattle.std.proofs.lemmas.Map.Lookups.{exact_bytes, btree_set_from_contains}
use Rattle.common_lemmas.proofs.Booleans.{by_test, or_swap}
use Rattle.cursor_nav.specs.Places.{Pair}
use Rattle.index_derive.specs.Entries.{entry_le, insert_entry}
use Rattle.index_tree.specs.Entries.{insert_entry_if_absent}
use Rattle.laws_versions.specs.KeptEntries.{has_entry}
use Rattle.image_contents.specs.EntryOrder.{pair_cmp, pair_eq, pair_total}
use Rattle.image_findings.specs.EntryFindings.{in_order}

abbrev Strict : List Pair → Type 0
Strict pairs = IsStrictlySortedBy pair_cmp pairs

-- ---- pairs that are not told apart

both : (r q : Ordering) → ordering_then r q ≡ Equal → (r ≡ Equal) × (q ≡ Equal)
both Less q e = absurd (true≢false (sym (ap is_eq e)))
both Equal q e = (refl, e)
both Greater q e = absurd (true≢false (sym (ap is_eq e)))

pub exact_pairs : (x y : Pair) → pair_cmp x y ≡ Equal → x ≡ y
exact_pairs x y e =
    let same = both _ _ e in
    λ i. (exact_bytes x.0 y.0 same.0 i, exact_bytes x.1 y.1 same.1 i)

then_same : (r q : Ordering) → (is_eq r && is_eq q) ≡ is_eq (ordering_then r q)
then_same Less q = refl
then_same Equal q = refl
then_same Greater q = refl

tests_are : (x e : Pair) → (bytes_eq x.0 e.0 && bytes_eq x.1 e.1) ≡ pair_eq x e
tests_are x e = (λ i. texts_ties x.0 e.0 i && texts_ties x.1 e.1 i) ∙ then_same _ _

abbrev holds : Pair → List Pair → Bool
holds e pairs = list_any (λ x. pair_eq x e) pairs

has_is : (e : Pair) (xs : List Pair) → has_entry e.0 e.1 xs ≡ holds e xs
has_is e [] = refl
has_is e (x ∷ xs) = λ i. tests_are x e i || has_is e xs i

-- ---- what stands in them

or_again : (a b : Bool) → (a || b) ≡ (a || (a || b))
or_again true b = refl
or_again false b = refl

or_right : (a b : Bool) → (a || b) ≡ false → b ≡ false
or_right true b e = absurd (true≢false e)
or_right false b e = e

any_held : (p : Pair → Bool) (e : Pair) (xs : List Pair) → holds e xs ≡ true → list_any p xs ≡ (p e || list_any p xs)
any_held p e [] h = absurd (true≢false (sym h))
any_held p e (x ∷ xs) h = elim (pair_cmp x e) as (λ r. pair_cmp x e ≡ r → (p x || list_any p xs) ≡ (p e || (p x || list_any p xs))) [
  | Less ↦ λ q. ap (λ b. p x || b) (any_held p e xs (sym (ap (λ r. is_eq r || holds e xs) q) ∙ h)) ∙ or_swap (p x) (p e) (list_any p xs)
  | Equal ↦ λ q. or_again (p x) (list_any p xs) ∙ ap (λ y. p y || (p x || list_any p xs)) (exact_pairs x e q)
  | Greater ↦ λ q. ap (λ b. p x || b) (any_held p e xs (sym (ap (λ r. is_eq r || holds e xs) q) ∙ h)) ∙ or_swap (p x) (p e) (list_any p xs)
] refl

any_insert : (p : Pair → Bool) (e : Pair) (xs : List Pair) → list_any p (insert_entry e xs) ≡ (p e || list_any p xs)
any_insert p e [] = refl
any_insert p e (x ∷ xs) = elim (entry_le e x) as (λ b. list_any p (cond b (e ∷ x ∷ xs) (x ∷ insert_entry e xs)) ≡ (p e || (p x || list_any p xs))) [
  | true ↦ refl
  | false ↦ ap (λ b. p x || b) (any_insert p e xs) ∙ or_swap (p x) (p e) (list_any p xs)
]

any_absent : (p : Pair → Bool) (e : Pair) (xs : List Pair) → list_any p (insert_entry_if_absent e xs) ≡ (p e || list_any p xs)
any_absent p e xs =
    by_test (has_entry e.0 e.1 xs)
    (λ t. ap (λ (b : Bool). list_any p (if b then xs else insert_entry e xs)) t ∙ any_held p e xs (sym (has_is e xs) ∙ t))
    (λ f. ap (λ (b : Bool). list_any p (if b then xs else insert_entry e xs)) f ∙ any_insert p e xs)

pub any_in_order : (p : Pair → Bool) (xs : List Pair) → list_any p (in_order xs) ≡ list_any p xs
any_in_order p [] = refl
any_in_order p (x ∷ xs) = any_absent p x (in_order xs) ∙ ap (λ b. p x || b) (any_in_order p xs)

any_dedup_from : (p : Pair → Bool) (x : Pair) (xs : List Pair) → list_any p (dedup_from pair_eq x xs) ≡ (p x || list_any p xs)
any_dedup_from p x [] = refl
any_dedup_from p x (y ∷ ys) = elim (pair_cmp y x) as (λ r. pair_cmp y x ≡ r → list_any p (cond (is_eq r) (dedup_from pair_eq x ys) (x ∷ dedup_from pair_eq y ys)) ≡ (p x || (p y || list_any p ys))) [
  | Less ↦ λ q. ap (λ b. p x || b) (any_dedup_from p y ys)
  | Equal ↦ λ q. any_dedup_from p x ys ∙ or_again (p x) (list_any p ys) ∙ ap (λ z. p x || (p z || list_any p ys)) (sym (exact_pairs y x q))
  | Greater ↦ λ q. ap (λ b. p x || b) (any_dedup_from p y ys)
] refl

any_dedup : (p : Pair → Bool) (xs : List Pair) → list_any p (dedup pair_eq xs) ≡ list_any p xs
any_dedup p [] = refl
any_dedup p (x ∷ xs) = any_dedup_from p x xs

-- ---- they rise

all_after : (e x : Pair) (xs : List Pair) → pair_cmp e x ≡ Less → AllByRecursion (λ y. pair_cmp x y ≡ Less) xs → AllByRecursion (λ y. pair_cmp e y ≡ Less) xs
all_after e x [] q h = tt
all_after e x (y ∷ ys) q h = (pair_total.trans e x y q h.0, all_after e x ys q h.1)

all_insert : (P : Pair → Type 0) (e : Pair) (xs : List Pair) → P e → AllByRecursion P xs → AllByRecursion P (insert_entry e xs)
all_insert P e [] p h = (p, tt)
all_insert P e (x ∷ xs) p h = elim (entry_le e x) as (λ b. AllByRecursion P (cond b (e ∷ x ∷ xs) (x ∷ insert_entry e xs))) [
  | true ↦ (p, h)
  | false ↦ (h.0, all_insert P e xs p h.1)
]

strict_insert : (e : Pair) (xs : List Pair) → holds e xs ≡ false → Strict xs → Strict (insert_entry e xs)
unfolding IsStrictlySortedBy
strict_insert e [] n h = (tt, tt)
strict_insert e (x ∷ xs) n h = elim (pair_cmp e x) as (λ r. pair_cmp e x ≡ r → Strict (cond (is_le r) (e ∷ x ∷ xs) (x ∷ insert_entry e xs))) [
  | Less ↦ λ q. ((q, all_after e x xs q h.0), h)
  | Equal ↦ λ q. absurd (true≢false (sym (ap (λ r. is_eq r || holds e xs) (tied_back pair_total e x q)) ∙ n))
  | Greater ↦ λ q. (all_insert (λ y. pair_cmp x y ≡ Less) e xs (pair_total.antisymm x e ∙ ap ordering_reverse q) h.0, strict_insert e xs (or_right (pair_eq x e) (holds e xs) n) h.1)
] refl

strict_absent : (e : Pair) (xs : List Pair) → Strict xs → Strict (insert_entry_if_absent e xs)
strict_absent e xs h =
    by_test (has_entry e.0 e.1 xs)
    (λ t. rw t h)
    (λ f. rw f (strict_insert e xs (sym (has_is e xs) ∙ f) h))

strict_none : Strict []
unfolding IsStrictlySortedBy
strict_none = tt

strict_in_order : (xs : List Pair) → Strict (in_order xs)
strict_in_order [] = strict_none
strict_in_order (x ∷ xs) = strict_absent x (in_order xs) (strict_in_order xs)

-- ---- there is one list of these entries

same_rising : (xs ys : List Pair) → Strict xs → Strict ys → ((p : Pair → Bool) → list_any p xs ≡ list_any p ys) → xs ≡ ys
same_rising xs ys a b h =
    let s : BTreeSet Pair = record { keys = xs } in
    let t : BTreeSet Pair = record { keys = ys } in
    btree_set_from_contains pair_total s t a b (λ q. h (λ k. is_eq (pair_cmp q k))) exact_pairs

pub sorted_is : (pairs sorted : List Pair) → IsPermutation pairs sorted → IsSorted pair_cmp sorted → dedup pair_eq sorted ≡ in_order pairs
sorted_is pairs sorted moved order =
    same_rising (dedup pair_eq sorted) (in_order pairs) (IsStrictlySortedBy-dedup pair_total (λ x y. refl) sorted order) (strict_in_order pairs)
    (λ p. any_dedup p sorted ∙ sym (list_any-IsPermutation p pairs sorted moved) ∙ sym (any_in_order p pairs))
