-- Sets of bookmarks: rising lists, told by what they have.
use Rattle.std.proofs.Common.{◌≡◌, ℕ, ◌<◌, Bool, true, false, ◌&&◌, ◌||◌, List, [], ◌∷◌, filter, length, refl, sym, ap, ◌∙◌, bytes_eq, arith}
use Rattle.std.specs.declared.cmp.Ordering.{Ordering}
use Rattle.std.specs.declared.cmp.Ordering.TheVariants.{Less, Equal, Greater}
use Rattle.std.specs.Ordering.{nat_cmp, match_ordering, ordering_reverse}
use Rattle.std.specs.Cmp.Lexicographic.{slice_cmp, nat_list_cmp_total, texts_ties}
use Rattle.std.specs.List.{AllByRecursion, list_any}
use Rattle.std.specs.List.Sorted.{IsStrictlySortedBy}
use Rattle.std.specs.BTreeMap.{is_at}
use Rattle.std.specs.BTreeSet.{BTreeSet, IsOrdered, insert_key}
use Rattle.std.proofs.lemmas.Map.Lookups.{btree_set_from_contains, exact_bytes}
use Rattle.std.proofs.lemmas.Map.Views.{any-filter_same}
use Rattle.common_lemmas.proofs.Booleans.{or_swap}
use Rattle.common_lemmas.proofs.Lists.{all_weaker}
use Rattle.common_lemmas.proofs.Numbers.{same_bytes}
use Rattle.index_intersect.specs.declared.ranges.IndexRange.{IndexRange}
use Rattle.index_intersect.specs.Intersection.{Indexes, bookmarks_in, intersection, lies_in, lies_in_all, rising}
use Rattle.index_intersect.specs.Walks.{has}

abbrev bookmark_cmp : List ℕ → List ℕ → Ordering
bookmark_cmp = slice_cmp nat_cmp

-- the test of sets and that of byte strings
same_test : (b : List ℕ) (xs : List (List ℕ)) → list_any (is_at (bookmark_cmp b)) xs ≡ list_any (bytes_eq b) xs
same_test b xs = λ i. list_any (λ x. sym (texts_ties b x) i) xs

-- ---- one bookmark more

or_again : (a b : Bool) → (a || b) ≡ (a || (a || b))
or_again true b = refl
or_again false b = refl

any_by : (p : List ℕ → Bool) (x y : List ℕ) (ys : List (List ℕ)) (r : Ordering) → bookmark_cmp x y ≡ r → list_any p (insert_key bookmark_cmp ys x) ≡ (p x || list_any p ys)
    → list_any p (match_ordering r (x ∷ y ∷ ys) (y ∷ ys) (y ∷ insert_key bookmark_cmp ys x)) ≡ (p x || (p y || list_any p ys))
any_by p x y ys Less e rest = refl
any_by p x y ys Equal e rest = or_again (p y) (list_any p ys) ∙ ap (λ z. p z || (p y || list_any p ys)) (sym (exact_bytes x y e))
any_by p x y ys Greater e rest = ap (λ t. p y || t) rest ∙ or_swap (p y) (p x) (list_any p ys)

any_inserted : (p : List ℕ → Bool) (x : List ℕ) (xs : List (List ℕ)) → list_any p (insert_key bookmark_cmp xs x) ≡ (p x || list_any p xs)
any_inserted p x [] = refl
any_inserted p x (y ∷ ys) = any_by p x y ys (bookmark_cmp x y) refl (any_inserted p x ys)

all_by : (P : List ℕ → Type 0) (x y : List ℕ) (ys : List (List ℕ)) (r : Ordering) → P x → AllByRecursion P (y ∷ ys) → AllByRecursion P (insert_key bookmark_cmp ys x)
    → AllByRecursion P (match_ordering r (x ∷ y ∷ ys) (y ∷ ys) (y ∷ insert_key bookmark_cmp ys x))
all_by P x y ys Less h k rest = (h, k)
all_by P x y ys Equal h k rest = k
all_by P x y ys Greater h k rest = (k.0, rest)

all_inserted : (P : List ℕ → Type 0) (x : List ℕ) (xs : List (List ℕ)) → P x → AllByRecursion P xs → AllByRecursion P (insert_key bookmark_cmp xs x)
all_inserted P x [] h k = (h, tt)
all_inserted P x (y ∷ ys) h k = all_by P x y ys (bookmark_cmp x y) h k (all_inserted P x ys h k.1)

sorted_by : (x y : List ℕ) (ys : List (List ℕ)) (r : Ordering) → bookmark_cmp x y ≡ r → IsStrictlySortedBy bookmark_cmp (y ∷ ys) → IsStrictlySortedBy bookmark_cmp (insert_key bookmark_cmp ys x)
    → IsStrictlySortedBy bookmark_cmp (match_ordering r (x ∷ y ∷ ys) (y ∷ ys) (y ∷ insert_key bookmark_cmp ys x))
unfolding IsStrictlySortedBy
sorted_by x y ys Less e h rest = ((e, all_weaker (λ z. bookmark_cmp y z ≡ Less) (λ z. bookmark_cmp x z ≡ Less) (λ z k. nat_list_cmp_total.trans x y z e k) ys h.0), h)
sorted_by x y ys Equal e h rest = h
sorted_by x y ys Greater e h rest = (all_inserted (λ z. bookmark_cmp y z ≡ Less) x ys (nat_list_cmp_total.antisymm y x ∙ ap ordering_reverse e) h.0, rest)

sorted_inserted : (x : List ℕ) (xs : List (List ℕ)) → IsStrictlySortedBy bookmark_cmp xs → IsStrictlySortedBy bookmark_cmp (insert_key bookmark_cmp xs x)
unfolding IsStrictlySortedBy
sorted_inserted x [] h = (tt, tt)
sorted_inserted x (y ∷ ys) h = sorted_by x y ys (bookmark_cmp x y) refl h (sorted_inserted x ys h.1)

-- ---- rising lists

any_rising : (p : List ℕ → Bool) (xs : List (List ℕ)) → list_any p (rising xs) ≡ list_any p xs
any_rising p [] = refl
any_rising p (x ∷ xs) = any_inserted p x (rising xs) ∙ ap (λ t. p x || t) (any_rising p xs)

sorted_rising : (xs : List (List ℕ)) → IsStrictlySortedBy bookmark_cmp (rising xs)
unfolding IsStrictlySortedBy
sorted_rising [] = tt
sorted_rising (x ∷ xs) = sorted_inserted x (rising xs) (sorted_rising xs)

pub intersection-rises : (indexes : Indexes) (ranges : List IndexRange) → IsStrictlySortedBy bookmark_cmp (intersection indexes ranges)
unfolding IsStrictlySortedBy
intersection-rises indexes [] = tt
intersection-rises indexes (range ∷ ranges) = sorted_rising (filter (λ bookmark. lies_in_all indexes bookmark ranges) (bookmarks_in indexes range))

and_swap : (a b : Bool) → (a && b) ≡ (b && a)
and_swap true true = refl
and_swap true false = refl
and_swap false true = refl
and_swap false false = refl

-- a set that has what lies in all ranges is their intersection
is_intersection : (indexes : Indexes) (range : IndexRange) (ranges : List IndexRange) (common : BTreeSet (List ℕ)) → IsOrdered bookmark_cmp common
    → ((b : List ℕ) → has common b ≡ lies_in_all indexes b (range ∷ ranges)) → common.keys ≡ intersection indexes (range ∷ ranges)
is_intersection indexes range ranges common ordered h =
    btree_set_from_contains nat_list_cmp_total common made ordered (sorted_rising lying) (λ b. h b ∙ sym (has_made b)) exact_bytes
  where
    others : List ℕ → Bool
    others b = lies_in_all indexes b ranges

    lying : List (List ℕ)
    lying = filter others (bookmarks_in indexes range)

    made : BTreeSet (List ℕ)
    made = record { keys = rising lying }

    has_made : (b : List ℕ) → has made b ≡ lies_in_all indexes b (range ∷ ranges)
    has_made b =
        same_test b (rising lying)
        ∙ any_rising (bytes_eq b) lying
        ∙ any-filter_same (bytes_eq b) others (others b) (λ x e. ap others (sym (same_bytes b x e))) (bookmarks_in indexes range)
        ∙ and_swap (others b) (lies_in indexes b range)

pub is_common : (indexes : Indexes) (ranges : List IndexRange) (common : BTreeSet (List ℕ)) → 0 < length ranges → IsOrdered bookmark_cmp common
    → ((b : List ℕ) → has common b ≡ lies_in_all indexes b ranges) → common.keys ≡ intersection indexes ranges
is_common indexes [] common n ordered h = absurd (omega (arith, n))
is_common indexes (range ∷ ranges) common n ordered h = is_intersection indexes range ranges common ordered h

pub no_range : (indexes : Indexes) (ranges : List IndexRange) → length ranges ≡ 0 → [] ≡ intersection indexes ranges
no_range indexes [] e = refl
no_range indexes (range ∷ ranges) e = absurd (omega (arith, e))
