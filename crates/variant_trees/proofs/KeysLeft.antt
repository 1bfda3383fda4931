-- Keys of a record that goes, but for those that its variants have.
use Rattle.std.proofs.Common.{◌≡◌, ℕ, zero, suc, ◌+◌, ◌<◌, ◌≤◌, Bool, true, false, not, ◌&&◌, ◌||◌, List, [], ◌∷◌, ◌++◌, length, get_or, Option, Some, inl, inr, map, take, option_map, refl, sym, ap, subst, ◌∙◌, arith}
use Rattle.std.specs.Prelude.{◌==◌, bytes_eq, slice_get}
use Rattle.std.specs.List.{HoldsAt, list_any}
use Rattle.std.specs.List.Sorted.{IsNonDecreasingBy, IsPartitionPoint, IsSortedBy, IsStrictlySortedBy}
use Rattle.std.specs.declared.cmp.Ordering.{Ordering}
use Rattle.std.specs.declared.cmp.Ordering.TheVariants.{Less, Equal, Greater}
use Rattle.std.specs.Ordering.{nat_cmp, is_eq, is_lt, ordering_index}
use Rattle.std.specs.Cmp.Lexicographic.{slice_cmp, nat_list_cmp_total}
use Rattle.std.proofs.lemmas.Bool.{cases_lt, eqb-true, false_from_ne_true}
use Rattle.std.proofs.lemmas.List.Folds.{list_any-append, list_any_more}
use Rattle.std.proofs.lemmas.List.Sorted.{searchable_from_sorted}
use Rattle.std.proofs.lemmas.Map.Text.{is_eq-slice_cmp}
use Rattle.common_lemmas.proofs.Booleans.{and_false, and_left, and_right, impossible}
use Rattle.common_lemmas.proofs.Numbers.{bytes_turned, same_bytes}
use Rattle.common_lemmas.proofs.Orders.{is_equal, is_less, less-asymmetric}
use Rattle.column_set.specs.RecordValues.{RecordFields}
use Rattle.version_store.specs.HeldChanges.{HeldChange, is_standing_rewrite, last_place}
use Rattle.stored_variants.specs.RecordRows.{TableValues, record_of, some_before}
use Rattle.variant_trees.specs.GoneKeys.{held_from}
use Rattle.variant_trees.proofs.RisingKeys.{Rise}
use Rattle.variant_trees.proofs.StandingChanges.{WalksBack, walk_begins, walk_finds, walk_goes_on}

-- ---- a key among others that rise

one_less : (keys : List (List ℕ)) → Rise keys → (k : ℕ) (d : List ℕ) → k + 1 < length keys → slice_cmp nat_cmp (get_or keys k d) (get_or keys (k + 1) d) ≡ Less
unfolding IsStrictlySortedBy
one_less [] rise k d low = absurd (omega arith)
one_less (x ∷ []) rise k d low = absurd (omega arith)
one_less (x ∷ y ∷ keys) rise zero d low = rise.0.0
one_less (x ∷ y ∷ keys) rise (suc k) d low = subst (λ n. slice_cmp nat_cmp (get_or (y ∷ keys) k d) (get_or (x ∷ y ∷ keys) n d) ≡ Less) (further k) (one_less (y ∷ keys) rise.1 k d (omega arith))
  where
    further : (k : ℕ) → suc (k + 1) ≡ suc k + 1
    further k = omega arith

sorted : (keys : List (List ℕ)) → Rise keys → IsSortedBy (λ a b. is_lt (slice_cmp nat_cmp a b)) keys
sorted keys rise k d from low =
    false_from_ne_true (is_lt (slice_cmp nat_cmp (get_or keys (k + 1) d) (get_or keys k d)))
    (λ h. less-asymmetric (get_or keys k d) (get_or keys (k + 1) d) (one_less keys rise k d low) (is_less (slice_cmp nat_cmp (get_or keys (k + 1) d) (get_or keys k d)) h))

pub is_found : (keys : List (List ℕ)) (key : List ℕ) (i : ℕ) → i < length keys → HoldsAt (λ y. slice_cmp nat_cmp y key ≡ Equal) keys i → list_any (bytes_eq key) keys ≡ true
is_found [] key i low at = absurd (omega arith)
is_found (x ∷ keys) key zero low at = ap (λ b. b || list_any (bytes_eq key) keys) (bytes_turned key x ∙ sym (is_eq-slice_cmp x key) ∙ ap is_eq (at key))
is_found (x ∷ keys) key (suc i) low at = by (bytes_eq key x) (is_found keys key i (omega arith) (λ d. at d))
  where
    by : (b : Bool) → list_any (bytes_eq key) keys ≡ true → (b || list_any (bytes_eq key) keys) ≡ true
    by true rest = refl
    by false rest = rest

none_equal : (keys : List (List ℕ)) (key : List ℕ) → ((k : ℕ) (d : List ℕ) → k < length keys → ¬ (slice_cmp nat_cmp (get_or keys k d) key ≡ Equal)) → list_any (bytes_eq key) keys ≡ false
none_equal [] key apart = refl
none_equal (x ∷ keys) key apart = by (bytes_eq key x) refl (none_equal keys key (λ k d low. apart (suc k) d (omega arith)))
  where
    by : (b : Bool) → bytes_eq key x ≡ b → list_any (bytes_eq key) keys ≡ false → (b || list_any (bytes_eq key) keys) ≡ false
    by true e rest = absurd (apart zero x (omega arith) (is_equal (slice_cmp nat_cmp x key) (is_eq-slice_cmp x key ∙ bytes_turned x key ∙ e)))
    by false e rest = rest

pub is_absent : (keys : List (List ℕ)) (key : List ℕ) (i : ℕ) → Rise keys
    → (IsNonDecreasingBy (λ y. ordering_index (slice_cmp nat_cmp y key)) keys → IsPartitionPoint (λ y. slice_cmp nat_cmp y key ≡ Less) (λ y. slice_cmp nat_cmp y key ≡ Greater) keys i) → list_any (bytes_eq key) keys ≡ false
is_absent keys key i rise parts = none_equal keys key apart
  where
    parted : IsPartitionPoint (λ y. slice_cmp nat_cmp y key ≡ Less) (λ y. slice_cmp nat_cmp y key ≡ Greater) keys i
    parted = parts (searchable_from_sorted nat_list_cmp_total (λ y. y) keys key (sorted keys rise))

    not_less : (o : Ordering) → o ≡ Less → ¬ (o ≡ Equal)
    not_less Less e h = cc
    not_less Equal e h = cc
    not_less Greater e h = cc

    not_greater : (o : Ordering) → o ≡ Greater → ¬ (o ≡ Equal)
    not_greater Less e h = cc
    not_greater Equal e h = cc
    not_greater Greater e h = cc

    apart : (k : ℕ) (d : List ℕ) → k < length keys → ¬ (slice_cmp nat_cmp (get_or keys k d) key ≡ Equal)
    apart k d low =
        elim (cases_lt k i) [
          | inl before ↦ not_less (slice_cmp nat_cmp (get_or keys k d) key) (parted.0 k d (omega arith) before)
          | inr from ↦ not_greater (slice_cmp nat_cmp (get_or keys k d) key) (parted.1 k d from low)
        ]

-- ---- keys that are not among others

abbrev pub LeftOf : List (List ℕ) → List (List ℕ) → List (List ℕ) → Type 0
LeftOf keys others left = (key : List ℕ) → list_any (bytes_eq key) left ≡ (list_any (bytes_eq key) keys && not (list_any (bytes_eq key) others))

pub none_left : (keys others left : List (List ℕ)) → left ≡ [] → LeftOf (take 0 keys) others left
none_left [] others left none key = ap (list_any (bytes_eq key)) none
none_left (x ∷ keys) others left none key = ap (list_any (bytes_eq key)) none

pub one_more : (keys : List (List ℕ)) (n : ℕ) (key : List ℕ) → n < length keys → key ≡ get_or keys n key → (k : List ℕ) → list_any (bytes_eq k) (take (n + 1) keys) ≡ (list_any (bytes_eq k) (take n keys) || bytes_eq k key)
one_more keys n key low is k = list_any_more (bytes_eq k) keys n key low ∙ ap (λ x. list_any (bytes_eq k) (take n keys) || bytes_eq k x) (sym is)

pub is_left_out : (keys others left : List (List ℕ)) (n : ℕ) (key : List ℕ) → n < length keys → key ≡ get_or keys n key → list_any (bytes_eq key) others ≡ true → LeftOf (take n keys) others left → LeftOf (take (n + 1) keys) others left
is_left_out keys others left n key low is among so_far k =
    so_far k
    ∙ dropped (list_any (bytes_eq k) (take n keys)) (list_any (bytes_eq k) others) (bytes_eq k key) (λ e. ap (λ x. list_any (bytes_eq x) others) (same_bytes k key e) ∙ among)
    ∙ ap (λ b. b && not (list_any (bytes_eq k) others)) (sym (one_more keys n key low is k))
  where
    dropped : (a o b : Bool) → (b ≡ true → o ≡ true) → (a && not o) ≡ ((a || b) && not o)
    dropped true o b h = refl
    dropped false o true h = sym (ap not (h refl))
    dropped false o false h = refl

pub is_kept : (keys others left more : List (List ℕ)) (n : ℕ) (key : List ℕ) → n < length keys → key ≡ get_or keys n key → list_any (bytes_eq key) others ≡ false → more ≡ left ++ key ∷ [] → LeftOf (take n keys) others left → LeftOf (take (n + 1) keys) others more
is_kept keys others left more n key low is apart pushed so_far k =
    ap (list_any (bytes_eq k)) pushed ∙ list_any-append (bytes_eq k) left (key ∷ []) ∙ ap (λ b. b || (bytes_eq k key || false)) (so_far k)
    ∙ with_it (list_any (bytes_eq k) (take n keys)) (list_any (bytes_eq k) others) (bytes_eq k key) (λ e. ap (λ x. list_any (bytes_eq x) others) (same_bytes k key e) ∙ apart)
    ∙ ap (λ b. b && not (list_any (bytes_eq k) others)) (sym (one_more keys n key low is k))
  where
    with_it : (a o b : Bool) → (b ≡ true → o ≡ false) → ((a && not o) || (b || false)) ≡ ((a || b) && not o)
    with_it true true true h = impossible (sym (h refl))
    with_it true true false h = refl
    with_it true false b h = refl
    with_it false o true h = sym (ap not (h refl))
    with_it false o false h = refl

pub all_left : (keys others left : List (List ℕ)) (n : ℕ) → take n keys ≡ keys → LeftOf (take n keys) others left → LeftOf keys others left
all_left keys others left n all so_far key = so_far key ∙ ap (λ xs. list_any (bytes_eq key) xs && not (list_any (bytes_eq key) others)) all

-- a test that fails leaves a key
pub stays : (b c : Bool) → c ≡ false → b ≡ (b && not c)
stays b c none = sym (ap (λ d. b && not d) none ∙ same b)
  where
    same : (b : Bool) → (b && true) ≡ b
    same true = refl
    same false = refl

pub neither : (a b c : Bool) → ((a && not b) && not c) ≡ (a && not (b || c))
neither false b c = refl
neither true true c = refl
neither true false c = refl

pub nothing_in : (keys : List (List ℕ)) → (length keys == 0) ≡ true → keys ≡ []
nothing_in [] e = refl
nothing_in (key ∷ keys) e =
    let none : length (key ∷ keys) ≡ 0 = eqb-true (length (key ∷ keys)) 0 e in
    absurd (omega (arith, none))

-- ---- keys that no record before a held change has

-- What a walk back knows of the keys that are left, and of those that it found.
pub record KeysLeft (longs : TableValues) (test : List ℕ → Option RecordFields → Bool) (table : ℕ) (bookmark : List ℕ) (from : ℕ) (held : List HeldChange) (keys left : List (List ℕ)) (at : Option ℕ) : Type 0 where
  pub walk : WalksBack longs (λ before. false) table bookmark from held at
  pub told : (key : List ℕ) → list_any (bytes_eq key) left ≡ true → (list_any (bytes_eq key) keys ≡ true) × WalksBack longs (test key) table bookmark from held at
  pub found : (key : List ℕ) → list_any (bytes_eq key) left ≡ false → (list_any (bytes_eq key) keys && not (some_before (test key) table bookmark (held_from longs from held))) ≡ false

pub left_begins : (longs : TableValues) (test : List ℕ → Option RecordFields → Bool) (table : ℕ) (bookmark : List ℕ) (from : ℕ) (held : List HeldChange) (keys : List (List ℕ)) (at : Option ℕ) → at ≡ last_place (is_standing_rewrite table bookmark) held
    → KeysLeft longs test table bookmark from held keys keys at
left_begins longs test table bookmark from held keys at is = record {
  walk = walk_begins longs (λ before. false) table bookmark from held at is;
  told = λ key there. (there, walk_begins longs (test key) table bookmark from held at is);
  found = λ key none. ap (λ b. b && not (some_before (test key) table bookmark (held_from longs from held))) none;
}

pub left_at : (longs : TableValues) (test : List ℕ → Option RecordFields → Bool) (table : ℕ) (bookmark : List ℕ) (from : ℕ) (held : List HeldChange) (keys left : List (List ℕ)) (at : Option ℕ) (place : ℕ) → KeysLeft longs test table bookmark from held keys left at → at ≡ Some place
    → KeysLeft longs test table bookmark from held keys left (Some place)
left_at longs test table bookmark from held keys left at place so_far is = subst (KeysLeft longs test table bookmark from held keys left) is so_far

pub left_goes_on : (longs : TableValues) (test : List ℕ → Option RecordFields → Bool) (table : ℕ) (bookmark : List ℕ) (from : ℕ) (held : List HeldChange) (keys left fewer : List (List ℕ)) (place : ℕ) (row : Option (List ℕ)) (older : Option ℕ)
    → KeysLeft longs test table bookmark from held keys left (Some place) → from ≤ place → slice_get (map (λ (h : HeldChange). h.before) held) place ≡ Some row
    → ((key : List ℕ) → list_any (bytes_eq key) fewer ≡ (list_any (bytes_eq key) left && not (test key (option_map (record_of (longs table)) row))))
    → ((h : HeldChange) → slice_get held place ≡ Some h → older ≡ last_place (is_standing_rewrite h.table h.bookmark) (take place held))
    → KeysLeft longs test table bookmark from held keys fewer older
left_goes_on longs test table bookmark from held keys left fewer place row older so_far high is less next = record {
  walk = walk_goes_on longs (λ before. false) table bookmark from held place row older so_far.walk high is refl next;
  told = λ key there.
      let both : (list_any (bytes_eq key) left && not (has key)) ≡ true = sym (less key) ∙ there in
      let was : (list_any (bytes_eq key) keys ≡ true) × WalksBack longs (test key) table bookmark from held (Some place) = so_far.told key (and_left (list_any (bytes_eq key) left) (not (has key)) both) in
      (was.0, walk_goes_on longs (test key) table bookmark from held place row older was.1 high is (not_so (has key) (and_right (list_any (bytes_eq key) left) (not (has key)) both)) next);
  found = λ key none. by key none (list_any (bytes_eq key) left) refl (has key) refl;
}
  where
    has : List ℕ → Bool
    has key = test key (option_map (record_of (longs table)) row)

    not_so : (b : Bool) → not b ≡ true → b ≡ false
    not_so true e = impossible e
    not_so false e = refl

    by : (key : List ℕ) → list_any (bytes_eq key) fewer ≡ false → (b : Bool) → list_any (bytes_eq key) left ≡ b → (c : Bool) → has key ≡ c
        → (list_any (bytes_eq key) keys && not (some_before (test key) table bookmark (held_from longs from held))) ≡ false
    by key none false e c f = so_far.found key e
    by key none true e true f =
        ap (λ b. list_any (bytes_eq key) keys && not b) (walk_finds longs (test key) table bookmark from held place row (so_far.told key e).1 high is f)
        ∙ and_false (list_any (bytes_eq key) keys)
    by key none true e false f = impossible (sym none ∙ less key ∙ (λ i. e i && not (f i)))

-- where nothing is found any more the keys that are left are those that no record has
pub left_ends : (longs : TableValues) (test : List ℕ → Option RecordFields → Bool) (table : ℕ) (bookmark : List ℕ) (from : ℕ) (held : List HeldChange) (keys left : List (List ℕ)) (at : Option ℕ) → KeysLeft longs test table bookmark from held keys left at
    → ((key : List ℕ) → WalksBack longs (test key) table bookmark from held at → some_before (test key) table bookmark (held_from longs from held) ≡ false)
    → (key : List ℕ) → list_any (bytes_eq key) left ≡ (list_any (bytes_eq key) keys && not (some_before (test key) table bookmark (held_from longs from held)))
left_ends longs test table bookmark from held keys left at so_far ends key = by (list_any (bytes_eq key) left) refl
  where
    by : (b : Bool) → list_any (bytes_eq key) left ≡ b → b ≡ (list_any (bytes_eq key) keys && not (some_before (test key) table bookmark (held_from longs from held)))
    by true e = sym (λ i. (so_far.told key e).0 i && not (ends key (so_far.told key e).1 i))
    by false e = sym (so_far.found key e)

-- and so they are where none is left
pub left_empty : (longs : TableValues) (test : List ℕ → Option RecordFields → Bool) (table : ℕ) (bookmark : List ℕ) (from : ℕ) (held : List HeldChange) (keys left : List (List ℕ)) (at : Option ℕ) → KeysLeft longs test table bookmark from held keys left at → left ≡ []
    → (key : List ℕ) → list_any (bytes_eq key) left ≡ (list_any (bytes_eq key) keys && not (some_before (test key) table bookmark (held_from longs from held)))
left_empty longs test table bookmark from held keys left at so_far none key = ap (list_any (bytes_eq key)) none ∙ sym (so_far.found key (ap (list_any (bytes_eq key)) none))
