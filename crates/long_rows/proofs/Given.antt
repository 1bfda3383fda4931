-- The values that the row of a put takes.
use Rattle.std.proofs.Common.{◌≡◌, ◌≢◌, ◌⊎◌, inl, inr, ℕ, suc, ◌+◌, ◌<◌, ◌≤◌, ◌^◌, Bool, true, false, ◌||◌, Option, Some, None, List, [], ◌∷◌, length, map, refl, sym, ap, subst, ◌∙◌, arith}
use Rattle.std.specs.Prelude.{bytes_eq, nat_le}
use Rattle.std.specs.List.{AllByRecursion, list_all, list_any}
use Rattle.std.proofs.lemmas.Bool.{leb-true, ltb-true, or_from}
use Rattle.common_lemmas.proofs.Booleans.{and_left, and_right, by_test}
use Rattle.common_lemmas.proofs.Numbers.{same_bytes}
use Rattle.column_set.specs.declared.rows.RowValue.{RowValue}
use Rattle.column_set.specs.declared.rows.RowValue.TheVariants.{Here, Apart}
use Rattle.long_value.specs.Values.{LongValue, Values, value_of}
use Rattle.long_value.specs.Stores.{id_bytes}
use Rattle.long_value.specs.declared.values.LongId.{LongId}
use Rattle.long_rows.specs.RowReferences.{identifier, named_by, with_identifier}
use Rattle.long_rows.proofs.Identifiers.{numbers_told}
use Rattle.long_rows.specs.KeptRows.{Found, MayTake, Takes, given_by, is_long, with_given}
use Rattle.long_rows.proofs.Kept.{AreKept, IsKept, IsNew, IsShared}

-- what the law of identifiers says
abbrev pub IdLaw : Type 0
IdLaw = (a b : LongId) → a.entry < 2 ^ 64 → b.entry < 2 ^ 64 → a.place < 2 ^ 32 → b.place < 2 ^ 32 → id_bytes a ≡ id_bytes b → (a.entry ≡ b.entry) × (a.place ≡ b.place)

pub id_law : IdLaw
id_law a b = numbers_told a.entry b.entry a.place b.place

-- No value has the number of the put's entry.
pub record IsFresh (found : Found) : Type 0 where
  pub number : found.number < 2 ^ 64
  pub absent : (place : ℕ) → place < 2 ^ 32 → value_of (identifier found.number place) found.values ≡ None

pub other_place : IdLaw → (n p q : ℕ) → n < 2 ^ 64 → p < 2 ^ 32 → q < 2 ^ 32 → p ≢ q → identifier n p ≢ identifier n q
other_place law n p q n_lt p_lt q_lt apart e = apart ((law (record { entry = n; place = p }) (record { entry = n; place = q }) n_lt n_lt p_lt q_lt e).1)

pub bytes_differ : (a b : List ℕ) → a ≢ b → bytes_eq a b ≡ false
bytes_differ a b n = by_test (bytes_eq a b) (λ t. absurd (n (same_bytes a b t))) (λ f. f)

pub differ_by_value : (values : Values) (a b : List ℕ) (value : LongValue) → value_of a values ≡ None → value_of b values ≡ Some value → a ≢ b
differ_by_value values a b value none some e = not_both (value_of b values) value (ap (λ (i : List ℕ). value_of i values) (sym e) ∙ none) some
  where
    not_both : (o : Option LongValue) (value : LongValue) → o ≡ None → o ≡ Some value → ⊥
    not_both o value none some = absurd cc

abbrev pub among : List ℕ → List (List ℕ × List ℕ) → Bool
among id given = list_any (λ (one : List ℕ × List ℕ). bytes_eq id one.0) given

pub there : (id bytes : List ℕ) (given : List (List ℕ × List ℕ)) → among id given ≡ true → with_given id bytes given ≡ given
there id bytes given t = rw t refl

pub added : (id bytes : List ℕ) (given : List (List ℕ × List ℕ)) → among id given ≡ false → with_given id bytes given ≡ (id, bytes) ∷ given
added id bytes given f = rw f refl

-- ---- a new value is not among those that come later

pub not_with : (k id bytes : List ℕ) (given : List (List ℕ × List ℕ)) → bytes_eq k id ≡ false → among k given ≡ false → among k (with_given id bytes given) ≡ false
not_with k id bytes given apart rest =
    by_test (among id given)
    (λ t. ap (among k) (there id bytes given t) ∙ rest)
    (λ f. ap (among k) (added id bytes given f) ∙ or_from (bytes_eq k id) (among k given) apart rest)

head_differs : IdLaw → (found : Found) → IsFresh found → (at behind entry own place : ℕ) (bytes : List ℕ) → (IsShared found.values found.rows entry own bytes × (behind ≡ at)) ⊎ IsNew found at behind entry own → place < at → at < 2 ^ 32
    → bytes_eq (identifier found.number place) (identifier entry own) ≡ false
head_differs law found fresh at behind entry own place bytes (inl old) lt small =
    bytes_differ (identifier found.number place) (identifier entry own) (differ_by_value found.values (identifier found.number place) (identifier entry own) old.0.value (fresh.absent place (omega (arith, lt, small))) old.0.there)
head_differs law found fresh at behind entry own place bytes (inr new) lt small =
    let number = new.number in
    let first = new.first in
    let apart : place ≢ own = λ e. omega (arith, lt, first, e) in
    subst (λ (n : ℕ). bytes_eq (identifier found.number place) (identifier n own) ≡ false) (sym number)
    (bytes_differ (identifier found.number place) (identifier found.number own) (other_place law found.number place own fresh.number (omega (arith, lt, small)) (omega (arith, first, small)) apart))

pub next_bound : (found : Found) (at behind : ℕ) (x : RowValue) (bytes : List ℕ) → IsKept found at x bytes behind → (at ≤ behind) × (behind ≤ suc at)
next_bound found at behind (Here own) bytes is = let e = is.2 in (omega (arith, e), omega (arith, e))
next_bound found at behind (Apart entry place size) bytes is = of_either is.2
  where
    of_either : (IsShared found.values found.rows entry place bytes × (behind ≡ at)) ⊎ IsNew found at behind entry place → (at ≤ behind) × (behind ≤ suc at)
    of_either (inl old) = let e = old.1 in (omega (arith, e), omega (arith, e))
    of_either (inr new) = let e = new.one_more in (omega (arith, e), omega (arith, e))

pub not_given : IdLaw → (found : Found) → IsFresh found → (at : ℕ) (xs : List (ℕ × RowValue)) (vs : List (ℕ × List ℕ)) → AreKept found at xs vs → (place : ℕ) → place < at → at + length xs < 2 ^ 32
    → among (identifier found.number place) (given_by xs vs) ≡ false
not_given law found fresh at [] [] kept place lt small = refl
not_given law found fresh at ((column, Here own) ∷ xs) (v ∷ vs) kept place lt small =
    let bound = next_bound found at kept.0 (Here own) v.1 kept.1.1 in
    not_given law found fresh kept.0 xs vs kept.1.2 place (omega (arith, lt, bound)) (omega (arith, small, bound))
not_given law found fresh at ((column, Apart entry own size) ∷ xs) (v ∷ vs) kept place lt small =
    let bound = next_bound found at kept.0 (Apart entry own size) v.1 kept.1.1 in
    not_with (identifier found.number place) (identifier entry own) v.1 (given_by xs vs)
    (head_differs law found fresh at kept.0 entry own place v.1 kept.1.1.2 lt (omega (arith, small)))
    (not_given law found fresh kept.0 xs vs kept.1.2 place (omega (arith, lt, bound)) (omega (arith, small, bound)))
not_given law found fresh at [] (v ∷ vs) kept place lt small = absurd kept
not_given law found fresh at ((column, Here own) ∷ xs) [] kept place lt small = absurd kept
not_given law found fresh at ((column, Apart entry own size) ∷ xs) [] kept place lt small = absurd kept

-- ---- names

pub any_named : (id : List ℕ) (given : List (List ℕ × List ℕ)) → among id given ≡ list_any (bytes_eq id) (map (λ one. one.0) given)
any_named id [] = refl
any_named id (one ∷ given) = ap (λ (b : Bool). bytes_eq id one.0 || b) (any_named id given)

pub named_with : (id bytes : List ℕ) (given : List (List ℕ × List ℕ)) (ids : List (List ℕ)) → map (λ one. one.0) given ≡ ids → map (λ one. one.0) (with_given id bytes given) ≡ with_identifier id ids
named_with id bytes given ids e =
    by_test (among id given)
    (λ t.
    let in_ids : list_any (bytes_eq id) ids ≡ true = ap (list_any (bytes_eq id)) (sym e) ∙ sym (any_named id given) ∙ t in
    ap (map (λ one. one.0)) (there id bytes given t) ∙ e ∙ sym (kept in_ids))
    (λ f.
    let in_ids : list_any (bytes_eq id) ids ≡ false = ap (list_any (bytes_eq id)) (sym e) ∙ sym (any_named id given) ∙ f in
    ap (map (λ one. one.0)) (added id bytes given f) ∙ ap (λ (l : List (List ℕ)). id ∷ l) e ∙ sym (more in_ids))
  where
    kept : list_any (bytes_eq id) ids ≡ true → with_identifier id ids ≡ ids
    kept t = rw t refl

    more : list_any (bytes_eq id) ids ≡ false → with_identifier id ids ≡ id ∷ ids
    more f = rw f refl

pub names : (found : Found) (at : ℕ) (xs : List (ℕ × RowValue)) (vs : List (ℕ × List ℕ)) → AreKept found at xs vs → map (λ one. one.0) (given_by xs vs) ≡ named_by xs
names found at [] [] kept = refl
names found at ((column, Here own) ∷ xs) (v ∷ vs) kept = names found kept.0 xs vs kept.1.2
names found at ((column, Apart entry own size) ∷ xs) (v ∷ vs) kept = named_with (identifier entry own) v.1 (given_by xs vs) (named_by xs) (names found kept.0 xs vs kept.1.2)
names found at [] (v ∷ vs) kept = absurd kept
names found at ((column, Here own) ∷ xs) [] kept = absurd kept
names found at ((column, Apart entry own size) ∷ xs) [] kept = absurd kept

-- ---- each may be taken

all_with : (P : List ℕ × List ℕ → Type 0) (id bytes : List ℕ) (given : List (List ℕ × List ℕ)) → P (id, bytes) → AllByRecursion P given → AllByRecursion P (with_given id bytes given)
all_with P id bytes given one all =
    by_test (among id given)
    (λ t. subst (AllByRecursion P) (sym (there id bytes given t)) all)
    (λ f. subst (AllByRecursion P) (sym (added id bytes given f)) (one, all))

one_takes : (found : Found) → IsFresh found → (at behind entry own : ℕ) (bytes : List ℕ) → (IsShared found.values found.rows entry own bytes × (behind ≡ at)) ⊎ IsNew found at behind entry own → at < 2 ^ 32 → is_long bytes ≡ true → length bytes ≤ 1048576
    → MayTake found.values (identifier entry own, bytes)
one_takes found fresh at behind entry own bytes (inl old) small long short = subst (Takes bytes) (sym old.0.there) (old.0.equal, old.0.few)
one_takes found fresh at behind entry own bytes (inr new) small long short =
    let first = new.first in
    let absent : value_of (identifier entry own) found.values ≡ None = ap (λ (n : ℕ). value_of (identifier n own) found.values) new.number ∙ fresh.absent own (omega (arith, first, small)) in
    let more = ltb-true 255 (length bytes) long in
    subst (Takes bytes) (sym absent) (omega (arith, more), short)

abbrev pub is_value : ℕ × List ℕ → Bool
is_value v = nat_le (length v.1) 1048576

pub all_take : (found : Found) → IsFresh found → (at : ℕ) (xs : List (ℕ × RowValue)) (vs : List (ℕ × List ℕ)) → AreKept found at xs vs → list_all is_value vs ≡ true → at + length xs < 2 ^ 32 → AllByRecursion (MayTake found.values) (given_by xs vs)
all_take found fresh at [] [] kept short small = tt
all_take found fresh at ((column, Here own) ∷ xs) (v ∷ vs) kept short small =
    let bound = next_bound found at kept.0 (Here own) v.1 kept.1.1 in
    all_take found fresh kept.0 xs vs kept.1.2 (and_right (is_value v) (list_all is_value vs) short) (omega (arith, small, bound))
all_take found fresh at ((column, Apart entry own size) ∷ xs) (v ∷ vs) kept short small =
    let bound = next_bound found at kept.0 (Apart entry own size) v.1 kept.1.1 in
    all_with (MayTake found.values) (identifier entry own) v.1 (given_by xs vs)
    (one_takes found fresh at kept.0 entry own v.1 kept.1.1.2 (omega (arith, small)) kept.1.1.0 (leb-true (length v.1) 1048576 (and_left (is_value v) (list_all is_value vs) short)))
    (all_take found fresh kept.0 xs vs kept.1.2 (and_right (is_value v) (list_all is_value vs) short) (omega (arith, small, bound)))
all_take found fresh at [] (v ∷ vs) kept short small = absurd kept
all_take found fresh at ((column, Here own) ∷ xs) [] kept short small = absurd kept
all_take found fresh at ((column, Apart entry own size) ∷ xs) [] kept short small = absurd kept
