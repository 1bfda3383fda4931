-- Columns that are found by the hashes of their names.
use Rattle.std.proofs.Common.{◌≡◌, ℕ, zero, suc, ◌+◌, ◌*◌, ◌/◌, ◌^◌, ◌<◌, ◌≤◌, Bool, true, false, cond, List, [], ◌∷◌, length, get_or, set, Option, Some, None, inl, inr, ◌⊎◌, refl, sym, ap, subst, ◌∙◌, arith, length-set, get_or-set_same, get_or-set_other, mul-lt-mul_of_pos_right, div-lt_iff_lt-mul}
use Rattle.std.specs.Prelude.{bytes_eq, find, replicate, slice_get}
use Rattle.std.proofs.lemmas.Bool.{cases_lt}
use Rattle.std.proofs.lemmas.List.{get_or-replicate, length-replicate}
use Rattle.std.proofs.lemmas.Option.{none-some, same_Some, slice_get_past}
use Rattle.std.proofs.lemmas.Slice.Eq.{bytes_eq-Decides}
use Rattle.column_set.specs.declared.columns.Column.{Column}
use Rattle.column_set.specs.NameIndex.{IsLinkedFrom, IsNext, IsSoughtFrom, bucket}

-- ---- what a search finds at a place

pub find_there : {X : Type 0} (p : X → Bool) (xs : List X) (at : ℕ) (x : X) → slice_get xs at ≡ Some x → p x ≡ true → ((k : ℕ) (y : X) → k < at → slice_get xs k ≡ Some y → p y ≡ false) → find p xs ≡ Some x
find_there p [] at x e t h = absurd (none-some x e)
find_there p (y ∷ xs) zero x e t h = ap (λ (b : Bool). cond b (Some y) (find p xs)) (ap p (same_Some y x e) ∙ t) ∙ e
find_there p (y ∷ xs) (suc at) x e t h =
    ap (λ (b : Bool). cond b (Some y) (find p xs)) (h 0 y (omega arith) refl) ∙ find_there p xs at x e t (λ k z lt g. h (suc k) z (omega arith) g)

pub find_nowhere : {X : Type 0} (p : X → Bool) (xs : List X) (at : ℕ) → slice_get xs at ≡ None → ((k : ℕ) (y : X) → k < at → slice_get xs k ≡ Some y → p y ≡ false) → find p xs ≡ None
find_nowhere p [] at e h = refl
find_nowhere p (y ∷ xs) zero e h = absurd (none-some y (sym e))
find_nowhere p (y ∷ xs) (suc at) e h =
    ap (λ (b : Bool). cond b (Some y) (find p xs)) (h 0 y (omega arith) refl) ∙ find_nowhere p xs at e (λ k z lt g. h (suc k) z (omega arith) g)

-- ---- the walk through a bucket

other_name : (columns : List Column) (name : List ℕ) (column : Column) → (bucket (length columns) column.name ≡ bucket (length columns) name → ⊥) → bytes_eq column.name name ≡ false
other_name columns name column unlike = differs (bytes_eq column.name name) refl
  where
    differs : (b : Bool) → bytes_eq column.name name ≡ b → bytes_eq column.name name ≡ false
    differs true e = absurd (unlike (ap (bucket (length columns)) ((bytes_eq-Decides column.name name).0 e)))
    differs false e = e

pub walk_begins : (columns : List Column) (name : List ℕ) (at : ℕ) → IsNext columns (bucket (length columns) name) 0 at → IsSoughtFrom columns name at
walk_begins columns name at next = record {
  there = next.there;
  passed = λ k column lt e. other_name columns name column (next.first k column (omega arith) lt e);
}

pub walk_goes_on : (columns : List Column) (name : List ℕ) (at next : ℕ) (column : Column) → IsSoughtFrom columns name at → slice_get columns at ≡ Some column → bytes_eq column.name name ≡ false → IsNext columns (bucket (length columns) column.name) (at + 1) next → IsSoughtFrom columns name next
walk_goes_on columns name at next column walk e unlike goes =
    let own : bucket (length columns) column.name ≡ bucket (length columns) name = walk.there column e in
    record {
      there = λ x g. goes.there x g ∙ own;
      passed = λ k x lt g. elim (cases_lt k at) [
        | inl before ↦ walk.passed k x before g
        | inr from ↦ elim (cases_lt at k) [
          | inl behind ↦ other_name columns name x (λ same. goes.first k x (omega arith) lt g (same ∙ sym own))
          | inr upto ↦
              let here : k ≡ at = omega arith in
              let is : x ≡ column = same_Some _ _ (sym g ∙ ap (slice_get columns) here ∙ e) in
              ap (λ (c : Column). bytes_eq c.name name) is ∙ unlike
        ]
      ];
    }

same_or_not : (m n : ℕ) → (m ≡ n) ⊎ (m ≡ n → ⊥)
same_or_not m n = elim (cases_lt m n) [
  | inl lt ↦ inr (λ e. absurd (omega (arith, lt, e)))
  | inr ge ↦ elim (cases_lt n m) [ inl gt ↦ inr (λ e. absurd (omega (arith, gt, e))) | inr le ↦ inl (omega arith) ]
]

-- ---- linking the columns, from the last one on

pub nothing_linked : (columns : List Column) (firsts nexts : List ℕ) → firsts ≡ replicate (length columns) (length columns) → length nexts ≡ length columns → IsLinkedFrom columns (length columns) firsts nexts
nothing_linked columns firsts nexts ends places = record {
  buckets = ap length ends ∙ length-replicate (length columns) (length columns);
  places = places;
  begins = λ own lt.
      let at : get_or firsts own 0 ≡ length columns = ap (λ (xs : List ℕ). get_or xs own 0) ends ∙ get_or-replicate (length columns) own (length columns) 0 lt in
      record {
        behind = omega (arith, at);
        there = λ column e. absurd (none-some column (sym (slice_get_past columns (get_or firsts own 0) (omega (arith, at))) ∙ e));
        first = λ k column from upto e same. absurd (omega (arith, at, from, upto));
      };
  goes_on = λ at column from e. absurd (none-some column (sym (slice_get_past columns at from) ∙ e));
}

-- the next of a bucket is the same seen from a place before, where a column of another bucket stands
stays : (columns : List Column) (own at next : ℕ) (column : Column) → slice_get columns at ≡ Some column → (bucket (length columns) column.name ≡ own → ⊥) → IsNext columns own (at + 1) next → IsNext columns own at next
stays columns own at next column e unlike is = record {
  behind = omega (arith, is.behind);
  there = is.there;
  first = λ k x from upto g same. elim (cases_lt at k) [
    | inl behind ↦ is.first k x (omega arith) upto g same
    | inr upto-at ↦
        let here : k ≡ at = omega (arith, from, upto-at) in
        let it : x ≡ column = same_Some _ _ (sym g ∙ ap (slice_get columns) here ∙ e) in
        unlike (ap (λ (c : Column). bucket (length columns) c.name) (sym it) ∙ same)
  ];
}

here_itself : (columns : List Column) (at : ℕ) (column : Column) → slice_get columns at ≡ Some column → IsNext columns (bucket (length columns) column.name) at at
here_itself columns at column e = record {
  behind = omega arith;
  there = λ x g. ap (λ (c : Column). bucket (length columns) c.name) (same_Some _ _ (sym g ∙ e));
  first = λ k x from upto g same. absurd (omega (arith, from, upto));
}

moved : (columns : List Column) (own from at at' : ℕ) → at ≡ at' → IsNext columns own from at → IsNext columns own from at'
moved columns own from at at' e is = subst (λ (n : ℕ). IsNext columns own from n) e is

pub one_more_linked : (columns : List Column) (firsts nexts : List ℕ) (at own : ℕ) (column : Column) → slice_get columns at ≡ Some column → at < length columns → own ≡ bucket (length columns) column.name → own < length columns → IsLinkedFrom columns (at + 1) firsts nexts → IsLinkedFrom columns at (set firsts own at) (set nexts at (get_or firsts own 0))
one_more_linked columns firsts nexts at own column e within is small before = record {
  buckets = length-set firsts own at ∙ before.buckets;
  places = length-set nexts at (get_or firsts own 0) ∙ before.places;
  begins = λ other lt. elim (same_or_not other own) [
    | inl same ↦
        let read : get_or (set firsts own at) other 0 ≡ at = ap (λ (n : ℕ). get_or (set firsts own at) n 0) same ∙ get_or-set_same firsts own at 0 (omega (arith, before.buckets)) in
        moved columns other at at (get_or (set firsts own at) other 0) (sym read) (subst (λ (n : ℕ). IsNext columns n at at) (sym (same ∙ is)) (here_itself columns at column e))
    | inr differ ↦
        let read : get_or (set firsts own at) other 0 ≡ get_or firsts other 0 = get_or-set_other firsts own other at 0 differ in
        moved columns other at (get_or firsts other 0) (get_or (set firsts own at) other 0) (sym read)
        (stays columns other at (get_or firsts other 0) column e (λ same. differ (sym (is ∙ same))) (before.begins other lt))
  ];
  goes_on = λ k x from g. elim (same_or_not k at) [
    | inl same ↦
        let it : x ≡ column = same_Some _ _ (sym g ∙ ap (slice_get columns) same ∙ e) in
        let read : get_or (set nexts at (get_or firsts own 0)) k 0 ≡ get_or firsts own 0 = ap (λ (n : ℕ). get_or (set nexts at (get_or firsts own 0)) n 0) same ∙ get_or-set_same nexts at (get_or firsts own 0) 0 (omega (arith, before.places)) in
        let own-is : own ≡ bucket (length columns) x.name = is ∙ ap (λ (c : Column). bucket (length columns) c.name) (sym it) in
        moved columns (bucket (length columns) x.name) (k + 1) (get_or firsts own 0) (get_or (set nexts at (get_or firsts own 0)) k 0) (sym read)
        (subst (λ (n : ℕ). IsNext columns n (k + 1) (get_or firsts own 0)) own-is (subst (λ (n : ℕ). IsNext columns own (n + 1) (get_or firsts own 0)) (sym same) (before.begins own small)))
    | inr differ ↦
        let read : get_or (set nexts at (get_or firsts own 0)) k 0 ≡ get_or nexts k 0 = get_or-set_other nexts at k (get_or firsts own 0) 0 differ in
        moved columns (bucket (length columns) x.name) (k + 1) (get_or nexts k 0) (get_or (set nexts at (get_or firsts own 0)) k 0) (sym read) (before.goes_on k x (further k at from differ) g)
  ];
}
  where
    further : (k at : ℕ) → at ≤ k → (k ≡ at → ⊥) → at + 1 ≤ k
    further k at le unlike = elim (cases_lt at k) [ inl lt ↦ omega arith | inr ge ↦ absurd (unlike (omega arith)) ]

-- ---- the bucket of a hash

pub scaled_fits : (hash count : ℕ) → hash < 2 ^ 64 → count < 2 ^ 64 → hash * count < 2 ^ 128
scaled_fits hash count h c = elim (cases_lt 0 count) [
  | inl some ↦ let below : hash * count < 2 ^ 64 * count = mul-lt-mul_of_pos_right h some in omega (arith, below, c)
  | inr none ↦ let zero-is : count ≡ 0 = omega arith in rw zero-is (omega arith)
]

pub scaled_within : (hash count : ℕ) → hash < 2 ^ 64 → 0 < count → hash * count / 2 ^ 64 < count
scaled_within hash count h some =
    let below : hash * count < 2 ^ 64 * count = mul-lt-mul_of_pos_right h some in
    (div-lt_iff_lt-mul (omega arith)).1 (omega (arith, below))
