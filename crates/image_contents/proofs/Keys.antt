-- The keys of chunks rise with their numbers.
use Rattle.std.proofs.Common.{◌≡◌, ℕ, zero, suc, ◌+◌, ◌-◌, ◌<◌, ◌≤◌, Bool, true, false, ◌&&◌, List, [], ◌∷◌, ◌++◌, length, take, refl, sym, ap, subst, ◌∙◌, arith, inl, inr}
use Rattle.std.specs.Prelude.{◌⊎◌, ◌==◌, nat_lt, cond}
use Rattle.std.proofs.lemmas.Bool.{cases_lt}
use Rattle.std.proofs.lemmas.Bool.Decides.{nat_tests}
use Rattle.std.specs.Ordering.{is_eq, is_lt, nat_cmp, ordering_reverse, ordering_then}
use Rattle.std.specs.Cmp.Lexicographic.{nat_list_cmp_total, slice_cmp}
use Rattle.std.specs.declared.cmp.Ordering.{Ordering}
use Rattle.std.specs.declared.cmp.Ordering.TheVariants.{Less, Equal, Greater}
use Rattle.byteorder.specs.Endian.{big_bytes}
use Rattle.common_lemmas.proofs.Booleans.{and_left, and_right, by_test, impossible}
use Rattle.common_lemmas.proofs.Orders.{is_less}
use Rattle.page_image.specs.Page.{IsBelow}
use Rattle.long_value.specs.Values.{chunk_key, order}

-- ---- numbers of chunks

abbrev rise_upto : ℕ → Bool
rise_upto zero = true
rise_upto (suc n) = is_lt (order (big_bytes 4 n) (big_bytes 4 (suc n))) && rise_upto n

all_rise : rise_upto 1025 ≡ true
all_rise = refl

one_rises : (n k : ℕ) → k < n → rise_upto n ≡ true → is_lt (order (big_bytes 4 k) (big_bytes 4 (suc k))) ≡ true
one_rises zero k lt all = absurd (omega (arith, lt))
one_rises (suc n) k lt all = elim (cases_lt k n) [
  | inl below ↦ one_rises n k below (and_right (is_lt (order (big_bytes 4 n) (big_bytes 4 (suc n)))) (rise_upto n) all)
  | inr last ↦
      let same : n ≡ k = omega (arith, lt, last) in
      subst (λ (j : ℕ). is_lt (order (big_bytes 4 j) (big_bytes 4 (suc j))) ≡ true) same (and_left (is_lt (order (big_bytes 4 n) (big_bytes 4 (suc n)))) (rise_upto n) all)
]

numbers_rise : (a d : ℕ) → a + d < 1025 → IsBelow (big_bytes 4 a) (big_bytes 4 (suc (a + d)))
numbers_rise a zero lt =
    let same : a ≡ a + 0 = omega arith in
    subst (λ (b : ℕ). IsBelow (big_bytes 4 a) (big_bytes 4 (suc b))) same (is_less (order (big_bytes 4 a) (big_bytes 4 (suc a))) (one_rises 1025 a (omega (arith, lt)) all_rise))
numbers_rise a (suc d) lt =
    let same : suc (a + d) ≡ a + suc d = omega arith in
    let next : IsBelow (big_bytes 4 (suc (a + d))) (big_bytes 4 (suc (suc (a + d)))) = is_less (order (big_bytes 4 (suc (a + d))) (big_bytes 4 (suc (suc (a + d))))) (one_rises 1025 (suc (a + d)) (omega (arith, lt)) all_rise) in
    subst (λ (b : ℕ). IsBelow (big_bytes 4 a) (big_bytes 4 (suc b))) same
    (nat_list_cmp_total.trans (big_bytes 4 a) (big_bytes 4 (suc (a + d))) (big_bytes 4 (suc (suc (a + d)))) (numbers_rise a d (omega (arith, lt))) next)

-- ---- keys

same_number : (n : ℕ) → nat_cmp n n ≡ Equal
same_number n = by (nat_cmp n n) (nat_list_cmp_total.antisymm (n ∷ []) (n ∷ []))
  where
    by : (o : Ordering) → ordering_then o Equal ≡ ordering_reverse (ordering_then o Equal) → o ≡ Equal
    by Less e = absurd cc
    by Equal e = refl
    by Greater e = absurd cc

behind_same : (id a b : List ℕ) → slice_cmp nat_cmp (id ++ a) (id ++ b) ≡ slice_cmp nat_cmp a b
behind_same [] a b = refl
behind_same (x ∷ id) a b = ap (λ (o : Ordering). ordering_then o (slice_cmp nat_cmp (id ++ a) (id ++ b))) (same_number x) ∙ behind_same id a b

-- a chunk with a lower number has a lower key
pub chunks_rise : (id : List ℕ) (a b : ℕ) → a < b → b ≤ 1025 → IsBelow (chunk_key id a) (chunk_key id b)
chunks_rise id a b lt few =
    let d : ℕ = b - suc a in
    let same : suc (a + d) ≡ b = omega (arith, lt) in
    behind_same id (big_bytes 4 a) (big_bytes 4 b) ∙ subst (λ (k : ℕ). IsBelow (big_bytes 4 a) (big_bytes 4 k)) same (numbers_rise a d (omega (arith, lt, few)))

pub lower_is : (a b : List ℕ) → IsBelow a b → is_lt (order a b) ≡ true
lower_is a b h = ap is_lt h

pub not_lower : (a b : List ℕ) → IsBelow a b → is_lt (order b a) ≡ false
not_lower a b h = ap is_lt (nat_list_cmp_total.antisymm b a ∙ ap ordering_reverse h)

pub lower_differs : (a b : List ℕ) → IsBelow a b → is_eq (order a b) ≡ false
lower_differs a b h = ap is_eq h

-- ---- what the first bytes of two keys are

abbrev Begin : ℕ → List ℕ → List ℕ → Type 0
Begin k a b = (take k a ≡ take k b) ⊎ IsBelow (take k a) (take k b)

equal_numbers : (x y : ℕ) → nat_cmp x y ≡ Equal → x ≡ y
equal_numbers x y e = by (nat_lt x y) (x == y) refl e
  where
    same : (x == y) ≡ true → x ≡ y
    same t = grind (arith, nat_tests, t)

    by : (b c : Bool) → (x == y) ≡ c → cond b Less (cond c Equal Greater) ≡ Equal → x ≡ y
    by true c f h = absurd cc
    by false true f h = same f
    by false false f h = absurd cc

pub begins : (k : ℕ) (a b : List ℕ) → IsBelow a b → Begin k a b
begins zero a b h = inl refl
begins (suc k) [] [] h = absurd cc
begins (suc k) [] (y ∷ b) h = inr refl
begins (suc k) (x ∷ a) [] h = absurd cc
begins (suc k) (x ∷ a) (y ∷ b) h = by (begins k a b) (nat_cmp x y) refl h
  where
    by : (IsBelow a b → Begin k a b) → (o : Ordering) → nat_cmp x y ≡ o → ordering_then o (slice_cmp nat_cmp a b) ≡ Less → Begin (suc k) (x ∷ a) (y ∷ b)
    by more Less e low = inr (ap (λ (r : Ordering). ordering_then r (slice_cmp nat_cmp (take k a) (take k b))) e)
    by more Equal e low = elim (more low) [
      | inl same ↦ inl (ap (λ (n : ℕ). n ∷ take k a) (equal_numbers x y e) ∙ ap (λ (l : List ℕ). y ∷ l) same)
      | inr lower ↦ inr (ap (λ (r : Ordering). ordering_then r (slice_cmp nat_cmp (take k a) (take k b))) e ∙ lower)
    ]
    by more Greater e low = absurd cc
