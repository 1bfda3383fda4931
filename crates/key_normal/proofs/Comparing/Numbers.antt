-- Stored numbers compare as numbers once their bytes stand highest first, and those of a signed type have their top bit turned.
use Rattle.std.proofs.Common.{◌≡◌, ℕ, suc, ◌+◌, ◌-◌, ◌*◌, ◌%◌, ◌<◌, ◌≤◌, cond, nat_lt, List, [], ◌∷◌, ◌++◌, length, reverse, ℤ, pos, negsuc, refl, sym, ap, subst, ◌∙◌, arith, inl, inr}
use Rattle.std.proofs.lemmas.Bool.{cases_lt, lt-ltb, le-ltb}
use Rattle.std.proofs.lemmas.List.{reverse-append, length-reverse}
use Rattle.std.specs.declared.cmp.Ordering.{Ordering}
use Rattle.std.specs.declared.cmp.Ordering.TheVariants.{Less, Equal, Greater}
use Rattle.std.specs.Ordering.{nat_cmp, int_cmp, ordering_then, MatchOrdering}
use Rattle.std.specs.Cmp.{ranked}
use Rattle.std.specs.Cmp.Lexicographic.{slice_cmp}
use Rattle.jet_base.specs.ColumnType.{from_little_endian}
use Rattle.key_normal.specs.KeyBytes.{with_top_bit_turned}
use Rattle.key_normal.proofs.Comparing.Aligned.{AreBytes, cmp_less, cmp_greater, cmp_same, slice_cmp-fronts}

-- ---- bytes highest first

low-byte : (x y p q : ℕ) → x < 256 → y < 256 → nat_cmp (x + 256 * p) (y + 256 * q) ≡ ordering_then (nat_cmp p q) (nat_cmp x y)
low-byte x y p q a b =
    elim (nat_cmp p q) as (λ o. MatchOrdering o (p < q) (p ≡ q) (q < p) → nat_cmp (x + 256 * p) (y + 256 * q) ≡ ordering_then o (nat_cmp x y)) [
      | Less ↦ λ h. cmp_less (x + 256 * p) (y + 256 * q) (omega arith)
      | Equal ↦ λ h. cmp_same x y (x + 256 * p) (y + 256 * q) (λ k. omega arith) (λ k. omega arith) (λ k. omega arith)
      | Greater ↦ λ h. cmp_greater (x + 256 * p) (y + 256 * q) (omega arith)
    ] (ranked p q (nat_cmp p q) refl)

own-end : (o : Ordering) → ordering_then o Equal ≡ o
own-end Less = refl
own-end Equal = refl
own-end Greater = refl

turned-end : (x : ℕ) (xs : List ℕ) → reverse (x ∷ xs) ≡ reverse xs ++ x ∷ []
turned-end x xs = reverse-append (x ∷ []) xs

pub cmp-reverse : (xs ys : List ℕ) → AreBytes xs → AreBytes ys → length xs ≡ length ys → slice_cmp nat_cmp (reverse xs) (reverse ys) ≡ nat_cmp (from_little_endian xs) (from_little_endian ys)
cmp-reverse [] [] p q e = refl
cmp-reverse [] (y ∷ ys) p q e = absurd (omega arith)
cmp-reverse (x ∷ xs) [] p q e = absurd (omega arith)
cmp-reverse (x ∷ xs) (y ∷ ys) p q e =
    let rest : slice_cmp nat_cmp (reverse xs) (reverse ys) ≡ nat_cmp (from_little_endian xs) (from_little_endian ys) = cmp-reverse xs ys p.1 q.1 (omega arith) in
    let long : length (reverse xs) ≡ length (reverse ys) = rw (length-reverse xs, length-reverse ys) (omega arith) in
    (λ i. slice_cmp nat_cmp (turned-end x xs i) (turned-end y ys i))
    ∙ slice_cmp-fronts (reverse xs) (reverse ys) (x ∷ []) (y ∷ []) long
    ∙ (λ i. ordering_then (rest i) (own-end (nat_cmp x y) i))
    ∙ sym (low-byte x y (from_little_endian xs) (from_little_endian ys) p.0 q.0)

-- ---- signed numbers

-- the signed number that n stands for, where h is half of how many there are
abbrev pub signed_at : ℕ → ℕ → ℤ
signed_at h n = cond (nat_lt n h) (pos n) (negsuc (2 * h - n - 1))

-- n moved up by half of them, so that negative numbers come first
abbrev pub moved : ℕ → ℕ → ℕ
moved h n = cond (nat_lt n h) (n + h) (n - h)

pub int-pos : (a b : ℕ) → int_cmp (pos a) (pos b) ≡ nat_cmp a b
int-pos a b = grind arith

int-neg : (a b : ℕ) → int_cmp (negsuc a) (negsuc b) ≡ nat_cmp b a
int-neg a b = grind arith

pub cmp-signed_at : (h n m : ℕ) → n < 2 * h → m < 2 * h → int_cmp (signed_at h n) (signed_at h m) ≡ nat_cmp (moved h n) (moved h m)
cmp-signed_at h n m a b = elim (cases_lt n h) [
  | inl p ↦ elim (cases_lt m h) [
    | inl q ↦ rw (lt-ltb n h p, lt-ltb m h q) (int-pos n m ∙ sym (cmp_same n m (n + h) (m + h) (λ k. omega arith) (λ k. omega arith) (λ k. omega arith)))
    | inr q ↦ rw (lt-ltb n h p, le-ltb m h q) (sym (cmp_greater (n + h) (m - h) (omega arith)))
  ]
  | inr p ↦ elim (cases_lt m h) [
    | inl q ↦ rw (le-ltb n h p, lt-ltb m h q) (sym (cmp_less (n - h) (m + h) (omega arith)))
    | inr q ↦ rw (le-ltb n h p, le-ltb m h q)
        (int-neg (2 * h - n - 1) (2 * h - m - 1) ∙ cmp_same (n - h) (m - h) (2 * h - m - 1) (2 * h - n - 1) (λ k. omega arith) (λ k. omega arith) (λ k. omega arith))
  ]
]

-- the top bit turned, lowest byte first, and half of the numbers of so many bytes
abbrev top_turned : List ℕ → List ℕ
top_turned [] = []
top_turned (x ∷ []) = (x + 128) % 256 ∷ []
top_turned (x ∷ y ∷ ys) = x ∷ top_turned (y ∷ ys)

abbrev pub half_of : List ℕ → ℕ
half_of [] = 0
half_of (x ∷ []) = 128
half_of (x ∷ y ∷ ys) = 256 * half_of (y ∷ ys)

pub below-half_of : (xs : List ℕ) → 0 < length xs → AreBytes xs → from_little_endian xs < 2 * half_of xs
below-half_of [] some p = absurd (omega arith)
below-half_of (x ∷ []) some p = let b : x < 256 = p.0 in omega arith
below-half_of (x ∷ y ∷ ys) some p =
    let b : x < 256 = p.0 in
    let rest : from_little_endian (y ∷ ys) < 2 * half_of (y ∷ ys) = below-half_of (y ∷ ys) (omega arith) p.1 in
    let n = from_little_endian (y ∷ ys) in
    let h = half_of (y ∷ ys) in
    let goes : x + 256 * n < 2 * (256 * h) = omega arith in
    goes

-- a lower byte stays as it is
moved-low : (x h n : ℕ) → x < 256 → x + 256 * moved h n ≡ moved (256 * h) (x + 256 * n)
moved-low x h n b = elim (cases_lt n h) [
  | inl p ↦ let q : x + 256 * n < 256 * h = omega arith in rw (lt-ltb n h p, lt-ltb (x + 256 * n) (256 * h) q) (omega arith)
  | inr p ↦ let q : 256 * h ≤ x + 256 * n = omega arith in rw (le-ltb n h p, le-ltb (x + 256 * n) (256 * h) q) (omega arith)
]

moved-top : (x : ℕ) → x < 256 → (x + 128) % 256 + 256 * 0 ≡ moved 128 (x + 256 * 0)
moved-top x b = elim (cases_lt x 128) [
  | inl p ↦ let q : x + 256 * 0 < 128 = omega arith in rw (lt-ltb (x + 256 * 0) 128 q) (omega arith)
  | inr p ↦ let q : 128 ≤ x + 256 * 0 = omega arith in rw (le-ltb (x + 256 * 0) 128 q) (omega arith)
]

from-top_turned : (xs : List ℕ) → 0 < length xs → AreBytes xs → from_little_endian (top_turned xs) ≡ moved (half_of xs) (from_little_endian xs)
from-top_turned [] some p = absurd (omega arith)
from-top_turned (x ∷ []) some p = moved-top x p.0
from-top_turned (x ∷ y ∷ ys) some p =
    ap (λ n. x + 256 * n) (from-top_turned (y ∷ ys) (omega arith) p.1) ∙ moved-low x (half_of (y ∷ ys)) (from_little_endian (y ∷ ys)) p.0

bytes-top_turned : (xs : List ℕ) → AreBytes xs → AreBytes (top_turned xs)
bytes-top_turned [] p = tt
bytes-top_turned (x ∷ []) p = (omega arith, tt)
bytes-top_turned (x ∷ y ∷ ys) p = (p.0, bytes-top_turned (y ∷ ys) p.1)

length-top_turned : (xs : List ℕ) → length (top_turned xs) ≡ length xs
length-top_turned [] = refl
length-top_turned (x ∷ []) = refl
length-top_turned (x ∷ y ∷ ys) = ap suc (length-top_turned (y ∷ ys))

turned-front : (xs ys : List ℕ) → 0 < length xs → with_top_bit_turned (xs ++ ys) ≡ with_top_bit_turned xs ++ ys
turned-front [] ys some = absurd (omega arith)
turned-front (x ∷ xs) ys some = refl

reverse-top_turned : (xs : List ℕ) → reverse (top_turned xs) ≡ with_top_bit_turned (reverse xs)
reverse-top_turned [] = refl
reverse-top_turned (x ∷ []) = refl
reverse-top_turned (x ∷ y ∷ ys) =
    let some : 0 < length (reverse (y ∷ ys)) = rw (length-reverse (y ∷ ys)) (omega arith) in
    turned-end x (top_turned (y ∷ ys)) ∙ ap (λ r. r ++ x ∷ []) (reverse-top_turned (y ∷ ys)) ∙ sym (turned-front (reverse (y ∷ ys)) (x ∷ []) some)
    ∙ ap with_top_bit_turned (sym (turned-end x (y ∷ ys)))

pub half_of-length : (xs ys : List ℕ) → length xs ≡ length ys → half_of xs ≡ half_of ys
half_of-length [] [] e = refl
half_of-length [] (y ∷ ys) e = absurd (omega arith)
half_of-length (x ∷ xs) [] e = absurd (omega arith)
half_of-length (x ∷ []) (y ∷ []) e = refl
half_of-length (x ∷ []) (y ∷ y' ∷ ys) e = absurd (omega arith)
half_of-length (x ∷ x' ∷ xs) (y ∷ []) e = absurd (omega arith)
half_of-length (x ∷ x' ∷ xs) (y ∷ y' ∷ ys) e = ap (λ h. 256 * h) (half_of-length (x' ∷ xs) (y' ∷ ys) (omega arith))

pub length-with_top_bit_turned : (xs : List ℕ) → length (with_top_bit_turned xs) ≡ length xs
length-with_top_bit_turned [] = refl
length-with_top_bit_turned (x ∷ xs) = refl

pub cmp-signed : (h : ℕ) (xs ys : List ℕ) → 0 < length xs → length xs ≡ length ys → half_of xs ≡ h → AreBytes xs → AreBytes ys
    → slice_cmp nat_cmp (with_top_bit_turned (reverse xs)) (with_top_bit_turned (reverse ys)) ≡ int_cmp (signed_at h (from_little_endian xs)) (signed_at h (from_little_endian ys))
cmp-signed h xs ys some e half p q =
    let half' : half_of ys ≡ h = sym (half_of-length xs ys e) ∙ half in
    let some' : 0 < length ys = omega arith in
    let long : length (top_turned xs) ≡ length (top_turned ys) = length-top_turned xs ∙ e ∙ sym (length-top_turned ys) in
    let n : from_little_endian xs < 2 * h = subst (λ k. from_little_endian xs < 2 * k) half (below-half_of xs some p) in
    let m : from_little_endian ys < 2 * h = subst (λ k. from_little_endian ys < 2 * k) half' (below-half_of ys some' q) in
    (λ i. slice_cmp nat_cmp (sym (reverse-top_turned xs) i) (sym (reverse-top_turned ys) i))
    ∙ cmp-reverse (top_turned xs) (top_turned ys) (bytes-top_turned xs p) (bytes-top_turned ys q) long
    ∙ (λ i. nat_cmp (from-top_turned xs some p i) (from-top_turned ys some' q i))
    ∙ (λ i. nat_cmp (moved (half i) (from_little_endian xs)) (moved (half' i) (from_little_endian ys)))
    ∙ sym (cmp-signed_at h (from_little_endian xs) (from_little_endian ys) n m)
