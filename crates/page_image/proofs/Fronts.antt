-- The fronts of keys, and the order of the keys.
use Rattle.std.proofs.Common.{◌≡◌, ℕ, zero, suc, ◌+◌, ◌*◌, ◌^◌, ◌<◌, ◌≤◌, ◌⊎◌, inl, inr, false, true, min, List, [], ◌∷◌, length, drop, get_or, refl, sym, ap, ◌∙◌, arith}
use Rattle.std.proofs.Math.Nat.{add-mul, mul-le-mul_right}
use Rattle.std.specs.Prelude.{nat_lt}
use Rattle.std.proofs.lemmas.Bool.{cases_lt}
use Rattle.std.proofs.lemmas.Bool.Decides.{nat_tests}
use Rattle.std.proofs.lemmas.Cmp.{nat_list_cmp_total}
use Rattle.std.specs.Ordering.{nat_cmp, ordering_reverse, ordering_then}
use Rattle.std.specs.declared.cmp.Ordering.{Ordering}
use Rattle.std.specs.declared.cmp.Ordering.TheVariants.{Less, Equal, Greater}
use Rattle.std.specs.Cmp.{nat_cmp_is}
use Rattle.std.specs.Int.{w64, from_be_bytes}
use Rattle.std.specs.Cmp.Lexicographic.{slice_cmp}
use Rattle.byteorder.specs.Endian.{big_from, big_number}
use Rattle.byteorder.specs.Numbers.{big_from-cons, big_from-lt}

abbrev pub AreBytes : List ℕ → Type 0
AreBytes xs = (k : ℕ) → get_or xs k 0 < 256

less : (m n : ℕ) → m < n → nat_cmp m n ≡ Less
less m n h = sym (nat_cmp_is m n Less h)

equal : (m n : ℕ) → m ≡ n → nat_cmp m n ≡ Equal
equal m n h = sym (nat_cmp_is m n Equal h)

greater : (m n : ℕ) → n < m → nat_cmp m n ≡ Greater
greater m n h = sym (nat_cmp_is m n Greater h)

compared : (m n : ℕ) → (m < n) ⊎ ((m ≡ n) ⊎ (n < m))
compared m n = elim (cases_lt m n) [ inl h ↦ inl h | inr h ↦ elim (cases_lt n m) [ inl g ↦ inr (inr g) | inr g ↦ inr (inl (omega arith)) ] ]

nat_cmp-suc : (m n : ℕ) → nat_cmp (suc m) (suc n) ≡ nat_cmp m n
nat_cmp-suc m n = elim (compared m n) [
  | inl lt ↦ less (suc m) (suc n) (omega arith) ∙ sym (less m n lt)
  | inr rest ↦ elim rest [
    | inl same ↦ equal (suc m) (suc n) (omega arith) ∙ sym (equal m n same)
    | inr gt ↦ greater (suc m) (suc n) (omega arith) ∙ sym (greater m n gt)
  ]
]

-- ---- digits

higher : (x y a b p : ℕ) → x < y → a < p → x * p + a < y * p + b
higher x y a b p lt small =
    let top : (x + 1) * p ≤ y * p = mul-le-mul_right p (omega arith) in
    let expand : (x + 1) * p ≡ x * p + 1 * p = add-mul x 1 p in
    omega (arith, top, expand, small)

pub record SameDigits (x y a b : ℕ) : Type 0 where
  pub first : x ≡ y
  pub rest : a ≡ b

same_digits : (x y a b p : ℕ) → a < p → b < p → x * p + a ≡ y * p + b → SameDigits x y a b
same_digits x y a b p small small' e = elim (compared x y) [
  | inl lt ↦ absurd (omega (arith, e, higher x y a b p lt small))
  | inr rest ↦ elim rest [
    | inl same ↦ record { first = same; rest = omega (arith, e, ap (λ (k : ℕ). k * p) same) }
    | inr gt ↦ absurd (omega (arith, e, higher y x b a p gt small'))
  ]
]

big_from-nil : (i n : ℕ) → big_from i n [] ≡ 0
big_from-nil i zero = refl
big_from-nil i (suc n) = ap (λ (r : ℕ). 0 * 256 ^ n + r) (big_from-nil (suc i) n) ∙ omega arith

-- the number in the first bytes of a list with a byte in front
front-cons : (n x : ℕ) (xs : List ℕ) → big_from 0 (suc n) (x ∷ xs) ≡ x * 256 ^ n + big_from 0 n xs
front-cons n x xs = ap (λ (r : ℕ). x * 256 ^ n + r) (big_from-cons 0 n x xs)

-- ---- the order of keys by it

pub below_by_front : (n : ℕ) (a b : List ℕ) → AreBytes a → AreBytes b → big_from 0 n a < big_from 0 n b → slice_cmp nat_cmp a b ≡ Less
below_by_front zero a b bytes bytes' lt = absurd (omega arith)
below_by_front (suc n) [] [] bytes bytes' lt = absurd (omega arith)
below_by_front (suc n) [] (y ∷ ys) bytes bytes' lt = refl
below_by_front (suc n) (x ∷ xs) [] bytes bytes' lt = absurd (omega (arith, lt, big_from-nil 0 (suc n)))
below_by_front (suc n) (x ∷ xs) (y ∷ ys) bytes bytes' lt =
    let own = front-cons n x xs in
    let other = front-cons n y ys in
    elim (compared x y) [
      | inl first ↦ ap (λ (r : Ordering). ordering_then r (slice_cmp nat_cmp xs ys)) (less x y first)
      | inr rest ↦ elim rest [
        | inl same ↦
            ap (λ (r : Ordering). ordering_then r (slice_cmp nat_cmp xs ys)) (equal x y same)
            ∙ below_by_front n xs ys (λ k. bytes (suc k)) (λ k. bytes' (suc k)) (omega (arith, lt, own, other, ap (λ (k : ℕ). k * 256 ^ n) same))
        | inr gt ↦ absurd (omega (arith, lt, own, other, higher y x (big_from 0 n ys) (big_from 0 n xs) (256 ^ n) gt (big_from-lt 0 n ys (λ k. bytes' (suc k)))))
      ]
    ]

pub above_by_front : (n : ℕ) (a b : List ℕ) → AreBytes a → AreBytes b → big_from 0 n b < big_from 0 n a → slice_cmp nat_cmp a b ≡ Greater
above_by_front n a b bytes bytes' lt = nat_list_cmp_total.antisymm a b ∙ ap ordering_reverse (below_by_front n b a bytes' bytes lt)

digits : (n x y : ℕ) (xs ys : List ℕ) → AreBytes (x ∷ xs) → AreBytes (y ∷ ys) → big_from 0 (suc n) (x ∷ xs) ≡ big_from 0 (suc n) (y ∷ ys) → SameDigits x y (big_from 0 n xs) (big_from 0 n ys)
digits n x y xs ys bytes bytes' e =
    same_digits x y (big_from 0 n xs) (big_from 0 n ys) (256 ^ n) (big_from-lt 0 n xs (λ k. bytes (suc k))) (big_from-lt 0 n ys (λ k. bytes' (suc k)))
    (sym (front-cons n x xs) ∙ e ∙ front-cons n y ys)

-- with the same front, the bytes behind it decide
pub rest_by_front : (n : ℕ) (a b : List ℕ) → AreBytes a → AreBytes b → n ≤ length a → n ≤ length b → big_from 0 n a ≡ big_from 0 n b → slice_cmp nat_cmp a b ≡ slice_cmp nat_cmp (drop n a) (drop n b)
rest_by_front zero a b bytes bytes' long long' e = refl
rest_by_front (suc n) [] b bytes bytes' long long' e = absurd (omega arith)
rest_by_front (suc n) (x ∷ xs) [] bytes bytes' long long' e = absurd (omega arith)
rest_by_front (suc n) (x ∷ xs) (y ∷ ys) bytes bytes' long long' e =
    let same = digits n x y xs ys bytes bytes' e in
    ap (λ (r : Ordering). ordering_then r (slice_cmp nat_cmp xs ys)) (equal x y same.first)
    ∙ rest_by_front n xs ys (λ k. bytes (suc k)) (λ k. bytes' (suc k)) (omega arith) (omega arith) same.rest

-- and where one key is shorter than it, the lengths do
pub lengths_by_front : (n : ℕ) (a b : List ℕ) → AreBytes a → AreBytes b → (length a < n) ⊎ (length b < n) → big_from 0 n a ≡ big_from 0 n b → slice_cmp nat_cmp a b ≡ nat_cmp (length a) (length b)
lengths_by_front zero a b bytes bytes' short e = elim short [ inl h ↦ absurd (omega arith) | inr h ↦ absurd (omega arith) ]
lengths_by_front (suc n) [] [] bytes bytes' short e = refl
lengths_by_front (suc n) [] (y ∷ ys) bytes bytes' short e = sym (less 0 (length (y ∷ ys)) (omega arith))
lengths_by_front (suc n) (x ∷ xs) [] bytes bytes' short e = sym (greater (length (x ∷ xs)) 0 (omega arith))
lengths_by_front (suc n) (x ∷ xs) (y ∷ ys) bytes bytes' short e =
    let same = digits n x y xs ys bytes bytes' e in
    let shorter : (length xs < n) ⊎ (length ys < n) = elim short [ inl h ↦ inl (omega arith) | inr h ↦ inr (omega arith) ] in
    ap (λ (r : Ordering). ordering_then r (slice_cmp nat_cmp xs ys)) (equal x y same.first)
    ∙ lengths_by_front n xs ys (λ k. bytes (suc k)) (λ k. bytes' (suc k)) shorter same.rest
    ∙ sym (nat_cmp-suc (length xs) (length ys))

either_short : (m n : ℕ) → min m n < 8 → (m < 8) ⊎ (n < 8)
either_short m n h = elim (cases_lt m 8) [ inl short ↦ inl short | inr long ↦ inr (omega arith) ]

-- keys with the same front, one of them shorter than it
pub short_by_front : (a b : List ℕ) → AreBytes a → AreBytes b → min (length a) (length b) < 8 → big_number 8 a ≡ big_number 8 b → slice_cmp nat_cmp a b ≡ nat_cmp (length a) (length b)
short_by_front a b bytes bytes' short e = lengths_by_front 8 a b bytes bytes' (either_short (length a) (length b) short) e

-- ---- the front of a key, byte by byte

pub front_of_bytes : (key : List ℕ) (a b c d e f g h : ℕ) → a ≡ get_or key 0 0 → b ≡ get_or key 1 0 → c ≡ get_or key 2 0 → d ≡ get_or key 3 0 → e ≡ get_or key 4 0 → f ≡ get_or key 5 0 → g ≡ get_or key 6 0 → h ≡ get_or key 7 0 → from_be_bytes w64 (a ∷ b ∷ c ∷ d ∷ e ∷ f ∷ g ∷ h ∷ []) ≡ big_number 8 key
front_of_bytes key a b c d e f g h at0 at1 at2 at3 at4 at5 at6 at7 = omega (arith, at0, at1, at2, at3, at4, at5, at6, at7)

-- ---- which of two fronts is lower

pub lower_front : (x y : ℕ) → nat_lt x y ≡ true → x < y
lower_front x y h = grind (arith, nat_tests)

pub front_not_lower : (x y : ℕ) → nat_lt x y ≡ false → y ≤ x
front_not_lower x y h = grind (arith, nat_tests)
