-- The order of byte strings that are put together of a key and a number of arrival.
use Rattle.std.proofs.Common.{◌≡◌, ℕ, ◌+◌, ◌*◌, ◌^◌, ◌<◌, ◌≤◌, true, false, inl, inr, List, [], ◌∷◌, ◌++◌, get_or, refl, sym, ap, subst, ◌∙◌, arith}
use Rattle.std.specs.Int.{w64, to_be_bytes}
use Rattle.std.specs.Ordering.{nat_cmp, is_eq, is_gt, is_le, is_lt, ordering_then, ordering_reverse}
use Rattle.std.specs.declared.cmp.Ordering.{Ordering}
use Rattle.std.specs.declared.cmp.Ordering.TheVariants.{Less, Equal, Greater}
use Rattle.std.specs.Cmp.{nat_cmp_is}
use Rattle.std.specs.Cmp.Lexicographic.{slice_cmp, nat_list_cmp_total, texts_ties}
use Rattle.std.proofs.lemmas.Bool.{cases_lt}
use Rattle.std.proofs.lemmas.Cmp.{by_ranked, ranked, tied_itself}
use Rattle.std.proofs.lemmas.Nat.{from_be_bytes-to_be_bytes_8}
use Rattle.common_lemmas.proofs.Numbers.{same_bytes}

-- the order of byte strings
abbrev pub order : List ℕ → List ℕ → Ordering
order = slice_cmp nat_cmp

pub turned : (a b : List ℕ) → order a b ≡ ordering_reverse (order b a)
turned = nat_list_cmp_total.antisymm

pub tied : (a b : List ℕ) → order a b ≡ Equal → a ≡ b
tied a b e = same_bytes a b (texts_ties a b ∙ ap is_eq e)

pub itself : (a : List ℕ) → order a a ≡ Equal
itself a = tied_itself nat_list_cmp_total a

-- ---- keys that do not begin one another

pub record IsApart (key other : List ℕ) : Type 0 where
  pub begins_not : (rest : List ℕ) → other ≡ key ++ rest → rest ≡ []
  pub begun_not : (rest : List ℕ) → key ≡ other ++ rest → rest ≡ []

some_rest : (x : ℕ) (xs : List ℕ) → x ∷ xs ≡ [] → ⊥
some_rest x xs e = cc

tails_apart : (x : ℕ) (a b : List ℕ) → IsApart (x ∷ a) (x ∷ b) → IsApart a b
tails_apart x a b h = record {
  begins_not = λ rest e. h.begins_not rest (ap (λ l. x ∷ l) e);
  begun_not = λ rest e. h.begun_not rest (ap (λ l. x ∷ l) e);
}

-- the keys decide, and then what stands behind them
pub order_of_pairs : (key other behind beside : List ℕ) → IsApart key other → order (key ++ behind) (other ++ beside) ≡ ordering_then (order key other) (order behind beside)
order_of_pairs [] [] behind beside h = refl
order_of_pairs [] (y ∷ other) behind beside h = absurd (some_rest y other (h.begins_not (y ∷ other) refl))
order_of_pairs (x ∷ key) [] behind beside h = absurd (some_rest x key (h.begun_not (x ∷ key) refl))
order_of_pairs (x ∷ key) (y ∷ other) behind beside h =
    by_ranked _ _ _ (nat_cmp x y) (ranked x y (nat_cmp x y) refl)
    (λ e _. rw e refl)
    (λ e same. rw e (order_of_pairs key other behind beside (tails_apart x key other (subst (λ z. IsApart (x ∷ key) (z ∷ other)) (sym same) h))))
    (λ e _. rw e refl)

-- ---- numbers of arrival

less_first : (x y : ℕ) (xs ys : List ℕ) → x < y → order (x ∷ xs) (y ∷ ys) ≡ Less
less_first x y xs ys h = ap (λ r. ordering_then r (order xs ys)) (sym (nat_cmp_is x y Less h))

same_first : (x y : ℕ) (xs ys : List ℕ) → x ≡ y → order xs ys ≡ Less → order (x ∷ xs) (y ∷ ys) ≡ Less
same_first x y xs ys e h = ap (λ r. ordering_then r (order xs ys)) (sym (nat_cmp_is x y Equal e)) ∙ h

first_or_later : (x y : ℕ) (xs ys : List ℕ) → x ≤ y → (x ≡ y → order xs ys ≡ Less) → order (x ∷ xs) (y ∷ ys) ≡ Less
first_or_later x y xs ys le later = elim (cases_lt x y) [
  | inl lt ↦ less_first x y xs ys lt
  | inr ge ↦ let e : x ≡ y = omega arith in same_first x y xs ys e (later e)
]

record Four (n a b c d : ℕ) : Type 0 where
  value : 16777216 * a + 65536 * b + 256 * c + d ≡ n
  b_low : b < 256
  c_low : c < 256
  d_low : d < 256

four_less : (m n a b c d e f g h : ℕ) (xs ys : List ℕ) → Four m a b c d → Four n e f g h → m < n → order (a ∷ b ∷ c ∷ d ∷ xs) (e ∷ f ∷ g ∷ h ∷ ys) ≡ Less
four_less m n a b c d e f g h xs ys p q lt =
    first_or_later a e (b ∷ c ∷ d ∷ xs) (f ∷ g ∷ h ∷ ys) (omega arith) (λ one.
    first_or_later b f (c ∷ d ∷ xs) (g ∷ h ∷ ys) (omega arith) (λ two.
    first_or_later c g (d ∷ xs) (h ∷ ys) (omega arith) (λ three. less_first d h xs ys (omega arith))))

four_same : (m n a b c d e f g h : ℕ) (xs ys : List ℕ) → Four m a b c d → Four n e f g h → m ≡ n → order xs ys ≡ Less → order (a ∷ b ∷ c ∷ d ∷ xs) (e ∷ f ∷ g ∷ h ∷ ys) ≡ Less
four_same m n a b c d e f g h xs ys p q same less =
    let one : a ≡ e = omega arith in
    let two : b ≡ f = omega arith in
    let three : c ≡ g = omega arith in
    let four : d ≡ h = omega arith in
    same_first a e (b ∷ c ∷ d ∷ xs) (f ∷ g ∷ h ∷ ys) one
    (same_first b f (c ∷ d ∷ xs) (g ∷ h ∷ ys) two (same_first c g (d ∷ xs) (h ∷ ys) three (same_first d h xs ys four less)))

abbrev digit : ℕ → ℕ → ℕ
digit n k = get_or (to_be_bytes w64 n) k 0

abbrev high : ℕ → ℕ
high n = 16777216 * digit n 0 + 65536 * digit n 1 + 256 * digit n 2 + digit n 3

abbrev low : ℕ → ℕ
low n = 16777216 * digit n 4 + 65536 * digit n 5 + 256 * digit n 6 + digit n 7

high_four : (n : ℕ) → Four (high n) (digit n 0) (digit n 1) (digit n 2) (digit n 3)
high_four n = record { value = refl; b_low = omega arith; c_low = omega arith; d_low = omega arith }

low_four : (n : ℕ) → Four (low n) (digit n 4) (digit n 5) (digit n 6) (digit n 7)
low_four n = record { value = refl; b_low = omega arith; c_low = omega arith; d_low = omega arith }

low_small : (n : ℕ) → low n < 4294967296
low_small n = omega arith

both : (n : ℕ) → n < 2 ^ 64 → 4294967296 * high n + low n ≡ n
both n small = omega (arith, from_be_bytes-to_be_bytes_8 n small)

parted : {A : Type 0} (a b c d m n : ℕ) → 4294967296 * a + c ≡ m → 4294967296 * b + d ≡ n → c < 4294967296 → d < 4294967296 → m < n → (a < b → A) → (a ≡ b → c < d → A) → A
parted a b c d m n e f s t lt first later = elim (cases_lt a b) [
  | inl h ↦ first h
  | inr h ↦ later (omega arith) (omega arith)
]

-- numbers as big-endian bytes have the order of the numbers
pub less64 : (m n : ℕ) → m < n → n < 2 ^ 64 → order (to_be_bytes w64 m) (to_be_bytes w64 n) ≡ Less
less64 m n lt small =
    let below : m < 2 ^ 64 = omega arith in
    let behind : List ℕ = digit m 4 ∷ digit m 5 ∷ digit m 6 ∷ digit m 7 ∷ [] in
    let beside : List ℕ = digit n 4 ∷ digit n 5 ∷ digit n 6 ∷ digit n 7 ∷ [] in
    parted (high m) (high n) (low m) (low n) m n (both m below) (both n small) (low_small m) (low_small n) lt
    (λ h. four_less (high m) (high n) (digit m 0) (digit m 1) (digit m 2) (digit m 3) (digit n 0) (digit n 1) (digit n 2) (digit n 3) behind beside (high_four m) (high_four n) h)
    (λ h l. four_same (high m) (high n) (digit m 0) (digit m 1) (digit m 2) (digit m 3) (digit n 0) (digit n 1) (digit n 2) (digit n 3) behind beside (high_four m) (high_four n) h
    (four_less (low m) (low n) (digit m 4) (digit m 5) (digit m 6) (digit m 7) (digit n 4) (digit n 5) (digit n 6) (digit n 7) [] [] (low_four m) (low_four n) l))

-- ---- tests of an order

pub le_before : (r q : Ordering) → q ≡ Less → is_lt (ordering_then r q) ≡ is_le r
le_before Less q h = refl
le_before Equal q h = ap is_lt h
le_before Greater q h = refl

pub le_apart : (r : Ordering) → is_eq r ≡ false → is_lt r ≡ is_le r
le_apart Less e = refl
le_apart Equal e = cc
le_apart Greater e = refl

pub less_not_equal : (r : Ordering) → r ≡ Less → is_eq r ≡ false
less_not_equal Less e = refl
less_not_equal Equal e = cc
less_not_equal Greater e = cc

pub less_not_above : (r : Ordering) → r ≡ Less → is_gt r ≡ false
less_not_above Less e = refl
less_not_above Equal e = cc
less_not_above Greater e = cc

pub less_turned : (r : Ordering) → r ≡ Less → is_lt (ordering_reverse r) ≡ false
less_turned Less e = refl
less_turned Equal e = cc
less_turned Greater e = cc

pub above_turned : (r : Ordering) → r ≡ Less → is_gt (ordering_reverse r) ≡ true
above_turned Less e = refl
above_turned Equal e = cc
above_turned Greater e = cc

pub not_before : (r : Ordering) → is_lt r ≡ false → is_eq r ≡ false → ordering_reverse r ≡ Less
not_before Less e f = cc
not_before Equal e f = cc
not_before Greater e f = refl

pub lt_of : (r : Ordering) → r ≡ Less → is_lt r ≡ true
lt_of Less e = refl
lt_of Equal e = cc
lt_of Greater e = cc
