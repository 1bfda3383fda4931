-- The number that decimal digits stand for, digit by digit.
use Rattle.std.proofs.Common.{◌≡◌, ℕ, suc, ◌+◌, ◌-◌, ◌*◌, ◌/◌, ◌<◌, ◌≤◌, Bool, true, false, cond, Option, Some, None, List, [], ◌∷◌, length, drop, get_or, refl, arith}
use Rattle.std.specs.Char.{is_ascii_digit}
use Rattle.std.proofs.Math.Seq.{drop-cons}
use Rattle.std.proofs.lemmas.Bool.Decides.{nat_tests}
use Rattle.script_words.specs.Words.{◌>>=◌, number_from, where_within}

number_from-first : (b : Bool) (n k digit : ℕ) (rest : Option ℕ) → (rest ≡ Some k → 10 * n + (digit - 48) ≤ k) → cond b rest None ≡ Some k → n ≤ k
number_from-first true n k digit rest h e = let low : 10 * n + (digit - 48) ≤ k = h e in omega arith
number_from-first false n k digit rest h e = absurd cc

-- more digits make no smaller number
pub number_from-least : (n k : ℕ) (digits : List ℕ) → number_from n digits ≡ Some k → n ≤ k
number_from-least n k [] e = let same : n ≡ k = cc in omega arith
number_from-least n k (digit ∷ digits) e =
    number_from-first (is_ascii_digit digit) n k digit (number_from (10 * n + (digit - 48)) digits) (number_from-least (10 * n + (digit - 48)) k digits) e

number_from-cons_bad : (n k digit : ℕ) (digits : List ℕ) → is_ascii_digit digit ≡ false → number_from n (digit ∷ digits) ≡ None
number_from-cons_bad n k digit digits h = rw h refl

-- a byte that is no digit makes no number
pub number_from-bad : (n most i : ℕ) (digits : List ℕ) → i < length digits → is_ascii_digit (get_or digits i 0) ≡ false
    → (k : ℕ) → number_from n (drop i digits) ≡ Some k → most < k
number_from-bad n most i digits inside bad k e =
    let none = number_from-cons_bad n k (get_or digits i 0) (drop (suc i) digits) bad in
    let here : number_from n (drop i digits) ≡ number_from n (get_or digits i 0 ∷ drop (suc i) digits) = rw (drop-cons digits i 0) refl in
    absurd cc

number_from-large_digit : (b : Bool) (n most k digit : ℕ) (rest : Option ℕ) → most / 10 < n → (rest ≡ Some k → 10 * n + (digit - 48) ≤ k) → cond b rest None ≡ Some k → most < k
number_from-large_digit true n most k digit rest large h e = let low : 10 * n + (digit - 48) ≤ k = h e in omega arith
number_from-large_digit false n most k digit rest large h e = absurd cc

number_from-large_cons : (n most k digit : ℕ) (digits : List ℕ) → most / 10 < n → number_from n (digit ∷ digits) ≡ Some k → most < k
number_from-large_cons n most k digit digits large e =
    number_from-large_digit (is_ascii_digit digit) n most k digit (number_from (10 * n + (digit - 48)) digits) large (number_from-least (10 * n + (digit - 48)) k digits) e

-- one digit more makes a number above the greatest, where a tenth of that is passed
pub number_from-large : (n most i : ℕ) (digits : List ℕ) → i < length digits → most / 10 < n
    → (k : ℕ) → number_from n (drop i digits) ≡ Some k → most < k
number_from-large n most i digits inside large k e =
    let here : number_from n (drop i digits) ≡ number_from n (get_or digits i 0 ∷ drop (suc i) digits) = rw (drop-cons digits i 0) refl in
    number_from-large_cons n most k (get_or digits i 0) (drop (suc i) digits) large cc

where_within-above : (least most n : ℕ) → most < n → where_within least most n ≡ None
where_within-above least most n h = grind (arith, nat_tests)

-- a number above the greatest is none within
pub above_is_none : (least most : ℕ) (number : Option ℕ) → ((n : ℕ) → number ≡ Some n → most < n) → (number >>= where_within least most) ≡ None
above_is_none least most None h = refl
above_is_none least most (Some n) h = where_within-above least most n (h n refl)

pub ruleset large_numbers = (number_from-large, number_from-bad)
