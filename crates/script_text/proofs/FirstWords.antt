-- The first word of a text, by the bytes that it begins with.
use Rattle.std.proofs.Common.{◌≡◌, ℕ, suc, ◌+◌, ◌-◌, ◌*◌, ◌<◌, ◌≤◌, Bool, true, false, cond, not, Some, List, [], ◌∷◌, length, take, drop, get_or, refl, sym, ap, subst, ◌∙◌, arith}
use Rattle.std.specs.Prelude.{◌==◌, ◌&&◌, nat_le}
use Rattle.std.specs.Char.{is_ascii_digit}
use Rattle.std.specs.List.{list_all, onto_first}
use Rattle.std.proofs.Math.Seq.{take-length}
use Rattle.std.proofs.lemmas.List.{length-drop}
use Rattle.std.proofs.lemmas.Bool.{and_parts}
use Rattle.std.proofs.lemmas.Bool.Decides.{nat_tests}
use Rattle.script_words.specs.Words.{label_of, number_of, number_within, words_of}

-- a digit from 1 to 9 is a label
pub label_of-digit : (digit : ℕ) → 49 ≤ digit → digit ≤ 57 → label_of (digit ∷ []) ≡ Some (digit - 48)
unfolding label_of number_within number_of
label_of-digit digit low high =
    let nonzero : (digit == 48) ≡ false = grind (arith, nat_tests) in
    let is_digit : is_ascii_digit digit ≡ true = grind (arith, nat_tests) in
    let within : (nat_le 1 (digit - 48) && nat_le (digit - 48) 99) ≡ true = grind (arith, nat_tests) in
    let sum : 10 * 0 + (digit - 48) ≡ digit - 48 = omega arith in
    rw nonzero (rw is_digit (rw sum (rw within refl)))

pub ruleset digits = label_of-digit

no_space : (digit : ℕ) → 48 < digit → (digit == 32) ≡ false
no_space digit low = grind (arith, nat_tests)

-- a digit alone
pub digit_alone : (text : List ℕ) → length text ≡ 1 → 48 < get_or text 0 0 → words_of text ≡ (get_or text 0 0 ∷ []) ∷ []
digit_alone [] one high = absurd (omega arith)
digit_alone (x ∷ []) one high = rw (no_space x high) refl
digit_alone (x ∷ y ∷ text) one high = absurd (omega arith)

-- what `&xs[i..]` gives
pub tail_slice : (i : ℕ) (xs : List ℕ) → take (length xs - i) (drop i xs) ≡ drop i xs
tail_slice i xs = ap (λ n. take n (drop i xs)) (sym (length-drop i xs)) ∙ take-length (drop i xs)

-- a digit before a space, and the slice behind it
pub digit_before_space : (text rest : List ℕ) → 2 ≤ length text → 48 < get_or text 0 0 → get_or text 1 0 ≡ 32 → rest ≡ take (length text - 2) (drop 2 text)
    → words_of text ≡ (get_or text 0 0 ∷ []) ∷ words_of rest
digit_before_space [] rest long high space is = absurd (omega arith)
digit_before_space (x ∷ []) rest long high space is = absurd (omega arith)
digit_before_space (x ∷ y ∷ text) rest long high space is = rw (is ∙ tail_slice 2 (x ∷ y ∷ text)) (rw space (rw (no_space x high) refl))

from_test : (b : Bool) (y : ℕ) (word : List ℕ) (rest : List (List ℕ)) → not b ≡ true → cond b ([] ∷ word ∷ rest) ((y ∷ word) ∷ rest) ≡ (y ∷ word) ∷ rest
from_test true y word rest h = absurd cc
from_test false y word rest h = refl

one_more : (x y : ℕ) (word : List ℕ) (parts rest : List (List ℕ)) → x ≡ y → not (y == 32) ≡ true → parts ≡ word ∷ rest
    → cond (x == 32) ([] ∷ parts) (onto_first x parts) ≡ (y ∷ word) ∷ rest
one_more x y word parts rest same other is = rw is (rw same (from_test (y == 32) y word rest other))

-- a word that the text begins with, before a space
pub word_before_space : (text word : List ℕ) → list_all (λ b. not (b == 32)) word ≡ true → length word < length text → get_or text (length word) 0 ≡ 32 → take (length word) text ≡ word
    → words_of text ≡ word ∷ words_of (drop (suc (length word)) text)
word_before_space [] word ok inside space same = absurd (omega arith)
word_before_space (x ∷ text) [] ok inside space same = rw space refl
word_before_space (x ∷ text) (y ∷ word) ok inside space same =
    let (other, others) = and_parts (not (y == 32)) (list_all (λ b. not (b == 32)) word) ok in
    let first : x ≡ y = cc in
    let behind : take (length word) text ≡ word = cc in
    one_more x y word (words_of text) (words_of (drop (suc (length word)) text)) first other
    (word_before_space text word others (omega arith) space behind)

-- the same, as the code has it: the slices before and behind the space
pub word_and_space : (text word rest : List ℕ) (end : ℕ) → list_all (λ b. not (b == 32)) word ≡ true → end ≡ length word → end < length text → get_or text end 0 ≡ 32
    → take (length word) text ≡ word → rest ≡ take (length text - (end + 1)) (drop (end + 1) text) → words_of text ≡ word ∷ words_of rest
word_and_space text word rest end ok long inside space same is =
    let space_at : get_or text (length word) 0 ≡ 32 = subst (λ k. get_or text k 0 ≡ 32) long space in
    let next : end + 1 ≡ suc (length word) = omega (arith, long) in
    word_before_space text word ok (omega (arith, long, inside)) space_at same
    ∙ ap (λ (k : ℕ). word ∷ words_of (drop k text)) (sym next)
    ∙ ap (λ (xs : List ℕ). word ∷ words_of xs) (sym (is ∙ tail_slice (end + 1) text))

pub ruleset behind_words = word_and_space

pub ruleset first_words = (digit_alone, digit_before_space)
