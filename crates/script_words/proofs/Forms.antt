-- A value by the two bytes that it begins with.
use Rattle.std.proofs.Common.{◌≡◌, ℕ, ◌-◌, ◌≤◌, List, [], ◌∷◌, length, take, drop, get_or, refl, ◌∙◌, arith}
use Rattle.script_words.specs.Values.{number_value, text_value, given_of}
use Rattle.script_words.proofs.Cuts.{tail_slice}

-- `t:` and what follows it
pub given_of-text : (word rest : List ℕ) → 2 ≤ length word → get_or word 0 0 ≡ 116 → get_or word 1 0 ≡ 58 → rest ≡ take (length word - 2) (drop 2 word)
    → given_of word ≡ text_value rest
unfolding given_of
given_of-text [] rest long first second is = absurd (omega arith)
given_of-text (x ∷ []) rest long first second is = absurd (omega arith)
given_of-text (x ∷ y ∷ word) rest long first second is = rw (is ∙ tail_slice 2 (x ∷ y ∷ word)) (rw first (rw second refl))

-- `n:` and what follows it
pub given_of-number : (word rest : List ℕ) → 2 ≤ length word → get_or word 0 0 ≡ 110 → get_or word 1 0 ≡ 58 → rest ≡ take (length word - 2) (drop 2 word)
    → given_of word ≡ number_value rest
unfolding given_of
given_of-number [] rest long first second is = absurd (omega arith)
given_of-number (x ∷ []) rest long first second is = absurd (omega arith)
given_of-number (x ∷ y ∷ word) rest long first second is = rw (is ∙ tail_slice 2 (x ∷ y ∷ word)) (rw first (rw second refl))

pub ruleset forms = (given_of-text, given_of-number)
