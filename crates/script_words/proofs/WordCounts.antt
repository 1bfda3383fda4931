-- The words by their number, one word after another.
use Rattle.std.proofs.Common.{◌≡◌, ℕ, zero, suc, ◌+◌, List, [], ◌∷◌, drop, Option, Some, None, refl, sym, ◌∙◌, add-one, Bor}
use Rattle.std.proofs.Math.Seq.{drop-nil}
use Rattle.std.specs.Prelude.{if◌then◌else◌, IfNone, IfSome}
use Rattle.script_words.specs.Words.{◌>>=◌, first_word, only_word, two_words, three_words, is_empty_list}

abbrev no_more : List (List ℕ) → Option (List (List ℕ))
no_more words = if is_empty_list words then Some words else None

pub only_word-steps : (words : List (List ℕ)) → only_word words ≡ (first_word words >>= λ a. no_more a.1 >>= λ _. Some a.0)
only_word-steps [] = refl
only_word-steps (a ∷ []) = refl
only_word-steps (a ∷ b ∷ rest) = refl

pub two_words-steps : (words : List (List ℕ)) → two_words words ≡ (first_word words >>= λ a. first_word a.1 >>= λ b. no_more b.1 >>= λ _. Some (a.0, b.0))
two_words-steps [] = refl
two_words-steps (a ∷ []) = refl
two_words-steps (a ∷ b ∷ []) = refl
two_words-steps (a ∷ b ∷ c ∷ rest) = refl

pub three_words-steps : (words : List (List ℕ)) → three_words words ≡ (first_word words >>= λ a. first_word a.1 >>= λ b. first_word b.1 >>= λ c. no_more c.1 >>= λ _. Some (a.0, b.0, c.0))
three_words-steps [] = refl
three_words-steps (a ∷ []) = refl
three_words-steps (a ∷ b ∷ []) = refl
three_words-steps (a ∷ b ∷ c ∷ []) = refl
three_words-steps (a ∷ b ∷ c ∷ d ∷ rest) = refl

pub ruleset arities = (only_word-steps, two_words-steps, three_words-steps)

drop_suc-nil : (i : ℕ) (xs : List (List ℕ)) → drop i xs ≡ [] → drop (suc i) xs ≡ []
drop_suc-nil i [] h = refl
drop_suc-nil zero (x ∷ xs) h = absurd cc
drop_suc-nil (suc i) (x ∷ xs) h = drop_suc-nil i xs h

drop_suc-cons : (i : ℕ) (xs : List (List ℕ)) (word : List ℕ) (rest : List (List ℕ)) → drop i xs ≡ word ∷ rest → drop (suc i) xs ≡ rest
drop_suc-cons i [] word rest h = let none : [] ≡ word ∷ rest = sym (drop-nil i) ∙ h in absurd cc
drop_suc-cons zero (x ∷ xs) word rest h = cc
drop_suc-cons (suc i) (x ∷ xs) word rest h = drop_suc-cons i xs word rest h

-- one more word is passed over, or there is none
pub skip_next : (next : Option (Bor (List ℕ))) (i : ℕ) (words old new : List (List ℕ)) → old ≡ drop i words
    → IfNone next ((old ≡ []) × (new ≡ [])) → IfSome next (λ part. old ≡ part.now ∷ new) → new ≡ drop (i + 1) words
skip_next None i words old new here none some = rw add-one (none.1 ∙ sym (drop_suc-nil i words (sym here ∙ none.0)))
skip_next (Some part) i words old new here none some = rw add-one (sym (drop_suc-cons i words part.now new (sym here ∙ some)))
