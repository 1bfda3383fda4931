-- A text behind whole lines.
use Rattle.std.proofs.Common.{◌≡◌, ℕ, ◌<◌, Bool, true, false, cond, List, [], ◌∷◌, ◌++◌, length, ap, ◌∙◌, refl, arith}
use Rattle.std.specs.Prelude.{◌==◌}
use Rattle.std.specs.List.{slice_split, onto_first}
use Rattle.std.proofs.lemmas.List.Splits.{length-slice_split, slice_split-cons_yes}
use Rattle.script_words.specs.Words.{lines_of}

onto_first-append : (x : ℕ) (parts more : List (List ℕ)) → 0 < length parts → onto_first x (parts ++ more) ≡ onto_first x parts ++ more
onto_first-append x [] more some = absurd (omega arith)
onto_first-append x (part ∷ parts) more some = refl

onto_parts : (x : ℕ) (passes : Bool) (whole parts more : List (List ℕ)) → whole ≡ parts ++ more → 0 < length parts
    → cond passes ([] ∷ whole) (onto_first x whole) ≡ cond passes ([] ∷ parts) (onto_first x parts) ++ more
onto_parts x true whole parts more is some = ap (λ (l : List (List ℕ)). [] ∷ l) is
onto_parts x false whole parts more is some = ap (onto_first x) is ∙ onto_first-append x parts more some

-- the parts of a text, and those behind a separator
slice_split-append : (p : ℕ → Bool) (xs : List ℕ) (y : ℕ) (ys : List ℕ) → p y ≡ true → slice_split p (xs ++ y ∷ ys) ≡ slice_split p xs ++ slice_split p ys
slice_split-append p [] y ys passes = slice_split-cons_yes p y ys passes
slice_split-append p (x ∷ xs) y ys passes =
    onto_parts x (p x) (slice_split p (xs ++ y ∷ ys)) (slice_split p xs) (slice_split p ys) (slice_split-append p xs y ys passes) (omega (arith, length-slice_split p xs))

-- the lines of a text that goes on behind a line end
pub lines_of-append : (text rest : List ℕ) → lines_of (text ++ 10 ∷ rest) ≡ lines_of text ++ lines_of rest
lines_of-append text rest = slice_split-append (λ b. b == 10) text 10 rest refl
