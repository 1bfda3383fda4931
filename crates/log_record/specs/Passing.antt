-- What a function that passes over a field answers.
use Rattle.std.specs.Prelude.{◌≡◌, ℕ, Bool, false, List, Option, Some, None, Result, Ok, Err}

-- the test of what follows holds behind what a function passed over, and never where it passed nothing
abbrev pub Passes : {X : Type 0} → (X → List ℕ × ℕ) → Option X → ((List ℕ → ℕ → Bool) → Bool) → Type 0
Passes view None test = (rest : List ℕ → ℕ → Bool) → test rest ≡ false
Passes view (Some x) test = (rest : List ℕ → ℕ → Bool) → test rest ≡ rest (view x).0 (view x).1

-- a test is decided, or else is the test of the values that follow
abbrev pub Decided : {X : Type 0} → (X → Bool) → Result X Bool → Bool → Type 0
Decided next (Ok x) test = test ≡ next x
Decided next (Err answer) test = test ≡ answer
