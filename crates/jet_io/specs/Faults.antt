-- Why an object of the outside may fail.
use Rattle.std.specs.Prelude.{◌≡◌, ◌<◌, ℕ, Result, MatchResult}

-- `Err` comes only where the count of faults rose in that call; every other answer leaves the count
abbrev pub CountsFault : {T E : Type 0} → Result T E → ℕ → ℕ → Type 0
CountsFault result before now = MatchResult result (λ _. now ≡ before) (λ _. before < now)
