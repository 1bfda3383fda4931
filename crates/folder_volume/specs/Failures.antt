-- When a call of a folder, and one of a volume over it, fails.
use Rattle.std.specs.Prelude.{◌≡◌, ◌⊎◌, ◌<◌, ℕ, Result, MatchResult}

-- a write of so many bytes: the count of failures rises at `Err`, and where it took fewer; every other answer leaves it
abbrev pub CountsShortWrite : {E : Type 0} → ℕ → Result ℕ E → ℕ → ℕ → Type 0
CountsShortWrite len result before now = MatchResult result (λ n. (n < len → before < now) × (n ≡ len → now ≡ before)) (λ _. before < now)

-- A call of a volume fails only where its folder's count of failures rose in that call, or where a file that was not open yet
-- may have wanted memory for its path. Where it does not fail, no call of the folder did.
abbrev pub FailsWithFolder : {T E : Type 0} → Type 0 → Result T E → ℕ → ℕ → Type 0
FailsWithFolder not_open result before now = MatchResult result (λ _. now ≡ before) (λ _. (before < now) ⊎ not_open)
