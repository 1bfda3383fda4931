-- What the standard streams of a process tell.
use Rattle.std.specs.Prelude.{ℕ, Bool, true, List, Option, Some, None, is_some}

-- What a stream tells now that told its bytes at first. Of one that told none nothing is known later either.
abbrev pub still_told : Option (List ℕ) → Option (List ℕ) → Option (List ℕ)
still_told None now = None
still_told (Some bytes) now = now

-- a stream that told its bytes at first tells them now
abbrev pub tells_on : Option (List ℕ) → Option (List ℕ) → Bool
tells_on None now = true
tells_on (Some bytes) now = is_some now
