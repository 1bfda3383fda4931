-- A volume fails where its call over the folder did.
use Rattle.std.proofs.Common.{◌≡◌, ℕ, Result, Ok, Err, IfOk, OnErr, true, false, subst}
use Rattle.std.specs.Prelude.{IsErr}
use Rattle.folder_volume.specs.Failures.{FailsWithFolder}

pub fails_on : {T E F : Type 0} → (not_open : Type 0) (outcome : Result T E) (result : Result T F) (before now : ℕ)
    → IfOk result (λ value. outcome ≡ Ok value) → OnErr result (IsErr outcome)
    → FailsWithFolder not_open outcome before now → FailsWithFolder not_open result before now
fails_on not_open outcome (Ok value) before now same failed known = subst (λ r. FailsWithFolder not_open r before now) same known
fails_on not_open (Ok other) (Err error) before now same failed known = let never : false ≡ true = failed in absurd cc
fails_on not_open (Err other) (Err error) before now same failed known = known
