-- Counts by label.
use Rattle.std.proofs.Common.{◌≡◌, ℕ, zero, suc, refl}
use Rattle.std.specs.Prelude.{get_or, replicate}

pub none_counted : (n label : ℕ) → get_or (replicate n zero) label zero ≡ zero
none_counted zero label = refl
none_counted (suc n) zero = refl
none_counted (suc n) (suc label) = none_counted n label
