-- How quotients grow from a number to the next.
use Rattle.std.proofs.Common.{◌≡◌, ℕ, ◌+◌, ◌*◌, ◌/◌, ◌%◌, ◌≤◌, arith}
use Rattle.std.specs.Prelude.{◌==◌, if◌then◌else◌}
use Rattle.std.proofs.lemmas.Bool.Decides.{nat_tests}

pub third_step : (m : ℕ) → (m + 1) % 3 + 2 * ((m + 1) / 3) ≡ 1 + (m + 1 + 1) / 3 + m / 3
third_step m = omega arith

pub tenth_step : (m : ℕ) → (if (m + 1) % 10 == 0 then 0 else 1) + (m + 1) / 10 ≡ 1 + m / 10
tenth_step m = grind (arith, nat_tests)

pub hundredth_step : (m : ℕ) → (if (m + 1) % 100 == 0 then 1 else 0) + m / 100 ≡ (m + 1) / 100
hundredth_step m = grind (arith, nat_tests)

pub hundredth_begin : (m : ℕ) → (if m % 100 == 0 then 1 else 0) + (m + 99) / 100 ≡ (m + 1 + 99) / 100
hundredth_begin m = grind (arith, nat_tests)

-- so many calls are about 1048 / 25 for each of m records
pub guess_below : (m f : ℕ) → f + m / 3 + m / 10 ≡ 42 * m + (m + 1) / 3 + (m + 99) / 100 + m / 100 → 25 * f ≤ 1048 * m + 73
guess_below m f e = omega arith

pub guess_above : (m f : ℕ) → f + m / 3 + m / 10 ≡ 42 * m + (m + 1) / 3 + (m + 99) / 100 + m / 100 → 1048 * m ≤ 25 * f + 25
guess_above m f e = omega arith
