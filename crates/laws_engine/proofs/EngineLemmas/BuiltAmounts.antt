-- Amounts of sums that are built are numbers of 32 bits.
use Rattle.std.proofs.Common.{◌≡◌, ℕ, ◌<◌, true, arith}
use Rattle.std.specs.Prelude.{nat_le, ℤ, pos, negsuc, FitsSigned}
use Rattle.std.specs.Int.{w32}
use Rattle.std.proofs.lemmas.Bool.Decides.{nat_tests}
use Rattle.session_local.specs.BuiltCalls.{is_amount}

below : (n : ℕ) → nat_le n 2147483647 ≡ true → n < 2147483648
below n h = grind (arith, nat_tests)

at_most : (n : ℕ) → n < 2147483648 → nat_le n 2147483647 ≡ true
at_most n h = grind (arith, nat_tests)

pub amount_fits : (amount : ℤ) → is_amount amount ≡ true → FitsSigned w32 amount
amount_fits (pos n) h = record { sfits = below n h }
amount_fits (negsuc n) h = record { sfits = below n h }

pub fits_amount : (amount : ℤ) → FitsSigned w32 amount → is_amount amount ≡ true
fits_amount (pos n) h = at_most n h.sfits
fits_amount (negsuc n) h = at_most n h.sfits
