-- Tests of two conditions.
use Rattle.std.proofs.Common.{◌≡◌, Bool, true, false, ◌&&◌, refl}

pub and_true : (a : Bool) → (a && true) ≡ a
and_true true = refl
and_true false = refl
