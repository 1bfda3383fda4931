-- Tests of two conditions.
use Rattle.std.proofs.Common.{◌≡◌, Bool, true, false, ◌&&◌, ◌||◌, refl, sym}
use Rattle.common_lemmas.proofs.Booleans.{impossible}

pub contradicted : (a : Bool) → (a ≡ true → true ≡ false) → a ≡ false
contradicted true g = g refl
contradicted false g = refl

-- the second of two that do not both hold, where the first does
pub and_second : (a b : Bool) → a ≡ true → (a && b) ≡ false → b ≡ false
and_second true b e f = f
and_second false b e f = impossible e

pub or_first : (a b : Bool) → (a || b) ≡ false → a ≡ false
or_first true b e = e
or_first false b e = refl

pub or_second : (a b : Bool) → (a || b) ≡ false → b ≡ false
or_second true b e = impossible (sym e)
or_second false b e = e
