-- The last of the held changes that passes a test.
use Rattle.std.proofs.Common.{◌≡◌, Some, ℕ, zero, suc, Bool, true, false, List, [], ◌∷◌, length, Option, None, take, refl, ap}
use Rattle.std.specs.Prelude.{IsSomeAnd, slice_get}
use Rattle.version_store.specs.HeldChanges.{HeldChange, last_place, later_place}

pub take_all : (held : List HeldChange) → take (length held) held ≡ held
take_all [] = refl
take_all (h ∷ held) = ap (λ hs. h ∷ hs) (take_all held)

-- the last one that passes does so
abbrev pub StandsAt : (HeldChange → Bool) → List HeldChange → Option ℕ → Type 0
StandsAt p held None = Unit {0}
StandsAt p held (Some place) = IsSomeAnd (slice_get held place) (λ h. p h ≡ true)

pub last_stands : (p : HeldChange → Bool) (end : ℕ) (held : List HeldChange) → StandsAt p held (last_place p (take end held))
last_stands p zero [] = tt
last_stands p (suc end) [] = tt
last_stands p zero (h ∷ held) = tt
last_stands p (suc end) (h ∷ held) = by (last_place p (take end held)) (p h) refl (last_stands p end held)
  where
    by : (o : Option ℕ) (b : Bool) → p h ≡ b → StandsAt p held o → StandsAt p (h ∷ held) (later_place b o)
    by (Some place) b e rest = rest
    by None true e rest = e
    by None false e rest = tt
