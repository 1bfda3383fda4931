-- Calls that are decided on the shared state.
use Rattle.std.proofs.Common.{◌≡◌, Bool, true, false, Option, refl, is_none}
use Rattle.session_local.specs.Local.{OpenCursor}

-- a call at a cursor that is not answered locally is one of a session that was begun and has the cursor
pub at_if : (b : Bool) (found : Option OpenCursor) → elim b [ true ↦ is_none found | false ↦ true ] ≡ false → (b ≡ true) × (is_none found ≡ false)
at_if true found e = (refl, e)
at_if false found e = absurd (cc)
