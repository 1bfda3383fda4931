-- Fields that are passed over one behind the other.
use Rattle.std.proofs.Common.{◌≡◌, ℕ, Bool, List, Option, Some, None, ◌∙◌}
use Rattle.log_record.specs.Passing.{Passes}

-- what is passed over behind what was passed over
pub passes_then : {X : Type 0} (view : X → List ℕ × ℕ) (o : Option X) (first second : (List ℕ → ℕ → Bool) → Bool) → ((rest : List ℕ → ℕ → Bool) → first rest ≡ second rest) → Passes view o second → Passes view o first
passes_then view None first second same p = λ rest. same rest ∙ p rest
passes_then view (Some x) first second same p = λ rest. same rest ∙ p rest
