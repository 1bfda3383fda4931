-- The refusals of a call, in the order in which they are tried.
use Rattle.std.specs.Prelude.{Bool, List, [], ◌∷◌, Option, Some, None, cond}
use Rattle.jet_base.specs.declared.replies.Jet.{Jet}

-- each refusal with its condition
abbrev pub Refusals : Type 0
Refusals = List (Bool × Jet)

-- the first refusal whose condition holds
abbrev pub first_refusal : Refusals → Option Jet
first_refusal [] = None
first_refusal (refusal ∷ refusals) = cond refusal.0 (Some refusal.1) (first_refusal refusals)
