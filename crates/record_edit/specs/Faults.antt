-- What a failed edit says.
use Rattle.std.specs.Prelude.{◌≡◌, Option, Some, None}
use Rattle.jet_base.specs.declared.replies.Jet.{Jet}
use Rattle.record_edit.specs.declared.fault.EditFault.{EditFault}
use Rattle.record_edit.specs.declared.fault.EditFault.TheVariants.{Refused, OutOfMemory}

-- a refusal names the one that holds, and memory is wanted only where none does
abbrev pub IsFaultOf : Option Jet → EditFault → Type 0
IsFaultOf refusal (Refused jet) = refusal ≡ Some jet
IsFaultOf refusal OutOfMemory = refusal ≡ None
