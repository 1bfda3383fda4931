-- Calls, what is prepared and entries, as the types of the program have them: the amount of a sum is a number of 32 bits, and
-- the columns of a record rise.
use Rattle.std.specs.Prelude.{List, Option, IfSome, FitsSigned}
use Rattle.std.specs.Int.{w32}
use Rattle.std.specs.List.{AllByRecursion}
use Rattle.index_derive.specs.declared.log.Entry.{Entry}
use Rattle.laws_versions.specs.EscrowNumbers.{ColumnsRise}
use Rattle.laws_versions.specs.RecordNumbers.{HasItsType}
use Rattle.session_local.specs.declared.request.Request.{Request}
use Rattle.session_local.specs.declared.request.Request.TheVariants as call
use Rattle.session_local.specs.Local.{LocalState, PreparedUpdate}

-- what a call adds to a sum, if it is one, is a number of 32 bits
abbrev pub HasItsAmount : Request → Type 0
HasItsAmount (call.EscrowUpdate cursor column amount) = FitsSigned w32 amount
HasItsAmount _ = Unit {0}

-- the columns of a prepared record rise
abbrev pub HasRisingColumns : Option PreparedUpdate → Type 0
HasRisingColumns prepared = IfSome prepared (λ update. ColumnsRise update.values)

-- so it is with all that the session has prepared
abbrev pub HasRisingUpdates : LocalState → Type 0
HasRisingUpdates local = AllByRecursion (λ c. HasRisingColumns c.prepared) local.cursors

-- each entry is as its type has it
abbrev pub AreOfTheirTypes : List Entry → Type 0
AreOfTheirTypes entries = AllByRecursion (λ made. HasItsType made.kind) entries
