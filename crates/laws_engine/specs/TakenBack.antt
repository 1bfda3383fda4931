-- When held changes can be taken back to the very records.
use Rattle.std.specs.Prelude.{List, ◌⊎◌}
use Rattle.database_state.specs.State.{DatabaseState, PastChange}
use Rattle.laws_versions.specs.Records.{Records}
use Rattle.laws_versions.specs.Variants.{HasNoSums}
use Rattle.laws_versions.specs.RecordNumbers.{HasEscrowNumbers}

-- No escrow column was changed, or each holds a number in every record: then the opposite sum gives the very record back. Every
-- state that lawful entries reach is of the second kind. The first asks nothing of the records: it is wider than the types, by data
-- that no program makes.
abbrev pub CanBeTakenBack : Records → List PastChange → DatabaseState → Type 0
CanBeTakenBack base kept state = HasNoSums kept ⊎ HasEscrowNumbers base kept state
