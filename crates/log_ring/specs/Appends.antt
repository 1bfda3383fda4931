-- What an append may leave of the log at each moment.
use Rattle.std.specs.Prelude.{◌≡◌, ◌⊎◌, ℕ, ◌+◌, true, List, ◌++◌, length}
use Rattle.jet_volume.specs.Crash.{Torn}
use Rattle.jet_volume.specs.declared.files.LogStart.{LogStart}
use Rattle.log_ring.specs.Blocks.{address, Scans}
use Rattle.log_ring.specs.Gates.{ReadyingLeaves, begun, staged}

-- while a place is made ready for a block; behind another block it is ready
abbrev pub BeginningLeaves : LogStart → List ℕ → List ℕ → Type 0
BeginningLeaves place log new = (new ≡ log) ⊎ ((place.offset ≡ 0) × ReadyingLeaves (place.generation + 1) true (address place) log new)

-- while a block is written behind its gate, and while its gate is opened
abbrev pub StoringLeaves : LogStart → List ℕ → List ℕ → List ℕ → Type 0
StoringLeaves place payload log new = Torn (address place + 1) (21 + length payload) log new ⊎ Torn (address place) 1 (staged place payload log) new

-- while both is done, the one after the other
abbrev pub AppendingLeaves : LogStart → List ℕ → List ℕ → List ℕ → Type 0
AppendingLeaves place payload log new = BeginningLeaves place log new ⊎ StoringLeaves place payload (begun place log) new

-- a scan of the log gives this stream
abbrev pub Gives : LogStart → List ℕ → List ℕ → Type 0
Gives from stream log = (end : LogStart) × Scans log from stream end

-- the log gives the stream from before, or that stream with the new bytes behind it
abbrev pub GivesBeforeOrAfter : LogStart → List ℕ → List ℕ → List ℕ → Type 0
GivesBeforeOrAfter from stream bytes log = Gives from stream log ⊎ Gives from (stream ++ bytes) log
