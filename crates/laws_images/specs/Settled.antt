-- States and engines without their undone changes, and states that differ in nothing else that matters.
use Rattle.std.specs.Prelude.{Bool, not, filter}
use Rattle.database_state.specs.Equivalence.{AreEquivalent}
use Rattle.database_state.specs.State.{DatabaseState, is_undone}
use Rattle.laws_engine.specs.EngineState.{EngineState}
use Rattle.laws_engine.specs.HeldRecords.{HeldRecord}
use Rattle.laws_engine.specs.VersionedTables.{VersionedTables}
use Rattle.laws_versions.specs.Readers.{is_standing}

-- a state without its undone changes
abbrev pub settled : DatabaseState → DatabaseState
settled state = record state { past = filter is_standing state.past }

-- Two states are alike where they are equivalent without their undone changes.
abbrev pub AreAlike : DatabaseState → DatabaseState → Type 0
AreAlike one other = AreEquivalent (settled one) (settled other)

-- ---- engines

-- a held change that is not undone
abbrev pub stands : HeldRecord → Bool
stands held = not (is_undone held.status)

-- tables without their undone changes
abbrev pub settled_store : VersionedTables → VersionedTables
settled_store store = record store { held = filter stands store.held }

-- an engine without its undone changes
abbrev pub settled_engine : EngineState → EngineState
settled_engine engine = record engine { store = settled_store engine.store }
