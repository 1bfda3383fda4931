-- What room a change has in a state that the engine holds.
use Rattle.std.proofs.Common.{◌≡◌, ◌+◌, Option, ap, ◌∙◌}
use Rattle.column_set.specs.RecordValues.{RecordFields}
use Rattle.column_set.specs.ChangedRecords.{changed_table, changed_bookmark}
use Rattle.database_state.specs.State.{DatabaseState}
use Rattle.database_state.specs.Table.{record_in}
use Rattle.database_state.specs.VersionStore.{cost_of, version_span}
use Rattle.version_cleanup.specs.LiveSessions.{oldest_begin}
use Rattle.laws_engine.specs.HeldRecords.{span}
use Rattle.laws_engine.specs.EngineState.{EngineState}
use Rattle.laws_engine.specs.HoldsState.{HoldsState}
use Rattle.engine_parts.specs.HeldLaws.{TellsNewest}
use Rattle.record_decisions.specs.Changing.{TellsRoom}

-- the laws that it rests on
abbrev pub TellsSpan : Type 0
TellsSpan = (engine : EngineState) (state : DatabaseState) → HoldsState engine state → span (oldest_begin engine.sessions) engine.store.held ≡ version_span state

pub room-told : TellsSpan → TellsNewest → TellsRoom
room-told spans records engine state h made =
    ap (λ n. n + cost_of made (record_in engine.store.tables (changed_table made) (changed_bookmark made))) (spans engine state h)
    ∙ ap (λ (before : Option RecordFields). version_span state + cost_of made before) (records engine state h (changed_table made) (changed_bookmark made))
