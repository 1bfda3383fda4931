-- When an entry can be made, and which need memory.
use Rattle.std.specs.Prelude.{◌≡◌, ℕ, ◌-◌, Bool, true, false, List, [], Some}
use Rattle.index_derive.specs.declared.log.Entry.{Entry}
use Rattle.index_derive.specs.declared.log.EntryKind.{EntryKind}
use Rattle.index_derive.specs.declared.log.EntryKind.TheVariants as entry
use Rattle.index_derive.specs.declared.log.Step.{Step}
use Rattle.index_derive.specs.declared.log.Step.TheVariants.{One, Alone}
use Rattle.index_derive.specs.Steps.{entries_of_step}
use Rattle.database_state.specs.State.{DatabaseState}
use Rattle.database_state.specs.Lawful.{is_lawful}
use Rattle.laws_versions.specs.RecordNumbers.{HasItsType}
use Rattle.laws_engine.specs.EntryTypes.{AreOfTheirTypes}
use Rattle.laws_engine.specs.LawfulSteps.{AreLawful}
use Rattle.version_cleanup.specs.LiveSessions.{ended, with_session}
use Rattle.laws_engine.specs.HeldRecords.{HeldRecord}
use Rattle.session_local.specs.BuiltTables.{AllMakeBuilt, makes_built}
use Rattle.laws_engine.specs.EngineState.{EngineState}
use Rattle.laws_engine.specs.HoldsState.{HoldsState}

-- The entry is lawful in a state that the engine holds, makes only what is built, and is as its type has it.
pub record MayCome (engine : EngineState) (made : Entry) : Type 0 where
  pub state : DatabaseState
  pub holds : HoldsState engine state
  pub lawful : is_lawful state made ≡ true
  pub built : makes_built made.kind ≡ true
  pub typed : HasItsType made.kind

-- The entries of the step are lawful, each in its turn, from a state on that the engine holds, make only what is built, and are as
-- their types have them.
pub record MayTake (engine : EngineState) (step : Step) : Type 0 where
  pub state : DatabaseState
  pub holds : HoldsState engine state
  pub lawful : AreLawful state (entries_of_step (Some step))
  pub built : AllMakeBuilt (entries_of_step (Some step))
  pub typed : AreOfTheirTypes (entries_of_step (Some step))

-- the engine as it was before the last entry, by which the session's transaction began
abbrev pub begin_taken_back : ℕ → EngineState → EngineState
begin_taken_back session engine = record engine { number = engine.number - 1; sessions = with_session session ended engine.sessions }

-- ---- memory

-- A session that begins, a cursor that opens, a change of a record and a schema step may find no memory; what ends something,
-- and a level that begins, takes none.
abbrev pub may_lack_memory : EntryKind → Bool
may_lack_memory entry.Enter = true
may_lack_memory (entry.Open table) = true
may_lack_memory (entry.Change made) = true
may_lack_memory (entry.Schema made) = true
may_lack_memory _ = false

abbrev pub step_may_lack_memory : Step → Bool
step_may_lack_memory (One made) = may_lack_memory made.kind
step_may_lack_memory (Alone made) = may_lack_memory made.kind

-- ---- schema steps

-- a schema step is made once no change is held
abbrev pub IsSettledFor : EntryKind → List HeldRecord → Type 0
IsSettledFor (entry.Schema made) held = held ≡ []
IsSettledFor _ held = Unit {0}

abbrev pub IsSettledForStep : Step → List HeldRecord → Type 0
IsSettledForStep (One made) held = IsSettledFor made.kind held
IsSettledForStep (Alone made) held = IsSettledFor made.kind held
