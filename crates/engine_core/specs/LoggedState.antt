-- An engine with the bytes of its log entries.
use Rattle.std.specs.Prelude.{◌≡◌, ◌≤◌, ◌<◌, ◌*◌, ◌⊎◌, ℕ, Bool, not, true}
use Rattle.index_derive.specs.declared.log.Step.{Step}
use Rattle.index_derive.specs.declared.log.Step.TheVariants.{One, Alone}
use Rattle.laws_engine.specs.EngineState.{EngineState}
use Rattle.laws_engine.specs.EngineSteps.{cleaned_for}
use Rattle.engine_core.specs.Steps.{step_may_lack_memory}
use Rattle.entry_log.specs.LogState.{KeptStream, LogState, stream_end}
use Rattle.engine_core.specs.Bounds.{most_bytes}
use Rattle.engine_core.specs.Closing.{HaveLabels}
use Rattle.engine_core.specs.Ends.{CountsEnds, EndsState, end_bytes, ends_something}

-- What the engine holds, and what is kept of the bytes of the entries that it has made since its log began.
pub record LoggedState : Type 0 where
  pub engine : EngineState
  pub stream : KeptStream

-- Room is kept for the bytes of all that is to end, and it is known how many these are. The log has no more bytes than the number
-- allows.
pub record HasRoom (engine : EngineState) (log : LogState) (ends : EndsState) : Type 0 where
  pub exact : CountsEnds engine.sessions ends
  pub labels : HaveLabels engine.sessions
  pub room : end_bytes engine.sessions ≤ log.room
  pub few : end_bytes engine.sessions ≤ 16 * engine.number
  pub short : stream_end log.stream ≤ most_bytes engine.number

-- A clean may have been made.
abbrev pub MayBeCleaned : EngineState → EngineState → Type 0
MayBeCleaned old new = (cleans : Bool) × (new ≡ cleaned_for cleans old)

-- What ends something takes no memory: neither its entry's bytes, for which room is kept, nor the engine's step.
abbrev pub logged_step_may_lack_memory : Step → Bool
logged_step_may_lack_memory (One made) = not (ends_something made.kind)
logged_step_may_lack_memory (Alone made) = true

-- So much room was not there, or the engine's step may lack memory.
abbrev pub MayLackMemory : Step → ℕ → ℕ → Type 0
MayLackMemory step count room = (room < count) ⊎ (step_may_lack_memory step ≡ true)
