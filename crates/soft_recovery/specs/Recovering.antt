-- What an engine that shows a checkpoint recovers to.
use Rattle.std.specs.Prelude.{◌≡◌, ◌≤◌, ℕ, List, Option, length}
use Rattle.checkpoint.specs.declared.image.Found.{Found}
use Rattle.checkpoint.specs.declared.image.Found.TheVariants as found
use Rattle.checkpoint.specs.declared.image.TheConstants.{MAX_PAGES}
use Rattle.database_state.specs.State.{DatabaseState}
use Rattle.laws_engine.specs.EngineState.{EngineState}
use Rattle.laws_engine.specs.HoldsState.{HoldsState}
use Rattle.laws_images.specs.SoundStates.{IsSoundState}
use Rattle.loggable_steps.specs.Replays.{opened_state}
use Rattle.recovered_states.specs.Recovers.{RecoversFrom, ShowsState}
use Rattle.store_core.specs.Stands.{Checkpoint}

-- The checkpoint shows a state, and the engine holds each state that it shows.
pub record HoldsShown (checkpoint : Option Checkpoint) (engine : EngineState) : Type 0 where
  pub shown : DatabaseState
  pub shows : ShowsState checkpoint shown
  pub holds : (state : DatabaseState) → ShowsState checkpoint state → HoldsState engine state

-- The engine holds the state that is recovered from the checkpoint and the bytes behind it, which is within the limits that an image is
-- held to, and tells nothing else.
pub record HoldsRecovered (checkpoint : Option Checkpoint) (bytes : List ℕ) (engine : EngineState) : Type 0 where
  pub state : DatabaseState
  pub from : RecoversFrom checkpoint bytes state
  pub holds : HoldsState engine state
  pub sound : IsSoundState state
  pub tells : opened_state engine ≡ state

-- an image that was found has no more pages than one may have
abbrev pub HasFewPages : Found → Type 0
HasFewPages found.New = Unit {0}
HasFewPages (found.Old image) = length image.pages.items ≤ MAX_PAGES
