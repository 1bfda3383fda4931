-- A session may begin in an empty engine.
use Rattle.std.proofs.Common.{◌≡◌, ℕ, true, Some, refl, sym, subst}
use Rattle.jet_base.specs.Ids.{session_id}
use Rattle.index_derive.specs.declared.log.Entry.{Entry}
use Rattle.index_derive.specs.declared.log.EntryKind.TheVariants.{Enter}
use Rattle.index_derive.specs.declared.log.Step.{Step}
use Rattle.index_derive.specs.declared.log.Step.TheVariants.{One}
use Rattle.index_derive.specs.Steps.{entries_of_step}
use Rattle.database_state.specs.State.{DatabaseState, empty_state}
use Rattle.database_state.specs.Step.{state_after_all}
use Rattle.database_state.specs.Lawful.{is_lawful}
use Rattle.laws_engine.specs.EngineState.{EngineState, empty_engine}
use Rattle.laws_engine.specs.EngineSteps.{engine_after_step}
use Rattle.laws_engine.specs.HoldsState.{HoldsState}
use Rattle.engine_core.specs.Steps.{MayTake}

abbrev pub first : Entry
first = record { session = session_id 1; kind = Enter }

pub first_is_lawful : is_lawful empty_state first ≡ true
unfolding is_lawful
first_is_lawful = refl

pub may_enter : (limit : ℕ) → HoldsState (empty_engine limit) empty_state → MayTake (empty_engine limit) (One first)
may_enter limit holds = record { state = empty_state; holds = holds; lawful = (first_is_lawful, tt); built = (refl, tt); typed = (tt, tt) }

-- the state after it
abbrev pub entered_state : DatabaseState
entered_state = state_after_all empty_state (entries_of_step (Some (One first)))

-- an engine that was empty holds that state after the step
pub holds_next : (limit : ℕ) (was is : EngineState) (step : Step) → HoldsState (engine_after_step (empty_engine limit) (One first)) entered_state
    → was ≡ empty_engine limit → step ≡ One first → is ≡ engine_after_step was step → (state : DatabaseState) × HoldsState is state
holds_next limit was is step held empty one after = (
  entered_state,
  subst (λ (e : EngineState). HoldsState e entered_state) (sym after)
      (subst (λ (e : EngineState). HoldsState (engine_after_step e step) entered_state) (sym empty) (subst (λ (s : Step). HoldsState (engine_after_step (empty_engine limit) s) entered_state) (sym one) held)),
)
