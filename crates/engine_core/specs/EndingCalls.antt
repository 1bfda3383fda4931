-- Calls for which no memory is ever lacking.
use Rattle.std.specs.Prelude.{◌≡◌, true, false, Some}
use Rattle.index_derive.specs.declared.log.Step.{Step}
use Rattle.session_local.specs.declared.request.Request.{Request}
use Rattle.session_local.specs.Calls.{answer}
use Rattle.session_local.specs.Outcome.{CallInputs}
use Rattle.session_local.specs.Run.{takes_no_memory}
use Rattle.engine_core.specs.LoggedState.{logged_step_may_lack_memory}

-- The call is decided without memory, and its step is made and logged without any.
pub record TakesNoMemory (request : Request) : Type 0 where
  pub decided : takes_no_memory request ≡ true
  pub step : (asked : CallInputs) (step : Step) → (answer asked request).step ≡ Some step → logged_step_may_lack_memory step ≡ false
