-- When a decision is the answer to a call.
use Rattle.std.specs.Prelude.{◌≡◌}
use Rattle.session_local.specs.declared.decision.Decision.{Decision}
use Rattle.session_local.specs.declared.request.Request.{Request}
use Rattle.session_local.specs.Answer.{answered_by}
use Rattle.session_local.specs.Calls.{answer}
use Rattle.session_local.specs.Deciding.{decided_in}
use Rattle.session_local.specs.Finishing.{finished}
use Rattle.session_local.specs.Outcome.{CallInputs}
use Rattle.session_local.specs.SessionSide.{SessionSide}

-- The decision is the answer to the call: its reply, its step, and what is left of the session's own state once it is
-- finished.
pub record IsAnswer (asked : CallInputs) (request : Request) (new : SessionSide) (decision : Decision) : Type 0 where
  pub reply : answered_by decision.reply new.reply ≡ (answer asked request).answered
  pub step : decision.step ≡ (answer asked request).step
  pub local : finished new.state request (decided_in decision) ≡ (answer asked request).local
