use Rattle.std.proofs.Common.{refl}
use Rattle.database_state.specs.State.{empty_state}
use Rattle.laws_engine.proofs.AgreeingLemmas.OwnSessions.{not_begun}
use Rattle.laws_engine.proofs.EngineLemmas.Beginning.{empty_holds}
use Rattle.laws_engine.proofs.engine.begin.an_empty_engine_holds_the_empty_state.Goals as goal

pub returns-clause-holds : goal.returns-clause-holds
returns-clause-holds c = empty_holds

pub returns-clause-in_step : goal.returns-clause-in_step
returns-clause-in_step c = λ limit. record { state = empty_state; holds = empty_holds limit; in_step = λ session. not_begun empty_state session refl }
