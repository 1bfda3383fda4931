use Rattle.laws_engine.proofs.AgreeingLemmas.OwnSessions.{closes, opens}
use Rattle.laws_engine.proofs.agreeing.cursors.a_table_may_be_opened_and_closed.Goals as goal

pub returns-clause-open : goal.returns-clause-open
returns-clause-open c = opens

pub returns-clause-close : goal.returns-clause-close
returns-clause-close c = closes
