use Rattle.laws_engine.proofs.EngineLemmas.RecordsAndConflicts.{record_shown}
use Rattle.laws_engine.proofs.engine.readings.a_session_is_shown_the_records_of_its_view.Goals as goal

pub returns : goal.returns
returns c = record_shown
