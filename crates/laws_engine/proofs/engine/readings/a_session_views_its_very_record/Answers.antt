use Rattle.laws_engine.proofs.EngineLemmas.RecordsAndConflicts.{record_viewed}
use Rattle.laws_engine.proofs.engine.readings.a_session_views_its_very_record.Goals as goal

pub returns : goal.returns
returns c = record_viewed
