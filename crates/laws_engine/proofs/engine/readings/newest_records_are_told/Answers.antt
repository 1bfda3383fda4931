use Rattle.std.proofs.Common.{ap}
use Rattle.laws_versions.specs.Records.{Records}
use Rattle.laws_engine.proofs.EngineLemmas.RecordsAndConflicts.{all_closed, tables_settled}
use Rattle.laws_engine.proofs.EngineLemmas.NoneOpen.{shown_settled}
use Rattle.laws_engine.proofs.engine.readings.newest_records_are_told.Goals as goal

pub returns : goal.returns
returns c = record {
  newest = λ engine state h table bookmark. ap (λ (r : Records). r table bookmark) h.holds.newest;
  committed = λ engine state h session e f. tables_settled engine state h (all_closed engine state h session e f);
  shown = λ engine state h session e f. shown_settled engine state h (all_closed engine state h session e f) session;
}
