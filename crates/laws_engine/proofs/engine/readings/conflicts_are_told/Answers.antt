use Rattle.std.proofs.Common.{sym, ap, ◌∙◌}
use Rattle.version_cleanup.specs.Cleaning.{reader_in}
use Rattle.version_cleanup.specs.LiveSessions.{oldest_begin}
use Rattle.laws_engine.specs.HeldRecords.{span}
use Rattle.laws_versions.proofs.KeyLemmas.KeyConflicts.{key_conflict_by_variants}
use Rattle.laws_engine.proofs.TableLemmas.WriteConflicts.{conflict_is_told, span_is_told}
use Rattle.laws_engine.proofs.EngineLemmas.Sessions.{oldest_alike}
use Rattle.laws_engine.proofs.EngineLemmas.RecordsAndConflicts.{begin_told, keys_told}
use Rattle.laws_engine.proofs.engine.readings.conflicts_are_told.Goals as goal

pub returns : goal.returns
returns c = record {
  write = λ engine state h session. conflict_is_told h.base h.dropped h.kept engine.store state h.holds (reader_in session engine.sessions) (begin_told engine state h session);
  key = keys_told key_conflict_by_variants;
  span = λ engine state h. ap (λ oldest. span oldest engine.store.held) (ap oldest_begin (sym h.sessions) ∙ oldest_alike state.sessions) ∙ span_is_told h.base h.dropped h.kept engine.store state h.holds h.labels;
}
