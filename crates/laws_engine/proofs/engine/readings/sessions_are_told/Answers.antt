use Rattle.std.proofs.Common.{sym, ap, ◌∙◌, length}
use Rattle.std.specs.Prelude.{option_map}
use Rattle.version_cleanup.specs.LiveSessions.{is_live, levels_in, transaction_in}
use Rattle.version_cleanup.specs.declared.live.Transaction.{Transaction}
use Rattle.laws_engine.proofs.EngineLemmas.Sessions.{begin_alike, count_alike, levels_alike, live_alike, transaction_alike}
use Rattle.laws_engine.proofs.engine.readings.sessions_are_told.Goals as goal

pub returns : goal.returns
returns c = record {
  live = λ engine state h session. ap (is_live session) (sym h.sessions) ∙ live_alike session state.sessions;
  count = λ engine state h. ap length (sym h.sessions) ∙ count_alike state.sessions;
  transaction = λ engine state h session. ap (transaction_in session) (sym h.sessions) ∙ transaction_alike session state;
  levels = λ engine state h session. ap (levels_in session) (sym h.sessions) ∙ levels_alike session state;
  begin = λ engine state h session. ap (λ sessions. option_map (λ (t : Transaction). t.begin) (transaction_in session sessions)) (sym h.sessions) ∙ begin_alike session state;
}
