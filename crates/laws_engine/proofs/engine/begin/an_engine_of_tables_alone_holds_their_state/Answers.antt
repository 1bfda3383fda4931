use Rattle.std.proofs.Common.{ap}
use Rattle.std.specs.Prelude.{◌==◌, find, is_some}
use Rattle.database_state.specs.State.{LiveSession}
use Rattle.laws_engine.proofs.AgreeingLemmas.OwnSessions.{not_begun}
use Rattle.laws_engine.proofs.EngineLemmas.Beginning.{tables_have_room, tables_hold}
use Rattle.laws_engine.proofs.engine.begin.an_engine_of_tables_alone_holds_their_state.Goals as goal

pub returns : goal.returns
returns c = record {
  holds = tables_hold;
  in_step = λ state none session. not_begun state session (ap (λ sessions. is_some (find (λ (s : LiveSession). s.label == session) sessions)) none);
  room = tables_have_room;
}
