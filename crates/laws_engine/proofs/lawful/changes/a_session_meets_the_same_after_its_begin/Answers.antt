use Rattle.laws_engine.proofs.LawfulLemmas.Alone.{conflict_after, key_conflict_after, view_after}
use Rattle.laws_engine.proofs.lawful.changes.a_session_meets_the_same_after_its_begin.Goals as goal

pub returns-clause-conflict : goal.returns-clause-conflict
returns-clause-conflict c = conflict_after

pub returns-clause-key : goal.returns-clause-key
returns-clause-key c = key_conflict_after

pub returns-clause-view : goal.returns-clause-view
returns-clause-view c = view_after
