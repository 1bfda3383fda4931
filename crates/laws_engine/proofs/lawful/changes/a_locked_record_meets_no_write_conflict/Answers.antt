use Rattle.laws_engine.proofs.LawfulLemmas.Locks.{locked_free}
use Rattle.laws_engine.proofs.lawful.changes.a_locked_record_meets_no_write_conflict.Goals as goal

pub returns : goal.returns
returns c = locked_free
