use Rattle.engine_core.proofs.EndingCalls.{close-takes_none, commit-takes_none, end-takes_none, rollback-takes_none}
use Rattle.engine_core.proofs.logging.laws.ends_take_no_memory.Goals as goal

pub returns : goal.returns
returns c = record {
  commit_transaction = commit-takes_none;
  rollback = rollback-takes_none;
  end_session = end-takes_none;
  close_table = close-takes_none;
}
