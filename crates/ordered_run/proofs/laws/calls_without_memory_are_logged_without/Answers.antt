use Rattle.ordered_run.proofs.LogMemory.{logs_without}
use Rattle.ordered_run.proofs.laws.calls_without_memory_are_logged_without.Goals as goal

pub returns : goal.returns
returns c =
    let ends = c.ends_take_no_memory.ensures in
    logs_without ends.commit_transaction ends.rollback ends.end_session ends.close_table
