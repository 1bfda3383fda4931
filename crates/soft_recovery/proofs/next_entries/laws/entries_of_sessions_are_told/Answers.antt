use Rattle.soft_recovery.proofs.SessionEntries.{entries_told}
use Rattle.soft_recovery.proofs.next_entries.laws.entries_of_sessions_are_told.Goals as goal

pub returns : goal.returns
returns c engine state h session kind is =
    entries_told
    (record {
      live = c.sessions_are_told.ensures.live;
      count = c.sessions_are_told.ensures.count;
      levels = c.sessions_are_told.ensures.levels;
      numbered = c.tables_are_told.ensures.numbered;
      commit = c.a_commit_is_always_lawful.ensures;
    })
    engine state h session kind is
