use Rattle.std.proofs.Common.{sym, subst, ap}
use Rattle.common_lemmas.proofs.Booleans.{impossible}
use Rattle.soft_recovery.proofs.opening.opened.Goals as goal

pub returns-in-Ok-clause-recovered : goal.returns-in-Ok-clause-recovered
returns-in-Ok-clause-recovered g c =
    let is = c.in-Ok.ensures.inspected in
    record {
      checkpoint = is.checkpoint;
      stream = is.stream;
      within = is.standing.within;
      copy = is.standing.copy;
      holds = is.database.holds;
      stands = is.stands;
      only = is.only;
      opened = is.opened;
      writable = λ never. impossible never;
    }

pub returns-in-Ok-clause-limit : goal.returns-in-Ok-clause-limit
returns-in-Ok-clause-limit g c = c.in-Ok.ensures.limit

pub returns-in-Ok-clause-sessions : goal.returns-in-Ok-clause-sessions
returns-in-Ok-clause-sessions g c = c.in-Ok.ensures.sessions

pub returns-in-Ok-clause-room : goal.returns-in-Ok-clause-room
returns-in-Ok-clause-room g c = c.in-Ok.ensures.room

pub returns-in-Ok-clause-bounds : goal.returns-in-Ok-clause-bounds
returns-in-Ok-clause-bounds g c = c.in-Ok.ensures.bounds

pub returns-in-Ok-clause-looks : goal.returns-in-Ok-clause-looks
returns-in-Ok-clause-looks g c = c.in-Ok.ensures.looks

pub returns-in-Ok-clause-faults : goal.returns-in-Ok-clause-faults
returns-in-Ok-clause-faults g c = c.in-Ok.ensures.faults

pub returns-in-Ok-clause-identity : goal.returns-in-Ok-clause-identity
returns-in-Ok-clause-identity g c = c.in-Ok.ensures.identity

pub returns-in-Err-clause-refused : goal.returns-in-Err-clause-refused
returns-in-Err-clause-refused g c = c.in-Err.ensures.refused

pub returns-in-Err-clause-looks : goal.returns-in-Err-clause-looks
returns-in-Err-clause-looks g c = c.in-Err.ensures.looks

pub returns-in-Err-clause-faults : goal.returns-in-Err-clause-faults
returns-in-Err-clause-faults g c = c.in-Err.ensures.faults

pub returns-in-Err-clause-identity : goal.returns-in-Err-clause-identity
returns-in-Err-clause-identity g c = c.in-Err.ensures.identity
