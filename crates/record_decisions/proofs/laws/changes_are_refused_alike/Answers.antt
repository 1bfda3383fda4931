use Rattle.record_decisions.proofs.Seen.{room-told}
use Rattle.record_decisions.proofs.laws.changes_are_refused_alike.Goals as goal

pub returns-clause-room : goal.returns-clause-room
returns-clause-room c = room-told c.conflicts_are_told.ensures.span c.newest_records_are_told.ensures.newest
