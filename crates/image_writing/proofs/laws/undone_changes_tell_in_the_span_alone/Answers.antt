use Rattle.image_writing.proofs.UndoneAnswers.{settled_limits, settled_room, settled_span}
use Rattle.image_writing.proofs.laws.undone_changes_tell_in_the_span_alone.Goals as goal

pub returns-clause-span : goal.returns-clause-span
returns-clause-span c state = settled_span state

pub returns-clause-answers : goal.returns-clause-answers
returns-clause-answers c state limit session local request = settled_limits state limit session local request

pub returns-clause-room : goal.returns-clause-room
returns-clause-room c state limit session local request e = settled_room state limit session local request e
