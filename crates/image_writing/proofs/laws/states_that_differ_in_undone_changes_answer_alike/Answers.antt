use Rattle.image_writing.proofs.UndoneAnswers.{differing_limits, differing_room}
use Rattle.image_writing.proofs.laws.states_that_differ_in_undone_changes_answer_alike.Goals as goal

pub returns-clause-limits : goal.returns-clause-limits
returns-clause-limits c one other d none limit session local agrees request = differing_limits one other d none limit session local agrees request

pub returns-clause-room : goal.returns-clause-room
returns-clause-room c one other d none limit session local agrees request e = differing_room one other d none limit session local agrees request e
