use Rattle.image_writing.proofs.Alongside.{after, begins, limits, room}
use Rattle.image_writing.proofs.laws.an_image_loses_nothing.Goals as goal

pub returns-clause-begins : goal.returns-clause-begins
returns-clause-begins c engine state image locals h in_step shows limit = begins engine state image locals h in_step shows limit

pub returns-clause-limits : goal.returns-clause-limits
returns-clause-limits c locals engine other h same session request = limits c.conflicts_are_told.ensures.span locals engine other h same session request

pub returns-clause-room : goal.returns-clause-room
returns-clause-room c locals engine other h same session request e = room locals engine other h same session request e

pub returns-clause-after : goal.returns-clause-after
returns-clause-after c locals engine other h session request built same =
    after
    (record {
      lawful = c.an_answer_is_lawful_and_stays_in_step.ensures.lawful;
      holds = c.an_answer_is_held_in_step.ensures.holds;
      stays = c.an_answer_is_lawful_and_stays_in_step.ensures.in_step;
      own = c.an_answer_makes_what_is_built.ensures.own;
      keeps = c.an_answer_keeps_all_sessions_in_step.ensures;
    })
    locals engine other h session request built same
