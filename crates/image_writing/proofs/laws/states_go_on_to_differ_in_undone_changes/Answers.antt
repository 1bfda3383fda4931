use Rattle.image_writing.proofs.UndoneAnswers.{differing_after, differing_agrees, differing_span, differing_takes, equivalent_differs, settled_differs}
use Rattle.image_writing.proofs.laws.states_go_on_to_differ_in_undone_changes.Goals as goal

pub returns-clause-settled : goal.returns-clause-settled
returns-clause-settled c state h = settled_differs state h

pub returns-clause-equivalent : goal.returns-clause-equivalent
returns-clause-equivalent c one other another d e = equivalent_differs one other another d e

pub returns-clause-span : goal.returns-clause-span
returns-clause-span c one other d = differing_span one other d

pub returns-clause-agrees : goal.returns-clause-agrees
returns-clause-agrees c one other d session local h = differing_agrees one other d session local h

pub returns-clause-takes : goal.returns-clause-takes
returns-clause-takes c one other d none made = differing_takes one other d none made

pub returns-clause-after : goal.returns-clause-after
returns-clause-after c one other d has rise made lawful = differing_after one other d has rise made lawful
