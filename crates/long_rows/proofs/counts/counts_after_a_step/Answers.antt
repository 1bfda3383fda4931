use Rattle.long_rows.proofs.CountSteps.{changed, cleaned, rewritten, undone, without_row_before}
use Rattle.long_rows.proofs.counts.counts_after_a_step.Goals as goal

pub returns-clause-changed : goal.returns-clause-changed
returns-clause-changed c = changed

pub returns-clause-undone : goal.returns-clause-undone
returns-clause-undone c = undone

pub returns-clause-cleaned : goal.returns-clause-cleaned
returns-clause-cleaned c = cleaned

pub returns-clause-held : goal.returns-clause-held
returns-clause-held c = without_row_before

pub returns-clause-rewritten : goal.returns-clause-rewritten
returns-clause-rewritten c = rewritten
