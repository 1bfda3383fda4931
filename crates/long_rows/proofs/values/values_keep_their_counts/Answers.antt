use Rattle.std.proofs.Common.{refl}
use Rattle.long_rows.proofs.Taken.{changed_counts, cleaned_counts, undone_counts}
use Rattle.long_rows.proofs.ChangedValues.{value_laws}
use Rattle.long_rows.proofs.Removed.{rewritten_counts}
use Rattle.long_rows.proofs.values.values_keep_their_counts.Goals as goal

pub returns-clause-none : goal.returns-clause-none
returns-clause-none c id = refl

pub returns-clause-changed : goal.returns-clause-changed
returns-clause-changed c = changed_counts value_laws

pub returns-clause-undone : goal.returns-clause-undone
returns-clause-undone c = undone_counts value_laws

pub returns-clause-cleaned : goal.returns-clause-cleaned
returns-clause-cleaned c = cleaned_counts value_laws

pub returns-clause-rewritten : goal.returns-clause-rewritten
returns-clause-rewritten c = rewritten_counts value_laws
