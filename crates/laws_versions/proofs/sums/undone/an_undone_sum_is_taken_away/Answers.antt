use Rattle.laws_versions.proofs.SumLemmas.UndoneSums.{number_taken, opposite_sum, undone_sum, wrapped_sum}
use Rattle.laws_versions.proofs.SumLemmas.VeryRecords.{very_record}
use Rattle.laws_versions.proofs.sums.undone.an_undone_sum_is_taken_away.Goals as goal

pub returns-clause-last : goal.returns-clause-last
returns-clause-last c = undone_sum

pub returns-clause-number : goal.returns-clause-number
returns-clause-number c = number_taken

pub returns-clause-opposite : goal.returns-clause-opposite
returns-clause-opposite c = opposite_sum

pub returns-clause-very_record : goal.returns-clause-very_record
returns-clause-very_record c = very_record

pub returns-clause-wrapped : goal.returns-clause-wrapped
returns-clause-wrapped c = wrapped_sum
