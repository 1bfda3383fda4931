use Rattle.laws_engine.proofs.TableLemmas.HeldSums.{column_shown, number_shown}
use Rattle.laws_engine.proofs.tables.sums.a_reader_sees_stored_numbers_without_unseen_sums.Goals as goal

pub returns-clause-columns : goal.returns-clause-columns
returns-clause-columns c = column_shown

pub returns-clause-numbers : goal.returns-clause-numbers
returns-clause-numbers c = number_shown
