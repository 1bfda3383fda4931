use Rattle.laws_engine.specs.HeldRecords.{seen_record}
use Rattle.laws_engine.specs.HeldSums.{unseen_sums}
use Rattle.laws_engine.proofs.TableLemmas.ViewedRecords.{none_unseen, number_without, values_without}
use Rattle.laws_engine.proofs.tables.viewed.a_viewed_record_is_the_shown_one_without_unseen_sums.Goals as goal

pub returns-clause-plain : goal.returns-clause-plain
returns-clause-plain c = λ table bookmark reader newest held. none_unseen (seen_record table bookmark reader newest held) (unseen_sums table bookmark reader held)

pub returns-clause-columns : goal.returns-clause-columns
returns-clause-columns c = λ shown sums column. values_without shown column sums

pub returns-clause-numbers : goal.returns-clause-numbers
returns-clause-numbers c = λ shown sums column. number_without shown column sums
