use Rattle.laws_engine.proofs.TableLemmas.HeldSums.{shown_with_sums}
use Rattle.laws_engine.proofs.tables.sums.a_reader_is_shown_records_with_unseen_sums.Goals as goal

pub returns : goal.returns
returns c = shown_with_sums
