use Rattle.laws_engine.proofs.TableLemmas.SeenRows.{seen_at}
use Rattle.laws_engine.proofs.tables.readers.a_reader_is_shown_the_records_that_it_sees.Goals as goal

pub returns : goal.returns
returns c = seen_at
