use Rattle.laws_engine.proofs.TableLemmas.SeenTables.{seen_record_in}
use Rattle.laws_engine.proofs.tables.readers.a_reader_finds_the_records_that_it_is_shown.Goals as goal

pub returns : goal.returns
returns c = seen_record_in
