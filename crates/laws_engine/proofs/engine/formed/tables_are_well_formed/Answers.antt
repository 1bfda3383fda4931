use Rattle.laws_engine.proofs.EngineLemmas.WellFormed.{table_formed}
use Rattle.laws_engine.proofs.engine.formed.tables_are_well_formed.Goals as goal

pub returns : goal.returns
returns c = table_formed
