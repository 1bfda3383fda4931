use Rattle.record_decisions.proofs.UpdateTold.{schemas-told}
use Rattle.record_decisions.proofs.update_laws.schemas_are_those_of_tables.Goals as goal

pub returns : goal.returns
returns c = schemas-told
