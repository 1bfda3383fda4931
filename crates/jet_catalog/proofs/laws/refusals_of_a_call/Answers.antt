use Rattle.jet_catalog.proofs.Composed.{schema_refusal-composed}
use Rattle.jet_catalog.proofs.laws.refusals_of_a_call.Goals as goal

pub returns : goal.returns
returns c = schema_refusal-composed
