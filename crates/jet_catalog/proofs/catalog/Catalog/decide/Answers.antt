use Rattle.jet_catalog.proofs.NextNumbers.{decided_is_new}
use Rattle.jet_catalog.proofs.catalog.Catalog.decide.Goals as goal

pub returns-clause-new_id : goal.returns-clause-new_id
returns-clause-new_id c = decided_is_new c.args.self.now c.args.has_records c.args.call.now c.decide_on.result c.decide_on.ensures
