use Rattle.jet_catalog.proofs.WithoutRows.{catalog_after-without_rows}
use Rattle.jet_catalog.proofs.laws.steps_are_the_same_without_records.Goals as goal

pub returns : goal.returns
returns c = catalog_after-without_rows
