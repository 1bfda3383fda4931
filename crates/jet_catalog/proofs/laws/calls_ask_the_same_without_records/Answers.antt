use Rattle.jet_catalog.proofs.WithoutRows.{step-without_rows, decided-without_rows}
use Rattle.jet_catalog.proofs.laws.calls_ask_the_same_without_records.Goals as goal

pub returns-clause-step : goal.returns-clause-step
returns-clause-step c = step-without_rows

pub returns-clause-decided : goal.returns-clause-decided
returns-clause-decided c = decided-without_rows
