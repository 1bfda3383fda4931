use Rattle.jet_catalog.proofs.WithoutRows.{table_named-without_rows, table_with_id-without_rows}
use Rattle.jet_catalog.proofs.laws.tables_are_found_without_records.Goals as goal

pub returns-clause-named : goal.returns-clause-named
returns-clause-named c = table_named-without_rows

pub returns-clause-numbered : goal.returns-clause-numbered
returns-clause-numbered c = table_with_id-without_rows
