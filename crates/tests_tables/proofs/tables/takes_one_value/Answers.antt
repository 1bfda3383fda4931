use Rattle.database_state.specs.Table.{table_with_id}
use Rattle.tests_tables.proofs.Storable.{found_takes}
use Rattle.tests_tables.proofs.tables.takes_one_value.Goals as goal

pub returns-in-Some : goal.returns-in-Some
returns-in-Some c h = found_takes (table_with_id c.args.tables.now.store.tables 1) c.in-Some.table.now c.in-Some.ensures (c.is_plain.ensures h)
