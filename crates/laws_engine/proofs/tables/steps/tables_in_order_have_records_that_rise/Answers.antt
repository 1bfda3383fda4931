use Rattle.laws_engine.proofs.TableLemmas.TablesInOrder.{in_order_rise, order_same}
use Rattle.laws_engine.proofs.tables.steps.tables_in_order_have_records_that_rise.Goals as goal

pub returns-clause-rows : goal.returns-clause-rows
returns-clause-rows c = order_same

pub returns-clause-tables : goal.returns-clause-tables
returns-clause-tables c = in_order_rise
