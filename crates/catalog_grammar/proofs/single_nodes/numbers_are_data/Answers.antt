use Rattle.catalog_grammar.proofs.Places.{greatest_replaced, root_replaced, table_replaced}
use Rattle.catalog_grammar.proofs.single_nodes.numbers_are_data.Goals as goal

pub returns-clause-greatest : goal.returns-clause-greatest
returns-clause-greatest c = greatest_replaced

pub returns-clause-table : goal.returns-clause-table
returns-clause-table c = table_replaced

pub returns-clause-root : goal.returns-clause-root
returns-clause-root c = root_replaced
