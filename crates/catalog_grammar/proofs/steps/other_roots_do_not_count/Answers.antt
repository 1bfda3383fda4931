use Rattle.std.proofs.Common.{ap}
use Rattle.catalog_grammar.specs.Catalogs.{catalog_fits, catalog_nodes}
use Rattle.catalog_grammar.proofs.StepNodes.{same_tables}
use Rattle.catalog_grammar.proofs.steps.other_roots_do_not_count.Goals as goal

pub returns-clause-nodes : goal.returns-clause-nodes
returns-clause-nodes c = λ one other catalog same. ap (catalog_nodes catalog.greatest_table) (same_tables one other catalog.tables same)

pub returns-clause-writable : goal.returns-clause-writable
returns-clause-writable c = λ one other catalog same. ap (catalog_fits catalog.greatest_table) (same_tables one other catalog.tables same)
