use Rattle.catalog_grammar.proofs.Places.{absent_in, added_to, table_parted, removed_from, there_in}
use Rattle.catalog_grammar.proofs.single_nodes.tables_are_nodes.Goals as goal

pub returns-clause-absent : goal.returns-clause-absent
returns-clause-absent c = λ greatest others table h. absent_in _ _ _ (table_parted greatest others table h)

pub returns-clause-added : goal.returns-clause-added
returns-clause-added c = λ greatest others table h. added_to _ _ _ (table_parted greatest others table h)

pub returns-clause-there : goal.returns-clause-there
returns-clause-there c = λ greatest others table h. there_in _ _ _ (table_parted greatest others table h)

pub returns-clause-removed : goal.returns-clause-removed
returns-clause-removed c = λ greatest others table h. removed_from _ _ _ (table_parted greatest others table h)
