use Rattle.catalog_grammar.proofs.Places.{absent_in, added_to, column_parted, removed_from, there_in}
use Rattle.catalog_grammar.proofs.single_nodes.columns_are_nodes.Goals as goal

pub returns-clause-absent : goal.returns-clause-absent
returns-clause-absent c = λ greatest others x left right column h. absent_in _ _ _ (column_parted greatest others x left right column h)

pub returns-clause-added : goal.returns-clause-added
returns-clause-added c = λ greatest others x left right column h. added_to _ _ _ (column_parted greatest others x left right column h)

pub returns-clause-there : goal.returns-clause-there
returns-clause-there c = λ greatest others x left right column h. there_in _ _ _ (column_parted greatest others x left right column h)

pub returns-clause-removed : goal.returns-clause-removed
returns-clause-removed c = λ greatest others x left right column h. removed_from _ _ _ (column_parted greatest others x left right column h)
