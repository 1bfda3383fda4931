use Rattle.catalog_grammar.proofs.Places.{absent_in, added_to, index_parted, removed_from, there_in}
use Rattle.catalog_grammar.proofs.single_nodes.indexes_are_nodes.Goals as goal

pub returns-clause-absent : goal.returns-clause-absent
returns-clause-absent c = λ greatest others x left right index h. absent_in _ _ _ (index_parted greatest others x left right index h)

pub returns-clause-added : goal.returns-clause-added
returns-clause-added c = λ greatest others x left right index h. added_to _ _ _ (index_parted greatest others x left right index h)

pub returns-clause-there : goal.returns-clause-there
returns-clause-there c = λ greatest others x left right index h. there_in _ _ _ (index_parted greatest others x left right index h)

pub returns-clause-removed : goal.returns-clause-removed
returns-clause-removed c = λ greatest others x left right index h. removed_from _ _ _ (index_parted greatest others x left right index h)
