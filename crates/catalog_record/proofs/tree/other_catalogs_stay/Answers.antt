use Rattle.catalog_record.proofs.tree.other_catalogs_stay.Goals as goal

pub returns : goal.returns
returns c = λ old new before after catalog exchanged tree apart. c.other_tree_stays.ensures old new before after catalog.tree exchanged tree apart
