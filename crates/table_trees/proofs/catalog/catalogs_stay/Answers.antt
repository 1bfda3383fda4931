use Rattle.table_trees.proofs.Catalogs.{catalog_stays}
use Rattle.table_trees.proofs.catalog.catalogs_stay.Goals as goal

pub returns : goal.returns
returns c old new before after kept = catalog_stays c.other_catalogs_stay.ensures old new before after kept.tree
