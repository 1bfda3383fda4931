use Rattle.image_writing.specs.EngineImages.{first_trees}
use Rattle.image_writing.proofs.CopiedTrees.{CopyStands, first_stands, if_ok_then}
use Rattle.image_writing.proofs.pages.tree_pages.Goals as goal

pub returns-in-None-clause-trees : goal.returns-in-None-clause-trees
returns-in-None-clause-trees c =
    if_ok_then c.first_pages.result (CopyStands first_trees) (CopyStands c.args.trees.now)
    (first_stands c.space-stored.result.space.now c.space-stored.result.catalog_root c.args.trees.now c.requires c.space-stored.ensures c.in-None.is) c.first_pages.ensures.trees
