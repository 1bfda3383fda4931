use Rattle.image_findings.proofs.IndexTrees.{index_trees}
use Rattle.image_findings.proofs.Told.{is_told}
use Rattle.image_findings.proofs.laws.indexes_that_a_catalog_tells_have_their_trees.Goals as goal

pub returns : goal.returns
returns c frames nodes told is = index_trees frames told (is_told nodes told is)
