use Rattle.std.proofs.Common.{[], ◌∷◌}
use Rattle.image_findings.specs.CatalogFindings.{catalog_told}
use Rattle.image_findings.specs.Findings.{finding}
use Rattle.image_findings.specs.TreeFindings.{no_marks, nodes_below, trees_finding}
use Rattle.image_opening.proofs.NextFindings.{found_behind_trees, found_of_trees}
use Rattle.image_opening.proofs.trees.what_trees_open_next_is_found_next.Goals as goal

pub returns : goal.returns
unfolding finding
returns c = record {
  found = λ image told found e is f. found_of_trees image told found (trees_finding image.pages (image.catalog_root ∷ []) (no_marks image.pages)) (catalog_told (nodes_below image.pages image.catalog_root)) e is f;
  rest = λ image told e is f. found_behind_trees image told (trees_finding image.pages (image.catalog_root ∷ []) (no_marks image.pages)) (catalog_told (nodes_below image.pages image.catalog_root)) e is f;
}
