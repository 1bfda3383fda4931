use Rattle.image_findings.specs.CatalogFindings.{catalog_told}
use Rattle.image_findings.specs.Findings.{finding}
use Rattle.image_findings.specs.TreeFindings.{no_marks, nodes_below, trees_finding}
use Rattle.std.proofs.Common.{[], ◌∷◌}
use Rattle.image_opening.proofs.Opening.{first_of_image}
use Rattle.image_opening.proofs.catalog.what_opens_first_is_found_first.Goals as goal

pub returns : goal.returns
unfolding finding
returns c = λ image found e. first_of_image image found (trees_finding image.pages (image.catalog_root ∷ []) (no_marks image.pages)) (catalog_told (nodes_below image.pages image.catalog_root)) e
