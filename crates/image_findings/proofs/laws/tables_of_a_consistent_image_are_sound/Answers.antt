use Rattle.image_findings.proofs.Built.{tables_are_built}
use Rattle.image_findings.proofs.Checks.{no_finding}
use Rattle.image_findings.proofs.Indexes.{plain_indexes}
use Rattle.image_findings.proofs.Tables.{own_numbers, single_sums}
use Rattle.image_findings.proofs.Told.{ids_are_given, ids_rise, is_told}
use Rattle.image_findings.specs.Findings.{told_in}
use Rattle.image_findings.specs.TreeFindings.{nodes_below}
use Rattle.image_findings.proofs.laws.tables_of_a_consistent_image_are_sound.Goals as goal

pub returns-clause-ids : goal.returns-clause-ids
returns-clause-ids c limit image h = ids_rise image.pages (told_in image) (is_told (nodes_below image.pages image.catalog_root) (told_in image) (no_finding image h).told)

pub returns-clause-given : goal.returns-clause-given
returns-clause-given c limit image h =
    let n = no_finding image h in
    ids_are_given image.pages (told_in image) (is_told (nodes_below image.pages image.catalog_root) (told_in image) n.told) n.catalog

pub returns-clause-numbers : goal.returns-clause-numbers
returns-clause-numbers c limit image h = own_numbers image.pages (told_in image).greatest (told_in image).tables (no_finding image h).catalog

pub returns-clause-single : goal.returns-clause-single
returns-clause-single c limit image h id = single_sums image.pages (told_in image).greatest (told_in image).tables (no_finding image h).catalog id

pub returns-clause-plain : goal.returns-clause-plain
returns-clause-plain c limit image h id = plain_indexes image.pages (told_in image).greatest (told_in image).tables (no_finding image h).catalog id

pub returns-clause-built : goal.returns-clause-built
returns-clause-built c limit image h =
    let n = no_finding image h in
    tables_are_built image.pages (told_in image) (is_told (nodes_below image.pages image.catalog_root) (told_in image) n.told) n.catalog
