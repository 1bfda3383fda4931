use Rattle.image_findings.proofs.Checks.{no_finding}
use Rattle.image_findings.proofs.Nodes.{each_rises, tables_rise}
use Rattle.image_findings.specs.Findings.{catalog_marks, contents_in, told_in}
use Rattle.image_findings.proofs.laws.records_of_a_consistent_image_rise.Goals as goal

pub returns : goal.returns
returns c limit image bytes h = tables_rise (contents_in image) (each_rises image.pages bytes.pages (told_in image).tables (catalog_marks image) (no_finding image h).trees)
