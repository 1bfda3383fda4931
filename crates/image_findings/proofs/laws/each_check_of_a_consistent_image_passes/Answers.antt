use Rattle.image_findings.proofs.Checks.{no_finding}
use Rattle.image_findings.proofs.laws.each_check_of_a_consistent_image_passes.Goals as goal

pub returns : goal.returns
returns c image h = no_finding image h
