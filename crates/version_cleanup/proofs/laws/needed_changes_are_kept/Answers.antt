use Rattle.version_cleanup.specs.NeededLaws.{needed-kept}
use Rattle.version_cleanup.proofs.laws.needed_changes_are_kept.Goals as goal

pub returns : goal.returns
returns c sessions status = needed-kept sessions status
