use Rattle.std.proofs.Common.{refl}
use Rattle.image_findings.specs.Opening.{opening}
use Rattle.image_findings.proofs.examples.findings_of_rows.Goals as goal

pub returns-clause-bookmark : goal.returns-clause-bookmark
unfolding opening
returns-clause-bookmark c = refl

pub returns-clause-short : goal.returns-clause-short
unfolding opening
returns-clause-short c = refl

pub returns-clause-extent : goal.returns-clause-extent
unfolding opening
returns-clause-extent c = refl

pub returns-clause-no_row : goal.returns-clause-no_row
unfolding opening
returns-clause-no_row c = refl

pub returns-clause-missing : goal.returns-clause-missing
unfolding opening
returns-clause-missing c = refl

pub returns-clause-room : goal.returns-clause-room
unfolding opening
returns-clause-room c = refl
