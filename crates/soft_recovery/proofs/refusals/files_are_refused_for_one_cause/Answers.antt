use Rattle.soft_recovery.proofs.OneCause.{StandingLaws, not_refused, once}
use Rattle.soft_recovery.proofs.refusals.files_are_refused_for_one_cause.Goals as goal

pub returns : goal.returns
returns c =
    let read = c.what_stands_is_read.ensures in
    let laws : StandingLaws = record { once = c.one_checkpoint_stands_on_files.ensures; old = read.not_refused; new = read.new_not_refused } in
    record { once = once laws; recovered = not_refused laws }
