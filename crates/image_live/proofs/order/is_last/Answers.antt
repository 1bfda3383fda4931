use Rattle.std.proofs.Common.{None, Some, true, refl}
use Rattle.version_store.specs.Answers.{told_change}
use Rattle.image_live.proofs.Leaving.{last_of}
use Rattle.image_live.proofs.order.is_last.Goals as goal

pub returns-in_default : goal.returns-in_default
returns-in_default c = λ h at. last_of c.args.changes.now c.args.place h (told_change c.change_at-change.result) None true at c.change_at-change.ensures c.in_default.ensures.place refl

pub returns : goal.returns
returns c = λ h at. last_of c.args.changes.now c.args.place h (told_change c.change_at-change.result) (Some c.in-Some.newest) _ at c.change_at-change.ensures c.in-Some.ensures.place refl
