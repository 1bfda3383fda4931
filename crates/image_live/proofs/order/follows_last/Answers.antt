use Rattle.std.proofs.Common.{◌∙◌}
use Rattle.version_store.specs.Answers.{told_change}
use Rattle.image_live.proofs.Following.{follows_none, follows_some}
use Rattle.image_live.proofs.order.follows_last.Goals as goal

pub returns-in_default : goal.returns-in_default
returns-in_default c = λ h at. follows_none c.args.changes.now c.args.place h (c.in_default.ensures.place h at)

pub returns : goal.returns
returns c = λ h at.
    c.follows.ensures
    ∙ follows_some c.args.changes.now c.args.place c.in-Some.older h (told_change c.change_at.result) (told_change c.change_at-2.result) at c.change_at-2.ensures (c.in-Some.ensures.place h at) c.in-Some.ensures.within c.change_at.ensures
