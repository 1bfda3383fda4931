use Rattle.std.proofs.Common.{sym, ◌∙◌, arith}
use Rattle.image_live.proofs.Following.{following_goes}
use Rattle.image_live.proofs.Fronts.{At, front_done, front_fails, front_goes, stands_at}
use Rattle.image_live.specs.Orders.{all_follow, follows_last}
use Rattle.image_live.proofs.order.all_follow.Goals as goal

pub returns-then-not-follows_last : goal.returns-then-not-follows_last
returns-then-not-follows_last c =
    let here : At c.args.changes.now c.loop-place.place = stands_at c.args.changes.now c.loop-place.place (omega (arith, c.loop-place-test.true, c.len-place-end.ensures)) in
    front_fails all_follow follows_last following_goes c.args.changes.now c.loop-place.place here.item here.is_at (sym (c.follows_last.ensures here.item here.is_at) ∙ c.if-not-follows_last.true) c.loop-place.invariant

pub loop-place-preserved : goal.loop-place-preserved
loop-place-preserved c =
    let here : At c.args.changes.now c.loop-place.place = stands_at c.args.changes.now c.loop-place.place (omega (arith, c.loop-place-test.true, c.len-place-end.ensures)) in
    front_goes all_follow follows_last following_goes c.args.changes.now c.loop-place.place here.item here.is_at (sym (c.follows_last.ensures here.item here.is_at) ∙ c.if-not-follows_last.false) c.loop-place.invariant

pub returns : goal.returns
returns c = front_done all_follow c.args.changes.now c.loop-place.place (omega (arith, c.loop-place-test.false, c.len-place-end.ensures)) c.loop-place.invariant
