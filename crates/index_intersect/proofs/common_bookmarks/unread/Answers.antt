use Rattle.std.proofs.Common.{◌≡◌, length, ap, ◌∙◌, arith}
use Rattle.std.specs.List.{list_all}
use Rattle.index_intersect.specs.Intersection.{lies_in}
use Rattle.index_intersect.specs.Walks.{will_read}
use Rattle.index_intersect.proofs.Turns.{one_more, whole}
use Rattle.index_intersect.proofs.common_bookmarks.unread.Goals as goal

pub loop-range-init : goal.loop-range-init
loop-range-init g c = record {
  counted = omega (arith, c.in_ok-all.ensures.len);
  told = λ b. ap (list_all (will_read (g.W.View.entries c.args.view.now) b)) c.in_ok-all.ensures.items;
}

pub loop-range-preserved : goal.loop-range-preserved
loop-range-preserved g c = record {
  counted = omega (arith, c.in_ok-push.ensures.len, c.loop-range.invariant.counted);
  told = λ b.
      one_more (will_read (g.W.View.entries c.args.view.now) b) (lies_in (g.W.View.entries c.args.view.now) b) c.loop-range.all.items c.push.new.self.items c.new.result c.args.ranges.now
      c.loop-range.range-index c.range-item.result c.loop-range-test.true c.in_ok-push.ensures.items
      (c.new.ensures b ∙ ap (lies_in (g.W.View.entries c.args.view.now) b) c.range-item.is) (c.loop-range.invariant.told b);
}

pub returns : goal.returns
returns g c =
    let all : c.loop-range.range-index ≡ length c.args.ranges.now = omega (arith, c.loop-range-test.false, c.loop-range.auto.range-index-end) in
    record {
      length = c.loop-range.invariant.counted ∙ all;
      all = λ b. c.loop-range.invariant.told b ∙ ap (list_all (lies_in (g.W.View.entries c.args.view.now) b)) (whole c.args.ranges.now c.loop-range.range-index all);
    }
