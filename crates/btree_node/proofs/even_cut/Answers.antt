-- Each part is at most half of all and of one node more.
use Rattle.std.proofs.Common.{◌≡◌, ◌+◌, ◌-◌, sum, take, ap, arith}
use Rattle.btree_node.specs.Cut.{sizes_with}
use Rattle.btree_node.proofs.Sizes.{cut_here, cut_last, larger_part-least, length-sizes_with, sizes_small, sum-sizes_with, sum-take-all, sum-take-more, nodes_are_some}
use Rattle.btree_node.proofs.even_cut.Goals as goal

pub loop-m-preserved : goal.loop-m-preserved
loop-m-preserved c =
    let sizes = sizes_with c.args.page.now.nodes c.args.i c.args.need in
    let small = sizes_small c.args.page.now.nodes c.args.i c.args.need (omega (arith, c.requires.place)) c.requires.small c.requires.all_small c.loop-m.m (omega (arith, c.loop-m-test.true, c.len-count.ensures.value)) in
    let more = sum-take-more sizes c.loop-m.m (omega (arith, c.loop-m-test.true, c.len-count.ensures.value, length-sizes_with c.args.page.now.nodes c.args.i c.args.need (omega (arith, c.requires.place)))) in
    record {
      within = omega arith;
      total = omega (arith, c.loop-m.invariant.total, c.size_with-size.ensures, more);
      left = omega (arith, c.if-before-size.false, c.used.ensures.within, c.requires.small, small, c.size_with-size.ensures);
      less = λ j e.
          let last : j ≡ c.loop-m.m = omega arith in
          omega (arith, ap (λ k. sum (take k sizes)) last, c.loop-m.invariant.total, c.size_with-size.ensures, more, c.if-before-size.false, c.used.ensures.value, sum-sizes_with c.args.page.now.nodes c.args.i c.args.need);
    }

pub returns-after-loop-m-clause-cut : goal.returns-after-loop-m-clause-cut
returns-after-loop-m-clause-cut c =
    cut_last c.args.page.now.nodes c.args.i c.args.need c.loop-m.m c.loop-m.before (omega (arith, c.requires.place)) c.requires.small c.requires.all_small (nodes_are_some c.args.page.now.nodes c.args.need c.requires.full c.requires.small)
    (omega (arith, c.loop-m-test.false, c.loop-m.invariant.within, c.len-count.ensures.value)) c.loop-m.invariant.total c.loop-m.invariant.left

pub returns-after-loop-m-clause-even : goal.returns-after-loop-m-clause-even
returns-after-loop-m-clause-even c = λ k.
    larger_part-least (sizes_with c.args.page.now.nodes c.args.i c.args.need) c.loop-m.m k c.loop-m.invariant.less
    (omega (arith, sum-take-all c.args.page.now.nodes c.args.i c.args.need c.loop-m.m (omega (arith, c.requires.place)) (omega (arith, c.loop-m-test.false, c.loop-m.invariant.within, c.len-count.ensures.value))))

pub returns-then-before-size-clause-cut : goal.returns-then-before-size-clause-cut
returns-then-before-size-clause-cut c =
    cut_here c.args.page.now.nodes c.args.i c.args.need c.loop-m.m c.loop-m.before c.size_with-size.result (c.used.result - 32 + c.args.need) (omega (arith, c.requires.place)) c.requires.small c.requires.all_small
    (omega (arith, c.loop-m-test.true, c.len-count.ensures.value)) c.loop-m.invariant.total c.loop-m.invariant.left c.size_with-size.ensures (omega (arith, c.used.ensures.value)) c.if-before-size.true
    (omega (arith, c.requires.full, c.used.ensures.value)) (omega (arith, c.used.ensures.within, c.requires.small))

pub returns-then-before-size-clause-even : goal.returns-then-before-size-clause-even
returns-then-before-size-clause-even c = λ k.
    let sizes = sizes_with c.args.page.now.nodes c.args.i c.args.need in
    let more = sum-take-more sizes c.loop-m.m (omega (arith, c.loop-m-test.true, c.len-count.ensures.value, length-sizes_with c.args.page.now.nodes c.args.i c.args.need (omega (arith, c.requires.place)))) in
    larger_part-least sizes c.loop-m.m k c.loop-m.invariant.less
    (omega (arith, c.loop-m.invariant.total, c.size_with-size.ensures, more, c.if-before-size.true, c.used.ensures.value, sum-sizes_with c.args.page.now.nodes c.args.i c.args.need))
