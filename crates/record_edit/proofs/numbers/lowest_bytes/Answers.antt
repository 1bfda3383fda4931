use Rattle.std.proofs.Common.{◌∙◌, arith}
use Rattle.record_edit.proofs.Widths.{lowest_more}
use Rattle.record_edit.proofs.numbers.lowest_bytes.Goals as goal

pub loop-preserved : goal.loop-preserved
loop-preserved c = record {
  counted = omega arith;
  whole = rw c.push.ensures.items (lowest_more c.args.width c.loop.counter c.loop.rest c.loop.bytes.items c.loop-test.true ∙ c.loop.invariant.whole);
}
