use Rattle.std.proofs.Common.{arith, drop-cons}
use Rattle.load_gen.proofs.Lengths.{entries_fit}
use Rattle.load_gen.proofs.Walks.{walks_more}
use Rattle.load_gen.proofs.script.calls_of_walks.Goals as goal

pub loop-index-preserved : goal.loop-index-preserved
loop-index-preserved c = record {
  all = walks_more c.args.records c.loop-index.calls c.entries_in.result c.loop-index.index-index _ c.args.indexes.now _
      c.loop-index.invariant.all c.entries_in.ensures (drop-cons c.args.indexes.now c.loop-index.index-index _ (omega (arith, c.loop-index-test.true)));
  small = omega (arith, c.loop-index.invariant.small, entries_fit _ c.args.records c.entries_in.result c.entries_in.ensures (omega (arith, c.ranges.records.fits)));
}
