use Rattle.std.proofs.Common.{◌≡◌, IfOk, subst, sym, arith, drop-cons}
use Rattle.load_gen.proofs.Walks.{behind_this_walk, in_this_walk}
use Rattle.load_gen.proofs.script.call_of_walks.Goals as goal

pub returns-then-place-calls : goal.returns-then-place-calls
returns-then-place-calls c =
    subst (λ wanted. IfOk c.walk_call.result (λ made. made ≡ wanted))
    (sym (in_this_walk c.args.records c.loop-index.place c.args.place c.entries_in-calls.result c.loop-index.index-index c.args.indexes.now _
    c.loop-index.invariant c.entries_in-calls.ensures (drop-cons c.args.indexes.now c.loop-index.index-index _ (omega (arith, c.loop-index-test.true))) (omega (arith, c.if-place-calls.true))))
    c.walk_call.ensures

pub loop-index-preserved : goal.loop-index-preserved
loop-index-preserved c =
    behind_this_walk c.args.records c.loop-index.place c.args.place c.entries_in-calls.result c.loop-index.index-index c.args.indexes.now _
    c.loop-index.invariant c.entries_in-calls.ensures (drop-cons c.args.indexes.now c.loop-index.index-index _ (omega (arith, c.loop-index-test.true))) (omega (arith, c.if-place-calls.false))
