use Rattle.std.proofs.Common.{take, sym, subst, arith, add-one}
use Rattle.image_opening.specs.ReadNodes.{ReadsNodes}
use Rattle.image_opening.proofs.NodesRead.{reads_all, reads_none, reads_place, unread_place}
use Rattle.image_opening.proofs.reading.read_leaf.Goals as goal

pub loop-i-init : goal.loop-i-init
loop-i-init c = reads_none c.args.items.now.items

pub returns-in-Err-clause-err : goal.returns-in-Err-clause-err
returns-in-Err-clause-err c = unread_place c.args.leaf.now.nodes c.loop-i.i c.in-Err.fault (omega (arith, c.loop-i-test.true, c.len-i-end.ensures.value)) c.in-Err.ensures.err

pub loop-i-preserved : goal.loop-i-preserved
loop-i-preserved c =
    subst (λ k. ReadsNodes (take k c.args.leaf.now.nodes) c.args.items.now.items c.read_node.new.items.items) (sym (add-one c.loop-i.i))
    (reads_place c.args.leaf.now.nodes c.loop-i.i c.args.items.now.items c.loop-i.items.items c.read_node.new.items.items c.loop-i.invariant (omega (arith, c.loop-i-test.true, c.len-i-end.ensures.value)) c.in-Ok.ensures.ok)

pub returns-clause-ok : goal.returns-clause-ok
returns-clause-ok c = reads_all c.args.leaf.now.nodes c.loop-i.i c.args.items.now.items c.loop-i.items.items c.loop-i.invariant (omega (arith, c.loop-i-test.false, c.len-i-end.ensures.value))
