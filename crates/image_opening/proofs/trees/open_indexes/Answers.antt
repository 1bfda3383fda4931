use Rattle.std.proofs.Common.{get_or}
use Rattle.std.proofs.lemmas.List.{get_or_default}
use Rattle.jet_base.specs.Ids.{index_id}
use Rattle.image_opening.proofs.WalkedLists.{all_indexes, index_failed, next_index, no_index}
use Rattle.image_opening.proofs.trees.open_indexes.Goals as goal

pub loop-root-init : goal.loop-root-init
loop-root-init c = no_index c.args.space.now c.new-opened.result.items c.args.marks.now c.new-opened.ensures.items

pub loop-root-preserved : goal.loop-root-preserved
loop-root-preserved c =
    let roots = c.args.roots.now in
    let i = c.loop-root.root-index in
    let x = get_or roots i (index_id 0, 0) in
    next_index c.args.space.now roots i x c.loop-root.opened.items c.walk_index.new.opened.items c.args.marks.now c.loop-root.marks c.walk_index.new.marks c.loop-root-test.true (get_or_default roots i (index_id 0, 0) x c.loop-root-test.true) c.loop-root.invariant c.in-Ok.ensures.index
    c.in-Ok.ensures.walked

pub returns-in-Err-clause-fault : goal.returns-in-Err-clause-fault
returns-in-Err-clause-fault c =
    let roots = c.args.roots.now in
    let i = c.loop-root.root-index in
    let x = get_or roots i (index_id 0, 0) in
    index_failed c.args.space.now roots i x c.loop-root.opened.items c.args.marks.now c.loop-root.marks c.in-Err.fault c.loop-root-test.true (get_or_default roots i (index_id 0, 0) x c.loop-root-test.true) c.loop-root.invariant c.in-Err.ensures.fault

pub returns-clause-indexes : goal.returns-clause-indexes
returns-clause-indexes c = (all_indexes c.args.space.now c.args.roots.now c.loop-root.root-index c.loop-root.opened.items c.args.marks.now c.loop-root.marks c.loop-root-test.false c.loop-root.invariant).0

pub returns-clause-walked : goal.returns-clause-walked
returns-clause-walked c = (all_indexes c.args.space.now c.args.roots.now c.loop-root.root-index c.loop-root.opened.items c.args.marks.now c.loop-root.marks c.loop-root-test.false c.loop-root.invariant).1
