-- The page shows its nodes with the new one among them.
use Rattle.std.proofs.Common.{◌+◌, length, insert, arith, refl}
use Rattle.page_image.specs.Reading.{contents_of}
use Rattle.page_image.specs.Shown.{Shows}
use Rattle.page_image.proofs.Kept.{again, few, opened, shown, shows-insert}
use Rattle.page_image.proofs.Nodes.{few_nodes}
use Rattle.page_image.proofs.page.Page.insert.Goals as goal

pub insert_offset-requires-clause-room : goal.insert_offset-requires-clause-room
insert_offset-requires-clause-room c = omega (arith, few_nodes (contents_of c.self.inside.bytes).nodes, c.self.invariant.counted, c.self.invariant.ended)

pub overflow_add-self : goal.overflow_add-self
overflow_add-self c = omega (arith, c.self.invariant.counted, few (contents_of c.self.inside.bytes) c.self.invariant.page)

pub finish-requires : goal.finish-requires
finish-requires c = omega (arith, c.self.invariant.counted, few (contents_of c.self.inside.bytes) c.self.invariant.page)

-- what the fields show at the end
shows : (c : goal.After-finish) → Shows c.finish.new.bytes c.insert_offset.new.offsets (c.self.inside.count + 1) (c.self.inside.end + (6 + length c.args.key.now + c.args.extent)) (record c.args.self.now { nodes = insert c.args.self.now.nodes c.args.i (record { key = c.args.key.now; extent = c.args.extent; «data» = c.args.data.now }) })
shows c =
    let before : Shows c.self.inside.bytes c.self.inside.offsets c.self.inside.count c.self.inside.end c.args.self.now = opened c.self.inside.bytes c.self.inside.offsets c.self.inside.count c.self.inside.end c.args.self.now c.self.view_is c.self.invariant in
    shows-insert c.self.inside.bytes c.self.inside.offsets c.self.inside.count c.self.inside.end c.args.self.now c.args.i (record { key = c.args.key.now; extent = c.args.extent; «data» = c.args.data.now })
    c.insert_node.new.bytes c.finish.new.bytes c.insert_offset.new.offsets c.offset-at.result (6 + length c.args.key.now + c.args.extent)
    before c.requires.place c.requires.fits refl (omega arith) c.offset-at.ensures.value c.insert_node.ensures c.finish.ensures c.insert_offset.ensures.below c.insert_offset.ensures.at c.insert_offset.ensures.above

pub invariant_of-self : goal.invariant_of-self
invariant_of-self c = again _ _ _ _ _ (shows c)

pub returns-clause-ok : goal.returns-clause-ok
returns-clause-ok c = shown _ _ _ _ _ (shows c)

pub returns-clause-page : goal.returns-clause-page
returns-clause-page c = (again _ _ _ _ _ (shows c)).page
