-- The page shows its nodes after the edit.
use Rattle.std.proofs.Common.{◌-◌, remove, arith}
use Rattle.page_image.specs.Shown.{Shows}
use Rattle.page_image.proofs.Kept.{again, few, offsets_behind, opened, shown, shows-remove}
use Rattle.page_image.proofs.page.Page.remove.Goals as goal

pub remove_bytes-requires-clause-order : goal.remove_bytes-requires-clause-order
remove_bytes-requires-clause-order c = omega (arith, c.span-at.ensures.order, (opened c.self.inside.bytes c.self.inside.offsets c.self.inside.count c.self.inside.end c.args.self.now c.self.view_is c.self.invariant).ended)

pub remove_bytes-requires-clause-within : goal.remove_bytes-requires-clause-within
remove_bytes-requires-clause-within c = omega (arith, c.span-at.ensures.within, (opened c.self.inside.bytes c.self.inside.offsets c.self.inside.count c.self.inside.end c.args.self.now c.self.view_is c.self.invariant).ended)

pub remove_offset-requires-clause-order : goal.remove_offset-requires-clause-order
remove_offset-requires-clause-order c = omega (arith, c.requires, (opened c.self.inside.bytes c.self.inside.offsets c.self.inside.count c.self.inside.end c.args.self.now c.self.view_is c.self.invariant).counted)

pub remove_offset-requires-clause-room : goal.remove_offset-requires-clause-room
remove_offset-requires-clause-room c = omega (arith, few c.args.self.now (opened c.self.inside.bytes c.self.inside.offsets c.self.inside.count c.self.inside.end c.args.self.now c.self.view_is c.self.invariant).page, (opened c.self.inside.bytes c.self.inside.offsets c.self.inside.count c.self.inside.end c.args.self.now c.self.view_is c.self.invariant).counted)

pub remove_offset-requires-clause-small : goal.remove_offset-requires-clause-small
remove_offset-requires-clause-small c = omega (arith, c.span-at.ensures.order, c.span-at.ensures.within)

pub remove_offset-requires-clause-behind : goal.remove_offset-requires-clause-behind
remove_offset-requires-clause-behind c = offsets_behind c.self.inside.offsets c.self.inside.count c.args.self.now c.args.i c.span-at.result.1 (opened c.self.inside.bytes c.self.inside.offsets c.self.inside.count c.self.inside.end c.args.self.now c.self.view_is c.self.invariant).counted (opened c.self.inside.bytes c.self.inside.offsets c.self.inside.count c.self.inside.end c.args.self.now c.self.view_is c.self.invariant).placed c.requires c.span-at.ensures.size

pub overflow_sub-self : goal.overflow_sub-self
overflow_sub-self c = omega (arith, c.requires, (opened c.self.inside.bytes c.self.inside.offsets c.self.inside.count c.self.inside.end c.args.self.now c.self.view_is c.self.invariant).counted)

pub overflow_sub-self-2 : goal.overflow_sub-self-2
overflow_sub-self-2 c = omega (arith, c.span-at.ensures.order, (opened c.self.inside.bytes c.self.inside.offsets c.self.inside.count c.self.inside.end c.args.self.now c.self.view_is c.self.invariant).ended)

pub finish-requires : goal.finish-requires
finish-requires c = omega (arith, few c.args.self.now (opened c.self.inside.bytes c.self.inside.offsets c.self.inside.count c.self.inside.end c.args.self.now c.self.view_is c.self.invariant).page, (opened c.self.inside.bytes c.self.inside.offsets c.self.inside.count c.self.inside.end c.args.self.now c.self.view_is c.self.invariant).counted)

-- what the fields show at the end
shows : (c : goal.After-finish) → Shows c.finish.new.bytes c.remove_offset.new.offsets (c.self.inside.count - 1) (c.self.inside.end - c.span-at.result.1) (record c.args.self.now { nodes = remove c.args.self.now.nodes c.args.i })
shows c =
    shows-remove c.self.inside.bytes c.self.inside.offsets c.self.inside.count c.self.inside.end c.args.self.now c.args.i c.remove_bytes.new.bytes c.finish.new.bytes c.remove_offset.new.offsets c.span-at.result.0 c.span-at.result.1
    (opened c.self.inside.bytes c.self.inside.offsets c.self.inside.count c.self.inside.end c.args.self.now c.self.view_is c.self.invariant) c.requires c.span-at.ensures.size c.span-at.ensures.at c.remove_bytes.ensures c.finish.ensures c.remove_offset.ensures.below c.remove_offset.ensures.above

pub invariant_of-self : goal.invariant_of-self
invariant_of-self c = again _ _ _ _ _ (shows c)

pub returns-clause-value : goal.returns-clause-value
returns-clause-value c = shown _ _ _ _ _ (shows c)

pub returns-clause-page : goal.returns-clause-page
returns-clause-page c = (again _ _ _ _ _ (shows c)).page
