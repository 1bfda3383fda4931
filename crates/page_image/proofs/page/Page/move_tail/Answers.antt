-- Each page shows its part of the nodes.
use Rattle.std.proofs.Common.{◌≡◌, ◌+◌, ◌-◌, length, take, drop, replicate, ap, ◌∙◌, arith}
use Rattle.std.proofs.lemmas.List.{length-take, length-drop}
use Rattle.std.proofs.lemmas.List.Sums.{sum_by-take-le}
use Rattle.page_image.specs.Page.{node_size, page_size}
use Rattle.page_image.specs.Shown.{Shows}
use Rattle.common_lemmas.proofs.Edits.{sum-take-le}
use Rattle.page_image.proofs.Spelled.{front_of, has_front, is_front, kept_bytes, moved_bytes}
use Rattle.page_image.proofs.Kept.{again, few, opened, shown, shows-drop, shows-take}
use Rattle.page_image.proofs.page.Page.move_tail.Goals as goal

pub copy_offsets-requires-clause-room : goal.copy_offsets-requires-clause-room
copy_offsets-requires-clause-room c = omega (arith, few c.args.self.now (opened c.self.inside.bytes c.self.inside.offsets c.self.inside.count c.self.inside.end c.args.self.now c.self.view_is c.self.invariant).page, (opened c.self.inside.bytes c.self.inside.offsets c.self.inside.count c.self.inside.end c.args.self.now c.self.view_is c.self.invariant).counted)

pub copy_offsets-requires-clause-behind : goal.copy_offsets-requires-clause-behind
copy_offsets-requires-clause-behind c k past within = omega (arith, c.offset-start.ensures.value, (opened c.self.inside.bytes c.self.inside.offsets c.self.inside.count c.self.inside.end c.args.self.now c.self.view_is c.self.invariant).placed k within, sum-take-le node_size c.args.self.now.nodes c.args.at k past)

pub finish-requires : goal.finish-requires
finish-requires c = omega (arith, few c.args.self.now (opened c.self.inside.bytes c.self.inside.offsets c.self.inside.count c.self.inside.end c.args.self.now c.self.view_is c.self.invariant).page, (opened c.self.inside.bytes c.self.inside.offsets c.self.inside.count c.self.inside.end c.args.self.now c.self.view_is c.self.invariant).counted)

pub finish-requires-2 : goal.finish-requires-2
finish-requires-2 c = omega (arith, few c.args.self.now (opened c.self.inside.bytes c.self.inside.offsets c.self.inside.count c.self.inside.end c.args.self.now c.self.view_is c.self.invariant).page, c.requires.place)

-- what the fields of the two pages show at the end
shows_kept : (c : goal.After-finish-2) → Shows c.finish-2.new.bytes c.self.inside.offsets c.args.at c.offset-start.result (record c.args.self.now { nodes = take c.args.at c.args.self.now.nodes })
shows_kept c =
    let page = (opened c.self.inside.bytes c.self.inside.offsets c.self.inside.count c.self.inside.end c.args.self.now c.self.view_is c.self.invariant) in
    let start = c.offset-start.result in
    let size = c.self.inside.end - start in
    let order : start + size ≡ page_size c.args.self.now.nodes = omega (arith, page.ended, c.offset-start.ensures.value, sum_by-take-le node_size c.args.self.now.nodes c.args.at) in
    let long : length (take size (drop start c.self.inside.bytes)) ≡ size = omega (arith, page.page.size, c.self.told.0, length-take size (drop start c.self.inside.bytes), length-drop start c.self.inside.bytes) in
    let filled : c.fill.new.self ≡ replicate size 0 = c.fill.ensures.after (λ y e. e) ∙ ap (λ k. replicate k 0) long in
    shows-take c.self.inside.bytes c.self.inside.offsets c.self.inside.count c.self.inside.end c.args.self.now c.args.at _ c.finish-2.new.bytes start
    page c.requires.place c.offset-start.ensures.value (kept_bytes (front_of c.self.inside.bytes c.args.self.now) c.args.self.now c.args.at c.self.inside.bytes c.fill.new.self start size (is_front c.self.inside.bytes c.args.self.now page.spelled).long page.page (has_front c.self.inside.bytes c.args.self.now page.spelled) c.offset-start.ensures.value order filled) c.finish-2.ensures

shows_moved : (c : goal.After-finish-2) → Shows c.finish.new.bytes c.copy_offsets.new.to (c.self.inside.count - c.args.at) (32 + (c.self.inside.end - c.offset-start.result)) (record c.args.to.now { nodes = drop c.args.at c.args.self.now.nodes })
shows_moved c =
    let page = (opened c.self.inside.bytes c.self.inside.offsets c.self.inside.count c.self.inside.end c.args.self.now c.self.view_is c.self.invariant) in
    let other = (opened c.to.inside.bytes c.to.inside.offsets c.to.inside.count c.to.inside.end c.args.to.now c.to.view_is c.to.invariant) in
    let start = c.offset-start.result in
    let size = c.self.inside.end - start in
    let order : start + size ≡ page_size c.args.self.now.nodes = omega (arith, page.ended, c.offset-start.ensures.value, sum_by-take-le node_size c.args.self.now.nodes c.args.at) in
    let edited = moved_bytes (front_of c.self.inside.bytes c.args.self.now) (front_of c.to.inside.bytes c.args.to.now) c.args.self.now c.args.to.now c.args.at c.self.inside.bytes c.to.inside.bytes c.copy_from_slice.new.self start size (32 + size - 32)
    (is_front c.self.inside.bytes c.args.self.now page.spelled).long (is_front c.to.inside.bytes c.args.to.now other.spelled).long page.page c.requires.empty (has_front c.self.inside.bytes c.args.self.now page.spelled) (has_front c.to.inside.bytes c.args.to.now other.spelled) c.offset-start.ensures.value order (omega arith) c.copy_from_slice.ensures.after in
    shows-drop c.self.inside.bytes c.self.inside.offsets c.to.inside.bytes c.to.inside.offsets c.self.inside.count c.self.inside.end c.to.inside.count c.to.inside.end c.args.self.now c.args.to.now c.args.at _ c.finish.new.bytes c.copy_offsets.new.to start
    page other c.requires.place c.offset-start.ensures.value edited c.finish.ensures c.copy_offsets.ensures

pub invariant_of-self : goal.invariant_of-self
invariant_of-self c = again _ _ _ _ _ (shows_kept c)

pub invariant_of-to : goal.invariant_of-to
invariant_of-to c = again _ _ _ _ _ (shows_moved c)

pub returns-clause-kept : goal.returns-clause-kept
returns-clause-kept c = shown _ _ _ _ _ (shows_kept c)

pub returns-clause-moved : goal.returns-clause-moved
returns-clause-moved c = shown _ _ _ _ _ (shows_moved c)

pub returns-clause-pages : goal.returns-clause-pages
returns-clause-pages c = ((again _ _ _ _ _ (shows_kept c)).page, (again _ _ _ _ _ (shows_moved c)).page)
