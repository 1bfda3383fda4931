-- The page shows its nodes with the other extent.
use Rattle.std.proofs.Common.{◌+◌, ◌-◌, ◌≤◌, ℕ, List, length, refl, ap, arith}
use Rattle.page_image.specs.Page.{node_at, node_size, no_node, page_size, with_extent}
use Rattle.page_image.specs.Shown.{Shows}
use Rattle.std.proofs.lemmas.List.Sums.{get_or-le-sum_by}
use Rattle.common_lemmas.proofs.Edits.{sum-set}
use Rattle.page_image.proofs.Spelled.{extent_bytes, front_of, has_front, is_front}
use Rattle.page_image.proofs.Kept.{again, few, offsets_behind, opened, shown, shows-extent}
use Rattle.page_image.proofs.page.Page.set_extent.Goals as goal

pub move_offsets-requires-clause-room : goal.move_offsets-requires-clause-room
move_offsets-requires-clause-room c = omega (arith, few c.args.self.now (opened c.self.inside.bytes c.self.inside.offsets c.self.inside.count c.self.inside.end c.args.self.now c.self.view_is c.self.invariant).page, (opened c.self.inside.bytes c.self.inside.offsets c.self.inside.count c.self.inside.end c.args.self.now c.self.view_is c.self.invariant).counted)

pub move_offsets-requires-clause-behind : goal.move_offsets-requires-clause-behind
move_offsets-requires-clause-behind c k past within =
    omega (arith, c.extent-old.ensures, offsets_behind c.self.inside.offsets c.self.inside.count c.args.self.now c.args.i (node_size (node_at c.args.self.now.nodes c.args.i)) (opened c.self.inside.bytes c.self.inside.offsets c.self.inside.count c.self.inside.end c.args.self.now c.self.view_is c.self.invariant).counted (opened c.self.inside.bytes c.self.inside.offsets c.self.inside.count c.self.inside.end c.args.self.now c.self.view_is c.self.invariant).placed c.requires.place refl k (omega arith) within)

pub finish-requires : goal.finish-requires
finish-requires c = omega (arith, few c.args.self.now (opened c.self.inside.bytes c.self.inside.offsets c.self.inside.count c.self.inside.end c.args.self.now c.self.view_is c.self.invariant).page, (opened c.self.inside.bytes c.self.inside.offsets c.self.inside.count c.self.inside.end c.args.self.now c.self.view_is c.self.invariant).counted)

-- what the fields show at the end
shows : (c : goal.After-finish) → Shows c.finish.new.bytes c.move_offsets.new.offsets c.self.inside.count (c.self.inside.end - c.extent-old.result + c.args.extent) (record c.args.self.now { nodes = with_extent c.args.self.now.nodes c.args.i c.args.extent })
shows c =
    let page = opened c.self.inside.bytes c.self.inside.offsets c.self.inside.count c.self.inside.end c.args.self.now c.self.view_is c.self.invariant in
    let node = node_at c.args.self.now.nodes c.args.i in
    let key = ap (λ (x : List ℕ). length x) c.key.ensures in
    let value = ap (λ (x : List ℕ). length x) c.data.ensures in
    let value_again = ap (λ (x : List ℕ). length x) c.data-data.ensures in
    let room : page_size (with_extent c.args.self.now.nodes c.args.i c.args.extent) ≤ 4096 =
    omega (arith, c.if-extent-self.false, page.ended, c.extent-old.ensures, sum-set node_size c.args.self.now.nodes c.args.i (record node { extent = c.args.extent }) no_node c.requires.place, get_or-le-sum_by node_size c.args.self.now.nodes c.args.i no_node c.requires.place) in
    let edited = extent_bytes (front_of c.self.inside.bytes c.args.self.now) c.args.self.now c.args.i c.args.extent c.self.inside.bytes c.resize_zeros.new.bytes c.write_u16.new.buf c.span-at.result.0 (c.span-at.result.0 + 6 + length c.key.result.now + length c.data.result.now) c.self.inside.end (c.span-at.result.0 + 6 - (c.span-at.result.0 + 4))
    (is_front c.self.inside.bytes c.args.self.now page.spelled).long page.page c.requires.place c.requires.fits (has_front c.self.inside.bytes c.args.self.now page.spelled) c.span-at.ensures.at (omega (arith, key, value)) page.ended (omega arith)
    (c.extent-old.result - length c.data-data.result.now) (omega (arith, c.extent-old.ensures, value_again)) (c.args.extent - length c.data-data.result.now) (omega (arith, value_again)) c.resize_zeros.ensures c.write_u16.ensures in
    shows-extent c.self.inside.bytes c.self.inside.offsets c.self.inside.count c.self.inside.end c.args.self.now c.args.i c.args.extent _ c.finish.new.bytes c.move_offsets.new.offsets c.extent-old.result
    page c.requires.place c.requires.fits room c.extent-old.ensures edited c.finish.ensures c.move_offsets.ensures.below c.move_offsets.ensures.above

pub invariant_of-self : goal.invariant_of-self
invariant_of-self c = again _ _ _ _ _ (shows c)

pub returns-clause-ok : goal.returns-clause-ok
returns-clause-ok c = shown _ _ _ _ _ (shows c)

pub returns-clause-page : goal.returns-clause-page
returns-clause-page c = (again _ _ _ _ _ (shows c)).page
