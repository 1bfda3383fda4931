-- The page shows its nodes after the edit.
use Rattle.std.proofs.Common.{◌≡◌, ◌+◌, ◌-◌, ℕ, List, length, set, refl, sym, ap, arith}
use Rattle.page_image.specs.Page.{no_node, node_at, node_size}
use Rattle.page_image.specs.Shown.{Shows}
use Rattle.page_image.proofs.Nodes.{length-node_bytes, node_slice}
use Rattle.page_image.proofs.Kept.{again, few, opened, shown, shows-replace}
use Rattle.page_image.proofs.page.Page.replace.Goals as goal

pub slice_bounds-replace_data-end : goal.slice_bounds-replace_data-end
slice_bounds-replace_data-end c = omega (arith, c.span-at.ensures.order, c.span-at.ensures.within)

pub replace_data-requires-clause-room : goal.replace_data-requires-clause-room
replace_data-requires-clause-room c =
    let page = opened c.self.inside.bytes c.self.inside.offsets c.self.inside.count c.self.inside.end c.args.self.now c.self.view_is c.self.invariant in
    let cut = node_slice c.args.self.now c.args.i c.self.inside.bytes c.span-at.result.0 (c.span-at.result.0 + c.span-at.result.1 - c.span-at.result.0) page.page c.requires.place page.spelled c.span-at.ensures.at (omega (arith, c.span-at.ensures.size)) in
    let node = node_at c.args.self.now.nodes c.args.i in
    omega (arith, ap (λ (x : List ℕ). length x) cut, length-node_bytes node (page.page.fits c.args.i no_node c.requires.place), ap (λ (x : List ℕ). length x) c.key-key.ensures, c.requires.fits)

pub finish-requires : goal.finish-requires
finish-requires c = omega (arith, few c.args.self.now (opened c.self.inside.bytes c.self.inside.offsets c.self.inside.count c.self.inside.end c.args.self.now c.self.view_is c.self.invariant).page, (opened c.self.inside.bytes c.self.inside.offsets c.self.inside.count c.self.inside.end c.args.self.now c.self.view_is c.self.invariant).counted)

-- what the fields show at the end
shows : (c : goal.After-finish) → Shows c.finish.new.bytes c.self.inside.offsets c.self.inside.count c.self.inside.end (record c.args.self.now { nodes = set c.args.self.now.nodes c.args.i (record (node_at c.args.self.now.nodes c.args.i) { «data» = c.args.data.now }) })
shows c =
    let page = opened c.self.inside.bytes c.self.inside.offsets c.self.inside.count c.self.inside.end c.args.self.now c.self.view_is c.self.invariant in
    let node = node_at c.args.self.now.nodes c.args.i in
    let size = c.span-at.result.0 + c.span-at.result.1 - c.span-at.result.0 in
    let size_is : size ≡ node_size node = omega (arith, c.span-at.ensures.size) in
    let cut = node_slice c.args.self.now c.args.i c.self.inside.bytes c.span-at.result.0 size page.page c.requires.place page.spelled c.span-at.ensures.at size_is in
    let written = c.replace_data.ensures node cut (sym (ap (λ (x : List ℕ). length x) c.key-key.ensures)) (page.page.fits c.args.i no_node c.requires.place) in
    shows-replace c.self.inside.bytes c.self.inside.offsets c.self.inside.count c.self.inside.end c.args.self.now c.args.i (record node { «data» = c.args.data.now }) c.replace_data.new.node c.finish.new.bytes c.span-at.result.0 size
    page c.requires.place refl refl c.requires.fits size_is c.span-at.ensures.at written c.finish.ensures

pub invariant_of-self : goal.invariant_of-self
invariant_of-self c = again _ _ _ _ _ (shows c)

pub returns-clause-value : goal.returns-clause-value
returns-clause-value c = shown _ _ _ _ _ (shows c)

pub returns-clause-page : goal.returns-clause-page
returns-clause-page c = (again _ _ _ _ _ (shows c)).page
