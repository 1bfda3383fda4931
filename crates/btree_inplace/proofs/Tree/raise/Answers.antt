-- The root is an inner page, and its nodes are on the page below it.
use Rattle.std.proofs.Common.{◌≡◌, ◌+◌, ◌<◌, ◌≤◌, Some, set, sym, ap, subst, ◌∙◌, arith}
use Rattle.page_image.specs.Page.{PageContents, page_size}
use Rattle.page_space.specs.Frames.{Frames}
use Rattle.btree_inplace.specs.Alterations.{AlteredTree, room_at}
use Rattle.btree_inplace.specs.Shape.{page_in}
use Rattle.btree_inplace.proofs.Raising.{full_is_some, raised, room_small, taken_apart, tree_none}
use Rattle.btree_inplace.proofs.Writes.{page_is}
use Rattle.btree_inplace.proofs.Tree.raise.Goals as goal

pub returns-then-used-room_at-le-PAGE_BYTES-clause-same : goal.returns-then-used-room_at-le-PAGE_BYTES-clause-same
returns-then-used-room_at-le-PAGE_BYTES-clause-same c = tree_none c.args.space.now c.args.self.now c.requires.tree

pub returns-then-self-eq-MAX_DEPTH-clause-same : goal.returns-then-self-eq-MAX_DEPTH-clause-same
returns-then-self-eq-MAX_DEPTH-clause-same c = tree_none c.args.space.now c.args.self.now c.requires.tree

pub returns-in_err-number-clause-same : goal.returns-in_err-number-clause-same
returns-in_err-number-clause-same c =
    subst (λ (f : Frames). AlteredTree (λ nodes. nodes) c.args.space.now c.args.self.now f c.args.self.now) (sym c.in_err-number.ensures.err) (tree_none c.args.space.now c.args.self.now c.requires.tree)

-- the tree with a page more, and the room of its root
made : (c : goal.After-self-1) → AlteredTree (λ nodes. nodes) c.args.space.now c.args.self.now (set (set c.take.new.self c.args.self.now.root (Some c.root_above.result)) c.in_ok-number.number (Some c.move_tail.new.to)) (record { root = c.args.self.now.root; depth = c.args.self.now.depth + 1; last = c.args.self.now.last }) × (page_size (page_in (set (set c.take.new.self c.args.self.now.root (Some c.root_above.result)) c.in_ok-number.number (Some c.move_tail.new.to)) c.args.self.now.root).nodes + room_at (c.args.self.now.depth + 1) c.args.need ≤ 4096)
made c =
    let old = c.args.space.now in
    let tree = c.args.self.now in
    let number = c.in_ok-number.number in
    let takes = c.in_ok-number.ensures.ok in
    let is : page_in old tree.root ≡ c.page.result.now = page_is old tree.root c.page.result.now c.page.ensures in
    let full : 32 < page_size (page_in old tree.root).nodes = omega (arith, c.if-used-room_at-le-PAGE_BYTES.false, c.used.ensures.value, c.room_at.ensures, room_small tree.depth c.args.need c.requires.small, ap (λ (p : PageContents). page_size p.nodes) is) in
    let root_was : page_in old tree.root ≡ c.page_mut-root.result.now = page_is old tree.root c.page_mut-root.result.now (sym (taken_apart tree.depth old number c.take.new.self tree.root takes c.requires.tree.shape) ∙ c.page_mut-root.ensures.value) in
    let below : c.move_tail.new.to ≡ record (page_in old tree.root) { number = number } =
    c.move_tail.ensures.moved ∙ ap (λ (p : PageContents). record p { nodes = c.page_mut-root.result.now.nodes }) c.empty-below.ensures.value
    ∙ ap (λ k. record { number = number; kind = k; nodes = c.page_mut-root.result.now.nodes }) c.kind.ensures.value
    ∙ ap (λ (p : PageContents). record { number = number; kind = p.kind; nodes = p.nodes }) (sym root_was) in
    let few : tree.depth + 1 ≤ 64 = omega (arith, c.requires.tree.deep, c.if-self-eq-MAX_DEPTH.false) in
    raised old c.take.new.self tree number (tree.depth + 1) c.args.need c.root_above.result c.move_tail.new.to c.requires.tree takes c.root_above.ensures.value c.root_above.ensures.page below c.move_tail.ensures.pages.1
    (full_is_some tree.depth old tree.root c.requires.tree.shape full) (omega arith) few

pub returns-clause-same : goal.returns-clause-same
returns-clause-same c = (made c).0

pub returns-clause-room : goal.returns-clause-room
returns-clause-room c = (made c).1
