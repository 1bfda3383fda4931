-- A child with room is entered as it is, and another is cut first.
use Rattle.std.proofs.Common.{◌≡◌, sym, subst, arith}
use Rattle.page_image.specs.Page.{PageContents}
use Rattle.btree_node.specs.Cut.{IsChildPlace}
use Rattle.btree_inplace.specs.Alterations.{HasRoom, Needs, room_at, separator}
use Rattle.btree_inplace.specs.Shape.{IsSubtree, page_in}
use Rattle.btree_inplace.specs.declared.insert.Cut.{Cut}
use Rattle.btree_inplace.proofs.Entering.{entered_none, if_ok, needs_leaf, room_inner, room_leaf, root_taken}
use Rattle.btree_inplace.proofs.Writes.{child_read, page_is}
use Rattle.btree_inplace.proofs.insert.enter.Goals as goal
use Rattle.btree_inplace.proofs.insert.enter.Goals.{then-depth-eq0, else-depth-eq0}

pub page-full-requires : goal.page-full-requires
page-full-requires c =
    let old = c.args.space.now in
    let inner : page_in old c.args.page ≡ c.page-inner.result.now = page_is old c.args.page c.page-inner.result.now c.page-inner.ensures in
    let place : IsChildPlace (page_in old c.args.page).nodes c.args.key.now c.child-i.result = subst (λ (p : PageContents). IsChildPlace p.nodes c.args.key.now c.child-i.result) (sym inner) c.child-i.ensures in
    let child = child_read old c.args.page c.child-i.result c.read_u32-below.result c.page-inner.result.now c.data.result.now c.page-inner.ensures c.data.ensures c.read_u32-below.ensures in
    root_taken c.args.depth old c.read_u32-below.result (subst (IsSubtree c.args.depth old) child (c.requires.tree.2 c.child-i.result place.within))

pub returns-then-used-room_at-le-PAGE_BYTES-clause-ok : goal.returns-then-used-room_at-le-PAGE_BYTES-clause-ok
returns-then-used-room_at-le-PAGE_BYTES-clause-ok c =
    let old = c.args.space.now in
    let inner : page_in old c.args.page ≡ c.page-inner.result.now = page_is old c.args.page c.page-inner.result.now c.page-inner.ensures in
    let place : IsChildPlace (page_in old c.args.page).nodes c.args.key.now c.child-i.result = subst (λ (p : PageContents). IsChildPlace p.nodes c.args.key.now c.child-i.result) (sym inner) c.child-i.ensures in
    let child = child_read old c.args.page c.child-i.result c.read_u32-below.result c.page-inner.result.now c.data.result.now c.page-inner.ensures c.data.ensures c.read_u32-below.ensures in
    entered_none c.args.key.now c.args.depth old c.args.page c.child-i.result c.read_u32-below.result c.requires.tree c.requires.once place child

pub returns-clause-room : goal.returns-clause-room
returns-clause-room c =
    let old = c.args.space.now in
    let key = c.args.key.now in
    let page = c.args.page in
    let below = c.read_u32-below.result in
    let i = c.child-i.result in
    let need = room_at c.args.depth c.args.need in
    let inner : page_in old page ≡ c.page-inner.result.now = page_is old page c.page-inner.result.now c.page-inner.ensures in
    let place : IsChildPlace (page_in old page).nodes key i = subst (λ (p : PageContents). IsChildPlace p.nodes key i) (sym inner) c.child-i.ensures in
    let child = child_read old page i below c.page-inner.result.now c.data.result.now c.page-inner.ensures c.data.ensures c.read_u32-below.ensures in
    let full : page_in old below ≡ c.page-full.result.now = page_is old below c.page-full.result.now c.page-full.ensures in
    let nodes = c.page-full.result.now.nodes in
    let has : HasRoom nodes key need c.if-depth-eq0.cut.at (separator nodes key c.if-depth-eq0.cut.at c.if-depth-eq0.cut.by_key) = elim c.if-depth-eq0.branch [
      | then-depth-eq0 w ↦
          subst (λ (cut : Cut). HasRoom nodes key need cut.at (separator nodes key cut.at cut.by_key)) (sym w.cut-is)
          (subst (λ n. HasRoom nodes key n w.leaf_cut-cut.result.at (separator nodes key w.leaf_cut-cut.result.at w.leaf_cut-cut.result.by_key)) (sym (room_leaf c.args.depth c.args.need w.if-depth-eq0.true)) w.leaf_cut-cut.ensures.room)
      | else-depth-eq0 w ↦
          subst (λ (cut : Cut). HasRoom nodes key need cut.at (separator nodes key cut.at cut.by_key)) (sym w.cut-is)
          (subst (λ n. HasRoom nodes key n w.inner_cut-cut.result.at (separator nodes key w.inner_cut-cut.result.at w.inner_cut-cut.result.by_key)) (sym (room_inner c.args.depth c.args.need w.if-depth-eq0.false)) (record { left = λ _. w.inner_cut-cut.ensures.left; right = λ _. w.inner_cut-cut.ensures.right }))
    ] in
    if_ok c.split.result _ _
    (λ part room. room need
    (subst (λ q. HasRoom (page_in old q).nodes key need c.if-depth-eq0.cut.at (separator (page_in old q).nodes key c.if-depth-eq0.cut.at c.if-depth-eq0.cut.by_key)) (sym child)
    (subst (λ (p : PageContents). HasRoom p.nodes key need c.if-depth-eq0.cut.at (separator p.nodes key c.if-depth-eq0.cut.at c.if-depth-eq0.cut.by_key)) (sym full) has)))
    c.split.ensures.room

pub leaf_cut-cut-requires-clause-needs : goal.leaf_cut-cut-requires-clause-needs
leaf_cut-cut-requires-clause-needs c =
    let old = c.args.space.now in
    let key = c.args.key.now in
    let page = c.args.page in
    let below = c.read_u32-below.result in
    let i = c.child-i.result in
    let inner : page_in old page ≡ c.page-inner.result.now = page_is old page c.page-inner.result.now c.page-inner.ensures in
    let place : IsChildPlace (page_in old page).nodes key i = subst (λ (p : PageContents). IsChildPlace p.nodes key i) (sym inner) c.child-i.ensures in
    let child = child_read old page i below c.page-inner.result.now c.data.result.now c.page-inner.ensures c.data.ensures c.read_u32-below.ensures in
    let full : page_in old below ≡ c.page-full.result.now = page_is old below c.page-full.result.now c.page-full.ensures in
    subst (λ (p : PageContents). Needs key c.args.need p.nodes) full (needs_leaf c.args.depth old page i below c.args.need key c.if-depth-eq0.true c.requires.tree place child c.requires.needs)

pub leaf_cut-cut-requires-clause-full : goal.leaf_cut-cut-requires-clause-full
leaf_cut-cut-requires-clause-full c =
    omega (arith, c.if-used-room_at-le-PAGE_BYTES.false, c.used.ensures.value, c.room_at.ensures, room_leaf c.args.depth c.args.need c.if-depth-eq0.true)
