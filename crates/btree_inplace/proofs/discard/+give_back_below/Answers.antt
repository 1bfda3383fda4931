-- The children go one after another, and then the page.
use Rattle.std.proofs.Common.{◌≡◌, ◌-◌, ◌<◌, ◌≤◌, ℕ, None, List, [], length, take, set, sym, ap, subst, ◌∙◌, arith, add-one}
use Rattle.std.specs.List.{flat_map}
use Rattle.page_image.specs.Page.{PageContents, no_node, node_at}
use Rattle.page_space.specs.Frames.{Frames, IsTaken}
use Rattle.btree_inplace.specs.Alterations.{Swaps, copies}
use Rattle.btree_inplace.specs.Shape.{IsSubtree, page_in, pages}
use Rattle.btree_inplace.proofs.Counting.{copies-nil}
use Rattle.btree_inplace.proofs.Discarding.{child_then, discards, inner_gone, inner_stays, inner_taken, leaf_gone, next_gone, next_once, next_tree, part}
use Rattle.btree_inplace.proofs.Entering.{root_taken}
use Rattle.btree_inplace.proofs.Swapping.{swaps_none}
use Rattle.btree_inplace.proofs.Writes.{page_is}
use Rattle.btree_inplace.proofs.discard.+give_back_below.Goals as goal
use Rattle.btree_inplace.proofs.discard.+give_back_below.Goals.{then-depth-gt0+else-loop-i-test, else-depth-gt0}

pub loop-i-init : goal.loop-i-init
loop-i-init t c = swaps_none c.args.space.now [] (λ p. omega (arith, copies-nil p))

pub page-requires-in-loop-i : goal.page-requires-in-loop-i
page-requires-in-loop-i t c =
    let old = c.args.space.now in
    let page = c.args.page in
    let d = discards c.args.depth old c.loop-i.space page c.loop-i.i c.if-depth-gt0.true c.requires.tree c.requires.once c.loop-i.invariant in
    inner_taken (c.args.depth - 1) old c.loop-i.space page c.loop-i.i d

pub data-requires : goal.data-requires
data-requires t c =
    let old = c.args.space.now in
    let page = c.args.page in
    let d = discards c.args.depth old c.loop-i.space page c.loop-i.i c.if-depth-gt0.true c.requires.tree c.requires.once c.loop-i.invariant in
    let was : page_in old page ≡ c.page.result.now = page_is old page c.page.result.now c.page.ensures in
    let is : page_in old page ≡ c.page-in-loop-i.result.now = page_is old page c.page-in-loop-i.result.now (sym (inner_stays (c.args.depth - 1) old c.loop-i.space page c.loop-i.i d) ∙ c.page-in-loop-i.ensures) in
    omega (arith, c.loop-i-test.true, c.len-children.ensures.value, ap (λ (p : PageContents). length p.nodes) was, ap (λ (p : PageContents). length p.nodes) is)

pub read_u32-below-requires : goal.read_u32-below-requires
read_u32-below-requires t c =
    let old = c.args.space.now in
    let page = c.args.page in
    let i = c.loop-i.i in
    let d = discards c.args.depth old c.loop-i.space page i c.if-depth-gt0.true c.requires.tree c.requires.once c.loop-i.invariant in
    let was : page_in old page ≡ c.page.result.now = page_is old page c.page.result.now c.page.ensures in
    let is : page_in old page ≡ c.page-in-loop-i.result.now = page_is old page c.page-in-loop-i.result.now (sym (inner_stays (c.args.depth - 1) old c.loop-i.space page i d) ∙ c.page-in-loop-i.ensures) in
    let within : i < length (page_in old page).nodes = omega (arith, c.loop-i-test.true, c.len-children.ensures.value, ap (λ (p : PageContents). length p.nodes) was) in
    omega (arith, d.tree.1.children i no_node within, ap (λ (p : PageContents). length (node_at p.nodes i).data) is, ap (λ (bytes : List ℕ). length bytes) c.data.ensures)

pub give_back_below-requires : goal.give_back_below-requires
give_back_below-requires t c =
    let old = c.args.space.now in
    let page = c.args.page in
    let i = c.loop-i.i in
    let depth = c.args.depth - 1 in
    let d = discards c.args.depth old c.loop-i.space page i c.if-depth-gt0.true c.requires.tree c.requires.once c.loop-i.invariant in
    let was : page_in old page ≡ c.page.result.now = page_is old page c.page.result.now c.page.ensures in
    let within : i < length (page_in old page).nodes = omega (arith, c.loop-i-test.true, c.len-children.ensures.value, ap (λ (p : PageContents). length p.nodes) was) in
    let child = child_then depth old c.loop-i.space page i c.read_u32-below.result c.page-in-loop-i.result.now c.data.result.now d c.page-in-loop-i.ensures c.data.ensures c.read_u32-below.ensures in (
      omega (arith, c.decreases, c.if-depth-gt0.true),
      (
        subst (IsSubtree depth c.loop-i.space) child (next_tree depth old c.loop-i.space page i d within),
        subst (λ q. (p : ℕ) → copies p (pages depth c.loop-i.space q) ≤ 1) child (next_once depth old c.loop-i.space page i d within),
      ),
    )

pub loop-i-preserved : goal.loop-i-preserved
loop-i-preserved t c =
    let old = c.args.space.now in
    let page = c.args.page in
    let i = c.loop-i.i in
    let depth = c.args.depth - 1 in
    let new = c.give_back_below.new.space in
    let d = discards c.args.depth old c.loop-i.space page i c.if-depth-gt0.true c.requires.tree c.requires.once c.loop-i.invariant in
    let was : page_in old page ≡ c.page.result.now = page_is old page c.page.result.now c.page.ensures in
    let within : i < length (page_in old page).nodes = omega (arith, c.loop-i-test.true, c.len-children.ensures.value, ap (λ (p : PageContents). length p.nodes) was) in
    let child = child_then depth old c.loop-i.space page i c.read_u32-below.result c.page-in-loop-i.result.now c.data.result.now d c.page-in-loop-i.ensures c.data.ensures c.read_u32-below.ensures in
    subst (λ k. Swaps old new (flat_map (part depth old) (take k (page_in old page).nodes)) []) (sym (add-one i))
    (next_gone depth old c.loop-i.space new page i d within (subst (λ q. Swaps c.loop-i.space new (pages depth c.loop-i.space q) []) (sym child) c.give_back_below.ensures))

pub give_back-requires : goal.give_back-requires
give_back-requires t c =
    let old = c.args.space.now in
    let page = c.args.page in
    elim c.if-depth-gt0.branch [
      | then-depth-gt0+else-loop-i-test w ↦
          subst (λ (f : Frames). IsTaken f page) (sym w.space-is)
          (inner_taken (c.args.depth - 1) old w.loop-i.space page w.loop-i.i (discards c.args.depth old w.loop-i.space page w.loop-i.i w.if-depth-gt0.true c.requires.tree c.requires.once w.loop-i.invariant))
      | else-depth-gt0 w ↦ subst (λ (f : Frames). IsTaken f page) (sym w.space-is) (root_taken c.args.depth old page c.requires.tree)
    ]

pub returns : goal.returns
returns t c =
    let old = c.args.space.now in
    let page = c.args.page in
    subst (λ (f : Frames). Swaps old f (pages c.args.depth old page) []) (sym c.give_back.ensures)
    (elim c.if-depth-gt0.branch [
      | then-depth-gt0+else-loop-i-test w ↦
          let was : page_in old page ≡ w.page.result.now = page_is old page w.page.result.now w.page.ensures in
          let d = discards c.args.depth old w.loop-i.space page w.loop-i.i w.if-depth-gt0.true c.requires.tree c.requires.once w.loop-i.invariant in
          subst (λ (f : Frames). Swaps old (set f page None) (pages c.args.depth old page) []) (sym w.space-is)
          (inner_gone c.args.depth old w.loop-i.space page w.loop-i.i w.if-depth-gt0.true d (omega (arith, w.loop-i-test.false, w.len-children.ensures.value, ap (λ (p : PageContents). length p.nodes) was)))
      | else-depth-gt0 w ↦
          subst (λ (f : Frames). Swaps old (set f page None) (pages c.args.depth old page) []) (sym w.space-is)
          (leaf_gone c.args.depth old page (omega (arith, w.if-depth-gt0.false)) c.requires.tree)
    ])
