-- The children are counted one after another.
use Rattle.std.proofs.Common.{◌≡◌, ℕ, suc, ◌+◌, ◌-◌, ◌*◌, ◌<◌, ◌≤◌, List, length, take, sym, ap, subst, ◌∙◌, arith, add-one}
use Rattle.std.specs.List.{flat_map}
use Rattle.page_image.specs.Page.{PageContents, no_node, node_at}
use Rattle.btree_inplace.specs.Shape.{IsSubtree, child_of, pages, page_in}
use Rattle.btree_inplace.proofs.Entering.{root_taken}
use Rattle.btree_inplace.proofs.Measures.{leaf_pages, pages_all, pages_first, pages_next, pages_under}
use Rattle.btree_inplace.proofs.Writes.{child_read, page_is}
use Rattle.btree_inplace.proofs.counts.+pages_below.Goals as goal

pub page-inner-requires : goal.page-inner-requires
page-inner-requires t c = root_taken c.args.depth c.args.space.now c.args.page c.requires.tree

pub read_u32-below-requires : goal.read_u32-below-requires
read_u32-below-requires t c =
    let frames = c.args.space.now in
    let page = c.args.page in
    let i = c.loop-i.i in
    let depth = c.args.depth - 1 in
    let here : c.args.depth ≡ suc depth = omega (arith, c.if-depth-eq0.false) in
    let is : page_in frames page ≡ c.page-inner.result.now = page_is frames page c.page-inner.result.now c.page-inner.ensures in
    let tree : IsSubtree (suc depth) frames page = subst (λ n. IsSubtree n frames page) here c.requires.tree in
    let within : i < length (page_in frames page).nodes = omega (arith, c.loop-i-test.true, c.len-i-end.ensures.value, ap (λ (q : PageContents). length q.nodes) is) in
    omega (arith, tree.1.children i no_node within, ap (λ (q : PageContents). length (node_at q.nodes i).data) is, ap (λ (bytes : List ℕ). length bytes) c.data.ensures)

pub pages_below-count-requires : goal.pages_below-count-requires
pages_below-count-requires t c =
    let frames = c.args.space.now in
    let page = c.args.page in
    let i = c.loop-i.i in
    let depth = c.args.depth - 1 in
    let here : c.args.depth ≡ suc depth = omega (arith, c.if-depth-eq0.false) in
    let is : page_in frames page ≡ c.page-inner.result.now = page_is frames page c.page-inner.result.now c.page-inner.ensures in
    let tree : IsSubtree (suc depth) frames page = subst (λ n. IsSubtree n frames page) here c.requires.tree in
    let within : i < length (page_in frames page).nodes = omega (arith, c.loop-i-test.true, c.len-i-end.ensures.value, ap (λ (q : PageContents). length q.nodes) is) in
    let next = child_read frames page i c.read_u32-below.result c.page-inner.result.now c.data.result.now c.page-inner.ensures c.data.ensures c.read_u32-below.ensures in (
      omega (arith, c.decreases, c.if-depth-eq0.false),
      (
        subst (IsSubtree depth frames) next (tree.2 i within),
        omega (arith, c.requires.few, pages_next depth frames page i c.read_u32-below.result within next, pages_first c.args.depth depth frames page (suc i) here),
      ),
    )

pub overflow_add-count : goal.overflow_add-count
overflow_add-count t c =
    let frames = c.args.space.now in
    let page = c.args.page in
    let i = c.loop-i.i in
    let depth = c.args.depth - 1 in
    let here : c.args.depth ≡ suc depth = omega (arith, c.if-depth-eq0.false) in
    let is : page_in frames page ≡ c.page-inner.result.now = page_is frames page c.page-inner.result.now c.page-inner.ensures in
    let within : i < length (page_in frames page).nodes = omega (arith, c.loop-i-test.true, c.len-i-end.ensures.value, ap (λ (q : PageContents). length q.nodes) is) in
    let next = child_read frames page i c.read_u32-below.result c.page-inner.result.now c.data.result.now c.page-inner.ensures c.data.ensures c.read_u32-below.ensures in
    omega (arith, c.requires.few, c.loop-i.invariant, c.pages_below-count.ensures, pages_next depth frames page i c.read_u32-below.result within next, pages_first c.args.depth depth frames page (suc i) here)

pub loop-i-preserved : goal.loop-i-preserved
loop-i-preserved t c =
    let frames = c.args.space.now in
    let page = c.args.page in
    let i = c.loop-i.i in
    let depth = c.args.depth - 1 in
    let here : c.args.depth ≡ suc depth = omega (arith, c.if-depth-eq0.false) in
    let is : page_in frames page ≡ c.page-inner.result.now = page_is frames page c.page-inner.result.now c.page-inner.ensures in
    let within : i < length (page_in frames page).nodes = omega (arith, c.loop-i-test.true, c.len-i-end.ensures.value, ap (λ (q : PageContents). length q.nodes) is) in
    let next = child_read frames page i c.read_u32-below.result c.page-inner.result.now c.data.result.now c.page-inner.ensures c.data.ensures c.read_u32-below.ensures in
    let more = ap (λ (k : ℕ). length (flat_map (pages_under depth frames) (take k (page_in frames page).nodes))) (add-one i) in
    omega (arith, more, c.loop-i.invariant, c.pages_below-count.ensures, pages_next depth frames page i c.read_u32-below.result within next)

pub returns : goal.returns
returns t c =
    let frames = c.args.space.now in
    let page = c.args.page in
    let i = c.loop-i.i in
    let depth = c.args.depth - 1 in
    let here : c.args.depth ≡ suc depth = omega (arith, c.if-depth-eq0.false) in
    let is : page_in frames page ≡ c.page-inner.result.now = page_is frames page c.page-inner.result.now c.page-inner.ensures in
    c.loop-i.invariant ∙ pages_all c.args.depth depth frames page i here (omega (arith, c.loop-i-test.false, c.len-i-end.ensures.value, ap (λ (q : PageContents). length q.nodes) is))
