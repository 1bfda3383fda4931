-- What stands below the children is counted, one after another.
use Rattle.std.proofs.Common.{◌≡◌, ℕ, suc, ◌+◌, ◌-◌, ◌*◌, ◌<◌, ◌≤◌, List, length, sym, ap, subst, ◌∙◌, refl, arith, add-one}
use Rattle.std.specs.Prelude.{count_by}
use Rattle.byteorder.specs.Endian.{little_number}
use Rattle.long_value.specs.Shown.{is_head}
use Rattle.page_image.specs.Page.{PageContents, no_node, node_at}
use Rattle.page_image.specs.declared.offsets.TheConstants.{MAX_NODES}
use Rattle.btree_inplace.specs.Shape.{IsSubtree, child_of, entries, page_in}
use Rattle.tool_dump.proofs.Walking.{below_first, child_fits, heads_below, heads_child, heads_fit, page_is, root_taken}
use Rattle.tool_dump.proofs.walks.+heads_below.Goals as goal

pub page-found-requires : goal.page-found-requires
page-found-requires t c = root_taken c.args.depth c.args.space.now c.args.page c.requires.tree

pub returns-then-depth-eq0 : goal.returns-then-depth-eq0
returns-then-depth-eq0 t c =
    let is : page_in c.args.space.now c.args.page ≡ c.page-found.result.now = page_is c.args.space.now c.args.page c.page-found.result.now c.page-found.ensures in
    c.heads_of.ensures ∙ ap (λ (q : PageContents). count_by is_head q.nodes) (sym is) ∙ ap (λ (d : ℕ). count_by is_head (entries d c.args.space.now c.args.page)) (sym c.if-depth-eq0.true)

pub loop-i-init : goal.loop-i-init
loop-i-init t c = refl

pub read_u32-below-requires : goal.read_u32-below-requires
read_u32-below-requires t c =
    let frames = c.args.space.now in
    let page = c.args.page in
    let i = c.loop-i.i in
    let d = c.args.depth - 1 in
    let here : c.args.depth ≡ suc d = omega (arith, c.if-depth-eq0.false) in
    let is : page_in frames page ≡ c.page-found.result.now = page_is frames page c.page-found.result.now c.page-found.ensures in
    let tree : IsSubtree (suc d) frames page = subst (λ n. IsSubtree n frames page) here c.requires.tree in
    let within : i < length (page_in frames page).nodes = omega (arith, c.loop-i-test.true, c.len-i-end.ensures.value, ap (λ (q : PageContents). length q.nodes) is) in
    omega (arith, tree.1.children i no_node within, ap (λ (q : PageContents). length (node_at q.nodes i).data) is, ap (λ (bytes : List ℕ). length bytes) c.data.ensures)

pub heads_below-count-requires : goal.heads_below-count-requires
heads_below-count-requires t c =
    let frames = c.args.space.now in
    let page = c.args.page in
    let i = c.loop-i.i in
    let d = c.args.depth - 1 in
    let here : c.args.depth ≡ suc d = omega (arith, c.if-depth-eq0.false) in
    let is : page_in frames page ≡ c.page-found.result.now = page_is frames page c.page-found.result.now c.page-found.ensures in
    let next : c.read_u32-below.result ≡ child_of (node_at (page_in frames page).nodes i) = c.read_u32-below.ensures ∙ ap (little_number 4) c.data.ensures ∙ ap (λ (q : PageContents). child_of (node_at q.nodes i)) (sym is) in
    let tree : IsSubtree (suc d) frames page = subst (λ n. IsSubtree n frames page) here c.requires.tree in
    let few : length (entries (suc d) frames page) ≤ MAX_NODES * 16777216 = subst (λ n. length (entries n frames page) ≤ MAX_NODES * 16777216) here c.requires.few in
    let within : i < length (page_in frames page).nodes = omega (arith, c.loop-i-test.true, c.len-i-end.ensures.value, ap (λ (q : PageContents). length q.nodes) is) in (
      omega (arith, c.decreases, c.if-depth-eq0.false),
      (subst (IsSubtree d frames) (sym next) (tree.2 i within), child_fits d frames page i c.read_u32-below.result (MAX_NODES * 16777216) within next few),
    )

pub overflow_add-count : goal.overflow_add-count
overflow_add-count t c =
    let frames = c.args.space.now in
    let page = c.args.page in
    let i = c.loop-i.i in
    let d = c.args.depth - 1 in
    let here : c.args.depth ≡ suc d = omega (arith, c.if-depth-eq0.false) in
    let is : page_in frames page ≡ c.page-found.result.now = page_is frames page c.page-found.result.now c.page-found.ensures in
    let next : c.read_u32-below.result ≡ child_of (node_at (page_in frames page).nodes i) = c.read_u32-below.ensures ∙ ap (little_number 4) c.data.ensures ∙ ap (λ (q : PageContents). child_of (node_at q.nodes i)) (sym is) in
    let few : length (entries (suc d) frames page) ≤ MAX_NODES * 16777216 = subst (λ n. length (entries n frames page) ≤ MAX_NODES * 16777216) here c.requires.few in
    let within : i < length (page_in frames page).nodes = omega (arith, c.loop-i-test.true, c.len-i-end.ensures.value, ap (λ (q : PageContents). length q.nodes) is) in
    omega (arith, heads_fit d frames page i c.read_u32-below.result c.loop-i.count c.heads_below-count.result (MAX_NODES * 16777216) within next c.loop-i.invariant c.heads_below-count.ensures few)

pub loop-i-preserved : goal.loop-i-preserved
loop-i-preserved t c =
    let frames = c.args.space.now in
    let page = c.args.page in
    let i = c.loop-i.i in
    let d = c.args.depth - 1 in
    let is : page_in frames page ≡ c.page-found.result.now = page_is frames page c.page-found.result.now c.page-found.ensures in
    let next : c.read_u32-below.result ≡ child_of (node_at (page_in frames page).nodes i) = c.read_u32-below.ensures ∙ ap (little_number 4) c.data.ensures ∙ ap (λ (q : PageContents). child_of (node_at q.nodes i)) (sym is) in
    let within : i < length (page_in frames page).nodes = omega (arith, c.loop-i-test.true, c.len-i-end.ensures.value, ap (λ (q : PageContents). length q.nodes) is) in
    heads_child d frames page i c.read_u32-below.result c.loop-i.count c.heads_below-count.result within next c.loop-i.invariant c.heads_below-count.ensures
    ∙ ap (λ (k : ℕ). count_by is_head (below_first d frames page k)) (sym (add-one i))

pub returns : goal.returns
returns t c =
    let frames = c.args.space.now in
    let page = c.args.page in
    let d = c.args.depth - 1 in
    let here : c.args.depth ≡ suc d = omega (arith, c.if-depth-eq0.false) in
    let is : page_in frames page ≡ c.page-found.result.now = page_is frames page c.page-found.result.now c.page-found.ensures in
    heads_below d frames page c.loop-i.i c.loop-i.count (omega (arith, c.loop-i-test.false, c.len-i-end.ensures.value, ap (λ (q : PageContents). length q.nodes) is)) c.loop-i.invariant
    ∙ ap (λ (n : ℕ). count_by is_head (entries n frames page)) (sym here)
