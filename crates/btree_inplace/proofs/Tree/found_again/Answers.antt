-- Each step goes to a child, whichever it is, and the key tells at the leaf.
use Rattle.std.proofs.Common.{◌≡◌, ◌+◌, ◌-◌, ◌<◌, ℕ, Some, List, suc, length, sym, ap, subst, ◌∙◌, arith}
use Rattle.std.specs.Prelude.{Option, unwrap_or}
use Rattle.std.proofs.lemmas.Slice.Eq.{bytes_eq-Decides}
use Rattle.byteorder.specs.Endian.{little_number}
use Rattle.page_image.specs.Page.{PageContents, no_node, node_at}
use Rattle.page_space.specs.Frames.{Frames, empty_page, page_at}
use Rattle.btree_inplace.specs.Shape.{IsInner, IsSubtree, child_of, entries, page_in}
use Rattle.btree_inplace.specs.Trees.{nodes_of}
use Rattle.btree_inplace.proofs.Runs.{IsRun, rising_below, run_child, run_has, run_itself}
use Rattle.btree_inplace.proofs.Tree.found_again.Goals as goal

pub loop-level-init : goal.loop-level-init
loop-level-init c =
    let whole : c.args.self.now.depth ≡ c.args.self.now.depth - 0 = omega arith in
    let all = nodes_of c.args.space.now c.args.self.now in
    record {
      shape = subst (λ (n : ℕ). IsSubtree n c.args.space.now c.args.self.now.root) whole c.requires.shape;
      run = subst (λ (n : ℕ). IsRun (entries n c.args.space.now c.args.self.now.root) all) whole (run_itself all);
    }

inner_nodes : (depth level : ℕ) (frames : Frames) (page : ℕ) (q : PageContents) → level < depth → IsSubtree (depth - level) frames page → page_at frames page ≡ Some q → IsInner q.nodes
inner_nodes depth level frames page q lt shape is =
    let here : depth - level ≡ suc (depth - level - 1) = omega arith in
    let tree : IsSubtree (suc (depth - level - 1)) frames page = subst (λ (n : ℕ). IsSubtree n frames page) here shape in
    subst (λ (q : PageContents). IsInner q.nodes) (ap (λ (o : Option PageContents). unwrap_or o (empty_page page)) is) tree.1

pub data-requires : goal.data-requires
data-requires c =
    let inner = inner_nodes c.args.self.now.depth c.loop-level.level c.args.space.now c.loop-level.page c.page-inner.result.now (omega (arith, c.loop-level-test.true)) c.loop-level.invariant.shape c.page-inner.ensures in
    omega (arith, inner.some, c.len.ensures.value, c.min.ensures)

pub read_u32-page-requires : goal.read_u32-page-requires
read_u32-page-requires c =
    let inner = inner_nodes c.args.self.now.depth c.loop-level.level c.args.space.now c.loop-level.page c.page-inner.result.now (omega (arith, c.loop-level-test.true)) c.loop-level.invariant.shape c.page-inner.ensures in
    let within : c.min.result < length c.page-inner.result.now.nodes = omega (arith, inner.some, c.len.ensures.value, c.min.ensures) in
    omega (arith, ap (λ (l : List ℕ). length l) c.data.ensures, inner.children c.min.result no_node within)

pub loop-level-preserved : goal.loop-level-preserved
loop-level-preserved c =
    let frames = c.args.space.now in
    let page = c.loop-level.page in
    let i = c.min.result in
    let depth = c.args.self.now.depth - c.loop-level.level - 1 in
    let here : c.args.self.now.depth - c.loop-level.level ≡ suc depth = omega (arith, c.loop-level-test.true) in
    let below : c.args.self.now.depth - (c.loop-level.level + 1) ≡ depth = omega arith in
    let tree : IsSubtree (suc depth) frames page = subst (λ (n : ℕ). IsSubtree n frames page) here c.loop-level.invariant.shape in
    let inner : page_in frames page ≡ c.page-inner.result.now = ap (λ (o : Option PageContents). unwrap_or o (empty_page page)) c.page-inner.ensures in
    let within : i < length (page_in frames page).nodes = omega (arith, tree.1.some, ap (λ (q : PageContents). length q.nodes) inner, c.len.ensures.value, c.min.ensures) in
    let next : c.read_u32-page.result ≡ child_of (node_at (page_in frames page).nodes i) = c.read_u32-page.ensures ∙ ap (little_number 4) c.data.ensures ∙ ap (λ (q : PageContents). child_of (node_at q.nodes i)) (sym inner) in
    let all = nodes_of frames c.args.self.now in
    let run : IsRun (entries (suc depth) frames page) all = subst (λ (n : ℕ). IsRun (entries n frames page) all) here c.loop-level.invariant.run in
    record {
      shape = subst (λ (n : ℕ). IsSubtree n frames c.read_u32-page.result) (sym below) (subst (λ (q : ℕ). IsSubtree depth frames q) (sym next) (tree.2 i within));
      run = subst (λ (n : ℕ). IsRun (entries n frames c.read_u32-page.result) all) (sym below) (subst (λ (q : ℕ). IsRun (entries depth frames q) all) (sym next) (run_child depth frames page i all within run));
    }

pub returns-then-eq : goal.returns-then-eq
returns-then-eq c =
    let frames = c.args.space.now in
    let page = c.loop-level.page in
    let all = nodes_of frames c.args.self.now in
    let leaf = c.page-leaf.result.now in
    let down : c.args.self.now.depth - c.loop-level.level ≡ 0 = omega (arith, c.loop-level-test.false) in
    let inner : page_in frames page ≡ leaf = ap (λ (o : Option PageContents). unwrap_or o (empty_page page)) c.page-leaf.ensures in
    let run : IsRun leaf.nodes all = subst (λ (q : PageContents). IsRun q.nodes all) inner (subst (λ (n : ℕ). IsRun (entries n frames page) all) down c.loop-level.invariant.run) in
    let within : c.get-i.result < length leaf.nodes = omega (arith, c.if-i-len.true, c.len-2.ensures.value) in
    run_has leaf.nodes all c.args.key.now c.get-i.result (rising_below c.args.self.now.depth frames c.args.self.now.root c.requires.shape) run within (sym c.key.ensures ∙ (bytes_eq-Decides c.key.result.now c.args.key.now).0 (sym c.if-eq.ensures))
