-- Each step goes to the last child, which has a node.
use Rattle.std.proofs.Common.{◌≡◌, ◌+◌, ◌-◌, ℕ, suc, length, sym, ap, subst, ◌∙◌, arith}
use Rattle.std.specs.Prelude.{Option, unwrap_or}
use Rattle.std.specs.Option.{option_map}
use Rattle.byteorder.specs.Endian.{little_number}
use Rattle.page_image.specs.Page.{PageContents, node_at}
use Rattle.page_space.specs.Frames.{empty_page}
use Rattle.btree_inplace.specs.Order.{last_in, key_and_data}
use Rattle.btree_inplace.specs.Shape.{IsSubtree, child_of, entries, page_in}
use Rattle.btree_inplace.proofs.Below.{last_child}
use Rattle.btree_inplace.proofs.neighbors.last_below.Goals as goal

pub loop-preserved : goal.loop-preserved
loop-preserved c =
    let frames = c.args.space.now in
    let page = c.loop.page in
    let depth = c.args.depth - c.loop.counter - 1 in
    let here : c.args.depth - c.loop.counter ≡ suc depth = omega (arith, c.loop-test.true) in
    let below : c.args.depth - (c.loop.counter + 1) ≡ depth = omega arith in
    let tree : IsSubtree (suc depth) frames page = subst (λ (n : ℕ). IsSubtree n frames page) here c.loop.invariant.shape in
    let inner : page_in frames page ≡ c.page-inner.result.now = ap (λ (o : Option PageContents). unwrap_or o (empty_page page)) c.page-inner.ensures in
    let last : c.len.result - 1 + 1 ≡ length (page_in frames page).nodes = omega (arith, c.len.ensures.value, ap (λ (q : PageContents). length q.nodes) inner, tree.1.some) in
    let next : c.read_u32-page.result ≡ child_of (node_at (page_in frames page).nodes (c.len.result - 1)) = c.read_u32-page.ensures ∙ ap (little_number 4) c.data.ensures ∙ ap (λ (q : PageContents). child_of (node_at q.nodes (c.len.result - 1))) (sym inner) in
    record {
      shape = subst (λ (n : ℕ). IsSubtree n frames c.read_u32-page.result) (sym below) (subst (λ (q : ℕ). IsSubtree depth frames q) (sym next) (tree.2 (c.len.result - 1) (omega (arith, last))));
      last =
          ap (λ n. last_in (entries n frames c.read_u32-page.result)) below ∙ ap (λ q. last_in (entries depth frames q)) next
          ∙ ap (option_map key_and_data) (last_child depth frames page (c.len.result - 1) tree last)
          ∙ ap (λ n. last_in (entries n frames page)) (sym here) ∙ c.loop.invariant.last;
    }
