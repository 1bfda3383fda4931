-- Each step goes to the first child, which has a node.
use Rattle.std.proofs.Common.{◌≡◌, ◌+◌, ◌-◌, ℕ, suc, sym, ap, subst, ◌∙◌, arith}
use Rattle.std.specs.Prelude.{Option, unwrap_or}
use Rattle.std.specs.Option.{option_map}
use Rattle.byteorder.specs.Endian.{little_number}
use Rattle.page_image.specs.Page.{PageContents, node_at}
use Rattle.page_space.specs.Frames.{empty_page}
use Rattle.btree_inplace.specs.Order.{first_in, key_and_data}
use Rattle.btree_inplace.specs.Shape.{IsSubtree, child_of, entries, page_in}
use Rattle.btree_inplace.proofs.Below.{first_child}
use Rattle.btree_inplace.proofs.neighbors.first_below.Goals as goal

pub loop-preserved : goal.loop-preserved
loop-preserved c =
    let frames = c.args.space.now in
    let page = c.loop.page in
    let depth = c.args.depth - c.loop.counter - 1 in
    let here : c.args.depth - c.loop.counter ≡ suc depth = omega (arith, c.loop-test.true) in
    let below : c.args.depth - (c.loop.counter + 1) ≡ depth = omega arith in
    let tree : IsSubtree (suc depth) frames page = subst (λ (n : ℕ). IsSubtree n frames page) here c.loop.invariant.shape in
    let inner : page_in frames page ≡ c.page.result.now = ap (λ (o : Option PageContents). unwrap_or o (empty_page page)) c.page.ensures in
    let next : c.read_u32-page.result ≡ child_of (node_at (page_in frames page).nodes 0) = c.read_u32-page.ensures ∙ ap (little_number 4) c.data.ensures ∙ ap (λ (q : PageContents). child_of (node_at q.nodes 0)) (sym inner) in
    record {
      shape = subst (λ (n : ℕ). IsSubtree n frames c.read_u32-page.result) (sym below) (subst (λ (q : ℕ). IsSubtree depth frames q) (sym next) (tree.2 0 tree.1.some));
      first =
          ap (λ n. first_in (entries n frames c.read_u32-page.result)) below ∙ ap (λ q. first_in (entries depth frames q)) next
          ∙ ap (option_map key_and_data) (first_child depth frames page tree)
          ∙ ap (λ n. first_in (entries n frames page)) (sym here) ∙ c.loop.invariant.first;
    }
