-- The leaf has the node, or the subtree beside the path has it.
use Rattle.std.proofs.Common.{◌≡◌, sym, ap, ◌∙◌}
use Rattle.std.specs.Prelude.{Option, unwrap_or, find}
use Rattle.std.specs.Option.{option_map, option_or}
use Rattle.page_image.specs.Page.{PageContents}
use Rattle.page_space.specs.Frames.{empty_page}
use Rattle.btree_inplace.specs.Order.{is_above, key_and_data}
use Rattle.btree_inplace.specs.Neighbors.{first_of}
use Rattle.btree_inplace.specs.Shape.{page_in}
use Rattle.btree_inplace.proofs.Below.{is_above-passes}
use Rattle.btree_inplace.proofs.Tree.search_after.Goals as goal

pub returns : goal.returns
returns c =
    let frames = c.args.space.now in
    let test = is_above c.args.key.now in
    let page = c.right_path-page.result.0 in
    let inner : page_in frames page ≡ c.page-leaf.result.now = ap (λ (o : Option PageContents). unwrap_or o (empty_page page)) c.page-leaf.ensures in
    c.node_or_next.ensures test c.place_above.ensures
    ∙ ap (λ (q : PageContents). option_map key_and_data (option_or (find test q.nodes) (first_of frames c.right_path-page.result.1))) (sym inner)
    ∙ ap (option_map key_and_data) (sym (c.right_path-page.ensures.found test (is_above-passes c.args.key.now)))
