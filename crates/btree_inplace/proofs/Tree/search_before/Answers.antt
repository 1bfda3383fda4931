-- The leaf has the node, or the subtree beside the path has it.
use Rattle.std.proofs.Common.{◌≡◌, sym, ap, ◌∙◌}
use Rattle.std.specs.Prelude.{Option, unwrap_or, find, reverse}
use Rattle.std.specs.Option.{option_map, option_or}
use Rattle.page_image.specs.Page.{PageContents}
use Rattle.page_space.specs.Frames.{empty_page}
use Rattle.btree_inplace.specs.Order.{is_under, key_and_data}
use Rattle.btree_inplace.specs.Neighbors.{last_of}
use Rattle.btree_inplace.specs.Shape.{page_in}
use Rattle.btree_inplace.proofs.Before.{is_under-passes}
use Rattle.btree_inplace.proofs.Tree.search_before.Goals as goal

pub returns : goal.returns
returns c =
    let frames = c.args.space.now in
    let test = is_under c.args.key.now in
    let page = c.left_path-page.result.0 in
    let inner : page_in frames page ≡ c.page-leaf.result.now = ap (λ (o : Option PageContents). unwrap_or o (empty_page page)) c.page-leaf.ensures in
    c.node_or_previous.ensures test c.place_under.ensures
    ∙ ap (λ (q : PageContents). option_map key_and_data (option_or (find test (reverse q.nodes)) (last_of frames c.left_path-page.result.1))) (sym inner)
    ∙ ap (option_map key_and_data) (sym (c.left_path-page.ensures.found test (is_under-passes c.args.key.now)))
