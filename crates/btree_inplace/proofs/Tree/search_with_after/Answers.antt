-- The leaf has the node with the key where the tree has it, and the node behind it, or the subtree beside the path begins with that.
use Rattle.std.proofs.Common.{◌≡◌, Some, sym, ap, ◌∙◌}
use Rattle.std.specs.Prelude.{Option, unwrap_or, find}
use Rattle.std.specs.Option.{option_map, option_or}
use Rattle.page_image.specs.Page.{Node, PageContents}
use Rattle.page_space.specs.Frames.{empty_page}
use Rattle.btree_inplace.specs.Order.{has_key, is_above, key_and_data}
use Rattle.btree_inplace.specs.Neighbors.{first_of}
use Rattle.btree_inplace.specs.Shape.{page_in}
use Rattle.btree_inplace.proofs.Below.{found_at, is_above-passes, not_found, place_at, place_behind}
use Rattle.btree_inplace.proofs.Tree.search_with_after.Goals as goal

pub returns-in-Ok-clause-data : goal.returns-in-Ok-clause-data
returns-in-Ok-clause-data c =
    let page = c.right_path-page.result.0 in
    let inner : page_in c.args.space.now page ≡ c.page-leaf.result.now = ap (λ (o : Option PageContents). unwrap_or o (empty_page page)) c.page-leaf.ensures in
    ap Some c.data.ensures
    ∙ ap (option_map (λ (n : Node). n.data)) (sym (found_at c.page-leaf.result.now.nodes c.args.key.now c.in-Ok.i c.len.ensures.page.rising c.in-Ok.ensures.0 c.in-Ok.ensures.1)
    ∙ ap (λ (p : PageContents). find (has_key c.args.key.now) p.nodes) (sym inner) ∙ c.right_path-page.ensures.same)

pub returns-in-Err-clause-data : goal.returns-in-Err-clause-data
returns-in-Err-clause-data c =
    let page = c.right_path-page.result.0 in
    let inner : page_in c.args.space.now page ≡ c.page-leaf.result.now = ap (λ (o : Option PageContents). unwrap_or o (empty_page page)) c.page-leaf.ensures in
    ap (option_map (λ (n : Node). n.data)) (sym (not_found c.page-leaf.result.now.nodes c.args.key.now c.in-Err.i c.in-Err.ensures)
    ∙ ap (λ (p : PageContents). find (has_key c.args.key.now) p.nodes) (sym inner) ∙ c.right_path-page.ensures.same)

pub returns-in-Ok-clause-after : goal.returns-in-Ok-clause-after
returns-in-Ok-clause-after c =
    let frames = c.args.space.now in
    let test = is_above c.args.key.now in
    let page = c.right_path-page.result.0 in
    let inner : page_in frames page ≡ c.page-leaf.result.now = ap (λ (o : Option PageContents). unwrap_or o (empty_page page)) c.page-leaf.ensures in
    c.node_or_next.ensures test (place_behind c.page-leaf.result.now.nodes c.args.key.now c.in-Ok.i c.len.ensures.page.rising c.in-Ok.ensures.0 c.in-Ok.ensures.1)
    ∙ ap (λ (q : PageContents). option_map key_and_data (option_or (find test q.nodes) (first_of frames c.right_path-page.result.1))) (sym inner)
    ∙ ap (option_map key_and_data) (sym (c.right_path-page.ensures.found test (is_above-passes c.args.key.now)))

pub returns-in-Err-clause-after : goal.returns-in-Err-clause-after
returns-in-Err-clause-after c =
    let frames = c.args.space.now in
    let test = is_above c.args.key.now in
    let page = c.right_path-page.result.0 in
    let inner : page_in frames page ≡ c.page-leaf.result.now = ap (λ (o : Option PageContents). unwrap_or o (empty_page page)) c.page-leaf.ensures in
    c.node_or_next-in-Err.ensures test (place_at test c.page-leaf.result.now.nodes c.args.key.now c.in-Err.i (is_above-passes c.args.key.now) c.in-Err.ensures)
    ∙ ap (λ (q : PageContents). option_map key_and_data (option_or (find test q.nodes) (first_of frames c.right_path-page.result.1))) (sym inner)
    ∙ ap (option_map key_and_data) (sym (c.right_path-page.ensures.found test (is_above-passes c.args.key.now)))
