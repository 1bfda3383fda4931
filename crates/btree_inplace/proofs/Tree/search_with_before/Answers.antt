-- The leaf has the node with the key where the tree has it, and the node before it, or the subtree beside the path ends with that.
use Rattle.std.proofs.Common.{◌≡◌, Some, sym, ap, ◌∙◌}
use Rattle.std.specs.Prelude.{Option, unwrap_or, find, reverse}
use Rattle.std.specs.Option.{option_map, option_or}
use Rattle.page_image.specs.Page.{Node, PageContents}
use Rattle.page_space.specs.Frames.{empty_page}
use Rattle.btree_inplace.specs.Order.{has_key, is_under, key_and_data}
use Rattle.btree_inplace.specs.Neighbors.{last_of}
use Rattle.btree_inplace.specs.Shape.{page_in}
use Rattle.btree_inplace.proofs.Below.{found_at, not_found}
use Rattle.btree_inplace.proofs.Before.{is_under-passes, place_before, place_below}
use Rattle.btree_inplace.proofs.Tree.search_with_before.Goals as goal

pub node_or_previous-requires-clause-place : goal.node_or_previous-requires-clause-place
node_or_previous-requires-clause-place c =
    (is_under c.args.key.now, place_before c.page-leaf.result.now.nodes c.args.key.now c.in-Ok.i c.checked_sub.result c.len.ensures.page.rising c.in-Ok.ensures.0 c.in-Ok.ensures.1 c.checked_sub.ensures)

pub returns-in-Ok-clause-data : goal.returns-in-Ok-clause-data
returns-in-Ok-clause-data c =
    let page = c.left_path-page.result.0 in
    let inner : page_in c.args.space.now page ≡ c.page-leaf.result.now = ap (λ (o : Option PageContents). unwrap_or o (empty_page page)) c.page-leaf.ensures in
    ap Some c.data.ensures
    ∙ ap (option_map (λ (n : Node). n.data)) (sym (found_at c.page-leaf.result.now.nodes c.args.key.now c.in-Ok.i c.len.ensures.page.rising c.in-Ok.ensures.0 c.in-Ok.ensures.1)
    ∙ ap (λ (p : PageContents). find (has_key c.args.key.now) p.nodes) (sym inner) ∙ c.left_path-page.ensures.same)

pub returns-in-Err-clause-data : goal.returns-in-Err-clause-data
returns-in-Err-clause-data c =
    let page = c.left_path-page.result.0 in
    let inner : page_in c.args.space.now page ≡ c.page-leaf.result.now = ap (λ (o : Option PageContents). unwrap_or o (empty_page page)) c.page-leaf.ensures in
    ap (option_map (λ (n : Node). n.data)) (sym (not_found c.page-leaf.result.now.nodes c.args.key.now c.in-Err.i c.in-Err.ensures)
    ∙ ap (λ (p : PageContents). find (has_key c.args.key.now) p.nodes) (sym inner) ∙ c.left_path-page.ensures.same)

pub returns-in-Ok-clause-before : goal.returns-in-Ok-clause-before
returns-in-Ok-clause-before c =
    let frames = c.args.space.now in
    let test = is_under c.args.key.now in
    let page = c.left_path-page.result.0 in
    let inner : page_in frames page ≡ c.page-leaf.result.now = ap (λ (o : Option PageContents). unwrap_or o (empty_page page)) c.page-leaf.ensures in
    c.node_or_previous.ensures test (place_before c.page-leaf.result.now.nodes c.args.key.now c.in-Ok.i c.checked_sub.result c.len.ensures.page.rising c.in-Ok.ensures.0 c.in-Ok.ensures.1 c.checked_sub.ensures)
    ∙ ap (λ (q : PageContents). option_map key_and_data (option_or (find test (reverse q.nodes)) (last_of frames c.left_path-page.result.1))) (sym inner)
    ∙ ap (option_map key_and_data) (sym (c.left_path-page.ensures.found test (is_under-passes c.args.key.now)))

pub returns-in-Err-clause-before : goal.returns-in-Err-clause-before
returns-in-Err-clause-before c =
    let frames = c.args.space.now in
    let test = is_under c.args.key.now in
    let page = c.left_path-page.result.0 in
    let inner : page_in frames page ≡ c.page-leaf.result.now = ap (λ (o : Option PageContents). unwrap_or o (empty_page page)) c.page-leaf.ensures in
    c.node_or_previous-in-Err.ensures test (place_below test c.page-leaf.result.now.nodes c.args.key.now c.in-Err.i c.checked_sub-in-Err.result (is_under-passes c.args.key.now) c.in-Err.ensures c.checked_sub-in-Err.ensures)
    ∙ ap (λ (q : PageContents). option_map key_and_data (option_or (find test (reverse q.nodes)) (last_of frames c.left_path-page.result.1))) (sym inner)
    ∙ ap (option_map key_and_data) (sym (c.left_path-page.ensures.found test (is_under-passes c.args.key.now)))

pub node_or_previous-requires-in-Err-clause-place : goal.node_or_previous-requires-in-Err-clause-place
node_or_previous-requires-in-Err-clause-place c =
    (is_under c.args.key.now, place_below (is_under c.args.key.now) c.page-leaf.result.now.nodes c.args.key.now c.in-Err.i c.checked_sub-in-Err.result (is_under-passes c.args.key.now) c.in-Err.ensures c.checked_sub-in-Err.ensures)
