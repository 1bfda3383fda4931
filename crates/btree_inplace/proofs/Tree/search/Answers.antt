-- The leaf's own search finds what the tree has.
use Rattle.std.proofs.Common.{◌≡◌, sym, ap, subst, ◌∙◌, Some}
use Rattle.std.specs.Prelude.{Option, unwrap_or, find}
use Rattle.std.specs.Option.{option_map}
use Rattle.page_image.specs.Page.{Node, PageContents, HasRisingKeys}
use Rattle.page_space.specs.Frames.{empty_page}
use Rattle.btree_inplace.specs.Order.{has_key}
use Rattle.btree_inplace.specs.Shape.{page_in}
use Rattle.btree_inplace.proofs.Below.{found_at, not_found}
use Rattle.btree_inplace.proofs.Tree.search.Goals as goal

pub returns-in-Ok : goal.returns-in-Ok
returns-in-Ok c =
    let inner : page_in c.args.space.now c.leaf.result ≡ c.page-leaf.result.now = ap (λ (o : Option PageContents). unwrap_or o (empty_page c.leaf.result)) c.page-leaf.ensures in
    let rising : HasRisingKeys c.page-leaf.result.now.nodes = subst (λ (p : PageContents). HasRisingKeys p.nodes) inner c.leaf.ensures.leaf.page.rising in
    ap Some c.data.ensures
    ∙ ap (option_map (λ (n : Node). n.data)) (sym (found_at c.page-leaf.result.now.nodes c.args.key.now c.in-Ok.i rising c.in-Ok.ensures.0 c.in-Ok.ensures.1)
    ∙ ap (λ (p : PageContents). find (has_key c.args.key.now) p.nodes) (sym inner) ∙ c.leaf.ensures.found)

pub returns-in-Err : goal.returns-in-Err
returns-in-Err c =
    let inner : page_in c.args.space.now c.leaf.result ≡ c.page-leaf.result.now = ap (λ (o : Option PageContents). unwrap_or o (empty_page c.leaf.result)) c.page-leaf.ensures in
    ap (option_map (λ (n : Node). n.data)) (sym (not_found c.page-leaf.result.now.nodes c.args.key.now c.in-Err.field-0 c.in-Err.ensures)
    ∙ ap (λ (p : PageContents). find (has_key c.args.key.now) p.nodes) (sym inner) ∙ c.leaf.ensures.found)
