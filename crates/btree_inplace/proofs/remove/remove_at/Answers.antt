-- The page's own search finds the node.
use Rattle.std.proofs.Common.{ap, ◌∙◌, List}
use Rattle.std.specs.Prelude.{find}
use Rattle.page_image.specs.Page.{Node}
use Rattle.btree_inplace.specs.Order.{has_key}
use Rattle.btree_inplace.proofs.Below.{not_found}
use Rattle.btree_inplace.proofs.Removing.{never_none, without-place}
use Rattle.btree_inplace.proofs.remove.remove_at.Goals as goal
use Rattle.btree_inplace.proofs.remove.remove_at.Goals.{in-Ok, in-Err}

pub returns-clause-value : goal.returns-clause-value
returns-clause-value c =
    let page = c.args.leaf.now in
    let key = c.args.key.now in
    elim c.match-find.branch [
      | in-Ok w ↦ w.leaf-is ∙ w.remove.ensures.value ∙ ap (λ (ns : List Node). record page { nodes = ns }) (without-place page.nodes key w.in-Ok.i c.len.ensures.page.rising w.in-Ok.ensures.0 w.in-Ok.ensures.1)
      | in-Err w ↦ absurd (never_none (find (has_key key) page.nodes) (not_found page.nodes key w.in-Err.field-0 w.in-Err.ensures) c.requires)
    ]
