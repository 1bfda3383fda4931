-- The node that the last places lead to is the tree's.
use Rattle.std.proofs.Common.{Some, sym, ap, ◌∙◌}
use Rattle.std.specs.Option.{option_map}
use Rattle.page_image.specs.Page.{Node}
use Rattle.btree_inplace.proofs.Tree.get.Goals as goal

pub returns-in-Some : goal.returns-in-Some
returns-in-Some c = ap Some c.data.ensures ∙ sym (ap (option_map (λ (n : Node). n.data)) c.in-Some.ensures.found)
