use Rattle.std.proofs.Common.{ap, ◌∙◌}
use Rattle.btree_inplace.specs.Order.{get_in}
use Rattle.btree_inplace.specs.Trees.{nodes_of}
use Rattle.image_contents.specs.HeadlessValues.{tells_length}
use Rattle.image_contents.proofs.values.missing.has_head.Goals as goal

pub returns-in-Some : goal.returns-in-Some
returns-in-Some c =
    let nodes = nodes_of c.args.space.now c.args.tree.now in
    c.tells_length.ensures ∙ ap (tells_length c.args.length) (c.in-Some.ensures ∙ ap (get_in nodes) (c.as_slice.ensures ∙ c.head_key-key.ensures))

pub returns-in-None : goal.returns-in-None
returns-in-None c =
    let nodes = nodes_of c.args.space.now c.args.tree.now in
    ap (tells_length c.args.length) (c.in-None.ensures ∙ ap (get_in nodes) (c.as_slice.ensures ∙ c.head_key-key.ensures))
