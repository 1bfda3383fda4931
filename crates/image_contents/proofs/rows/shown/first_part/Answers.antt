use Rattle.std.proofs.Common.{ap, ◌∙◌}
use Rattle.btree_inplace.specs.Order.{get_in}
use Rattle.btree_inplace.specs.Trees.{nodes_of}
use Rattle.image_contents.proofs.ReadRows.{part_is, part_none}
use Rattle.image_contents.proofs.rows.shown.first_part.Goals as goal
use Rattle.long_rows.specs.RowReferences.{identifier}
use Rattle.long_value.specs.Shown.{shown_values}
use Rattle.long_value.specs.Values.{value_of}

pub returns-in-Some : goal.returns-in-Some
returns-in-Some c =
    let nodes = nodes_of c.args.space.now c.args.long_values.now in
    let id = identifier c.args.entry c.args.place in
    part_is nodes id c.in-Some.bytes.now (value_of id (shown_values nodes)) c.requires.there (c.requires.values id) (c.in-Some.ensures ∙ ap (get_in nodes) (c.as_slice.ensures ∙ c.first_chunk.ensures))

pub returns-in-None : goal.returns-in-None
returns-in-None c =
    let nodes = nodes_of c.args.space.now c.args.long_values.now in
    let id = identifier c.args.entry c.args.place in
    part_none nodes id (value_of id (shown_values nodes)) c.requires.there (c.requires.values id) (c.in-None.ensures ∙ ap (get_in nodes) (c.as_slice.ensures ∙ c.first_chunk.ensures))
