use Rattle.std.proofs.Common.{◌≡◌, List, subst}
use Rattle.page_image.specs.Page.{HasRisingKeys, Node}
use Rattle.image_contents.proofs.Stores.{whole_of}
use Rattle.image_contents.proofs.Walks.{rising}
use Rattle.image_contents.proofs.values.laws.values_that_are_not_broken_are_whole.Goals as goal

pub returns : goal.returns
returns c frames table t number has e =
    whole_of frames table t number has (rising t.value_nodes (subst (λ (l : List Node). HasRisingKeys l) has.values_are (c.nodes_of_a_tree_rise.ensures.tree frames table.long_values has.values_tree))) e
