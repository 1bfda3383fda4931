-- One reference is added to the count in the value's head.
use Rattle.std.proofs.Common.{◌<◌, subst}
use Rattle.long_value.specs.Stores.{HasValues, id_bytes}
use Rattle.long_value.specs.Values.{value_of, with_reference}
use Rattle.table_trees.specs.LongTrees.{long_values_in}
use Rattle.table_trees.proofs.LongChanges.{becomes, held_few, referred, some_has}
use Rattle.table_trees.proofs.long_values.LongTree.share.Goals as goal

pub share-requires : goal.share-requires
share-requires c = held_few c.args.space.now c.args.self.now c.args.id c.requires.tree c.requires.few

pub returns : goal.returns
returns c =
    let id = id_bytes c.args.id in
    let values = long_values_in c.args.space.now c.args.self.now in
    let found = some_has (value_of id values) (λ value. value.count < 4294967295) c.requires.few in
    becomes c.values_are_shown.ensures c.tree_pages_are_own.ensures c.args.space.now c.args.self.now c.share.new.space (record { store = c.share.new.self }) values (with_reference id values) c.requires.tree
    (subst (HasValues c.share.new.space c.share.new.self) (referred id found.0 values found.1) (c.share.ensures.values values found.0 c.requires.tree found.1)) c.share.ensures.pages c.share.ensures.root
