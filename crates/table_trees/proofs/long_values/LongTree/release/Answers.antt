-- One reference is taken off the count in the value's head, or the value's nodes go.
use Rattle.std.proofs.Common.{subst}
use Rattle.long_value.specs.Stores.{HasValues, id_bytes}
use Rattle.long_value.specs.Values.{value_of, without_reference}
use Rattle.table_trees.specs.LongTrees.{long_values_in}
use Rattle.table_trees.proofs.LongChanges.{becomes, held, some_is, unreferred}
use Rattle.table_trees.proofs.long_values.LongTree.release.Goals as goal

pub release-requires : goal.release-requires
release-requires c = held c.args.space.now c.args.self.now c.args.id c.requires.tree c.requires.there

pub returns : goal.returns
returns c =
    let id = id_bytes c.args.id in
    let values = long_values_in c.args.space.now c.args.self.now in
    let found = some_is (value_of id values) c.requires.there in
    becomes c.values_are_shown.ensures c.tree_pages_are_own.ensures c.args.space.now c.args.self.now c.release.new.space (record { store = c.release.new.self }) values (without_reference id values) c.requires.tree
    (subst (HasValues c.release.new.space c.release.new.self) (unreferred id found.0 values found.1) (c.release.ensures.values values found.0 c.requires.tree found.1)) c.release.ensures.pages c.release.ensures.root
