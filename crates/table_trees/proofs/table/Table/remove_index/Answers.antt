-- The tree of the index goes back to the space, and the other trees stay.
use Rattle.std.proofs.Common.{refl, sym, ◌∙◌, arith, true≢false}
use Rattle.table_trees.specs.StoredTables.{is_index}
use Rattle.table_trees.specs.TableParts.{stored_index}
use Rattle.table_trees.specs.declared.table.Table.{Table}
use Rattle.table_trees.proofs.IndexChanges.{found_index, index_goes, is_numbered}
use Rattle.table_trees.proofs.Places.{none_shown, place_of, within_of}
use Rattle.table_trees.proofs.table.Table.remove_index.Goals as goal

pub remove-removed-requires : goal.remove-removed-requires
remove-removed-requires c = omega (arith, c.args.self.now.indexes.ok.0, within_of (is_numbered c.args.index.0) c.args.self.now.indexes.items c.as_slice.result.now c.in-Some.i c.as_slice.ensures.value c.in-Some.ensures)

pub give_back-requires : goal.give_back-requires
give_back-requires c =
    found_index c.args.space.now c.args.self.now c.args.index.0 c.in-Some.i c.remove-removed.result c.requires.table
    (place_of (is_numbered c.args.index.0) c.args.self.now.indexes.items c.as_slice.result.now c.in-Some.i c.remove-removed.result c.as_slice.ensures.value c.in-Some.ensures c.remove-removed.ensures.value)

pub returns-in-Some : goal.returns-in-Some
returns-in-Some c =
    let is : Table = record { table = c.args.self.now.table; nodes = c.args.self.now.nodes; long_values = c.args.self.now.long_values; indexes = c.remove-removed.new.self } in
    index_goes (record { nodes = c.trees_stay.ensures.nodes; long_values = c.trees_stay.ensures.long_values; indexes = c.trees_stay.ensures.indexes }) c.trees_stay.ensures.own c.args.space.now c.args.self.now c.give_back.new.space c.args.index.0 c.in-Some.i c.remove-removed.result is c.requires.table
    (place_of (is_numbered c.args.index.0) c.args.self.now.indexes.items c.as_slice.result.now c.in-Some.i c.remove-removed.result c.as_slice.ensures.value c.in-Some.ensures c.remove-removed.ensures.value)
    c.give_back.ensures (record { table = refl; nodes = refl; long_values = refl; items_are = c.remove-removed.ensures.items })

pub returns-in-None : goal.returns-in-None
returns-in-None c =
    absurd (true≢false (sym c.requires.there ∙ none_shown (stored_index c.args.space.now) (is_index c.args.index.0) c.args.self.now.indexes.items c.as_slice.result.now c.as_slice.ensures.value c.in-None.ensures))
