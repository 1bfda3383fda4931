-- The tree of the index loses the entry, and the other trees stay.
use Rattle.std.proofs.Common.{refl, sym, ap, ◌∙◌, arith, true≢false}
use Rattle.std.specs.Vec.{with_item}
use Rattle.laws_versions.specs.KeptEntries.{has_entry, without_entry}
use Rattle.table_trees.specs.StoredTables.{is_index, part_of}
use Rattle.table_trees.specs.TableParts.{stored_index, stored_table}
use Rattle.table_trees.specs.declared.table.Table.{Table}
use Rattle.table_trees.proofs.IndexChanges.{Changes, entries_change, found_entries, found_index, is_numbered}
use Rattle.table_trees.proofs.Places.{found_no_part, place_of, within_of}
use Rattle.table_trees.proofs.TableChanges.{HasIndexes, TreesStay}
use Rattle.table_trees.proofs.table.Table.remove_entry.Goals as goal

pub index_mut-named-requires : goal.index_mut-named-requires
index_mut-named-requires c = omega (arith, c.args.self.now.indexes.ok.0, within_of (is_numbered c.args.index.0) c.args.self.now.indexes.items c.as_slice.result.now c.in-Some.i c.as_slice.ensures.value c.in-Some.ensures)

pub remove-requires-clause-index : goal.remove-requires-clause-index
remove-requires-clause-index c =
    found_index c.args.space.now c.args.self.now c.args.index.0 c.in-Some.i c.index_mut-named.result.now c.requires.table
    (place_of (is_numbered c.args.index.0) c.args.self.now.indexes.items c.as_slice.result.now c.in-Some.i c.index_mut-named.result.now c.as_slice.ensures.value c.in-Some.ensures c.index_mut-named.ensures.value)

pub remove-requires-clause-there : goal.remove-requires-clause-there
remove-requires-clause-there c =
    ap (has_entry c.args.key.now c.args.bookmark.now) (sym (found_entries c.args.space.now c.args.self.now c.args.index.0 c.in-Some.i c.index_mut-named.result.now c.requires.table
    (place_of (is_numbered c.args.index.0) c.args.self.now.indexes.items c.as_slice.result.now c.in-Some.i c.index_mut-named.result.now c.as_slice.ensures.value c.in-Some.ensures c.index_mut-named.ensures.value)))
    ∙ c.requires.there

pub returns-in-Some : goal.returns-in-Some
returns-in-Some c =
    let place = place_of (is_numbered c.args.index.0) c.args.self.now.indexes.items c.as_slice.result.now c.in-Some.i c.index_mut-named.result.now c.as_slice.ensures.value c.in-Some.ensures c.index_mut-named.ensures.value in
    let is : Table = record { table = c.args.self.now.table; nodes = c.args.self.now.nodes; long_values = c.args.self.now.long_values; indexes = with_item c.args.self.now.indexes c.in-Some.i (record { index = c.index_mut-named.result.now.index; tree = c.remove.new.self }) } in
    let change : Changes c.args.space.now c.args.self.now c.remove.new.space c.args.index.0 c.in-Some.i c.index_mut-named.result.now c.remove.new.self =
    record { table_is = c.requires.table; place = place; good = c.remove.ensures.index; pages = c.remove.ensures.pages; root = c.remove.ensures.root } in
    let others : HasIndexes c.args.self.now is is.indexes.items = record { table = refl; nodes = refl; long_values = refl; items_are = refl } in
    let stay : TreesStay = record { nodes = c.trees_stay.ensures.nodes; long_values = c.trees_stay.ensures.long_values; indexes = c.trees_stay.ensures.indexes } in
    let listed = found_entries c.args.space.now c.args.self.now c.args.index.0 c.in-Some.i c.index_mut-named.result.now c.requires.table place in
    entries_change stay c.trees_stay.ensures.own c.args.space.now c.args.self.now c.remove.new.space c.args.index.0 c.in-Some.i c.index_mut-named.result.now c.remove.new.self is (without_entry c.args.key.now c.args.bookmark.now (part_of (is_index c.args.index.0) (λ x. x.1) (stored_table c.args.space.now c.args.self.now).indexes)) change others
    (c.remove.ensures.entries ∙ ap (without_entry c.args.key.now c.args.bookmark.now) (sym listed))

pub returns-in-None : goal.returns-in-None
returns-in-None c =
    absurd (true≢false (sym c.requires.there ∙ ap (has_entry c.args.key.now c.args.bookmark.now)
    (found_no_part (stored_index c.args.space.now) (is_index c.args.index.0) (λ x. x.1) c.args.self.now.indexes.items c.as_slice.result.now c.as_slice.ensures.value c.in-None.ensures)))
