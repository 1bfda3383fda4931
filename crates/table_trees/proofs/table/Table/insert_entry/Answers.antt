-- The tree of the index takes the entry, and the other trees stay.
use Rattle.std.proofs.Common.{List, refl, sym, ap, subst, ◌∙◌, arith, true≢false}
use Rattle.std.specs.Vec.{with_item}
use Rattle.common_lemmas.proofs.Results.{OnOk-then}
use Rattle.cursor_nav.specs.Places.{Pair}
use Rattle.laws_versions.specs.KeptEntries.{has_entry}
use Rattle.index_derive.specs.Entries.{insert_entry}
use Rattle.index_tree.specs.Entries.{IsApartFromAll}
use Rattle.table_trees.specs.StoredTables.{is_index, part_of}
use Rattle.table_trees.specs.TableParts.{stored_index, stored_table}
use Rattle.table_trees.specs.declared.table.Table.{Table}
use Rattle.table_trees.proofs.IndexChanges.{Changes, entries_change, entries_same, found_entries, found_index, is_numbered}
use Rattle.table_trees.proofs.Outcomes.{on_err}
use Rattle.table_trees.proofs.Places.{none_shown, place_of, within_of}
use Rattle.table_trees.proofs.TableChanges.{HasIndexes, TreesStay}
use Rattle.table_trees.proofs.table.Table.insert_entry.Goals as goal

pub index_mut-named-requires : goal.index_mut-named-requires
index_mut-named-requires c = omega (arith, c.args.self.now.indexes.ok.0, within_of (is_numbered c.args.index.0) c.args.self.now.indexes.items c.as_slice.result.now c.in-Some.i c.as_slice.ensures.value c.in-Some.ensures)

pub insert-requires-clause-index : goal.insert-requires-clause-index
insert-requires-clause-index c =
    found_index c.args.space.now c.args.self.now c.args.index.0 c.in-Some.i c.index_mut-named.result.now c.requires.table
    (place_of (is_numbered c.args.index.0) c.args.self.now.indexes.items c.as_slice.result.now c.in-Some.i c.index_mut-named.result.now c.as_slice.ensures.value c.in-Some.ensures c.index_mut-named.ensures.value)

pub insert-requires-clause-absent : goal.insert-requires-clause-absent
insert-requires-clause-absent c =
    ap (has_entry c.args.key.now c.args.bookmark.now) (sym (found_entries c.args.space.now c.args.self.now c.args.index.0 c.in-Some.i c.index_mut-named.result.now c.requires.table
    (place_of (is_numbered c.args.index.0) c.args.self.now.indexes.items c.as_slice.result.now c.in-Some.i c.index_mut-named.result.now c.as_slice.ensures.value c.in-Some.ensures c.index_mut-named.ensures.value)))
    ∙ c.requires.absent

pub insert-requires-clause-apart : goal.insert-requires-clause-apart
insert-requires-clause-apart c =
    subst (λ (es : List Pair). IsApartFromAll c.args.key.now es) (found_entries c.args.space.now c.args.self.now c.args.index.0 c.in-Some.i c.index_mut-named.result.now c.requires.table
    (place_of (is_numbered c.args.index.0) c.args.self.now.indexes.items c.as_slice.result.now c.in-Some.i c.index_mut-named.result.now c.as_slice.ensures.value c.in-Some.ensures c.index_mut-named.ensures.value))
    c.requires.apart

pub returns-in-Some-clause-ok : goal.returns-in-Some-clause-ok
returns-in-Some-clause-ok c =
    let place = place_of (is_numbered c.args.index.0) c.args.self.now.indexes.items c.as_slice.result.now c.in-Some.i c.index_mut-named.result.now c.as_slice.ensures.value c.in-Some.ensures c.index_mut-named.ensures.value in
    let is : Table = record { table = c.args.self.now.table; nodes = c.args.self.now.nodes; long_values = c.args.self.now.long_values; indexes = with_item c.args.self.now.indexes c.in-Some.i (record { index = c.index_mut-named.result.now.index; tree = c.insert.new.self }) } in
    let change : Changes c.args.space.now c.args.self.now c.insert.new.space c.args.index.0 c.in-Some.i c.index_mut-named.result.now c.insert.new.self =
    record { table_is = c.requires.table; place = place; good = c.insert.ensures.index; pages = c.insert.ensures.pages; root = c.insert.ensures.root } in
    let others : HasIndexes c.args.self.now is is.indexes.items = record { table = refl; nodes = refl; long_values = refl; items_are = refl } in
    let stay : TreesStay = record { nodes = c.trees_stay.ensures.nodes; long_values = c.trees_stay.ensures.long_values; indexes = c.trees_stay.ensures.indexes } in
    let listed = found_entries c.args.space.now c.args.self.now c.args.index.0 c.in-Some.i c.index_mut-named.result.now c.requires.table place in
    OnOk-then c.insert.result
    (λ has. entries_change stay c.trees_stay.ensures.own c.args.space.now c.args.self.now c.insert.new.space c.args.index.0 c.in-Some.i c.index_mut-named.result.now c.insert.new.self is (insert_entry (c.args.key.now, c.args.bookmark.now) (part_of (is_index c.args.index.0) (λ x. x.1) (stored_table c.args.space.now c.args.self.now).indexes)) change others
    (has ∙ ap (insert_entry (c.args.key.now, c.args.bookmark.now)) (sym listed)))
    c.insert.ensures.ok

pub returns-in-Some-clause-err : goal.returns-in-Some-clause-err
returns-in-Some-clause-err c =
    let place = place_of (is_numbered c.args.index.0) c.args.self.now.indexes.items c.as_slice.result.now c.in-Some.i c.index_mut-named.result.now c.as_slice.ensures.value c.in-Some.ensures c.index_mut-named.ensures.value in
    let is : Table = record { table = c.args.self.now.table; nodes = c.args.self.now.nodes; long_values = c.args.self.now.long_values; indexes = with_item c.args.self.now.indexes c.in-Some.i (record { index = c.index_mut-named.result.now.index; tree = c.insert.new.self }) } in
    let change : Changes c.args.space.now c.args.self.now c.insert.new.space c.args.index.0 c.in-Some.i c.index_mut-named.result.now c.insert.new.self =
    record { table_is = c.requires.table; place = place; good = c.insert.ensures.index; pages = c.insert.ensures.pages; root = c.insert.ensures.root } in
    let others : HasIndexes c.args.self.now is is.indexes.items = record { table = refl; nodes = refl; long_values = refl; items_are = refl } in
    let stay : TreesStay = record { nodes = c.trees_stay.ensures.nodes; long_values = c.trees_stay.ensures.long_values; indexes = c.trees_stay.ensures.indexes } in
    on_err c.insert.result
    (λ has. entries_same stay c.trees_stay.ensures.own c.args.space.now c.args.self.now c.insert.new.space c.args.index.0 c.in-Some.i c.index_mut-named.result.now c.insert.new.self is change others has)
    c.insert.ensures.err

pub returns-in-None-clause-ok : goal.returns-in-None-clause-ok
returns-in-None-clause-ok c =
    absurd (true≢false (sym c.requires.there ∙ none_shown (stored_index c.args.space.now) (is_index c.args.index.0) c.args.self.now.indexes.items c.as_slice.result.now c.as_slice.ensures.value c.in-None.ensures))
