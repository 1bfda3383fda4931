-- One index of the named table loses the entry, and all other trees stay.
use Rattle.std.proofs.Common.{List, refl, sym, ap, ◌∙◌, arith, true≢false}
use Rattle.laws_versions.specs.KeptEntries.{has_entry, without_entry}
use Rattle.table_trees.specs.StoredTables.{StoredIndex, changed_where, is_index, part_of, put_entries, put_indexes}
use Rattle.table_trees.specs.TableParts.{stored_table}
use Rattle.table_trees.proofs.Places.{place_of, within_of}
use Rattle.table_trees.proofs.StoreChanges.{catalog_same, found_indexes, found_table, indexes_shown, is_named, kept, no_indexes, tables_same}
use Rattle.table_trees.proofs.trees.TableTrees.remove_entry.Goals as goal

pub index_mut-named-requires : goal.index_mut-named-requires
index_mut-named-requires c = omega (arith, c.self.inside.tables.ok.0, within_of (is_named c.args.table.0) c.self.inside.tables.items c.as_slice.result.now c.in-Some.i c.as_slice.ensures.value c.in-Some.ensures)

pub remove_entry-requires-clause-table : goal.remove_entry-requires-clause-table
remove_entry-requires-clause-table c = found_table c.self.inside.space c.self.inside.tables.items c.args.table.0 c.in-Some.i c.index_mut-named.result.now c.self.invariant (place_of (is_named c.args.table.0) c.self.inside.tables.items c.as_slice.result.now c.in-Some.i c.index_mut-named.result.now c.as_slice.ensures.value c.in-Some.ensures c.index_mut-named.ensures.value)

pub remove_entry-requires-clause-there : goal.remove_entry-requires-clause-there
remove_entry-requires-clause-there c = ap (λ (l : List StoredIndex). has_entry c.args.key.now c.args.bookmark.now (part_of (is_index c.args.index.0) (λ x. x.1) l)) (sym (found_indexes c.self.inside.space c.self.inside.tables.items c.args.table.0 c.in-Some.i c.index_mut-named.result.now c.args.self.now c.self.invariant (place_of (is_named c.args.table.0) c.self.inside.tables.items c.as_slice.result.now c.in-Some.i c.index_mut-named.result.now c.as_slice.ensures.value c.in-Some.ensures c.index_mut-named.ensures.value) c.self.view_is)) ∙ c.requires

pub invariant_of-self : goal.invariant_of-self
invariant_of-self c = kept (record { tables = c.tables_stay.ensures.tables; catalog = c.tables_stay.ensures.catalog }) c.self.inside.space c.self.inside.tables.items c.remove_entry.new.space c.args.table.0 c.in-Some.i c.index_mut-named.result.now c.remove_entry.new.self (let l = (stored_table c.self.inside.space c.index_mut-named.result.now).indexes in put_indexes (changed_where (is_index c.args.index.0) (put_entries (without_entry c.args.key.now c.args.bookmark.now (part_of (is_index c.args.index.0) (λ x. x.1) l))) l) (stored_table c.self.inside.space c.index_mut-named.result.now)) (record { are = c.self.invariant; place = place_of (is_named c.args.table.0) c.self.inside.tables.items c.as_slice.result.now c.in-Some.i c.index_mut-named.result.now c.as_slice.ensures.value c.in-Some.ensures c.index_mut-named.ensures.value; becomes = c.remove_entry.ensures; number = refl })

pub returns-in-Some-clause-tables : goal.returns-in-Some-clause-tables
returns-in-Some-clause-tables c = tables_same (indexes_shown (record { tables = c.tables_stay.ensures.tables; catalog = c.tables_stay.ensures.catalog }) c.self.inside.space c.self.inside.tables.items c.remove_entry.new.space c.args.table.0 c.in-Some.i c.index_mut-named.result.now c.remove_entry.new.self (λ (l : List StoredIndex). changed_where (is_index c.args.index.0) (put_entries (without_entry c.args.key.now c.args.bookmark.now (part_of (is_index c.args.index.0) (λ x. x.1) l))) l) c.args.self.now c.self.invariant (place_of (is_named c.args.table.0) c.self.inside.tables.items c.as_slice.result.now c.in-Some.i c.index_mut-named.result.now c.as_slice.ensures.value c.in-Some.ensures c.index_mut-named.ensures.value) c.self.view_is c.remove_entry.ensures)

pub returns-in-Some-clause-catalog : goal.returns-in-Some-clause-catalog
returns-in-Some-clause-catalog c = catalog_same (indexes_shown (record { tables = c.tables_stay.ensures.tables; catalog = c.tables_stay.ensures.catalog }) c.self.inside.space c.self.inside.tables.items c.remove_entry.new.space c.args.table.0 c.in-Some.i c.index_mut-named.result.now c.remove_entry.new.self (λ (l : List StoredIndex). changed_where (is_index c.args.index.0) (put_entries (without_entry c.args.key.now c.args.bookmark.now (part_of (is_index c.args.index.0) (λ x. x.1) l))) l) c.args.self.now c.self.invariant (place_of (is_named c.args.table.0) c.self.inside.tables.items c.as_slice.result.now c.in-Some.i c.index_mut-named.result.now c.as_slice.ensures.value c.in-Some.ensures c.index_mut-named.ensures.value) c.self.view_is c.remove_entry.ensures)

pub returns-in-None-clause-tables : goal.returns-in-None-clause-tables
returns-in-None-clause-tables c = absurd (true≢false (sym c.requires ∙ ap (λ (l : List StoredIndex). has_entry c.args.key.now c.args.bookmark.now (part_of (is_index c.args.index.0) (λ x. x.1) l)) (no_indexes c.self.inside.space c.self.inside.catalog c.self.inside.tables.items c.as_slice.result.now c.args.table.0 c.args.self.now c.as_slice.ensures.value c.in-None.ensures c.self.view_is)))
