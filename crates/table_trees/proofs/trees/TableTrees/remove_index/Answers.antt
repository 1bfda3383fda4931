-- The named table has one index less, and all other trees stay.
use Rattle.std.proofs.Common.{List, refl, sym, ap, ◌∙◌, arith, true≢false}
use Rattle.std.specs.List.{list_any}
use Rattle.table_trees.specs.StoredTables.{StoredIndex, is_index, put_indexes, without_where}
use Rattle.table_trees.specs.StoredTrees.{without_index_root}
use Rattle.table_trees.specs.TableParts.{stored_table}
use Rattle.table_trees.proofs.Places.{place_of, within_of}
use Rattle.table_trees.proofs.StoreChanges.{catalog_same, found_indexes, found_table, index_shown, is_named, kept, no_indexes, tables_same}
use Rattle.table_trees.proofs.trees.TableTrees.remove_index.Goals as goal

pub index_mut-named-requires : goal.index_mut-named-requires
index_mut-named-requires c = omega (arith, c.self.inside.tables.ok.0, within_of (is_named c.args.table.0) c.self.inside.tables.items c.as_slice.result.now c.in-Some.i c.as_slice.ensures.value c.in-Some.ensures)

pub remove_index-requires-clause-table : goal.remove_index-requires-clause-table
remove_index-requires-clause-table c = found_table c.self.inside.space c.self.inside.tables.items c.args.table.0 c.in-Some.i c.index_mut-named.result.now c.self.invariant (place_of (is_named c.args.table.0) c.self.inside.tables.items c.as_slice.result.now c.in-Some.i c.index_mut-named.result.now c.as_slice.ensures.value c.in-Some.ensures c.index_mut-named.ensures.value)

pub remove_index-requires-clause-there : goal.remove_index-requires-clause-there
remove_index-requires-clause-there c = ap (λ (l : List StoredIndex). list_any (is_index c.args.index.0) l) (sym (found_indexes c.self.inside.space c.self.inside.tables.items c.args.table.0 c.in-Some.i c.index_mut-named.result.now c.args.self.now c.self.invariant (place_of (is_named c.args.table.0) c.self.inside.tables.items c.as_slice.result.now c.in-Some.i c.index_mut-named.result.now c.as_slice.ensures.value c.in-Some.ensures c.index_mut-named.ensures.value) c.self.view_is)) ∙ c.requires

pub invariant_of-self : goal.invariant_of-self
invariant_of-self c = kept (record { tables = c.tables_stay.ensures.tables; catalog = c.tables_stay.ensures.catalog }) c.self.inside.space c.self.inside.tables.items c.remove_index.new.space c.args.table.0 c.in-Some.i c.index_mut-named.result.now c.remove_index.new.self (let l = (stored_table c.self.inside.space c.index_mut-named.result.now).indexes in put_indexes (without_where (is_index c.args.index.0) l) (stored_table c.self.inside.space c.index_mut-named.result.now)) (record { are = c.self.invariant; place = place_of (is_named c.args.table.0) c.self.inside.tables.items c.as_slice.result.now c.in-Some.i c.index_mut-named.result.now c.as_slice.ensures.value c.in-Some.ensures c.index_mut-named.ensures.value; becomes = c.remove_index.ensures; number = refl })

pub returns-in-Some-clause-tables : goal.returns-in-Some-clause-tables
returns-in-Some-clause-tables c = tables_same (index_shown (record { tables = c.tables_stay.ensures.tables; catalog = c.tables_stay.ensures.catalog }) c.self.inside.space c.self.inside.tables.items c.remove_index.new.space c.args.table.0 c.in-Some.i c.index_mut-named.result.now c.remove_index.new.self (λ (l : List StoredIndex). without_where (is_index c.args.index.0) l) (without_index_root c.args.index.0) c.args.self.now c.self.invariant (place_of (is_named c.args.table.0) c.self.inside.tables.items c.as_slice.result.now c.in-Some.i c.index_mut-named.result.now c.as_slice.ensures.value c.in-Some.ensures c.index_mut-named.ensures.value) c.self.view_is c.remove_index.ensures)

pub returns-in-Some-clause-catalog : goal.returns-in-Some-clause-catalog
returns-in-Some-clause-catalog c = catalog_same (index_shown (record { tables = c.tables_stay.ensures.tables; catalog = c.tables_stay.ensures.catalog }) c.self.inside.space c.self.inside.tables.items c.remove_index.new.space c.args.table.0 c.in-Some.i c.index_mut-named.result.now c.remove_index.new.self (λ (l : List StoredIndex). without_where (is_index c.args.index.0) l) (without_index_root c.args.index.0) c.args.self.now c.self.invariant (place_of (is_named c.args.table.0) c.self.inside.tables.items c.as_slice.result.now c.in-Some.i c.index_mut-named.result.now c.as_slice.ensures.value c.in-Some.ensures c.index_mut-named.ensures.value) c.self.view_is c.remove_index.ensures)

pub returns-in-None-clause-tables : goal.returns-in-None-clause-tables
returns-in-None-clause-tables c = absurd (true≢false (sym c.requires ∙ ap (λ (l : List StoredIndex). list_any (is_index c.args.index.0) l) (no_indexes c.self.inside.space c.self.inside.catalog c.self.inside.tables.items c.as_slice.result.now c.args.table.0 c.args.self.now c.as_slice.ensures.value c.in-None.ensures c.self.view_is)))

pub returns-in-None-clause-catalog : goal.returns-in-None-clause-catalog
returns-in-None-clause-catalog c = absurd (true≢false (sym c.requires ∙ ap (λ (l : List StoredIndex). list_any (is_index c.args.index.0) l) (no_indexes c.self.inside.space c.self.inside.catalog c.self.inside.tables.items c.as_slice.result.now c.args.table.0 c.args.self.now c.as_slice.ensures.value c.in-None.ensures c.self.view_is)))
