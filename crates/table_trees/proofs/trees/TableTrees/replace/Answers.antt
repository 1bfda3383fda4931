-- One node of the named table has another row, and all other trees stay.
use Rattle.std.proofs.Common.{List, ◌≤◌, length, subst, arith}
use Rattle.std.specs.Prelude.{IsSomeAnd}
use Rattle.page_image.specs.Page.{Node}
use Rattle.btree_inplace.specs.Changes.{with_data_at}
use Rattle.btree_inplace.specs.Order.{extent_in}
use Rattle.table_trees.specs.NodeTrees.{nodes_in}
use Rattle.table_trees.proofs.Places.{place_of, within_of}
use Rattle.table_trees.proofs.StoreChanges.{catalog_same, found_nodes, found_table, is_named, no_nodes, nodes_kept, nodes_shown, tables_same}
use Rattle.table_trees.proofs.trees.TableTrees.replace.Goals as goal

pub index_mut-named-requires : goal.index_mut-named-requires
index_mut-named-requires c = omega (arith, c.self.inside.tables.ok.0, within_of (is_named c.args.table.0) c.self.inside.tables.items c.as_slice.result.now c.in-Some.i c.as_slice.ensures.value c.in-Some.ensures)

pub replace-requires-clause-tree : goal.replace-requires-clause-tree
replace-requires-clause-tree c = (found_table c.self.inside.space c.self.inside.tables.items c.args.table.0 c.in-Some.i c.index_mut-named.result.now c.self.invariant (place_of (is_named c.args.table.0) c.self.inside.tables.items c.as_slice.result.now c.in-Some.i c.index_mut-named.result.now c.as_slice.ensures.value c.in-Some.ensures c.index_mut-named.ensures.value)).nodes

pub replace-requires-clause-fits : goal.replace-requires-clause-fits
replace-requires-clause-fits c = subst (λ (l : List Node). IsSomeAnd (extent_in l c.args.bookmark.now) (λ extent. length c.args.row.now ≤ extent)) (found_nodes c.self.inside.space c.self.inside.tables.items c.args.table.0 c.in-Some.i c.index_mut-named.result.now c.args.self.now c.self.invariant (place_of (is_named c.args.table.0) c.self.inside.tables.items c.as_slice.result.now c.in-Some.i c.index_mut-named.result.now c.as_slice.ensures.value c.in-Some.ensures c.index_mut-named.ensures.value) c.self.view_is) c.requires

pub invariant_of-self : goal.invariant_of-self
invariant_of-self c = nodes_kept (record { tables = c.tables_stay.ensures.tables; catalog = c.tables_stay.ensures.catalog }) (record { nodes = c.tables_stay.ensures.nodes; long_values = c.tables_stay.ensures.long_values; indexes = c.tables_stay.ensures.indexes }) c.self.inside.space c.self.inside.tables.items c.replace.new.space c.args.table.0 c.in-Some.i c.index_mut-named.result.now c.replace.new.self (let l = nodes_in c.self.inside.space c.index_mut-named.result.now.nodes in with_data_at l c.args.bookmark.now c.args.row.now) c.self.invariant (place_of (is_named c.args.table.0) c.self.inside.tables.items c.as_slice.result.now c.in-Some.i c.index_mut-named.result.now c.as_slice.ensures.value c.in-Some.ensures c.index_mut-named.ensures.value) c.replace.ensures

pub returns-in-Some-clause-tables : goal.returns-in-Some-clause-tables
returns-in-Some-clause-tables c = tables_same (nodes_shown (record { tables = c.tables_stay.ensures.tables; catalog = c.tables_stay.ensures.catalog }) (record { nodes = c.tables_stay.ensures.nodes; long_values = c.tables_stay.ensures.long_values; indexes = c.tables_stay.ensures.indexes }) c.self.inside.space c.self.inside.tables.items c.replace.new.space c.args.table.0 c.in-Some.i c.index_mut-named.result.now c.replace.new.self (λ (l : List Node). with_data_at l c.args.bookmark.now c.args.row.now) c.args.self.now c.self.invariant (place_of (is_named c.args.table.0) c.self.inside.tables.items c.as_slice.result.now c.in-Some.i c.index_mut-named.result.now c.as_slice.ensures.value c.in-Some.ensures c.index_mut-named.ensures.value) c.self.view_is c.replace.ensures)

pub returns-in-Some-clause-catalog : goal.returns-in-Some-clause-catalog
returns-in-Some-clause-catalog c = catalog_same (nodes_shown (record { tables = c.tables_stay.ensures.tables; catalog = c.tables_stay.ensures.catalog }) (record { nodes = c.tables_stay.ensures.nodes; long_values = c.tables_stay.ensures.long_values; indexes = c.tables_stay.ensures.indexes }) c.self.inside.space c.self.inside.tables.items c.replace.new.space c.args.table.0 c.in-Some.i c.index_mut-named.result.now c.replace.new.self (λ (l : List Node). with_data_at l c.args.bookmark.now c.args.row.now) c.args.self.now c.self.invariant (place_of (is_named c.args.table.0) c.self.inside.tables.items c.as_slice.result.now c.in-Some.i c.index_mut-named.result.now c.as_slice.ensures.value c.in-Some.ensures c.index_mut-named.ensures.value) c.self.view_is c.replace.ensures)

pub returns-in-None-clause-tables : goal.returns-in-None-clause-tables
returns-in-None-clause-tables c = absurd (subst (λ (l : List Node). IsSomeAnd (extent_in l c.args.bookmark.now) (λ extent. length c.args.row.now ≤ extent)) (no_nodes c.self.inside.space c.self.inside.catalog c.self.inside.tables.items c.as_slice.result.now c.args.table.0 c.args.self.now c.as_slice.ensures.value c.in-None.ensures c.self.view_is) c.requires)
