-- One reference less to a long value of the named table, and all other trees stay.
use Rattle.std.proofs.Common.{subst, arith, sym, true≢false}
use Rattle.std.specs.Prelude.{IsSome}
use Rattle.long_value.specs.Stores.{id_bytes}
use Rattle.long_value.specs.Values.{Values, value_of, without_reference}
use Rattle.table_trees.proofs.Places.{place_of, within_of}
use Rattle.table_trees.specs.LongTrees.{long_values_in}
use Rattle.table_trees.proofs.StoreChanges.{catalog_same, found_long, found_table, is_named, long_kept, long_shown, no_long, tables_same}
use Rattle.table_trees.proofs.trees.TableTrees.release_long.Goals as goal

pub index_mut-named-requires : goal.index_mut-named-requires
index_mut-named-requires c = omega (arith, c.self.inside.tables.ok.0, within_of (is_named c.args.table.0) c.self.inside.tables.items c.as_slice.result.now c.in-Some.i c.as_slice.ensures.value c.in-Some.ensures)

pub release-requires-clause-tree : goal.release-requires-clause-tree
release-requires-clause-tree c = (found_table c.self.inside.space c.self.inside.tables.items c.args.table.0 c.in-Some.i c.index_mut-named.result.now c.self.invariant (place_of (is_named c.args.table.0) c.self.inside.tables.items c.as_slice.result.now c.in-Some.i c.index_mut-named.result.now c.as_slice.ensures.value c.in-Some.ensures c.index_mut-named.ensures.value)).long_values

pub release-requires-clause-there : goal.release-requires-clause-there
release-requires-clause-there c = subst (λ (l : Values). IsSome (value_of (id_bytes c.args.id) l)) (found_long c.self.inside.space c.self.inside.tables.items c.args.table.0 c.in-Some.i c.index_mut-named.result.now c.args.self.now c.self.invariant (place_of (is_named c.args.table.0) c.self.inside.tables.items c.as_slice.result.now c.in-Some.i c.index_mut-named.result.now c.as_slice.ensures.value c.in-Some.ensures c.index_mut-named.ensures.value) c.self.view_is) c.requires

pub invariant_of-self : goal.invariant_of-self
invariant_of-self c = long_kept (record { tables = c.tables_stay.ensures.tables; catalog = c.tables_stay.ensures.catalog }) (record { nodes = c.tables_stay.ensures.nodes; long_values = c.tables_stay.ensures.long_values; indexes = c.tables_stay.ensures.indexes }) c.self.inside.space c.self.inside.tables.items c.release.new.space c.args.table.0 c.in-Some.i c.index_mut-named.result.now c.release.new.self (without_reference (id_bytes c.args.id) (long_values_in c.self.inside.space c.index_mut-named.result.now.long_values)) c.self.invariant (place_of (is_named c.args.table.0) c.self.inside.tables.items c.as_slice.result.now c.in-Some.i c.index_mut-named.result.now c.as_slice.ensures.value c.in-Some.ensures c.index_mut-named.ensures.value) c.release.ensures

pub returns-in-Some-clause-tables : goal.returns-in-Some-clause-tables
returns-in-Some-clause-tables c = tables_same (long_shown (record { tables = c.tables_stay.ensures.tables; catalog = c.tables_stay.ensures.catalog }) (record { nodes = c.tables_stay.ensures.nodes; long_values = c.tables_stay.ensures.long_values; indexes = c.tables_stay.ensures.indexes }) c.self.inside.space c.self.inside.tables.items c.release.new.space c.args.table.0 c.in-Some.i c.index_mut-named.result.now c.release.new.self (λ (l : Values). without_reference (id_bytes c.args.id) l) c.args.self.now c.self.invariant (place_of (is_named c.args.table.0) c.self.inside.tables.items c.as_slice.result.now c.in-Some.i c.index_mut-named.result.now c.as_slice.ensures.value c.in-Some.ensures c.index_mut-named.ensures.value) c.self.view_is c.release.ensures)

pub returns-in-Some-clause-catalog : goal.returns-in-Some-clause-catalog
returns-in-Some-clause-catalog c = catalog_same (long_shown (record { tables = c.tables_stay.ensures.tables; catalog = c.tables_stay.ensures.catalog }) (record { nodes = c.tables_stay.ensures.nodes; long_values = c.tables_stay.ensures.long_values; indexes = c.tables_stay.ensures.indexes }) c.self.inside.space c.self.inside.tables.items c.release.new.space c.args.table.0 c.in-Some.i c.index_mut-named.result.now c.release.new.self (λ (l : Values). without_reference (id_bytes c.args.id) l) c.args.self.now c.self.invariant (place_of (is_named c.args.table.0) c.self.inside.tables.items c.as_slice.result.now c.in-Some.i c.index_mut-named.result.now c.as_slice.ensures.value c.in-Some.ensures c.index_mut-named.ensures.value) c.self.view_is c.release.ensures)

pub returns-in-None-clause-tables : goal.returns-in-None-clause-tables
returns-in-None-clause-tables c = absurd (true≢false (sym (subst (λ (l : Values). IsSome (value_of (id_bytes c.args.id) l)) (no_long c.self.inside.space c.self.inside.catalog c.self.inside.tables.items c.as_slice.result.now c.args.table.0 c.args.self.now c.as_slice.ensures.value c.in-None.ensures c.self.view_is) c.requires)))
