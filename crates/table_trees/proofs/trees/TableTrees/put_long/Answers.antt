-- The long values of the named table take one more, and all other trees stay.
use Rattle.std.proofs.Common.{sym, ap, ◌∙◌, arith, true≢false}
use Rattle.common_lemmas.proofs.Results.{OnOk-then, either_way}
use Rattle.long_value.specs.Stores.{id_bytes}
use Rattle.long_value.specs.Values.{Values, put_value, value_of}
use Rattle.table_trees.proofs.Places.{place_of, within_of}
use Rattle.table_trees.specs.LongTrees.{long_values_in}
use Rattle.table_trees.proofs.Outcomes.{on_err}
use Rattle.table_trees.proofs.StoreChanges.{catalog_same, found_long, found_table, is_named, long_kept, long_same, long_shown, no_table, tables_same}
use Rattle.table_trees.proofs.trees.TableTrees.put_long.Goals as goal

pub index_mut-named-requires : goal.index_mut-named-requires
index_mut-named-requires c = omega (arith, c.self.inside.tables.ok.0, within_of (is_named c.args.table.0) c.self.inside.tables.items c.as_slice.result.now c.in-Some.i c.as_slice.ensures.value c.in-Some.ensures)

pub put-requires-clause-tree : goal.put-requires-clause-tree
put-requires-clause-tree c = (found_table c.self.inside.space c.self.inside.tables.items c.args.table.0 c.in-Some.i c.index_mut-named.result.now c.self.invariant (place_of (is_named c.args.table.0) c.self.inside.tables.items c.as_slice.result.now c.in-Some.i c.index_mut-named.result.now c.as_slice.ensures.value c.in-Some.ensures c.index_mut-named.ensures.value)).long_values

pub put-requires-clause-absent : goal.put-requires-clause-absent
put-requires-clause-absent c = ap (λ (l : Values). value_of (id_bytes c.args.id) l) (sym (found_long c.self.inside.space c.self.inside.tables.items c.args.table.0 c.in-Some.i c.index_mut-named.result.now c.args.self.now c.self.invariant (place_of (is_named c.args.table.0) c.self.inside.tables.items c.as_slice.result.now c.in-Some.i c.index_mut-named.result.now c.as_slice.ensures.value c.in-Some.ensures c.index_mut-named.ensures.value) c.self.view_is)) ∙ c.requires.absent

pub invariant_of-self : goal.invariant_of-self
invariant_of-self c =
    either_way c.put.result
    (λ b. long_kept (record { tables = c.tables_stay.ensures.tables; catalog = c.tables_stay.ensures.catalog }) (record { nodes = c.tables_stay.ensures.nodes; long_values = c.tables_stay.ensures.long_values; indexes = c.tables_stay.ensures.indexes }) c.self.inside.space c.self.inside.tables.items c.put.new.space c.args.table.0 c.in-Some.i c.index_mut-named.result.now c.put.new.self (put_value (id_bytes c.args.id) (record { count = 1; bytes = c.args.bytes.now }) (long_values_in c.self.inside.space c.index_mut-named.result.now.long_values)) c.self.invariant (place_of (is_named c.args.table.0) c.self.inside.tables.items c.as_slice.result.now c.in-Some.i c.index_mut-named.result.now c.as_slice.ensures.value c.in-Some.ensures c.index_mut-named.ensures.value) b)
    (λ b. long_kept (record { tables = c.tables_stay.ensures.tables; catalog = c.tables_stay.ensures.catalog }) (record { nodes = c.tables_stay.ensures.nodes; long_values = c.tables_stay.ensures.long_values; indexes = c.tables_stay.ensures.indexes }) c.self.inside.space c.self.inside.tables.items c.put.new.space c.args.table.0 c.in-Some.i c.index_mut-named.result.now c.put.new.self (long_values_in c.self.inside.space c.index_mut-named.result.now.long_values) c.self.invariant (place_of (is_named c.args.table.0) c.self.inside.tables.items c.as_slice.result.now c.in-Some.i c.index_mut-named.result.now c.as_slice.ensures.value c.in-Some.ensures c.index_mut-named.ensures.value) b)
    c.put.ensures.ok c.put.ensures.err

pub returns-in-Some-clause-ok : goal.returns-in-Some-clause-ok
returns-in-Some-clause-ok c =
    OnOk-then c.put.result
    (λ b. tables_same (long_shown (record { tables = c.tables_stay.ensures.tables; catalog = c.tables_stay.ensures.catalog }) (record { nodes = c.tables_stay.ensures.nodes; long_values = c.tables_stay.ensures.long_values; indexes = c.tables_stay.ensures.indexes }) c.self.inside.space c.self.inside.tables.items c.put.new.space c.args.table.0 c.in-Some.i c.index_mut-named.result.now c.put.new.self (λ (l : Values). put_value (id_bytes c.args.id) (record { count = 1; bytes = c.args.bytes.now }) l) c.args.self.now c.self.invariant (place_of (is_named c.args.table.0) c.self.inside.tables.items c.as_slice.result.now c.in-Some.i c.index_mut-named.result.now c.as_slice.ensures.value c.in-Some.ensures c.index_mut-named.ensures.value) c.self.view_is b))
    c.put.ensures.ok

pub returns-in-Some-clause-err : goal.returns-in-Some-clause-err
returns-in-Some-clause-err c =
    on_err c.put.result
    (λ b. tables_same (long_same (record { tables = c.tables_stay.ensures.tables; catalog = c.tables_stay.ensures.catalog }) (record { nodes = c.tables_stay.ensures.nodes; long_values = c.tables_stay.ensures.long_values; indexes = c.tables_stay.ensures.indexes }) c.self.inside.space c.self.inside.tables.items c.put.new.space c.args.table.0 c.in-Some.i c.index_mut-named.result.now c.put.new.self c.args.self.now c.self.invariant (place_of (is_named c.args.table.0) c.self.inside.tables.items c.as_slice.result.now c.in-Some.i c.index_mut-named.result.now c.as_slice.ensures.value c.in-Some.ensures c.index_mut-named.ensures.value) c.self.view_is b))
    c.put.ensures.err

pub returns-in-None-clause-ok : goal.returns-in-None-clause-ok
returns-in-None-clause-ok c = absurd (true≢false (sym c.requires.there ∙ no_table c.self.inside.space c.self.inside.catalog c.self.inside.tables.items c.as_slice.result.now c.args.table.0 c.args.self.now c.as_slice.ensures.value c.in-None.ensures c.self.view_is))

pub returns-in-Some-clause-catalog : goal.returns-in-Some-clause-catalog
returns-in-Some-clause-catalog c =
    either_way c.put.result
    (λ b. catalog_same (long_shown (record { tables = c.tables_stay.ensures.tables; catalog = c.tables_stay.ensures.catalog }) (record { nodes = c.tables_stay.ensures.nodes; long_values = c.tables_stay.ensures.long_values; indexes = c.tables_stay.ensures.indexes }) c.self.inside.space c.self.inside.tables.items c.put.new.space c.args.table.0 c.in-Some.i c.index_mut-named.result.now c.put.new.self (λ (l : Values). put_value (id_bytes c.args.id) (record { count = 1; bytes = c.args.bytes.now }) l) c.args.self.now c.self.invariant (place_of (is_named c.args.table.0) c.self.inside.tables.items c.as_slice.result.now c.in-Some.i c.index_mut-named.result.now c.as_slice.ensures.value c.in-Some.ensures c.index_mut-named.ensures.value) c.self.view_is b))
    (λ b. catalog_same (long_same (record { tables = c.tables_stay.ensures.tables; catalog = c.tables_stay.ensures.catalog }) (record { nodes = c.tables_stay.ensures.nodes; long_values = c.tables_stay.ensures.long_values; indexes = c.tables_stay.ensures.indexes }) c.self.inside.space c.self.inside.tables.items c.put.new.space c.args.table.0 c.in-Some.i c.index_mut-named.result.now c.put.new.self c.args.self.now c.self.invariant (place_of (is_named c.args.table.0) c.self.inside.tables.items c.as_slice.result.now c.in-Some.i c.index_mut-named.result.now c.as_slice.ensures.value c.in-Some.ensures c.index_mut-named.ensures.value) c.self.view_is b))
    c.put.ensures.ok c.put.ensures.err
