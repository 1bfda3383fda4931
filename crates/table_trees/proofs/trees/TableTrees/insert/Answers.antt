-- The nodes of the named table take one more, and all other trees stay.
use Rattle.std.proofs.Common.{List, sym, ap, ◌∙◌, arith, true≢false}
use Rattle.common_lemmas.proofs.Results.{OnOk-then, either_way}
use Rattle.page_image.specs.Page.{Node}
use Rattle.btree_inplace.specs.Changes.{inserted}
use Rattle.btree_inplace.specs.Order.{get_in}
use Rattle.table_trees.specs.NodeTrees.{nodes_in}
use Rattle.table_trees.proofs.Outcomes.{on_err}
use Rattle.table_trees.proofs.Places.{place_of, within_of}
use Rattle.table_trees.proofs.StoreChanges.{catalog_same, found_nodes, found_table, is_named, no_table, nodes_kept, nodes_same, nodes_shown, tables_same}
use Rattle.table_trees.proofs.trees.TableTrees.insert.Goals as goal

pub index_mut-named-requires : goal.index_mut-named-requires
index_mut-named-requires c = omega (arith, c.self.inside.tables.ok.0, within_of (is_named c.args.table.0) c.self.inside.tables.items c.as_slice.result.now c.in-Some.i c.as_slice.ensures.value c.in-Some.ensures)

pub insert-requires-clause-tree : goal.insert-requires-clause-tree
insert-requires-clause-tree c = (found_table c.self.inside.space c.self.inside.tables.items c.args.table.0 c.in-Some.i c.index_mut-named.result.now c.self.invariant (place_of (is_named c.args.table.0) c.self.inside.tables.items c.as_slice.result.now c.in-Some.i c.index_mut-named.result.now c.as_slice.ensures.value c.in-Some.ensures c.index_mut-named.ensures.value)).nodes

pub insert-requires-clause-absent : goal.insert-requires-clause-absent
insert-requires-clause-absent c = ap (λ (l : List Node). get_in l c.args.bookmark.now) (sym (found_nodes c.self.inside.space c.self.inside.tables.items c.args.table.0 c.in-Some.i c.index_mut-named.result.now c.args.self.now c.self.invariant (place_of (is_named c.args.table.0) c.self.inside.tables.items c.as_slice.result.now c.in-Some.i c.index_mut-named.result.now c.as_slice.ensures.value c.in-Some.ensures c.index_mut-named.ensures.value) c.self.view_is)) ∙ c.requires.absent

pub invariant_of-self : goal.invariant_of-self
invariant_of-self c =
    either_way c.insert.result
    (λ b. nodes_kept (record { tables = c.tables_stay.ensures.tables; catalog = c.tables_stay.ensures.catalog }) (record { nodes = c.tables_stay.ensures.nodes; long_values = c.tables_stay.ensures.long_values; indexes = c.tables_stay.ensures.indexes }) c.self.inside.space c.self.inside.tables.items c.insert.new.space c.args.table.0 c.in-Some.i c.index_mut-named.result.now c.insert.new.self (let l = nodes_in c.self.inside.space c.index_mut-named.result.now.nodes in inserted l (record { key = c.args.bookmark.now; extent = c.args.extent; «data» = c.args.row.now })) c.self.invariant (place_of (is_named c.args.table.0) c.self.inside.tables.items c.as_slice.result.now c.in-Some.i c.index_mut-named.result.now c.as_slice.ensures.value c.in-Some.ensures c.index_mut-named.ensures.value) b)
    (λ b. nodes_kept (record { tables = c.tables_stay.ensures.tables; catalog = c.tables_stay.ensures.catalog }) (record { nodes = c.tables_stay.ensures.nodes; long_values = c.tables_stay.ensures.long_values; indexes = c.tables_stay.ensures.indexes }) c.self.inside.space c.self.inside.tables.items c.insert.new.space c.args.table.0 c.in-Some.i c.index_mut-named.result.now c.insert.new.self (nodes_in c.self.inside.space c.index_mut-named.result.now.nodes) c.self.invariant (place_of (is_named c.args.table.0) c.self.inside.tables.items c.as_slice.result.now c.in-Some.i c.index_mut-named.result.now c.as_slice.ensures.value c.in-Some.ensures c.index_mut-named.ensures.value) b)
    c.insert.ensures.ok c.insert.ensures.err

pub returns-in-Some-clause-ok : goal.returns-in-Some-clause-ok
returns-in-Some-clause-ok c =
    OnOk-then c.insert.result
    (λ b. tables_same (nodes_shown (record { tables = c.tables_stay.ensures.tables; catalog = c.tables_stay.ensures.catalog }) (record { nodes = c.tables_stay.ensures.nodes; long_values = c.tables_stay.ensures.long_values; indexes = c.tables_stay.ensures.indexes }) c.self.inside.space c.self.inside.tables.items c.insert.new.space c.args.table.0 c.in-Some.i c.index_mut-named.result.now c.insert.new.self (λ (l : List Node). inserted l (record { key = c.args.bookmark.now; extent = c.args.extent; «data» = c.args.row.now })) c.args.self.now c.self.invariant (place_of (is_named c.args.table.0) c.self.inside.tables.items c.as_slice.result.now c.in-Some.i c.index_mut-named.result.now c.as_slice.ensures.value c.in-Some.ensures c.index_mut-named.ensures.value) c.self.view_is b))
    c.insert.ensures.ok

pub returns-in-Some-clause-err : goal.returns-in-Some-clause-err
returns-in-Some-clause-err c =
    on_err c.insert.result
    (λ b. tables_same (nodes_same (record { tables = c.tables_stay.ensures.tables; catalog = c.tables_stay.ensures.catalog }) (record { nodes = c.tables_stay.ensures.nodes; long_values = c.tables_stay.ensures.long_values; indexes = c.tables_stay.ensures.indexes }) c.self.inside.space c.self.inside.tables.items c.insert.new.space c.args.table.0 c.in-Some.i c.index_mut-named.result.now c.insert.new.self c.args.self.now c.self.invariant (place_of (is_named c.args.table.0) c.self.inside.tables.items c.as_slice.result.now c.in-Some.i c.index_mut-named.result.now c.as_slice.ensures.value c.in-Some.ensures c.index_mut-named.ensures.value) c.self.view_is b))
    c.insert.ensures.err

pub returns-in-None-clause-ok : goal.returns-in-None-clause-ok
returns-in-None-clause-ok c = absurd (true≢false (sym c.requires.there ∙ no_table c.self.inside.space c.self.inside.catalog c.self.inside.tables.items c.as_slice.result.now c.args.table.0 c.args.self.now c.as_slice.ensures.value c.in-None.ensures c.self.view_is))

pub returns-in-Some-clause-catalog : goal.returns-in-Some-clause-catalog
returns-in-Some-clause-catalog c =
    either_way c.insert.result
    (λ b. catalog_same (nodes_shown (record { tables = c.tables_stay.ensures.tables; catalog = c.tables_stay.ensures.catalog }) (record { nodes = c.tables_stay.ensures.nodes; long_values = c.tables_stay.ensures.long_values; indexes = c.tables_stay.ensures.indexes }) c.self.inside.space c.self.inside.tables.items c.insert.new.space c.args.table.0 c.in-Some.i c.index_mut-named.result.now c.insert.new.self (λ (l : List Node). inserted l (record { key = c.args.bookmark.now; extent = c.args.extent; «data» = c.args.row.now })) c.args.self.now c.self.invariant (place_of (is_named c.args.table.0) c.self.inside.tables.items c.as_slice.result.now c.in-Some.i c.index_mut-named.result.now c.as_slice.ensures.value c.in-Some.ensures c.index_mut-named.ensures.value) c.self.view_is b))
    (λ b. catalog_same (nodes_same (record { tables = c.tables_stay.ensures.tables; catalog = c.tables_stay.ensures.catalog }) (record { nodes = c.tables_stay.ensures.nodes; long_values = c.tables_stay.ensures.long_values; indexes = c.tables_stay.ensures.indexes }) c.self.inside.space c.self.inside.tables.items c.insert.new.space c.args.table.0 c.in-Some.i c.index_mut-named.result.now c.insert.new.self c.args.self.now c.self.invariant (place_of (is_named c.args.table.0) c.self.inside.tables.items c.as_slice.result.now c.in-Some.i c.index_mut-named.result.now c.as_slice.ensures.value c.in-Some.ensures c.index_mut-named.ensures.value) c.self.view_is b))
    c.insert.ensures.ok c.insert.ensures.err
