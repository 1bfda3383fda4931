-- The nodes of the named table take one more where its bookmark is not there, and all other trees stay.
use Rattle.std.proofs.Common.{◌≡◌, None, List, subst, sym, ap, ◌∙◌, arith, true≢false}
use Rattle.std.specs.Prelude.{IfOk, OnErr}
use Rattle.common_lemmas.proofs.Results.{OnOk-then, either_way}
use Rattle.page_image.specs.Page.{Node}
use Rattle.btree_inplace.specs.Changes.{inserted_if_absent}
use Rattle.btree_inplace.specs.Order.{extent_in}
use Rattle.table_trees.specs.NodeTrees.{NodesBecome, nodes_in}
use Rattle.table_trees.proofs.Outcomes.{on_err}
use Rattle.table_trees.proofs.NodeChanges.{where_there}
use Rattle.table_trees.proofs.Places.{place_of, within_of}
use Rattle.table_trees.proofs.StoreChanges.{catalog_same, found_nodes, found_table, is_named, no_table, nodes_kept, nodes_same, nodes_shown, tables_same}
use Rattle.table_trees.proofs.trees.TableTrees.insert_if_absent.Goals as goal

pub index_mut-named-requires : goal.index_mut-named-requires
index_mut-named-requires c = omega (arith, c.self.inside.tables.ok.0, within_of (is_named c.args.table.0) c.self.inside.tables.items c.as_slice.result.now c.in-Some.i c.as_slice.ensures.value c.in-Some.ensures)

pub insert_if_absent-requires-clause-tree : goal.insert_if_absent-requires-clause-tree
insert_if_absent-requires-clause-tree c = (found_table c.self.inside.space c.self.inside.tables.items c.args.table.0 c.in-Some.i c.index_mut-named.result.now c.self.invariant (place_of (is_named c.args.table.0) c.self.inside.tables.items c.as_slice.result.now c.in-Some.i c.index_mut-named.result.now c.as_slice.ensures.value c.in-Some.ensures c.index_mut-named.ensures.value)).nodes

pub invariant_of-self : goal.invariant_of-self
invariant_of-self c =
    either_way c.insert_if_absent.result
    (λ b. nodes_kept (record { tables = c.tables_stay.ensures.tables; catalog = c.tables_stay.ensures.catalog }) (record { nodes = c.tables_stay.ensures.nodes; long_values = c.tables_stay.ensures.long_values; indexes = c.tables_stay.ensures.indexes }) c.self.inside.space c.self.inside.tables.items c.insert_if_absent.new.space c.args.table.0 c.in-Some.i c.index_mut-named.result.now c.insert_if_absent.new.self (let l = nodes_in c.self.inside.space c.index_mut-named.result.now.nodes in inserted_if_absent l (record { key = c.args.bookmark.now; extent = c.args.extent; «data» = c.args.row.now })) c.self.invariant (place_of (is_named c.args.table.0) c.self.inside.tables.items c.as_slice.result.now c.in-Some.i c.index_mut-named.result.now c.as_slice.ensures.value c.in-Some.ensures c.index_mut-named.ensures.value) b)
    (λ b. nodes_kept (record { tables = c.tables_stay.ensures.tables; catalog = c.tables_stay.ensures.catalog }) (record { nodes = c.tables_stay.ensures.nodes; long_values = c.tables_stay.ensures.long_values; indexes = c.tables_stay.ensures.indexes }) c.self.inside.space c.self.inside.tables.items c.insert_if_absent.new.space c.args.table.0 c.in-Some.i c.index_mut-named.result.now c.insert_if_absent.new.self (nodes_in c.self.inside.space c.index_mut-named.result.now.nodes) c.self.invariant (place_of (is_named c.args.table.0) c.self.inside.tables.items c.as_slice.result.now c.in-Some.i c.index_mut-named.result.now c.as_slice.ensures.value c.in-Some.ensures c.index_mut-named.ensures.value) b)
    c.insert_if_absent.ensures.ok c.insert_if_absent.ensures.err

pub returns-in-Some-clause-ok : goal.returns-in-Some-clause-ok
returns-in-Some-clause-ok c =
    OnOk-then c.insert_if_absent.result
    (λ b. tables_same (nodes_shown (record { tables = c.tables_stay.ensures.tables; catalog = c.tables_stay.ensures.catalog }) (record { nodes = c.tables_stay.ensures.nodes; long_values = c.tables_stay.ensures.long_values; indexes = c.tables_stay.ensures.indexes }) c.self.inside.space c.self.inside.tables.items c.insert_if_absent.new.space c.args.table.0 c.in-Some.i c.index_mut-named.result.now c.insert_if_absent.new.self (λ (l : List Node). inserted_if_absent l (record { key = c.args.bookmark.now; extent = c.args.extent; «data» = c.args.row.now })) c.args.self.now c.self.invariant (place_of (is_named c.args.table.0) c.self.inside.tables.items c.as_slice.result.now c.in-Some.i c.index_mut-named.result.now c.as_slice.ensures.value c.in-Some.ensures c.index_mut-named.ensures.value) c.self.view_is b))
    c.insert_if_absent.ensures.ok

pub returns-in-Some-clause-err : goal.returns-in-Some-clause-err
returns-in-Some-clause-err c =
    on_err c.insert_if_absent.result
    (λ b. tables_same (nodes_same (record { tables = c.tables_stay.ensures.tables; catalog = c.tables_stay.ensures.catalog }) (record { nodes = c.tables_stay.ensures.nodes; long_values = c.tables_stay.ensures.long_values; indexes = c.tables_stay.ensures.indexes }) c.self.inside.space c.self.inside.tables.items c.insert_if_absent.new.space c.args.table.0 c.in-Some.i c.index_mut-named.result.now c.insert_if_absent.new.self c.args.self.now c.self.invariant (place_of (is_named c.args.table.0) c.self.inside.tables.items c.as_slice.result.now c.in-Some.i c.index_mut-named.result.now c.as_slice.ensures.value c.in-Some.ensures c.index_mut-named.ensures.value) c.self.view_is b))
    c.insert_if_absent.ensures.err

pub returns-in-None-clause-ok : goal.returns-in-None-clause-ok
returns-in-None-clause-ok c = absurd (true≢false (sym c.requires.there ∙ no_table c.self.inside.space c.self.inside.catalog c.self.inside.tables.items c.as_slice.result.now c.args.table.0 c.args.self.now c.as_slice.ensures.value c.in-None.ensures c.self.view_is))

pub returns-in-Some-clause-catalog : goal.returns-in-Some-clause-catalog
returns-in-Some-clause-catalog c =
    either_way c.insert_if_absent.result
    (λ b. catalog_same (nodes_shown (record { tables = c.tables_stay.ensures.tables; catalog = c.tables_stay.ensures.catalog }) (record { nodes = c.tables_stay.ensures.nodes; long_values = c.tables_stay.ensures.long_values; indexes = c.tables_stay.ensures.indexes }) c.self.inside.space c.self.inside.tables.items c.insert_if_absent.new.space c.args.table.0 c.in-Some.i c.index_mut-named.result.now c.insert_if_absent.new.self (λ (l : List Node). inserted_if_absent l (record { key = c.args.bookmark.now; extent = c.args.extent; «data» = c.args.row.now })) c.args.self.now c.self.invariant (place_of (is_named c.args.table.0) c.self.inside.tables.items c.as_slice.result.now c.in-Some.i c.index_mut-named.result.now c.as_slice.ensures.value c.in-Some.ensures c.index_mut-named.ensures.value) c.self.view_is b))
    (λ b. catalog_same (nodes_same (record { tables = c.tables_stay.ensures.tables; catalog = c.tables_stay.ensures.catalog }) (record { nodes = c.tables_stay.ensures.nodes; long_values = c.tables_stay.ensures.long_values; indexes = c.tables_stay.ensures.indexes }) c.self.inside.space c.self.inside.tables.items c.insert_if_absent.new.space c.args.table.0 c.in-Some.i c.index_mut-named.result.now c.insert_if_absent.new.self c.args.self.now c.self.invariant (place_of (is_named c.args.table.0) c.self.inside.tables.items c.as_slice.result.now c.in-Some.i c.index_mut-named.result.now c.as_slice.ensures.value c.in-Some.ensures c.index_mut-named.ensures.value) c.self.view_is b))
    c.insert_if_absent.ensures.ok c.insert_if_absent.ensures.err

pub returns-in-Some-clause-there : goal.returns-in-Some-clause-there
returns-in-Some-clause-there c =
    subst (λ (l : List Node). IfOk c.insert_if_absent.result (λ there. there ≡ extent_in l c.args.bookmark.now)) (sym (found_nodes c.self.inside.space c.self.inside.tables.items c.args.table.0 c.in-Some.i c.index_mut-named.result.now c.args.self.now c.self.invariant (place_of (is_named c.args.table.0) c.self.inside.tables.items c.as_slice.result.now c.in-Some.i c.index_mut-named.result.now c.as_slice.ensures.value c.in-Some.ensures c.index_mut-named.ensures.value) c.self.view_is))
    c.insert_if_absent.ensures.there

pub returns-in-Some-clause-absent : goal.returns-in-Some-clause-absent
returns-in-Some-clause-absent c =
    subst (λ (l : List Node). OnErr c.insert_if_absent.result (extent_in l c.args.bookmark.now ≡ None)) (sym (found_nodes c.self.inside.space c.self.inside.tables.items c.args.table.0 c.in-Some.i c.index_mut-named.result.now c.args.self.now c.self.invariant (place_of (is_named c.args.table.0) c.self.inside.tables.items c.as_slice.result.now c.in-Some.i c.index_mut-named.result.now c.as_slice.ensures.value c.in-Some.ensures c.index_mut-named.ensures.value) c.self.view_is))
    c.insert_if_absent.ensures.absent

pub returns-in-None-clause-there : goal.returns-in-None-clause-there
returns-in-None-clause-there c = absurd (true≢false (sym c.requires.there ∙ no_table c.self.inside.space c.self.inside.catalog c.self.inside.tables.items c.as_slice.result.now c.args.table.0 c.args.self.now c.as_slice.ensures.value c.in-None.ensures c.self.view_is))

pub returns-in-Some-clause-same : goal.returns-in-Some-clause-same
returns-in-Some-clause-same c =
    where_there (NodesBecome c.self.inside.space c.index_mut-named.result.now.nodes c.insert_if_absent.new.space c.insert_if_absent.new.self) c.insert_if_absent.result (nodes_in c.self.inside.space c.index_mut-named.result.now.nodes) (record { key = c.args.bookmark.now; extent = c.args.extent; «data» = c.args.row.now })
    (λ b. tables_same (nodes_same (record { tables = c.tables_stay.ensures.tables; catalog = c.tables_stay.ensures.catalog }) (record { nodes = c.tables_stay.ensures.nodes; long_values = c.tables_stay.ensures.long_values; indexes = c.tables_stay.ensures.indexes }) c.self.inside.space c.self.inside.tables.items c.insert_if_absent.new.space c.args.table.0 c.in-Some.i c.index_mut-named.result.now c.insert_if_absent.new.self c.args.self.now c.self.invariant (place_of (is_named c.args.table.0) c.self.inside.tables.items c.as_slice.result.now c.in-Some.i c.index_mut-named.result.now c.as_slice.ensures.value c.in-Some.ensures c.index_mut-named.ensures.value) c.self.view_is b))
    c.insert_if_absent.ensures.there c.insert_if_absent.ensures.ok
