use Rattle.std.proofs.Common.{◌≡◌, sym, ap, subst, ◌∙◌, arith, length}
use Rattle.btree_inplace.specs.Trees.{nodes_of}
use Rattle.temp_table.specs.declared.table.TempTable.TheInside.{Inside}
use Rattle.temp_table.specs.Held.{IsKept, IsPlaceOf, table_rows}
use Rattle.temp_table.specs.TempRows.{TempRows, moved}
use Rattle.temp_table.proofs.Nodes.{rises}
use Rattle.temp_table.proofs.Towards.{as_moved, length-rows, off_rows, on_found, row_nodes, within}
use Rattle.temp_table.proofs.table.TempTable.move_to.Goals as goal
use Rattle.temp_table.proofs.table.TempTable.move_to.Goals.{in-Some, in-None}

pub moved_place-place-requires : goal.moved_place-place-requires
moved_place-place-requires c = within _ c.self.inside.key.items c.self.inside.count c.self.inside.place c.self.invariant.count c.self.invariant.place

pub as_slice-requires : goal.as_slice-requires
as_slice-requires c = omega arith

pub node_towards-requires : goal.node_towards-requires
node_towards-requires c = c.self.invariant.tree

pub set-requires : goal.set-requires
set-requires c =
    let a = c.self.inside in
    let is = c.self.invariant in
    let nodes = nodes_of a.space a.tree in
    let row = row_nodes a.columns.items a.unique a.count nodes (rises nodes (c.nodes_of_a_tree_rise.ensures.tree a.space a.tree is.tree)) is.nodes in
    (on_found nodes a.key.items c.as_slice.result.now a.count a.place c.moved_place-place.result c.args.way c.in-Some.key.now c.in-Some.field-0-1.now is.count row is.place c.as_slice.ensures.value c.moved_place-place.ensures c.in-Some.ensures).1

pub invariant_of-self : goal.invariant_of-self
invariant_of-self c =
    let a = c.self.inside in
    let is = c.self.invariant in
    let nodes = nodes_of a.space a.tree in
    let to = c.moved_place-place.result in
    let row = row_nodes a.columns.items a.unique a.count nodes (rises nodes (c.nodes_of_a_tree_rise.ensures.tree a.space a.tree is.tree)) is.nodes in
    elim c.match-node_towards.branch [
      | in-Some w ↦
          let found = on_found nodes a.key.items c.as_slice.result.now a.count a.place to c.args.way w.in-Some.key.now w.in-Some.field-0-1.now is.count row is.place c.as_slice.ensures.value c.moved_place-place.ensures w.in-Some.ensures in
          subst (λ (s : Inside). IsKept (record s { place = to })) (sym w.self-inside-is)
          (record { tree = is.tree; columns = is.columns; count = is.count; nodes = is.nodes; place = subst (λ k. IsPlaceOf nodes k to) (sym w.set.ensures) found.0 })
      | in-None w ↦
          subst (λ (s : Inside). IsKept (record s { place = to })) (sym w.self-inside-is)
          (record { tree = is.tree; columns = is.columns; count = is.count; nodes = is.nodes; place = off_rows nodes a.key.items c.as_slice.result.now a.count a.place to c.args.way is.count row is.place c.as_slice.ensures.value c.moved_place-place.ensures w.in-None.ensures })
    ]

pub returns-clause-place : goal.returns-clause-place
returns-clause-place c =
    let a = c.self.inside in
    let nodes = nodes_of a.space a.tree in
    let to = c.moved_place-place.result in
    let seen = as_moved (table_rows a) a.count to c.args.way (c.self.invariant.count ∙ sym (length-rows (length a.columns.items) nodes)) c.moved_place-place.ensures
    ∙ ap (λ (t : TempRows). moved t c.args.way) c.self.view_is in
    elim c.match-node_towards.branch [
      | in-Some w ↦ subst (λ (s : Inside). table_rows (record s { place = to }) ≡ moved c.args.self.now c.args.way) (sym w.self-inside-is) seen
      | in-None w ↦ subst (λ (s : Inside). table_rows (record s { place = to }) ≡ moved c.args.self.now c.args.way) (sym w.self-inside-is) seen
    ]

pub returns-clause-found : goal.returns-clause-found
returns-clause-found c = c.is_on.ensures
