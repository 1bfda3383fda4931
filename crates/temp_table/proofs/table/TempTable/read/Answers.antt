use Rattle.std.proofs.Common.{◌≡◌, ◌<◌, true, length, sym, ap, ◌∙◌, arith}
use Rattle.std.specs.Prelude.{option_copied, slice_get}
use Rattle.btree_inplace.specs.Order.{get_in}
use Rattle.btree_inplace.specs.Trees.{nodes_of}
use Rattle.temp_table.specs.TempRows.{TempRows, current_value, is_on}
use Rattle.temp_table.proofs.Current.{is_there, value_is, value_of_kind}
use Rattle.temp_table.proofs.Nodes.{rises}
use Rattle.temp_table.proofs.table.TempTable.read.Goals as goal

pub as_slice-requires : goal.as_slice-requires
as_slice-requires c = omega arith

pub get-requires : goal.get-requires
get-requires c = c.self.invariant.tree

pub unreachable-requires : goal.unreachable-requires
unreachable-requires c =
    let a = c.self.inside in
    let nodes = nodes_of a.space a.tree in
    let on : is_on a.place ≡ true = ap (λ (t : TempRows). is_on t.place) c.self.view_is ∙ c.requires.is_on in
    is_there nodes a.key.items a.place (rises nodes (c.nodes_of_a_tree_rise.ensures.tree a.space a.tree c.self.invariant.tree)) c.self.invariant.place on
    (sym (c.in-None.ensures ∙ ap (get_in nodes) c.as_slice.ensures.value))

pub unreachable-unreachable : goal.unreachable-unreachable
unreachable-unreachable c = c.unreachable.result

pub returns-clause-value : goal.returns-clause-value
returns-clause-value c =
    let a = c.self.inside in
    let nodes = nodes_of a.space a.tree in
    let on : is_on a.place ≡ true = ap (λ (t : TempRows). is_on t.place) c.self.view_is ∙ c.requires.is_on in
    let there : c.args.column < length a.columns.items = omega (arith, c.requires.there, ap (λ (t : TempRows). length t.columns) c.self.view_is) in
    value_is a.columns.items a.unique nodes a.key.items a.place c.in-Some.row.now c.args.column (option_copied c.value_in.result)
    (rises nodes (c.nodes_of_a_tree_rise.ensures.tree a.space a.tree c.self.invariant.tree)) c.self.invariant.place on
    (sym (c.in-Some.ensures ∙ ap (get_in nodes) c.as_slice.ensures.value)) there c.value_in.ensures
    ∙ ap (λ (t : TempRows). current_value t c.args.column) c.self.view_is

pub returns-clause-fits : goal.returns-clause-fits
returns-clause-fits c =
    let a = c.self.inside in
    let nodes = nodes_of a.space a.tree in
    let on : is_on a.place ≡ true = ap (λ (t : TempRows). is_on t.place) c.self.view_is ∙ c.requires.is_on in
    let there : c.args.column < length a.columns.items = omega (arith, c.requires.there, ap (λ (t : TempRows). length t.columns) c.self.view_is) in
    λ found bytes its is.
    value_of_kind a.columns.items a.unique a.count nodes a.key.items a.place c.in-Some.row.now c.args.column (option_copied c.value_in.result)
    (rises nodes (c.nodes_of_a_tree_rise.ensures.tree a.space a.tree c.self.invariant.tree)) c.self.invariant.place on c.self.invariant.nodes
    (sym (c.in-Some.ensures ∙ ap (get_in nodes) c.as_slice.ensures.value)) there c.value_in.ensures found bytes
    (ap (λ (t : TempRows). slice_get t.columns c.args.column) c.self.view_is ∙ its) is
