use Rattle.std.proofs.Common.{◌≡◌, ◌≤◌, ◌<◌, ◌^◌, ℕ, true, length, map, List, None, refl, sym, ap, subst, ◌∙◌, arith, add-one}
use Rattle.std.specs.Prelude.{option_copied}
use Rattle.std.specs.List.{AllByRecursion}
use Rattle.std.proofs.lemmas.List.{length-map}
use Rattle.column_set.specs.Rows.{largest_row}
use Rattle.page_image.specs.Page.{Node}
use Rattle.btree_inplace.specs.Order.{extent_in}
use Rattle.btree_inplace.specs.Trees.{nodes_of}
use Rattle.temp_table.specs.TempColumns.{row_fits}
use Rattle.temp_table.specs.TempRows.{TempRows, put_refusal, put_row, row_key, row_size}
use Rattle.temp_table.specs.RowBytes.{row_bytes}
use Rattle.temp_table.specs.Held.{IsPlaceOf, IsRowNode, node_key, node_of_row, place_beside_key, rows_of, table_rows}
use Rattle.temp_table.proofs.Nodes.{rises}
use Rattle.temp_table.proofs.Puts.{Told, as_put, double_is_not_too_big, is_no_error, leaves, memory_is_not_double, memory_is_not_too_big, new_inserted, not_inserted, not_too_big, refused_size, same_node, told_double, told_new, too_big_is_not_double}
use Rattle.temp_table.proofs.Sizes.{are_few, bytes_of_row, fits_length, no_long, short_row}
use Rattle.temp_table.proofs.Towards.{within}
use Rattle.temp_table.proofs.table.TempTable.put.Goals as goal

pub row_size-requires : goal.row_size-requires
row_size-requires c =
    let a = c.self.inside in
    let is = c.self.invariant in
    let row = map (option_copied {T = List ℕ}) c.args.values.now in
    let fits : row_fits a.columns.items row ≡ true = ap (λ (t : TempRows). row_fits t.columns row) c.self.view_is ∙ c.requires in
    let few : length row ≤ 12 = omega (arith, fits_length a.columns.items row fits, are_few a.columns.items is.columns) in
    omega (arith, few, length-map c.args.values.now (option_copied {T = List ℕ}))

pub same-self : goal.same-self
same-self c = refl

pub returns-then-row_size-gt-MAX_ROW_SIZE-clause-too_big :
    goal.returns-then-row_size-gt-MAX_ROW_SIZE-clause-too_big
returns-then-row_size-gt-MAX_ROW_SIZE-clause-too_big c =
    let row = map (option_copied {T = List ℕ}) c.args.values.now in
    let above : largest_row < row_size row = omega (arith, c.if-row_size-gt-MAX_ROW_SIZE.true, c.row_size.ensures.value) in
    (λ _. refused_size c.args.self.now row above, λ _. refl)

pub returns-then-row_size-gt-MAX_ROW_SIZE-clause-double :
    goal.returns-then-row_size-gt-MAX_ROW_SIZE-clause-double
returns-then-row_size-gt-MAX_ROW_SIZE-clause-double c =
    λ e. too_big_is_not_double e

pub returns-then-row_size-gt-MAX_ROW_SIZE-clause-err : goal.returns-then-row_size-gt-MAX_ROW_SIZE-clause-err
returns-then-row_size-gt-MAX_ROW_SIZE-clause-err c =
    refl

pub write_row-requires : goal.write_row-requires
write_row-requires c =
    let a = c.self.inside in
    let is = c.self.invariant in
    let row = map (option_copied {T = List ℕ}) c.args.values.now in
    let fits : row_fits a.columns.items row ≡ true = ap (λ (t : TempRows). row_fits t.columns row) c.self.view_is ∙ c.requires in
    short_row a.columns.items row (no_long a.columns.items is.columns) fits

pub invariant_of-self : goal.invariant_of-self
invariant_of-self c = record { tree = c.self.invariant.tree; columns = c.self.invariant.columns; count = c.self.invariant.count; nodes = c.self.invariant.nodes; place = c.self.invariant.place }

pub returns-in-Err-clause-too_big : goal.returns-in-Err-clause-too_big
returns-in-Err-clause-too_big c =
    let row = map (option_copied {T = List ℕ}) c.args.values.now in
    let size : row_size row ≤ largest_row = omega (arith, c.if-row_size-gt-MAX_ROW_SIZE.false, c.row_size.ensures.value) in
    (λ e. memory_is_not_too_big e, λ e. absurd (not_too_big c.args.self.now row size e))

pub returns-in-Err-clause-double : goal.returns-in-Err-clause-double
returns-in-Err-clause-double c = λ e. memory_is_not_double e

pub returns-in-Err-clause-err : goal.returns-in-Err-clause-err
returns-in-Err-clause-err c = c.self.view_is

pub as_slice-requires : goal.as_slice-requires
as_slice-requires c = omega arith

pub insert_if_absent-requires-clause-tree : goal.insert_if_absent-requires-clause-tree
insert_if_absent-requires-clause-tree c = c.self.invariant.tree

pub insert_if_absent-requires-clause-short : goal.insert_if_absent-requires-clause-short
insert_if_absent-requires-clause-short c = omega (arith, c.as_slice.ensures.fits)

pub insert_if_absent-requires-clause-fits : goal.insert_if_absent-requires-clause-fits
insert_if_absent-requires-clause-fits c = omega (arith, c.deref-2.ensures.len, c.len-2.ensures)

pub insert_if_absent-requires-clause-small : goal.insert_if_absent-requires-clause-small
insert_if_absent-requires-clause-small c =
    let a = c.self.inside in
    let is = c.self.invariant in
    let row = map (option_copied {T = List ℕ}) c.args.values.now in
    let fits : row_fits a.columns.items row ≡ true = ap (λ (t : TempRows). row_fits t.columns row) c.self.view_is ∙ c.requires in
    let few : length row ≤ 12 = omega (arith, fits_length a.columns.items row fits, are_few a.columns.items is.columns) in
    let size : row_size row ≤ largest_row = omega (arith, c.if-row_size-gt-MAX_ROW_SIZE.false, c.row_size.ensures.value) in
    let bytes : c.deref-2.result.now ≡ row_bytes row = c.deref-2.ensures.value ∙ c.in-Ok.ensures in
    let extent : c.len-2.result ≡ length (row_bytes row) = omega (arith, c.len-2.ensures, c.deref-2.ensures.len, ap (λ (l : List ℕ). length l) bytes) in
    omega (arith, c.as_slice.ensures.fits, few, size, extent, bytes_of_row row (short_row a.columns.items row (no_long a.columns.items is.columns) fits))

pub beside-self-inside-requires : goal.beside-self-inside-requires
beside-self-inside-requires c = within _ c.self.inside.key.items c.self.inside.count c.self.inside.place c.self.invariant.count c.self.invariant.place

pub overflow_add-self : goal.overflow_add-self
overflow_add-self c =
    let a = c.self.inside in
    omega (arith, c.self.invariant.count, c.nodes_fit_their_space.ensures a.space a.tree c.self.invariant.tree, c.len.ensures.value, c.len.ensures.limit)

pub invariant_of-self-in-Ok-None : goal.invariant_of-self-in-Ok-None
invariant_of-self-in-Ok-None c =
    let a = c.self.inside in
    let is = c.self.invariant in
    let row = map (option_copied {T = List ℕ}) c.args.values.now in
    let fits : row_fits a.columns.items row ≡ true = ap (λ (t : TempRows). row_fits t.columns row) c.self.view_is ∙ c.requires in
    let size : row_size row ≤ largest_row = omega (arith, c.if-row_size-gt-MAX_ROW_SIZE.false, c.row_size.ensures.value) in
    let nodes = nodes_of a.space a.tree in
    let after = nodes_of c.insert_if_absent.new.space c.insert_if_absent.new.self in
    let key = row_key a.columns.items row in
    let made : c.node_key-key.result.items ≡ node_key a.unique key a.count = c.node_key-key.ensures ∙ ap (λ k. node_key a.unique k a.count) (c.row_key.ensures ∙ ap (λ columns. row_key columns row) c.deref.ensures.value) in
    let given : c.as_slice.result.now ≡ node_key a.unique key a.count = c.as_slice.ensures.value ∙ made in
    let bytes : c.deref-2.result.now ≡ row_bytes row = c.deref-2.ensures.value ∙ c.in-Ok.ensures in
    let extent : c.len-2.result ≡ length (row_bytes row) = omega (arith, c.len-2.ensures, c.deref-2.ensures.len, ap (λ (l : List ℕ). length l) bytes) in
    let small : a.count < 2 ^ 64 = omega (arith, is.count, c.nodes_fit_their_space.ensures a.space a.tree is.tree, c.len.ensures.value, c.len.ensures.limit) in
    let told : Told a.columns.items a.unique a.count nodes row = record { law = c.order_of_whole_keys.ensures.no_prefix; small = small; rows = is.nodes; is_row = record { fits = fits; bytes = c.row_size.ensures.bytes }; size = size } in
    let none : extent_in nodes (node_key a.unique key a.count) ≡ None = ap (extent_in nodes) (sym given) ∙ sym c.in-Ok-None.ensures.there ∙ c.in-Ok-None.field-0-is in
    let new = node_of_row a.columns.items a.unique a.count row in
    let same = same_node a.columns.items a.unique a.count row c.as_slice.result.now c.deref-2.result.now c.len-2.result given bytes extent in
    let put = new_inserted nodes after (record { key = c.as_slice.result.now; extent = c.len-2.result; «data» = c.deref-2.result.now }) new same c.in-Ok-None.ensures.ok none in
    let moved : c.beside-self-inside.result ≡ place_beside_key a.key.items (node_key a.unique key a.count) a.place = c.beside-self-inside.ensures ∙ ap (λ k. place_beside_key a.key.items k a.place) made in
    let left = leaves a.columns.items a.unique a.count nodes a.key.items a.place row after c.beside-self-inside.result told (rises nodes (c.nodes_of_a_tree_rise.ensures.tree a.space a.tree is.tree)) is.place none put moved in
    record { tree = c.insert_if_absent.ensures.tree; columns = is.columns; count = omega (arith, is.count, left.more); nodes = subst (λ n. AllByRecursion (IsRowNode a.columns.items a.unique n) after) (sym (add-one a.count)) left.held; place = left.at }

pub invariant_of-self-in-Ok-Some : goal.invariant_of-self-in-Ok-Some
invariant_of-self-in-Ok-Some c =
    let a = c.self.inside in
    let is = c.self.invariant in
    let nodes = nodes_of a.space a.tree in
    let after = nodes_of c.insert_if_absent.new.space c.insert_if_absent.new.self in
    let same : after ≡ nodes = not_inserted nodes after (record { key = c.as_slice.result.now; extent = c.len-2.result; «data» = c.deref-2.result.now }) c.in-Ok-Some.field-0-0 c.in-Ok-Some.ensures.ok (sym c.in-Ok-Some.ensures.there ∙ c.in-Ok-Some.field-0-is) in
    record { tree = c.insert_if_absent.ensures.tree; columns = is.columns; count = is.count ∙ ap (λ (l : List Node). length l) (sym same); nodes = subst (AllByRecursion (IsRowNode a.columns.items a.unique a.count)) (sym same) is.nodes; place = subst (λ (l : List Node). IsPlaceOf l a.key.items a.place) (sym same) is.place }

pub invariant_of-self-in-Err-insert_if_absent : goal.invariant_of-self-in-Err-insert_if_absent
invariant_of-self-in-Err-insert_if_absent c =
    let a = c.self.inside in
    let is = c.self.invariant in
    let nodes = nodes_of a.space a.tree in
    let after = nodes_of c.insert_if_absent.new.space c.insert_if_absent.new.self in
    let same : after ≡ nodes = c.in-Err-insert_if_absent.ensures.err in
    record { tree = c.insert_if_absent.ensures.tree; columns = is.columns; count = is.count ∙ ap (λ (l : List Node). length l) (sym same); nodes = subst (AllByRecursion (IsRowNode a.columns.items a.unique a.count)) (sym same) is.nodes; place = subst (λ (l : List Node). IsPlaceOf l a.key.items a.place) (sym same) is.place }

pub returns-in-Ok-None-clause-ok : goal.returns-in-Ok-None-clause-ok
returns-in-Ok-None-clause-ok c =
    let a = c.self.inside in
    let is = c.self.invariant in
    let row = map (option_copied {T = List ℕ}) c.args.values.now in
    let fits : row_fits a.columns.items row ≡ true = ap (λ (t : TempRows). row_fits t.columns row) c.self.view_is ∙ c.requires in
    let size : row_size row ≤ largest_row = omega (arith, c.if-row_size-gt-MAX_ROW_SIZE.false, c.row_size.ensures.value) in
    let nodes = nodes_of a.space a.tree in
    let key = row_key a.columns.items row in
    let made : c.node_key-key.result.items ≡ node_key a.unique key a.count = c.node_key-key.ensures ∙ ap (λ k. node_key a.unique k a.count) (c.row_key.ensures ∙ ap (λ columns. row_key columns row) c.deref.ensures.value) in
    let given : c.as_slice.result.now ≡ node_key a.unique key a.count = c.as_slice.ensures.value ∙ made in
    let small : a.count < 2 ^ 64 = omega (arith, is.count, c.nodes_fit_their_space.ensures a.space a.tree is.tree, c.len.ensures.value, c.len.ensures.limit) in
    let told : Told a.columns.items a.unique a.count nodes row = record { law = c.order_of_whole_keys.ensures.no_prefix; small = small; rows = is.nodes; is_row = record { fits = fits; bytes = c.row_size.ensures.bytes }; size = size } in
    let none : extent_in nodes (node_key a.unique key a.count) ≡ None = ap (extent_in nodes) (sym given) ∙ sym c.in-Ok-None.ensures.there ∙ c.in-Ok-None.field-0-is in
    ap (λ t. put_refusal t row) (sym c.self.view_is) ∙ told_new a.columns.items a.unique a.count nodes row a.place told none

pub returns-in-Ok-None-clause-put : goal.returns-in-Ok-None-clause-put
returns-in-Ok-None-clause-put c =
    let a = c.self.inside in
    let is = c.self.invariant in
    let row = map (option_copied {T = List ℕ}) c.args.values.now in
    let fits : row_fits a.columns.items row ≡ true = ap (λ (t : TempRows). row_fits t.columns row) c.self.view_is ∙ c.requires in
    let size : row_size row ≤ largest_row = omega (arith, c.if-row_size-gt-MAX_ROW_SIZE.false, c.row_size.ensures.value) in
    let nodes = nodes_of a.space a.tree in
    let after = nodes_of c.insert_if_absent.new.space c.insert_if_absent.new.self in
    let key = row_key a.columns.items row in
    let made : c.node_key-key.result.items ≡ node_key a.unique key a.count = c.node_key-key.ensures ∙ ap (λ k. node_key a.unique k a.count) (c.row_key.ensures ∙ ap (λ columns. row_key columns row) c.deref.ensures.value) in
    let given : c.as_slice.result.now ≡ node_key a.unique key a.count = c.as_slice.ensures.value ∙ made in
    let bytes : c.deref-2.result.now ≡ row_bytes row = c.deref-2.ensures.value ∙ c.in-Ok.ensures in
    let extent : c.len-2.result ≡ length (row_bytes row) = omega (arith, c.len-2.ensures, c.deref-2.ensures.len, ap (λ (l : List ℕ). length l) bytes) in
    let small : a.count < 2 ^ 64 = omega (arith, is.count, c.nodes_fit_their_space.ensures a.space a.tree is.tree, c.len.ensures.value, c.len.ensures.limit) in
    let told : Told a.columns.items a.unique a.count nodes row = record { law = c.order_of_whole_keys.ensures.no_prefix; small = small; rows = is.nodes; is_row = record { fits = fits; bytes = c.row_size.ensures.bytes }; size = size } in
    let none : extent_in nodes (node_key a.unique key a.count) ≡ None = ap (extent_in nodes) (sym given) ∙ sym c.in-Ok-None.ensures.there ∙ c.in-Ok-None.field-0-is in
    let new = node_of_row a.columns.items a.unique a.count row in
    let same = same_node a.columns.items a.unique a.count row c.as_slice.result.now c.deref-2.result.now c.len-2.result given bytes extent in
    let put = new_inserted nodes after (record { key = c.as_slice.result.now; extent = c.len-2.result; «data» = c.deref-2.result.now }) new same c.in-Ok-None.ensures.ok none in
    let moved : c.beside-self-inside.result ≡ place_beside_key a.key.items (node_key a.unique key a.count) a.place = c.beside-self-inside.ensures ∙ ap (λ k. place_beside_key a.key.items k a.place) made in
    let left = leaves a.columns.items a.unique a.count nodes a.key.items a.place row after c.beside-self-inside.result told (rises nodes (c.nodes_of_a_tree_rise.ensures.tree a.space a.tree is.tree)) is.place none put moved in
    as_put (table_rows a) row (rows_of (length a.columns.items) after) c.beside-self-inside.result left.left left.moves ∙ ap (λ t. put_row t row) c.self.view_is

pub returns-in-Ok-None-clause-too_big : goal.returns-in-Ok-None-clause-too_big
returns-in-Ok-None-clause-too_big c =
    let row = map (option_copied {T = List ℕ}) c.args.values.now in
    let size : row_size row ≤ largest_row = omega (arith, c.if-row_size-gt-MAX_ROW_SIZE.false, c.row_size.ensures.value) in
    (λ e. is_no_error _ _ e, λ e. absurd (not_too_big c.args.self.now row size e))

pub returns-in-Ok-None-clause-double : goal.returns-in-Ok-None-clause-double
returns-in-Ok-None-clause-double c = λ e. is_no_error _ _ e

pub returns-in-Ok-Some-clause-too_big : goal.returns-in-Ok-Some-clause-too_big
returns-in-Ok-Some-clause-too_big c =
    let row = map (option_copied {T = List ℕ}) c.args.values.now in
    let size : row_size row ≤ largest_row = omega (arith, c.if-row_size-gt-MAX_ROW_SIZE.false, c.row_size.ensures.value) in
    (λ e. double_is_not_too_big e, λ e. absurd (not_too_big c.args.self.now row size e))

pub returns-in-Ok-Some-clause-double : goal.returns-in-Ok-Some-clause-double
returns-in-Ok-Some-clause-double c =
    let a = c.self.inside in
    let is = c.self.invariant in
    let row = map (option_copied {T = List ℕ}) c.args.values.now in
    let fits : row_fits a.columns.items row ≡ true = ap (λ (t : TempRows). row_fits t.columns row) c.self.view_is ∙ c.requires in
    let size : row_size row ≤ largest_row = omega (arith, c.if-row_size-gt-MAX_ROW_SIZE.false, c.row_size.ensures.value) in
    let nodes = nodes_of a.space a.tree in
    let key = row_key a.columns.items row in
    let made : c.node_key-key.result.items ≡ node_key a.unique key a.count = c.node_key-key.ensures ∙ ap (λ k. node_key a.unique k a.count) (c.row_key.ensures ∙ ap (λ columns. row_key columns row) c.deref.ensures.value) in
    let given : c.as_slice.result.now ≡ node_key a.unique key a.count = c.as_slice.ensures.value ∙ made in
    let small : a.count < 2 ^ 64 = omega (arith, is.count, c.nodes_fit_their_space.ensures a.space a.tree is.tree, c.len.ensures.value, c.len.ensures.limit) in
    let told : Told a.columns.items a.unique a.count nodes row = record { law = c.order_of_whole_keys.ensures.no_prefix; small = small; rows = is.nodes; is_row = record { fits = fits; bytes = c.row_size.ensures.bytes }; size = size } in
    λ _. ap (λ t. put_refusal t row) (sym c.self.view_is) ∙ told_double a.columns.items a.unique a.count nodes row a.place c.in-Ok-Some.field-0-0 told (ap (extent_in nodes) (sym given) ∙ sym c.in-Ok-Some.ensures.there ∙ c.in-Ok-Some.field-0-is)

pub returns-in-Ok-Some-clause-err : goal.returns-in-Ok-Some-clause-err
returns-in-Ok-Some-clause-err c =
    let a = c.self.inside in
    let nodes = nodes_of a.space a.tree in
    let after = nodes_of c.insert_if_absent.new.space c.insert_if_absent.new.self in
    let same : after ≡ nodes = not_inserted nodes after (record { key = c.as_slice.result.now; extent = c.len-2.result; «data» = c.deref-2.result.now }) c.in-Ok-Some.field-0-0 c.in-Ok-Some.ensures.ok (sym c.in-Ok-Some.ensures.there ∙ c.in-Ok-Some.field-0-is) in
    ap (λ (l : List Node). record (table_rows a) { rows = rows_of (length a.columns.items) l }) same ∙ c.self.view_is

pub returns-in-Err-insert_if_absent-clause-too_big : goal.returns-in-Err-insert_if_absent-clause-too_big
returns-in-Err-insert_if_absent-clause-too_big c =
    let row = map (option_copied {T = List ℕ}) c.args.values.now in
    let size : row_size row ≤ largest_row = omega (arith, c.if-row_size-gt-MAX_ROW_SIZE.false, c.row_size.ensures.value) in
    (λ e. memory_is_not_too_big e, λ e. absurd (not_too_big c.args.self.now row size e))

pub returns-in-Err-insert_if_absent-clause-double : goal.returns-in-Err-insert_if_absent-clause-double
returns-in-Err-insert_if_absent-clause-double c =
    λ e. memory_is_not_double e

pub returns-in-Err-insert_if_absent-clause-err : goal.returns-in-Err-insert_if_absent-clause-err
returns-in-Err-insert_if_absent-clause-err c =
    let a = c.self.inside in
    let nodes = nodes_of a.space a.tree in
    let after = nodes_of c.insert_if_absent.new.space c.insert_if_absent.new.self in
    let same : after ≡ nodes = c.in-Err-insert_if_absent.ensures.err in
    ap (λ (l : List Node). record (table_rows a) { rows = rows_of (length a.columns.items) l }) same ∙ c.self.view_is
