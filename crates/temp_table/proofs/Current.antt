-- What is read where a place is on a row.
use Rattle.std.proofs.Common.{◌≡◌, ℕ, zero, suc, ◌<◌, Bool, true, false, ◌∷◌, Option, Some, None, List, [], length, sym, ap, ◌∙◌}
use Rattle.std.specs.Prelude.{slice_get, slice_index_or}
use Rattle.std.specs.List.{AllByRecursion}
use Rattle.std.specs.Option.{option_map}
use Rattle.std.proofs.lemmas.List.{get_or-map}
use Rattle.page_image.specs.Page.{Node, no_node, node_at}
use Rattle.btree_inplace.specs.Order.{get_in}
use Rattle.temp_table.specs.declared.columns.TempColumn.{TempColumn}
use Rattle.temp_table.specs.declared.place.TempPlace.{TempPlace}
use Rattle.temp_table.specs.declared.place.TempPlace.TheVariants.{Before, After, On}
use Rattle.temp_table.specs.TempRows.{current_value, is_on}
use Rattle.common_lemmas.proofs.Booleans.{and_left, and_right}
use Rattle.column_set.specs.RecordValues.{value_fits}
use Rattle.temp_table.specs.TempColumns.{RowValues, row_fits}
use Rattle.temp_table.specs.RowBytes.{values_in}
use Rattle.temp_table.specs.Held.{IsPlaceOf, IsRowNode, rows_of}
use Rattle.temp_table.proofs.Nodes.{Rises, at_place, found}
use Rattle.temp_table.proofs.Sizes.{read_row}

off : {A : Type 0} → false ≡ true → A
off e = cc

not_there : {A : Type 0} (row : List ℕ) → None ≡ Some row → A
not_there row e = cc

same : (a b : List ℕ) → Some a ≡ Some b → a ≡ b
same a b e = cc

its_row : (nodes : List Node) (at : ℕ) (key : List ℕ) → Rises nodes → at < length nodes → (node_at nodes at).key ≡ key → get_in nodes key ≡ Some (node_at nodes at).data
its_row nodes at key rising lt e = ap (option_map (λ (n : Node). n.data)) (found nodes at key rising lt e)

-- the node of the place is there
pub is_there : {A : Type 0} (nodes : List Node) (key : List ℕ) (place : TempPlace) → Rises nodes → IsPlaceOf nodes key place → is_on place ≡ true → get_in nodes key ≡ None → A
is_there nodes key Before rising is on e = off on
is_there nodes key After rising is on e = off on
is_there nodes key (On at) rising is on e = not_there (node_at nodes at).data (sym e ∙ its_row nodes at key rising is.0 is.1)

-- a value of its data is that of the current row
pub value_is : (columns : List TempColumn) (unique : Bool) (nodes : List Node) (key : List ℕ) (place : TempPlace) (row : List ℕ) (column : ℕ) (value : Option (List ℕ)) → Rises nodes → IsPlaceOf nodes key place → is_on place ≡ true
    → get_in nodes key ≡ Some row → column < length columns → ((count : ℕ) → column < count → value ≡ slice_index_or (values_in count row) column None)
    → value ≡ current_value (record { columns = columns; unique = unique; rows = rows_of (length columns) nodes; place = place }) column
value_is columns unique nodes key Before row column value rising is on e lt read = off on
value_is columns unique nodes key After row column value rising is on e lt read = off on
value_is columns unique nodes key (On at) row column value rising is on e lt read =
    let own : row ≡ (node_at nodes at).data = same row (node_at nodes at).data (sym e ∙ its_row nodes at key rising is.0 is.1) in
    read (length columns) lt
    ∙ ap (λ r. slice_index_or (values_in (length columns) r) column None) own
    ∙ sym (ap (λ r. slice_index_or r column None) (get_or-map (λ (n : Node). values_in (length columns) n.data) nodes at no_node [] is.0))

-- ---- its type

same_column : (a b : TempColumn) → Some a ≡ Some b → a ≡ b
same_column a b e = cc

no_value : {A : Type 0} (value : List ℕ) → None ≡ Some value → A
no_value value e = cc

no_column : {A : Type 0} (c : TempColumn) → None ≡ Some c → A
no_column c e = cc

-- a value of a row that fits
of_kind : (columns : List TempColumn) (row : RowValues) (column : ℕ) (c : TempColumn) (value : List ℕ) → row_fits columns row ≡ true → slice_get columns column ≡ Some c → slice_index_or row column None ≡ Some value → value_fits c.kind value ≡ true
of_kind [] row column c value fits its is = no_column c its
of_kind (k ∷ columns) [] column c value fits its is = off fits
of_kind (k ∷ columns) (None ∷ row) zero c value fits its is = no_value value is
of_kind (k ∷ columns) (Some here ∷ row) zero c value fits its is =
    ap (λ (x : TempColumn). value_fits x.kind value) (sym (same_column k c its))
    ∙ ap (value_fits k.kind) (sym (same here value is))
    ∙ and_left (value_fits k.kind here) (row_fits columns row) fits
of_kind (k ∷ columns) (None ∷ row) (suc column) c value fits its is = of_kind columns row column c value fits its is
of_kind (k ∷ columns) (Some here ∷ row) (suc column) c value fits its is = of_kind columns row column c value (and_right (value_fits k.kind here) (row_fits columns row) fits) its is

-- a value of the current row is of its column's type
pub value_of_kind : (columns : List TempColumn) (unique : Bool) (count : ℕ) (nodes : List Node) (key : List ℕ) (place : TempPlace) (row : List ℕ) (column : ℕ) (value : Option (List ℕ)) → Rises nodes → IsPlaceOf nodes key place → is_on place ≡ true
    → AllByRecursion (IsRowNode columns unique count) nodes → get_in nodes key ≡ Some row → column < length columns → ((count : ℕ) → column < count → value ≡ slice_index_or (values_in count row) column None)
    → (c : TempColumn) (bytes : List ℕ) → slice_get columns column ≡ Some c → value ≡ Some bytes → value_fits c.kind bytes ≡ true
value_of_kind columns unique count nodes key Before row column value rising is on rows e lt read c bytes its told = off on
value_of_kind columns unique count nodes key After row column value rising is on rows e lt read c bytes its told = off on
value_of_kind columns unique count nodes key (On at) row column value rising is on rows e lt read c bytes its told =
    let own : row ≡ (node_at nodes at).data = same row (node_at nodes at).data (sym e ∙ its_row nodes at key rising is.0 is.1) in
    let it : IsRowNode columns unique count (node_at nodes at) = at_place (IsRowNode columns unique count) nodes at rows is.0 in
    let its_row_is : values_in (length columns) row ≡ it.row = ap (values_in (length columns)) own ∙ ap (λ (n : Node). values_in (length columns) n.data) it.is ∙ read_row columns it.row it.is_row.fits in
    of_kind columns it.row column c bytes it.is_row.fits its
    (ap (λ r. slice_index_or r column None) (sym its_row_is) ∙ sym (read (length columns) lt) ∙ told)
