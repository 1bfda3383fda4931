-- What a put leaves of the nodes and of the rows.
use Rattle.std.proofs.Common.{◌≡◌, ℕ, suc, ◌+◌, ◌^◌, ◌<◌, ◌≤◌, Bool, true, false, cond, leb, ◌&&◌, ◌||◌, Option, Some, None, Result, Ok, Err, List, [], ◌∷◌, ◌++◌, length, find, refl, sym, ap, subst, ◌∙◌, arith, bytes_eq, is_some}
use Rattle.std.specs.Prelude.{if◌then◌else◌}
use Rattle.std.specs.Int.{w64, to_be_bytes}
use Rattle.std.specs.List.{AllByRecursion}
use Rattle.std.specs.Option.{option_map}
use Rattle.std.specs.Ordering.{is_eq, is_le, is_lt, ordering_then}
use Rattle.std.specs.declared.cmp.Ordering.{Ordering}
use Rattle.std.specs.declared.cmp.Ordering.TheVariants.{Less, Equal, Greater}
use Rattle.std.specs.Cmp.Lexicographic.{texts_ties}
use Rattle.std.proofs.lemmas.Bool.{le-ltb, lt-ltb}
use Rattle.common_lemmas.proofs.Booleans.{by_test}
use Rattle.common_lemmas.proofs.Finding.{find_none}
use Rattle.common_lemmas.proofs.Lists.{all_weaker}
use Rattle.column_set.specs.Rows.{largest_row}
use Rattle.page_image.specs.Page.{Node, node_at}
use Rattle.btree_inplace.specs.Changes.{inserted, inserted_if_absent}
use Rattle.btree_inplace.specs.Order.{extent_in, has_key}
use Rattle.temp_table.specs.declared.columns.TempColumn.{TempColumn}
use Rattle.temp_table.specs.declared.fault.TempFault.{TempFault}
use Rattle.temp_table.specs.declared.fault.TempFault.TheVariants.{TooBig, Double, OutOfMemory}
use Rattle.temp_table.specs.declared.place.TempPlace.{TempPlace}
use Rattle.temp_table.specs.declared.place.TempPlace.TheVariants.{Before, After, On}
use Rattle.temp_table.specs.TempColumns.{RowValues}
use Rattle.temp_table.specs.TempRows.{TempRows, has_key_of, place_beside, put_refusal, put_row, row_key, row_size, rows_before, stays_before, with_row}
use Rattle.temp_table.specs.RowBytes.{row_bytes, values_in}
use Rattle.temp_table.specs.Held.{IsPlaceOf, IsRow, IsRowNode, node_key, node_of_row, place_beside_key, rows_of}
use Rattle.temp_table.proofs.Nodes.{Rises, Shifts, all_inserted, length-inserted, nodes_before, none_has, shifts}
use Rattle.temp_table.proofs.Orders.{le_apart, le_before, less64, order, order_of_pairs}
use Rattle.temp_table.proofs.RowKeys.{NoPrefix, keys_apart}
use Rattle.temp_table.proofs.Sizes.{read_row}

-- ---- one node beside a new one

row_of : (columns : List TempColumn) (unique : Bool) (count : ℕ) (n : Node) (it : IsRowNode columns unique count n) → values_in (length columns) n.data ≡ it.row
row_of columns unique count n it = ap (λ (m : Node). values_in (length columns) m.data) it.is ∙ read_row columns it.row it.is_row.fits

key_of : (columns : List TempColumn) (unique : Bool) (count : ℕ) (n : Node) (it : IsRowNode columns unique count n) → n.key ≡ node_key unique (row_key columns it.row) it.arrival
key_of columns unique count n it = ap (λ (m : Node). m.key) it.is

-- the order of a node that came before a new one, where both have their number of arrival
arrived : NoPrefix → (columns : List TempColumn) (count : ℕ) (n : Node) (row : RowValues) (it : IsRowNode columns false count n) → IsRow columns row → count < 2 ^ 64
    → (order n.key (row_key columns row ++ to_be_bytes w64 count) ≡ ordering_then (order (row_key columns it.row) (row_key columns row)) (order (to_be_bytes w64 it.arrival) (to_be_bytes w64 count)))
    × (order (to_be_bytes w64 it.arrival) (to_be_bytes w64 count) ≡ Less)
arrived law columns count n row it is small =
    let key = row_key columns row in (
      ap (λ k. order k (key ++ to_be_bytes w64 count)) (key_of columns false count n it)
          ∙ order_of_pairs (row_key columns it.row) key (to_be_bytes w64 it.arrival) (to_be_bytes w64 count) (keys_apart law columns it.row row it.is_row is),
      less64 it.arrival count it.came small,
    )

-- a node stands before a new one where its row stays before the new row
stays : NoPrefix → (columns : List TempColumn) (unique : Bool) (count : ℕ) (n : Node) (row : RowValues) → IsRowNode columns unique count n → IsRow columns row → count < 2 ^ 64
    → has_key (node_key unique (row_key columns row) count) n ≡ false
    → is_lt (order n.key (node_key unique (row_key columns row) count)) ≡ stays_before columns row (values_in (length columns) n.data)
stays law columns true count n row it is small other =
    let key = row_key columns row in
    le_apart (order n.key key) other
    ∙ ap (λ k. is_le (order k key)) (key_of columns true count n it)
    ∙ sym (ap (stays_before columns row) (row_of columns true count n it))
stays law columns false count n row it is small other =
    let a = arrived law columns count n row it is small in
    ap is_lt a.0
    ∙ le_before (order (row_key columns it.row) (row_key columns row)) (order (to_be_bytes w64 it.arrival) (to_be_bytes w64 count)) a.1
    ∙ sym (ap (stays_before columns row) (row_of columns false count n it))

never_equal : (r q : Ordering) → q ≡ Less → is_eq (ordering_then r q) ≡ false
never_equal Less q h = refl
never_equal Equal q h = ap is_eq h
never_equal Greater q h = refl

-- ---- a key that is there

-- where rows of one key stand beside each other, a new node's key is that of no other
pub new_key : NoPrefix → (columns : List TempColumn) (count : ℕ) (nodes : List Node) (row : RowValues) → AllByRecursion (IsRowNode columns false count) nodes → IsRow columns row → count < 2 ^ 64
    → find (has_key (row_key columns row ++ to_be_bytes w64 count)) nodes ≡ None
new_key law columns count nodes row all is small =
    let key = row_key columns row ++ to_be_bytes w64 count in
    find_none (has_key key) nodes (all_weaker (IsRowNode columns false count) (λ n. has_key key n ≡ false)
    (λ n it. let a = arrived law columns count n row it is small in
    ap is_eq a.0 ∙ never_equal (order (row_key columns it.row) (row_key columns row)) (order (to_be_bytes w64 it.arrival) (to_be_bytes w64 count)) a.1) nodes all)

-- where they do not, its key is there where a row has it
pub own_key : (columns : List TempColumn) (count : ℕ) (nodes : List Node) (row : RowValues) → AllByRecursion (IsRowNode columns true count) nodes
    → has_key_of columns row (rows_of (length columns) nodes) ≡ is_some (find (has_key (row_key columns row)) nodes)
own_key columns count [] row all = refl
own_key columns count (n ∷ nodes) row all =
    let key = row_key columns row in
    let rest : Bool = has_key_of columns row (rows_of (length columns) nodes) in
    let others : Option Node = find (has_key key) nodes in
    let same : bytes_eq (row_key columns (values_in (length columns) n.data)) key ≡ has_key key n =
    ap (λ r. bytes_eq (row_key columns r) key) (row_of columns true count n all.0) ∙ texts_ties (row_key columns all.0.row) key
    ∙ sym (ap (λ k. is_eq (order k key)) (key_of columns true count n all.0)) in
    by_test (has_key key n)
    (λ t. ap (λ b. b || rest) (same ∙ t) ∙ sym (ap (λ b. is_some (cond b (Some n) others)) t))
    (λ t. ap (λ b. b || rest) (same ∙ t) ∙ own_key columns count nodes row all.1 ∙ sym (ap (λ b. is_some (cond b (Some n) others)) t))

-- ---- refusals

pub refused_size : (table : TempRows) (row : RowValues) → largest_row < row_size row → put_refusal table row ≡ Some TooBig
refused_size table row lt =
    let inner : Option TempFault = cond (table.unique && has_key_of table.columns row table.rows) (Some Double) None in
    ap (λ b. cond b (Some TooBig) inner) (lt-ltb largest_row (row_size row) lt)

not_some : (b : Bool) → cond b (Some Double) None ≡ Some TooBig → ⊥
not_some true e = cc
not_some false e = cc

-- where the size is within its limit, the key alone decides
pub refused_key : (table : TempRows) (row : RowValues) → row_size row ≤ largest_row → put_refusal table row ≡ cond (table.unique && has_key_of table.columns row table.rows) (Some Double) None
refused_key table row le =
    let inner : Option TempFault = cond (table.unique && has_key_of table.columns row table.rows) (Some Double) None in
    ap (λ b. cond b (Some TooBig) inner) (le-ltb largest_row (row_size row) le)

pub not_too_big : (table : TempRows) (row : RowValues) → row_size row ≤ largest_row → ¬ (put_refusal table row ≡ Some TooBig)
not_too_big table row le e = not_some (table.unique && has_key_of table.columns row table.rows) (sym (refused_key table row le) ∙ e)

no_node_of : (o : Option Node) → option_map (λ (n : Node). n.extent) o ≡ None → o ≡ None
no_node_of None e = refl
no_node_of (Some n) e = cc

none_extent : (nodes : List Node) (key : List ℕ) → extent_in nodes key ≡ None → find (has_key key) nodes ≡ None
none_extent nodes key e = no_node_of (find (has_key key) nodes) e

some_extent : (o : Option Node) (size : ℕ) → option_map (λ (n : Node). n.extent) o ≡ Some size → is_some o ≡ true
some_extent None size e = cc
some_extent (Some n) size e = refl

-- what the tree tells of a row's key
pub record Told (columns : List TempColumn) (unique : Bool) (count : ℕ) (nodes : List Node) (row : RowValues) : Type 0 where
  pub law : NoPrefix
  pub small : count < 2 ^ 64
  pub rows : AllByRecursion (IsRowNode columns unique count) nodes
  pub is_row : IsRow columns row
  pub size : row_size row ≤ largest_row

no_some : (size : ℕ) → None ≡ Some size → ⊥
no_some size e = cc

pub told_double : (columns : List TempColumn) (unique : Bool) (count : ℕ) (nodes : List Node) (row : RowValues) (place : TempPlace) (size : ℕ) → Told columns unique count nodes row
    → extent_in nodes (node_key unique (row_key columns row) count) ≡ Some size
    → put_refusal (record { columns = columns; unique = unique; rows = rows_of (length columns) nodes; place = place }) row ≡ Some Double
told_double columns true count nodes row place size told e =
    let table : TempRows = record { columns = columns; unique = true; rows = rows_of (length columns) nodes; place = place } in
    refused_key table row told.size
    ∙ ap (λ b. cond b (Some Double) None) (own_key columns count nodes row told.rows ∙ some_extent (find (has_key (row_key columns row)) nodes) size e)
told_double columns false count nodes row place size told e =
    absurd (no_some size (sym (ap (option_map (λ (n : Node). n.extent)) (new_key told.law columns count nodes row told.rows told.is_row told.small)) ∙ e))

pub told_new : (columns : List TempColumn) (unique : Bool) (count : ℕ) (nodes : List Node) (row : RowValues) (place : TempPlace) → Told columns unique count nodes row
    → extent_in nodes (node_key unique (row_key columns row) count) ≡ None
    → put_refusal (record { columns = columns; unique = unique; rows = rows_of (length columns) nodes; place = place }) row ≡ None
told_new columns true count nodes row place told e =
    let table : TempRows = record { columns = columns; unique = true; rows = rows_of (length columns) nodes; place = place } in
    refused_key table row told.size
    ∙ ap (λ b. cond b (Some Double) None) (own_key columns count nodes row told.rows ∙ ap is_some (none_extent nodes (row_key columns row) e))
told_new columns false count nodes row place told e =
    let table : TempRows = record { columns = columns; unique = false; rows = rows_of (length columns) nodes; place = place } in
    refused_key table row told.size

-- ---- the rows with one more

with_rows : NoPrefix → (columns : List TempColumn) (unique : Bool) (count : ℕ) (nodes : List Node) (row : RowValues) → AllByRecursion (IsRowNode columns unique count) nodes → IsRow columns row → count < 2 ^ 64
    → AllByRecursion (λ n. has_key (node_key unique (row_key columns row) count) n ≡ false) nodes
    → rows_of (length columns) (inserted nodes (node_of_row columns unique count row)) ≡ with_row columns row (rows_of (length columns) nodes)
with_rows law columns unique count [] row all is small other = ap (λ r. r ∷ []) (read_row columns row is.fits)
with_rows law columns unique count (n ∷ nodes) row all is small other =
    let new : Node = node_of_row columns unique count row in
    let own : RowValues = values_in (length columns) n.data in
    let rows : List RowValues = rows_of (length columns) nodes in
    let left : Bool → List RowValues = λ b. rows_of (length columns) (if b then n ∷ inserted nodes new else new ∷ n ∷ nodes) in
    let right : Bool → List RowValues = λ b. cond b (own ∷ with_row columns row rows) (row ∷ own ∷ rows) in
    let same = stays law columns unique count n row all.0 is small other.0 in
    by_test (is_lt (order n.key new.key))
    (λ t. ap left t ∙ ap (λ l. own ∷ l) (with_rows law columns unique count nodes row all.1 is small other.1) ∙ sym (ap right (sym same ∙ t)))
    (λ t. ap left t ∙ ap (λ r. r ∷ own ∷ rows) (read_row columns row is.fits) ∙ sym (ap right (sym same ∙ t)))

counted : NoPrefix → (columns : List TempColumn) (unique : Bool) (count : ℕ) (nodes : List Node) (row : RowValues) → AllByRecursion (IsRowNode columns unique count) nodes → IsRow columns row → count < 2 ^ 64
    → AllByRecursion (λ n. has_key (node_key unique (row_key columns row) count) n ≡ false) nodes
    → nodes_before (node_key unique (row_key columns row) count) nodes ≡ rows_before columns row (rows_of (length columns) nodes)
unfolding nodes_before
counted law columns unique count [] row all is small other = refl
counted law columns unique count (n ∷ nodes) row all is small other =
    let key = node_key unique (row_key columns row) count in
    let rest = rows_before columns row (rows_of (length columns) nodes) in
    ap (λ k. cond (is_lt (order n.key key)) (suc k) 0) (counted law columns unique count nodes row all.1 is small other.1)
    ∙ ap (λ b. cond b (suc rest) 0) (stays law columns unique count n row all.0 is small other.0)

-- ---- the place

within : (b : Bool) (at size more : ℕ) → at < size → more ≡ suc size → cond b (suc at) at < more
within true at size more lt e = omega (arith, lt, e)
within false at size more lt e = omega (arith, lt, e)

moved_on : (nodes : List Node) (new : Node) (at before : ℕ) (key : List ℕ) → nodes_before new.key nodes ≡ before → at < length nodes → Shifts nodes new at key
    → IsPlaceOf (inserted nodes new) key (place_beside before (On at)) × (place_beside_key key new.key (On at) ≡ place_beside before (On at))
moved_on nodes new at before key count lt shift =
    let P : ℕ → Type 0 = λ k. (cond (leb k at) (suc at) at < length (inserted nodes new)) × ((node_at (inserted nodes new) (cond (leb k at) (suc at) at)).key ≡ key) in
    let here : P (nodes_before new.key nodes) = (within (leb (nodes_before new.key nodes) at) at (length nodes) (length (inserted nodes new)) lt (length-inserted nodes new), shift.here) in
    (subst P count here, ap (λ b. On (cond b (suc at) at)) (shift.test ∙ ap (λ k. leb k at) count))

place_kept : (nodes : List Node) (new : Node) (before : ℕ) (key : List ℕ) (place : TempPlace) → Rises nodes → nodes_before new.key nodes ≡ before → AllByRecursion (λ n. has_key new.key n ≡ false) nodes → IsPlaceOf nodes key place
    → IsPlaceOf (inserted nodes new) key (place_beside before place) × (place_beside_key key new.key place ≡ place_beside before place)
place_kept nodes new before key Before rising count other is = (tt, refl)
place_kept nodes new before key After rising count other is = (tt, refl)
place_kept nodes new before key (On at) rising count other is = moved_on nodes new at before key count is.0 (shifts nodes new at key rising other is.0 is.1)

-- ---- all of it

-- what stands after a put
pub record Leaves (columns : List TempColumn) (unique : Bool) (count : ℕ) (nodes : List Node) (key : List ℕ) (place : TempPlace) (row : RowValues) (after : List Node) (moved : TempPlace) : Type 0 where
  pub left : rows_of (length columns) after ≡ with_row columns row (rows_of (length columns) nodes)
  pub moves : moved ≡ place_beside (rows_before columns row (rows_of (length columns) nodes)) place
  pub more : length after ≡ suc (length nodes)
  pub held : AllByRecursion (IsRowNode columns unique (suc count)) after
  pub at : IsPlaceOf after key moved

pub leaves : (columns : List TempColumn) (unique : Bool) (count : ℕ) (nodes : List Node) (key : List ℕ) (place : TempPlace) (row : RowValues) (after : List Node) (moved : TempPlace) → Told columns unique count nodes row → Rises nodes → IsPlaceOf nodes key place
    → extent_in nodes (node_key unique (row_key columns row) count) ≡ None
    → after ≡ inserted nodes (node_of_row columns unique count row)
    → moved ≡ place_beside_key key (node_key unique (row_key columns row) count) place
    → Leaves columns unique count nodes key place row after moved
leaves columns unique count nodes key place row after moved told rising is none e m =
    let new : Node = node_of_row columns unique count row in
    let other = none_has nodes new.key (none_extent nodes new.key none) in
    let kept = place_kept nodes new (rows_before columns row (rows_of (length columns) nodes)) key place rising
    (counted told.law columns unique count nodes row told.rows told.is_row told.small other) other is in
    record {
      left = ap (rows_of (length columns)) e ∙ with_rows told.law columns unique count nodes row told.rows told.is_row told.small other;
      moves = m ∙ kept.1;
      more = ap (λ (l : List Node). length l) e ∙ length-inserted nodes new;
      held = subst (AllByRecursion (IsRowNode columns unique (suc count))) (sym e)
          (all_inserted (IsRowNode columns unique (suc count)) nodes new
          (all_weaker (IsRowNode columns unique count) (IsRowNode columns unique (suc count)) (λ n it. record { row = it.row; arrival = it.arrival; came = omega (arith, it.came); is_row = it.is_row; is = it.is }) nodes told.rows)
          (record { row = row; arrival = count; came = omega arith; is_row = told.is_row; is = refl }));
      at = subst (λ (l : List Node). IsPlaceOf l key moved) (sym e) (subst (IsPlaceOf (inserted nodes new) key) (sym (m ∙ kept.1)) kept.0);
    }

-- ---- a node as the tree takes it

pub same_node : (columns : List TempColumn) (unique : Bool) (count : ℕ) (row : RowValues) (key bytes : List ℕ) (extent : ℕ) → key ≡ node_key unique (row_key columns row) count → bytes ≡ row_bytes row → extent ≡ length (row_bytes row)
    → ◌≡◌ {A = Node} (record { key = key; extent = extent; «data» = bytes }) (node_of_row columns unique count row)
same_node columns unique count row key bytes extent k b e = λ i. record { key = k i; extent = e i; «data» = b i }

pub new_inserted : (nodes after : List Node) (given new : Node) → given ≡ new → after ≡ inserted_if_absent nodes given → extent_in nodes new.key ≡ None → after ≡ inserted nodes new
new_inserted nodes after given new same e none =
    e ∙ ap (inserted_if_absent nodes) same ∙ ap (λ o. if is_some o then nodes else inserted nodes new) (none_extent nodes new.key none)

pub not_inserted : (nodes after : List Node) (given : Node) (size : ℕ) → after ≡ inserted_if_absent nodes given → extent_in nodes given.key ≡ Some size → after ≡ nodes
not_inserted nodes after given size e there =
    e ∙ ap (λ b. if b then nodes else inserted nodes given) (some_extent (find (has_key given.key) nodes) size there)

pub as_put : (table : TempRows) (row : RowValues) (rows : List RowValues) (place : TempPlace) → rows ≡ with_row table.columns row table.rows → place ≡ place_beside (rows_before table.columns row table.rows) table.place
    → record table { rows = rows; place = place } ≡ put_row table row
as_put table row rows place r p = λ i. record table { rows = r i; place = p i }

-- ---- answers

abbrev Answer : Type 0
Answer = Result (Unit {0}) TempFault

pub too_big_is_not_double : {A : Type 0} → ◌≡◌ {A = Answer} (Err TooBig) (Err Double) → A
too_big_is_not_double e = cc

pub memory_is_not_too_big : {A : Type 0} → ◌≡◌ {A = Answer} (Err OutOfMemory) (Err TooBig) → A
memory_is_not_too_big e = cc

pub memory_is_not_double : {A : Type 0} → ◌≡◌ {A = Answer} (Err OutOfMemory) (Err Double) → A
memory_is_not_double e = cc

pub double_is_not_too_big : {A : Type 0} → ◌≡◌ {A = Answer} (Err Double) (Err TooBig) → A
double_is_not_too_big e = cc

pub is_no_error : {A : Type 0} (u : Unit {0}) (fault : TempFault) → ◌≡◌ {A = Answer} (Ok u) (Err fault) → A
is_no_error u fault e = cc
