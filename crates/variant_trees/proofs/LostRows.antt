-- Rows and nodes without the values of a column.
use Rattle.std.proofs.Common.{◌≡◌, ℕ, ◌≤◌, Bool, true, false, ◌||◌, cond, List, [], ◌∷◌, length, Option, Some, None, find, map, option_map, refl, sym, ap, subst, ◌∙◌, arith}
use Rattle.std.specs.Prelude.{◌==◌, IfSome, IsTrue, is_some, option_and_then, unwrap_or}
use Rattle.std.specs.List.{AllByRecursion, list_all}
use Rattle.btree_inplace.specs.Order.{get_in, has_key}
use Rattle.column_set.specs.RecordValues.{RecordFields, remove_by_number, values_of, with_values}
use Rattle.column_set.specs.RowReading.{row_in}
use Rattle.column_set.specs.Rows.{RowFields, is_row, row_bytes}
use Rattle.cursor_nav.specs.Places.{are_sorted, pair_lt}
use Rattle.database_state.specs.Table.{row_at}
use Rattle.long_rows.specs.WholeRows.{StandsFor, is_whole, record_in}
use Rattle.page_image.specs.Page.{Node}
use Rattle.common_lemmas.proofs.Numbers.{equal_bytes}
use Rattle.std.specs.Cmp.Lexicographic.{texts_ties}
use Rattle.std.proofs.lemmas.Bool.{false_from_ne_true}
use Rattle.common_lemmas.proofs.Booleans.{and_left, and_right, impossible}
use Rattle.table_trees.specs.StoredNodes.{bookmark_entries}
use Rattle.laws_versions.proofs.KeyLemmas.SchemaKeys.{other_values}
use Rattle.variant_trees.specs.LostColumns.{HoldsRecord, node_without, row_without}
use Rattle.stored_variants.specs.RecordRows.{IsRecordRow, record_of, row_in_node, row_under, rows_of_nodes, with_record}
use Rattle.stored_variants.proofs.NodeRecords.{apart, key_is, record_at}
use Rattle.variant_trees.proofs.UndoneThere.{row_some}
use Rattle.long_value.specs.Values.{Values}

-- ---- rows

-- laws of rows without the values of a column
pub record RowLaws : Type 0 where
  pub read : (row : RowFields) → IsTrue (is_row row) → row_in (row_bytes row) ≡ row
  pub formed : (fields : RowFields) (column : ℕ) → IsTrue (is_row fields) → IsTrue (is_row (remove_by_number column fields))
  pub shorter : (fields : RowFields) (column : ℕ) → length (row_bytes (remove_by_number column fields)) ≤ length (row_bytes fields)
  pub shown : (values : Values) (row : RowFields) (column : ℕ) → record_in values (remove_by_number column row) ≡ with_values (record_in values row) column []
  pub stand : (values : Values) (row : RowFields) (fields : RecordFields) (column : ℕ) → StandsFor values row fields → StandsFor values (remove_by_number column row) (with_values fields column [])

pub read_without : (vals : Values) → RowLaws → (column : ℕ) (row : List ℕ) → IsRecordRow vals row → row_in (row_without column row) ≡ remove_by_number column (row_in row)
read_without vals laws column row is = laws.read (remove_by_number column (row_in row)) (laws.formed (row_in row) column is.formed)

pub record_without : (vals : Values) → RowLaws → (column : ℕ) (row : List ℕ) → IsRecordRow vals row → record_of vals (row_without column row) ≡ remove_by_number column (record_of vals row)
record_without vals laws column row is = ap (record_in vals) (read_without vals laws column row is) ∙ laws.shown vals (row_in row) column

pub row_is : (vals : Values) → RowLaws → (column : ℕ) (row : List ℕ) → IsRecordRow vals row → IsRecordRow vals (row_without column row)
row_is vals laws column row is = record {
  formed = ap is_row (read_without vals laws column row is) ∙ laws.formed (row_in row) column is.formed;
  spelled = sym (ap row_bytes (read_without vals laws column row is));
  whole =
      subst (λ (r : RowFields). IsTrue (is_whole vals r)) (sym (read_without vals laws column row is))
      (laws.stand vals (row_in row) (record_of vals row) column (record { formed = is.formed; whole = is.whole; shown = refl })).whole;
  small = omega (arith, laws.shorter (row_in row) column, ap length is.spelled, is.small);
}

-- ---- nodes

pub rows_lost : (vals : Values) → RowLaws → (column : ℕ) (nodes : List Node) → AllByRecursion (HoldsRecord vals) nodes → rows_of_nodes vals (map (node_without column) nodes) ≡ map (λ row. (row.0, with_values row.1 column [])) (rows_of_nodes vals nodes)
rows_lost vals laws column [] all = refl
rows_lost vals laws column (n ∷ nodes) all =
    (λ i. (n.key, record_without vals laws column n.data all.0 i) ∷ rows_lost vals laws column nodes all.1 i)
    ∙ ap (λ (o : Option (List ℕ)). map (λ row. (row.0, with_values row.1 column [])) (with_record vals n.key o (rows_of_nodes vals nodes))) (sym (row_some vals n.data all.0))

pub got_without : (column : ℕ) (nodes : List Node) (own : List ℕ) → get_in (map (node_without column) nodes) own ≡ option_map (row_without column) (get_in nodes own)
got_without column [] own = refl
got_without column (n ∷ nodes) own = by (has_key own n) (got_without column nodes own)
  where
    by : (b : Bool) → get_in (map (node_without column) nodes) own ≡ option_map (row_without column) (get_in nodes own)
        → option_map (λ (n : Node). n.data) (cond b (Some (node_without column n)) (find (has_key own) (map (node_without column) nodes))) ≡ option_map (row_without column) (option_map (λ (n : Node). n.data) (cond b (Some n) (find (has_key own) nodes)))
    by true rest = refl
    by false rest = rest

pub got_record : (vals : Values) (nodes : List Node) (own : List ℕ) → AllByRecursion (HoldsRecord vals) nodes → IfSome (get_in nodes own) (IsRecordRow vals)
got_record vals [] own all = tt
got_record vals (n ∷ nodes) own all = by (has_key own n) (got_record vals nodes own all.1)
  where
    by : (b : Bool) → IfSome (get_in nodes own) (IsRecordRow vals) → IfSome (option_map (λ (n : Node). n.data) (cond b (Some n) (find (has_key own) nodes))) (IsRecordRow vals)
    by true rest = all.0
    by false rest = rest

pub under_without : (vals : Values) (column : ℕ) (nodes : List Node) (own : List ℕ) → AllByRecursion (HoldsRecord vals) nodes → row_under (map (node_without column) nodes) own ≡ option_map (row_without column) (row_under nodes own)
under_without vals column nodes own all = ap (option_and_then row_in_node) (got_without column nodes own) ∙ by (get_in nodes own) (got_record vals nodes own all)
  where
    by : (o : Option (List ℕ)) → IfSome o (IsRecordRow vals) → option_and_then row_in_node (option_map (row_without column) o) ≡ option_map (row_without column) (option_and_then row_in_node o)
    by None is = refl
    by (Some row) is = ap (option_map (row_without column)) (sym (row_some vals row is))

-- ---- each node has a record, once no change is held

found_own : (nodes : List Node) → are_sorted (bookmark_entries nodes) ≡ true → AllByRecursion (λ n. find (has_key n.key) nodes ≡ Some n) nodes
found_own [] sorted = tt
found_own (n ∷ nodes) sorted = (
  ap (λ b. cond b (Some n) (find (has_key n.key) nodes)) (sym (texts_ties n.key n.key) ∙ equal_bytes n.key n.key refl),
  behind nodes (and_left _ _ sorted) (found_own nodes (and_right (list_all (pair_lt (n.key, n.key)) (bookmark_entries nodes)) _ sorted)),
)
  where
    behind : (later : List Node) → list_all (pair_lt (n.key, n.key)) (bookmark_entries later) ≡ true → AllByRecursion (λ m. find (has_key m.key) nodes ≡ Some m) later → AllByRecursion (λ m. find (has_key m.key) (n ∷ nodes) ≡ Some m) later
    behind [] low all = tt
    behind (m ∷ later) low all = (
      ap (λ b. cond b (Some n) (find (has_key m.key) nodes)) (false_from_ne_true (has_key m.key n) (λ e. apart n.key m.key (and_left (pair_lt (n.key, n.key) (m.key, m.key)) _ low) (key_is n.key m.key e))) ∙ all.0,
      behind later (and_right (pair_lt (n.key, n.key) (m.key, m.key)) _ low) all.1,
    )

pub all_records : (vals : Values) (nodes : List Node) → are_sorted (bookmark_entries nodes) ≡ true → ((own : List ℕ) → is_some (get_in nodes own) ≡ (is_some (row_at (rows_of_nodes vals nodes) own) || false))
    → ((own : List ℕ) → IfSome (row_under nodes own) (IsRecordRow vals)) → AllByRecursion (HoldsRecord vals) nodes
all_records vals nodes sorted stands rows = each nodes (found_own nodes sorted)
  where
    unless : (b : Bool) → (b || false) ≡ b
    unless true = refl
    unless false = refl

    record_of_bytes : (bytes : List ℕ) → is_some (option_map (record_of vals) (row_in_node bytes)) ≡ true → IfSome (row_in_node bytes) (IsRecordRow vals) → IsRecordRow vals bytes
    record_of_bytes [] e is = impossible e
    record_of_bytes (byte ∷ bytes) e is = is

    own : (n : Node) → find (has_key n.key) nodes ≡ Some n → IsRecordRow vals n.data
    own n found =
        let got : get_in nodes n.key ≡ Some n.data = ap (option_map (λ (m : Node). m.data)) found in
        record_of_bytes n.data
        (ap (λ (o : Option (List ℕ)). is_some (option_map (record_of vals) (option_and_then row_in_node o))) (sym got)
        ∙ sym (ap is_some (record_at vals nodes sorted n.key)) ∙ sym (unless (is_some (row_at (rows_of_nodes vals nodes) n.key))) ∙ sym (stands n.key) ∙ ap is_some got)
        (subst (λ (o : Option (List ℕ)). IfSome (option_and_then row_in_node o) (IsRecordRow vals)) got (rows n.key))

    each : (later : List Node) → AllByRecursion (λ n. find (has_key n.key) nodes ≡ Some n) later → AllByRecursion (HoldsRecord vals) later
    each [] all = tt
    each (n ∷ later) all = (own n all.0, each later all.1)

-- ---- records

pub values_elsewhere : (column : ℕ) (values : RecordFields) (id : ℕ) → (id == column) ≡ false → values_of (remove_by_number column values) id ≡ values_of values id
values_elsewhere column values id apart = ap (λ (o : Option (List (List ℕ))). unwrap_or o []) (other_values values column id apart)
