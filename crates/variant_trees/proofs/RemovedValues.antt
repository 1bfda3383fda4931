-- The rows of a table lose the values of a column, one after the other.
use Rattle.std.proofs.Common.{◌≡◌, ℕ, Bool, true, false, cond, List, [], Option, Some, None, refl, sym, ap, subst, ◌∙◌}
use Rattle.std.specs.Prelude.{IfSome, bytes_eq, option_and_then}
use Rattle.std.specs.List.{AllByRecursion}
use Rattle.btree_inplace.specs.Changes.{with_data_at}
use Rattle.btree_inplace.specs.Order.{get_in}
use Rattle.column_set.specs.RecordValues.{remove_by_number}
use Rattle.column_set.specs.RowReading.{row_in}
use Rattle.column_set.specs.Rows.{RowFields}
use Rattle.long_rows.specs.ReferenceCounts.{HasCounts, NamesNoOther}
use Rattle.long_value.specs.Values.{Values}
use Rattle.page_image.specs.Page.{Node}
use Rattle.table_trees.specs.StoredTables.{StoredTable, table_long_values, table_nodes}
use Rattle.stored_variants.specs.CountedValues.{newest_rows}
use Rattle.stored_variants.specs.RecordRows.{IsRecordRow, record_of, row_in_node, row_under}
use Rattle.variant_trees.specs.LostColumns.{GivesUp, HasNodes, HoldsRecord, LosesValues, row_without}
use Rattle.variant_trees.proofs.LostRows.{RowLaws, got_record, read_without, record_without, row_is}
use Rattle.variant_trees.proofs.RewrittenRows.{ReplacedLaw, under_replaced}
use Rattle.variant_trees.proofs.UndoneThere.{row_some}

-- A row that can be read stands for the record that it stood for.
abbrev pub Stands : Values → Values → List ℕ → Type 0
Stands vals now row = IsRecordRow now row × (record_of now row ≡ record_of vals row)

-- ---- before the first

rows_hold : (vals : Values) (nodes : List Node) (own : List ℕ) → AllByRecursion (HoldsRecord vals) nodes → IfSome (row_under nodes own) (Stands vals vals)
rows_hold vals nodes own all = by (get_in nodes own) (got_record vals nodes own all)
  where
    by : (o : Option (List ℕ)) → IfSome o (IsRecordRow vals) → IfSome (option_and_then row_in_node o) (Stands vals vals)
    by None is = tt
    by (Some row) is = subst (λ (o : Option (List ℕ)). IfSome o (Stands vals vals)) (sym (row_some vals row is)) (is, refl)

pub none_lost : (id : ℕ) (trees : List StoredTable) → AllByRecursion (HoldsRecord (table_long_values trees id)) (table_nodes trees id) → HasCounts (table_long_values trees id) (newest_rows (table_nodes trees id)) [] → LosesValues id trees trees
none_lost id trees all counts = record {
  others = λ other apart. refl;
  none = λ x none. none;
  counts = counts;
  rows = λ own. rows_hold (table_long_values trees id) (table_nodes trees id) own all;
}

-- ---- one more

-- the row of the next node, as it is read now
pub read_now : (id : ℕ) (trees now : List StoredTable) (bookmark bytes : List ℕ) → LosesValues id trees now → get_in (table_nodes now id) bookmark ≡ Some bytes → row_in_node bytes ≡ Some bytes → Stands (table_long_values trees id) (table_long_values now id) bytes
read_now id trees now bookmark bytes lost got some =
    subst (λ (o : Option (List ℕ)). IfSome o (Stands (table_long_values trees id) (table_long_values now id))) (ap (option_and_then row_in_node) got ∙ some) (lost.rows bookmark)

pub fewer_names : (vals : Values) → RowLaws → ((row : RowFields) (column : ℕ) → NamesNoOther (Some (remove_by_number column row)) (Some row)) → (column : ℕ) (row : List ℕ) → IsRecordRow vals row → NamesNoOther (Some (row_in (row_without column row))) (Some (row_in row))
fewer_names vals laws names column row is = subst (λ (r : RowFields). NamesNoOther (Some r) (Some (row_in row))) (sym (read_without vals laws column row is)) (names (row_in row) column)

-- without the column it stands for what it stood for
without_stands : (vals now : Values) → RowLaws → (column : ℕ) (row : List ℕ) → IsRecordRow vals row → Stands vals now row → Stands vals now (row_without column row)
without_stands vals now laws column row was is = (
  row_is now laws column row is.0,
  record_without now laws column row is.0 ∙ ap (remove_by_number column) is.1 ∙ sym (record_without vals laws column row was),
)

pub one_lost : RowLaws → ReplacedLaw → (id column : ℕ) (trees now later : List StoredTable) (bookmark bytes at text : List ℕ) → IsRecordRow (table_long_values trees id) bytes → LosesValues id trees now → get_in (table_nodes now id) bookmark ≡ Some bytes
    → at ≡ bookmark → text ≡ row_without column bytes → HasNodes id (with_data_at (table_nodes now id) at text) now later → GivesUp id now later → LosesValues id trees later
one_lost laws law id column trees now later bookmark bytes at text was lost got at_is text_is h gives = record {
  others = λ other apart. gives.others other apart ∙ lost.others other apart;
  none = λ x none. gives.none x (lost.none x none);
  counts = gives.counts;
  rows = λ own. by own (row_under (table_nodes later id) own) refl;
}
  where
    vals : Values
    vals = table_long_values trees id

    v : Values
    v = table_long_values now id

    some : row_in_node bytes ≡ Some bytes
    some = row_some vals bytes was

    stands : Stands vals v text
    stands = subst (Stands vals v) (sym text_is) (without_stands vals v laws column bytes was (read_now id trees now bookmark bytes lost got some))

    there : row_under (table_nodes now id) at ≡ Some bytes
    there = ap (row_under (table_nodes now id)) at_is ∙ ap (option_and_then row_in_node) got ∙ some

    then : (own : List ℕ) → row_under (table_nodes later id) own ≡ cond (bytes_eq at own) (Some text) (row_under (table_nodes now id) own)
    then own = ap (λ (nodes : List Node). row_under nodes own) h.nodes ∙ under_replaced law (table_nodes now id) at bytes text there (row_some v text stands.0) own

    each : (own : List ℕ) (b : Bool) → IfSome (cond b (Some text) (row_under (table_nodes now id) own)) (Stands vals v)
    each own true = stands
    each own false = lost.rows own

    by : (own : List ℕ) (o : Option (List ℕ)) → row_under (table_nodes later id) own ≡ o → IfSome o (Stands vals (table_long_values later id))
    by own None e = tt
    by own (Some row) e =
        let is : Stands vals v row = subst (λ (o : Option (List ℕ)). IfSome o (Stands vals v)) (sym (then own) ∙ e) (each own (bytes_eq at own)) in
        let up = gives.rows own row e is.0 in
        (up.0, up.1 ∙ is.1)
