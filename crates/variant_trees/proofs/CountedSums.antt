-- Counts of long values where a row has a sum made in it.
use Rattle.std.proofs.Common.{◌≡◌, ℕ, Bool, true, false, ◌&&◌, cond, List, Option, Some, option_map, refl, sym, ap, ◌∙◌}
use Rattle.std.specs.Prelude.{◌==◌, bytes_eq}
use Rattle.std.proofs.lemmas.Bool.{eqb-true}
use Rattle.column_set.specs.RowReading.{row_in}
use Rattle.btree_inplace.specs.Changes.{with_data_at}
use Rattle.long_rows.specs.ReferenceCounts.{count_of, reference_count}
use Rattle.long_rows.specs.RowReferences.{identifiers, references, times_among}
use Rattle.long_rows.proofs.CountSteps.{rewritten}
use Rattle.table_trees.specs.StoredTables.{StoredTable, table_nodes}
use Rattle.version_store.specs.HeldChanges.{HeldChange}
use Rattle.stored_variants.specs.CountedValues.{AreCounted, newest_rows, rows_before}
use Rattle.stored_variants.specs.RecordRows.{row_in_node, row_under}
use Rattle.stored_variants.proofs.CountedRows.{newest_with, own_row, own_rows_are, same_newest}
use Rattle.stored_variants.proofs.Dropped.{TreeLaws}
use Rattle.variant_trees.proofs.Refilled.{Fills, filled, row_filled}

-- a row that names the same long values in the place of another
pub sum_counted : (laws : TreeLaws) (trees : List StoredTable) (id : ℕ) (bookmark row now : List ℕ) → row_under (table_nodes trees id) bookmark ≡ Some row → row_in_node now ≡ Some now → identifiers (Some (row_in now)) ≡ identifiers (Some (row_in row))
    → Fills laws trees id bookmark now → (held : List HeldChange) → AreCounted trees held → AreCounted (filled trees id bookmark now) held
sum_counted laws trees id bookmark row now under some names fills held counts = λ n k.
    ap (count_of k) (laws.values trees id n (with_data_at (table_nodes trees id) bookmark now)) ∙ counts n k ∙ sym (by n k (id == n) refl)
  where
    new : List StoredTable
    new = filled trees id bookmark now

    row_then : (n : ℕ) (own : List ℕ) (b : Bool) → (id == n) ≡ b → row_under (table_nodes new n) own ≡ cond (b && bytes_eq bookmark own) (row_in_node now) (row_under (table_nodes trees n) own)
    row_then n own b e = row_filled laws trees id bookmark now fills.table fills.node n own ∙ ap (λ t. cond (t && bytes_eq bookmark own) (row_in_node now) (row_under (table_nodes trees n) own)) e

    by : (n : ℕ) (k : List ℕ) (b : Bool) → (id == n) ≡ b → reference_count k (newest_rows (table_nodes new n)) (rows_before n held) ≡ reference_count k (newest_rows (table_nodes trees n)) (rows_before n held)
    by n k true e =
        ap (λ rows. reference_count k rows (rows_before n held)) (newest_with (table_nodes trees n) (table_nodes new n) bookmark (row_in_node now) (fills.sorted n) (fills.sorted_then n) (λ own. row_then n own true e))
        ∙ rewritten k bookmark (option_map row_in (row_in_node now)) (newest_rows (table_nodes trees n)) (rows_before n held) (own_rows_are (table_nodes trees n) (fills.sorted n))
        (ap (λ (o : Option (List ℕ)). references k (option_map row_in o)) some ∙ ap (times_among k) names
        ∙ sym (ap (references k) (own_row (table_nodes trees n) (fills.sorted n) bookmark ∙ ap (option_map row_in) (ap (λ m. row_under (table_nodes trees m) bookmark) (sym (eqb-true id n e)) ∙ under))))
    by n k false e =
        ap (λ rows. reference_count k rows (rows_before n held)) (same_newest (table_nodes new n) (table_nodes trees n) (fills.sorted_then n) (fills.sorted n) (λ own. row_then n own false e))
