-- Changes of records keep the counts of long values.
use Rattle.std.proofs.Common.{◌≡◌, ℕ, Bool, true, false, ◌&&◌, cond, List, [], ◌∷◌, ◌++◌, Option, None, map, option_map, refl, sym, ap, subst, ◌∙◌}
use Rattle.std.specs.Prelude.{◌==◌, bytes_eq}
use Rattle.std.proofs.lemmas.Bool.{eqb-true}
use Rattle.common_lemmas.proofs.Numbers.{self_equal}
use Rattle.column_set.specs.RecordValues.{lookup_by_key}
use Rattle.column_set.specs.RowReading.{row_in}
use Rattle.column_set.specs.Rows.{RowFields}
use Rattle.database_state.specs.State.{is_undone}
use Rattle.long_rows.specs.ReferenceCounts.{AreRows, HasCounts, NewestRows, RowBefore, reference_count, with_all_taken, with_change, with_row}
use Rattle.long_rows.specs.RowReferences.{identifiers}
use Rattle.long_value.specs.Values.{Values}
use Rattle.table_trees.specs.StoredTables.{StoredTable, table_long_values, table_nodes}
use Rattle.version_store.specs.HeldChanges.{HeldChange}
use Rattle.stored_variants.specs.CountedValues.{AreCounted, newest_rows, row_before, rows_before}
use Rattle.stored_variants.specs.RecordRows.{row_under}
use Rattle.variant_trees.specs.GoneKeys.{KeepsValues}
use Rattle.stored_variants.proofs.CountedRows.{newest_with, own_row, own_rows_are, same_newest}
use Rattle.table_versions.proofs.CountedRows.{held_after, held_mapped, row_if_of}
use Rattle.stored_variants.proofs.SameRecords.{AreInOrder}

-- what the laws of counts say
abbrev pub ChangeCounts : Type 0
ChangeCounts =
    (values : Values) (bookmark : List ℕ) (is : Option RowFields) (given : List (List ℕ × List ℕ)) (rows : NewestRows) (held : List RowBefore) → AreRows rows → map (λ one. one.0) given ≡ identifiers is
    → HasCounts values rows held → HasCounts (with_all_taken given values) (with_row bookmark is rows) (with_change bookmark rows held)

abbrev pub HeldCounts : Type 0
HeldCounts = (id bookmark : List ℕ) (rows : NewestRows) (held : List RowBefore) → reference_count id rows (held ++ record { bookmark = bookmark; row = None; is_undone = false } ∷ []) ≡ reference_count id rows held

-- the parts that a table's counts are of
counts_as : (values other : Values) (rows others : NewestRows) (held changed : List RowBefore) → other ≡ values → others ≡ rows → changed ≡ held → HasCounts values rows held → HasCounts other others changed
counts_as values other rows others held changed v r h has = subst (λ (x : Values). HasCounts x others changed) (sym v) (subst (λ (x : NewestRows). HasCounts values x changed) (sym r) (subst (λ (x : List RowBefore). HasCounts values rows x) (sym h) has))

append_none : (held : List RowBefore) → held ++ [] ≡ held
append_none [] = refl
append_none (h ∷ held) = ap (λ (rest : List RowBefore). h ∷ rest) (append_none held)

-- ---- a put, or a drop

-- A change of the record under a bookmark of a table: to this row, or none. Its table has the long values that the row was given.
pub record ChangesRow (table : ℕ) (bookmark : List ℕ) (row : Option (List ℕ)) (given : List (List ℕ × List ℕ)) (old new : List StoredTable) : Type 0 where
  pub rows : (other : ℕ) (own : List ℕ) → row_under (table_nodes new other) own ≡ cond ((table == other) && bytes_eq bookmark own) row (row_under (table_nodes old other) own)
  pub values : (other : ℕ) → table_long_values new other ≡ cond (table == other) (with_all_taken given (table_long_values old table)) (table_long_values old other)
  pub names : map (λ one. one.0) given ≡ identifiers (option_map row_in row)

-- the change that is held with the row before it
pub record HoldsRow (table : ℕ) (bookmark : List ℕ) (trees : List StoredTable) (h : HeldChange) : Type 0 where
  pub of : h.table ≡ table
  pub at : h.bookmark ≡ bookmark
  pub before : h.before ≡ row_under (table_nodes trees table) bookmark
  pub stands : is_undone h.status ≡ false

pub changed_counted : ChangeCounts → (table : ℕ) (bookmark : List ℕ) (row : Option (List ℕ)) (given : List (List ℕ × List ℕ)) (old new : List StoredTable) → ChangesRow table bookmark row given old new → AreInOrder old → AreInOrder new
    → (held : List HeldChange) (h : HeldChange) → HoldsRow table bookmark old h → AreCounted old held → AreCounted new (held ++ h ∷ [])
changed_counted law table bookmark row given old new changes sorted sorted_then held h holds counted other = by (table == other) refl
  where
    own : HasCounts (table_long_values new table) (newest_rows (table_nodes new table)) (rows_before table (held ++ h ∷ []))
    own =
        counts_as (with_all_taken given (table_long_values old table)) (table_long_values new table) (with_row bookmark (option_map row_in row) (newest_rows (table_nodes old table))) (newest_rows (table_nodes new table))
        (with_change bookmark (newest_rows (table_nodes old table)) (rows_before table held)) (rows_before table (held ++ h ∷ []))
        (changes.values table ∙ ap (λ (b : Bool). cond b (with_all_taken given (table_long_values old table)) (table_long_values old table)) (self_equal table))
        (newest_with (table_nodes old table) (table_nodes new table) bookmark row (sorted table) (sorted_then table)
        (λ at. changes.rows table at ∙ ap (λ (b : Bool). cond (b && bytes_eq bookmark at) row (row_under (table_nodes old table) at)) (self_equal table)))
        (held_after table held h ∙ ap (λ (last : List RowBefore). rows_before table held ++ last) last)
        (law (table_long_values old table) bookmark (option_map row_in row) given (newest_rows (table_nodes old table)) (rows_before table held) (own_rows_are (table_nodes old table) (sorted table)) changes.names (counted table))
      where
        last : row_if_of table h ≡ record { bookmark = bookmark; row = lookup_by_key bookmark (newest_rows (table_nodes old table)); is_undone = false } ∷ []
        last =
            ap (λ (b : Bool). cond b (row_before h ∷ []) []) (ap (λ (n : ℕ). n == table) holds.of ∙ self_equal table)
            ∙ (λ i. record { bookmark = holds.at i; row = (ap (option_map row_in) holds.before ∙ sym (own_row (table_nodes old table) (sorted table) bookmark)) i; is_undone = holds.stands i } ∷ [])

    by : (b : Bool) → (table == other) ≡ b → HasCounts (table_long_values new other) (newest_rows (table_nodes new other)) (rows_before other (held ++ h ∷ []))
    by true e = subst (λ (n : ℕ). HasCounts (table_long_values new n) (newest_rows (table_nodes new n)) (rows_before n (held ++ h ∷ []))) (eqb-true table other e) own
    by false e =
        counts_as (table_long_values old other) (table_long_values new other) (newest_rows (table_nodes old other)) (newest_rows (table_nodes new other)) (rows_before other held) (rows_before other (held ++ h ∷ []))
        (changes.values other ∙ ap (λ (b : Bool). cond b (with_all_taken given (table_long_values old table)) (table_long_values old other)) e)
        (same_newest (table_nodes new other) (table_nodes old other) (sorted_then other) (sorted other)
        (λ at. changes.rows other at ∙ ap (λ (b : Bool). cond (b && bytes_eq bookmark at) row (row_under (table_nodes old other) at)) e))
        (held_after other held h ∙ ap (λ (b : Bool). rows_before other held ++ cond b (row_before h ∷ []) []) (ap (λ (n : ℕ). n == other) holds.of ∙ e) ∙ append_none (rows_before other held))
        (counted other)

-- ---- what leaves rows and long values

pub same_counted : (old new : List StoredTable) → KeepsValues old new → ((other : ℕ) (own : List ℕ) → row_under (table_nodes new other) own ≡ row_under (table_nodes old other) own) → AreInOrder old → AreInOrder new → (held : List HeldChange)
    → AreCounted old held → AreCounted new held
same_counted old new keeps same sorted sorted_then held counted other =
    counts_as (table_long_values old other) (table_long_values new other) (newest_rows (table_nodes old other)) (newest_rows (table_nodes new other)) (rows_before other held) (rows_before other held)
    (keeps other) (same_newest (table_nodes new other) (table_nodes old other) (sorted_then other) (sorted other) (same other)) refl (counted other)

-- a lock, or a sum, is held without a row
pub held_counted : HeldCounts → (trees : List StoredTable) (held : List HeldChange) (h : HeldChange) → h.before ≡ None → is_undone h.status ≡ false → AreCounted trees held → AreCounted trees (held ++ h ∷ [])
held_counted law trees held h none stands counted other = by (h.table == other) refl
  where
    values : Values
    values = table_long_values trees other

    rows : NewestRows
    rows = newest_rows (table_nodes trees other)

    by : (b : Bool) → (h.table == other) ≡ b → HasCounts values rows (rows_before other (held ++ h ∷ []))
    by true e =
        counts_as values values rows rows (rows_before other held ++ record { bookmark = h.bookmark; row = None; is_undone = false } ∷ []) (rows_before other (held ++ h ∷ [])) refl refl
        (held_after other held h ∙ ap (λ (b : Bool). rows_before other held ++ cond b (row_before h ∷ []) []) e ∙ (λ i. rows_before other held ++ record { bookmark = h.bookmark; row = option_map row_in (none i); is_undone = stands i } ∷ []))
        (λ id. counted other id ∙ sym (law id h.bookmark rows (rows_before other held)))
    by false e =
        counts_as values values rows rows (rows_before other held) (rows_before other (held ++ h ∷ [])) refl refl
        (held_after other held h ∙ ap (λ (b : Bool). rows_before other held ++ cond b (row_before h ∷ []) []) e ∙ append_none (rows_before other held))
        (counted other)

-- held changes that hold the rows that they held
pub mapped_counted : (trees : List StoredTable) (change : HeldChange → HeldChange) → ((h : HeldChange) → ((change h).table ≡ h.table) × (row_before (change h) ≡ row_before h)) → (held : List HeldChange) → AreCounted trees held → AreCounted trees (map change held)
mapped_counted trees change leaves held counted other =
    counts_as (table_long_values trees other) (table_long_values trees other) (newest_rows (table_nodes trees other)) (newest_rows (table_nodes trees other)) (rows_before other held) (rows_before other (map change held)) refl refl
    (held_mapped other change leaves held) (counted other)
