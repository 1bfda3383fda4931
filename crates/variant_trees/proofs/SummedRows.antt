-- A row with a sum made in it, and the store with such a row.
use Rattle.std.proofs.Common.{◌≡◌, ℕ, ◌≤◌, ◌+◌, ◌%◌, ◌^◌, Bool, true, false, not, ◌||◌, cond, List, [], ◌∷◌, ◌++◌, length, drop, take, Option, Some, None, map, option_map, refl, sym, ap, subst, ◌∙◌}
use Rattle.std.specs.Prelude.{ℤ, T, ◌==◌, IfSome, IsSomeAnd, IsTrue, bytes_eq, is_some, unwrap_or}
use Rattle.std.specs.Int.{w32, cast_unsigned, from_le_bytes, to_le_bytes}
use Rattle.std.specs.List.{AllByRecursion, list_any, refill}
use Rattle.std.specs.Ordering.{nat_cmp}
use Rattle.std.specs.FinMap.Entries.{is_sorted}
use Rattle.std.proofs.lemmas.Bool.{eqb-true}
use Rattle.btree_inplace.specs.Changes.{with_data_at}
use Rattle.column_set.specs.declared.changes.Change.TheVariants.{Add}
use Rattle.column_set.specs.declared.rows.RowValue.TheVariants.{Here}
use Rattle.column_set.specs.RecordValues.{RecordFields, column_of_id, put_by_number, record_fits, values_of}
use Rattle.column_set.specs.RowReading.{row_in}
use Rattle.column_set.specs.Rows.{RowFields, is_row, row_bytes, row_values_of}
use Rattle.cursor_nav.specs.Places.{are_sorted}
use Rattle.database_state.specs.Changes.{escrow_bytes, escrow_sum, rows_with_sum, tables_after, with_sum}
use Rattle.database_state.specs.Conflicts.{yields_key}
use Rattle.database_state.specs.Lawful.{is_indexable}
use Rattle.database_state.specs.SchemaChanges.{rule_columns}
use Rattle.database_state.specs.Table.{Rows, Table, row_at, primary_first, schema_of, table_with_id, with_row}
use Rattle.index_derive.specs.Schemas.{rule_with_id}
use Rattle.laws_versions.specs.KeptEntries.{has_entry}
use Rattle.index_derive.specs.declared.rules.IndexRule.{IndexRule}
use Rattle.index_derive.specs.declared.rules.Schema.{Schema}
use Rattle.index_derive.specs.Entries.{is_escrow_column, is_legal}
use Rattle.jet_base.specs.declared.ids.ColumnId.{ColumnId}
use Rattle.jet_base.specs.declared.ids.TableId.{TableId}
use Rattle.table_trees.specs.StoredNodes.{bookmark_entries}
use Rattle.table_trees.specs.StoredTables.{StoredTable, index_entries, table_long_values, table_nodes}
use Rattle.laws_versions.proofs.KeyLemmas.IndexNumbers.{all_primary_first, none_of}
use Rattle.laws_versions.proofs.KeyLemmas.SameColumns.{yields_same}
use Rattle.laws_versions.proofs.RecordLemmas.StoredSums.{sum_fits}
use Rattle.version_store.specs.HeldChanges.{HeldChange}
use Rattle.laws_versions.specs.EscrowNumbers.{ColumnsRise, holds_number}
use Rattle.laws_versions.proofs.SumLemmas.StoredSums.{values_seen}
use Rattle.laws_versions.proofs.SumLemmas.VeryRecords.{one_value, sum_holds, sum_is_number}
use Rattle.laws_engine.specs.HeldRecords.{HeldRecord}
use Rattle.laws_engine.specs.Variants.{HoldsVariants}
use Rattle.laws_engine.specs.VersionedTables.{rows_with}
use Rattle.stored_variants.specs.RecordRows.{TableValues, some_before, IsRecordRow, held_record_in, record_of, row_in_node, row_under, rows_of_nodes}
use Rattle.variant_trees.specs.LeftVariants.{is_this}
use Rattle.stored_variants.specs.VersionsKept.{AreKept, AreKeptWith, IsBookmarkOf, IsKeptChange, IsKeptTable, IsRowUnder, IsStoredRule, only_secondary}
use Rattle.stored_variants.specs.VersionsView.{with_newest, with_newest_by}
use Rattle.variant_trees.proofs.ChangedColumns.{SameFields, indexable_then, own_then}
use Rattle.stored_variants.proofs.Dropped.{TreeLaws, same_numbers, same_index}
use Rattle.stored_variants.proofs.RowRecords.{row-fits, row-formed}
use Rattle.stored_variants.proofs.NodeRecords.{record_at}
use Rattle.variant_trees.specs.GoneKeys.{KeepsValues}
use Rattle.variant_trees.proofs.CountedSums.{sum_counted}
use Rattle.stored_variants.specs.CountedValues.{AreCounted}
use Rattle.column_set.specs.declared.changes.Change.{Change}
use Rattle.variant_trees.proofs.RowsSummed.{names_put, record_put, stands_here, whole_put}
use Rattle.variant_trees.proofs.PutBack.{rows_filled}
use Rattle.variant_trees.proofs.Refilled.{Fills, filled, record_filled, room_filled, row_filled, there_filled}
use Rattle.common_lemmas.proofs.Found.{of_found}
use Rattle.common_lemmas.proofs.Options.{same_some}
use Rattle.common_lemmas.proofs.Booleans.{and_left, and_right, impossible}
use Rattle.common_lemmas.proofs.Lists.{all_weaker}
use Rattle.common_lemmas.proofs.Numbers.{same_bytes}
use Rattle.stored_variants.proofs.Tables.{found_number}
use Rattle.variant_trees.proofs.UndoneThere.{fills, node_of_row}
use Rattle.long_rows.specs.RowReferences.{identifiers}
use Rattle.long_rows.specs.WholeRows.{is_whole, record_in}
use Rattle.long_value.specs.Values.{Values}
use Rattle.stored_variants.proofs.SameRecords.{AreInOrder}

-- laws of rows
pub record SumLaws : Type 0 where
  pub read : (row : RowFields) → IsTrue (is_row row) → row_in (row_bytes row) ≡ row
  pub formed : (fields : RowFields) (column : ℕ) (old new : List ℕ) → IsTrue (is_row fields) → row_values_of fields column ≡ Here old ∷ [] → length new ≡ length old → IsTrue (is_row (put_by_number column (Here new ∷ []) fields))
  pub length : (fields : RowFields) (column : ℕ) (old new : List ℕ) → IsTrue (is_row fields) → row_values_of fields column ≡ Here old ∷ [] → length new ≡ length old → length (row_bytes (put_by_number column (Here new ∷ []) fields)) ≡ length (row_bytes fields)

-- ---- no index reads the column

reads_no_sum : (rule : IndexRule) (schema : Schema) → is_legal rule schema ≡ true → list_any (is_escrow_column schema) (rule_columns rule) ≡ false
unfolding is_legal
reads_no_sum rule schema h = turned (list_any (is_escrow_column schema) (rule_columns rule)) (and_right _ _ (and_left _ _ (and_left _ _ (and_left _ _ (and_left _ _ (and_left _ _ h))))))
  where
    turned : (b : Bool) → not b ≡ true → b ≡ false
    turned true e = sym e
    turned false e = refl

elsewhere : (values : RecordFields) (column id : ℕ) (amount : ℤ) → (id == column) ≡ false → values_of (with_sum values column amount) id ≡ values_of values id
elsewhere values column id amount e = values_seen values column id amount ∙ ap (λ b. cond b (escrow_sum (escrow_bytes values column) amount ∷ []) (values_of values id)) e

-- the rules' columns have the same values
same_fields : (t : Table) (column : ℕ) (amount : ℤ) → is_escrow_column (schema_of t) column ≡ true → (values : RecordFields) (rule : IndexRule) → IsStoredRule t rule → SameFields t.columns t (with_sum values column amount) values rule
same_fields t column amount escrow values rule is =
    all_weaker (λ id. is_escrow_column (schema_of t) id ≡ false) (λ id. (column_of_id t.columns id ≡ column_of_id t.columns id) × (values_of (with_sum values column amount) id ≡ values_of values id))
    (λ id plain. (refl, elsewhere values column id amount (apart id plain))) (rule_columns rule)
    (none_of (is_escrow_column (schema_of t)) (rule_columns rule) (reads_no_sum rule (schema_of t) is.legal))
  where
    apart : (id : ℕ) → is_escrow_column (schema_of t) id ≡ false → (id == column) ≡ false
    apart id plain = by (id == column) refl
      where
        by : (b : Bool) → (id == column) ≡ b → b ≡ false
        by false e = refl
        by true e = impossible (sym plain ∙ ap (is_escrow_column (schema_of t)) (eqb-true id column e) ∙ escrow)

all_same : (t : Table) (column : ℕ) (amount : ℤ) → is_escrow_column (schema_of t) column ≡ true → AllByRecursion (IsStoredRule t) t.indexes → (values : RecordFields) → AllByRecursion (SameFields t.columns t (with_sum values column amount) values) t.indexes
all_same t column amount escrow rules values = all_weaker (IsStoredRule t) (SameFields t.columns t (with_sum values column amount) values) (same_fields t column amount escrow values) t.indexes rules

-- ---- the row

rises : (vals : Values) (row : List ℕ) → IsRecordRow vals row → ColumnsRise (record_of vals row)
rises vals row is = holds (is_sorted nat_cmp (record_of vals row)) (and_left (is_sorted nat_cmp (record_of vals row)) _ (row-formed vals (row_in row) is.formed))
  where
    holds : (b : Bool) → b ≡ true → T b
    holds true e = tt
    holds false e = impossible e

-- the row with a sum
abbrev pub sum_bytes : Values → List ℕ → ℕ → ℤ → List ℕ
sum_bytes vals row column amount = row_bytes (put_by_number column (Here (escrow_sum (escrow_bytes (record_of vals row) column) amount) ∷ []) (row_in row))

pub record IsSummed (vals : Values) (t : Table) (bookmark row : List ℕ) (column : ℕ) (amount : ℤ) (now : List ℕ) : Type 0 where
  pub under : IsRowUnder vals t bookmark now
  pub shows : record_of vals now ≡ with_sum (record_of vals row) column amount
  pub long : length now ≡ length row
  pub some : row_in_node now ≡ Some now
  pub names : identifiers (Some (row_in now)) ≡ identifiers (Some (row_in row))

-- the one value of the column
pub its_value : (vals : Values) → SumLaws → (t : Table) (bookmark row : List ℕ) → IsRowUnder vals t bookmark row → (column : ℕ) → is_escrow_column (schema_of t) column ≡ true
    → (row_values_of (row_in row) column ≡ Here (escrow_bytes (record_of vals row) column) ∷ []) × (length (escrow_bytes (record_of vals row) column) ≡ 4)
its_value vals laws t bookmark row is column escrow =
    let one = one_value (record_of vals row) column (is.fits.numbers column escrow) in
    let four : length (escrow_bytes (record_of vals row) column) ≡ 4 = eqb-true (length (escrow_bytes (record_of vals row) column)) 4 (and_left _ _ one.1) in (
      stands_here vals (row_in row) column (escrow_bytes (record_of vals row) column) (row-fits (row_in row) is.fits.row.formed) is.fits.row.whole (ap (λ (o : Option (List (List ℕ))). unwrap_or o []) one.0) four,
      four,
    )

pub summed_row : (vals : Values) → SumLaws → (t : Table) → AllByRecursion (IsStoredRule t) t.indexes → (bookmark row : List ℕ) → IsRowUnder vals t bookmark row → (column : ℕ) → is_escrow_column (schema_of t) column ≡ true → (amount : ℤ) → IsSummed vals t bookmark row column amount (sum_bytes vals row column amount)
summed_row vals laws t rules bookmark row is column escrow amount = record {
  under = record {
    fits = record {
      row = record {
        formed = subst (λ (r : RowFields). IsTrue (is_row r)) (sym read) formed;
        spelled = sym (ap row_bytes read);
        whole = subst (λ (r : RowFields). IsTrue (is_whole vals r)) (sym read) (whole_put vals (row_in row) column new is.fits.row.whole);
        small = subst (λ n. n ≤ 1700) (sym long) is.fits.row.small;
      };
      columns = ap (record_fits t.columns) shows ∙ sum_fits (schema_of t) column amount values (rises vals row is.fits.row) (is.fits.numbers column escrow) is.fits.columns;
      numbers = λ id e. ap (λ (v : RecordFields). holds_number v id) shows ∙ sum_holds values column id amount (is.fits.numbers id e);
    };
    indexable = ap (is_indexable (schema_of t)) shows ∙ indexable_then t.columns t.greatest t.rows t (with_sum values column amount) values same ∙ is.indexable;
    own = subst (λ (v : RecordFields). IsBookmarkOf t v bookmark) (sym shows) (own_then t.columns t.greatest t.rows t (with_sum values column amount) values same bookmark is.own);
  };
  shows = shows;
  long = long;
  some = refl;
  names = ap (λ (r : RowFields). identifiers (Some r)) read ∙ names_put (row_in row) column old new has.0;
}
  where
    values : RecordFields
    values = record_of vals row

    old : List ℕ
    old = escrow_bytes (record_of vals row) column

    new : List ℕ
    new = escrow_sum (escrow_bytes (record_of vals row) column) amount

    has : (row_values_of (row_in row) column ≡ Here (escrow_bytes (record_of vals row) column) ∷ []) × (length (escrow_bytes (record_of vals row) column) ≡ 4)
    has = its_value vals laws t bookmark row is column escrow

    same_size : length new ≡ length old
    same_size = eqb-true (length new) 4 (and_left _ _ (sum_is_number (escrow_bytes (record_of vals row) column) amount)) ∙ sym has.1

    formed : IsTrue (is_row (put_by_number column (Here new ∷ []) (row_in row)))
    formed = laws.formed (row_in row) column old new is.fits.row.formed has.0 same_size

    read : row_in (sum_bytes vals row column amount) ≡ put_by_number column (Here new ∷ []) (row_in row)
    read = laws.read (put_by_number column (Here new ∷ []) (row_in row)) formed

    shows : record_of vals (sum_bytes vals row column amount) ≡ with_sum values column amount
    shows = ap (record_in vals) read ∙ record_put vals (row_in row) column new

    long : length (sum_bytes vals row column amount) ≡ length row
    long = laws.length (row_in row) column old new is.fits.row.formed has.0 same_size ∙ sym (ap length is.fits.row.spelled)

    same : AllByRecursion (SameFields t.columns t (with_sum values column amount) values) t.indexes
    same = all_same t column amount escrow rules values

-- ---- the store

-- what is known of the row that is summed
pub record Sums (longs : TableValues) (laws : TreeLaws) (trees : List StoredTable) (id : ℕ) (bookmark row : List ℕ) (column : ℕ) (amount : ℤ) (now : List ℕ) : Type 0 where
  pub under : row_under (table_nodes trees id) bookmark ≡ Some row
  pub shows : record_of (longs id) now ≡ with_sum (record_of (longs id) row) column amount
  pub some : row_in_node now ≡ Some now
  pub fills : Fills laws trees id bookmark now

was_there : (longs : TableValues) (laws : TreeLaws) (trees : List StoredTable) (id : ℕ) (bookmark row : List ℕ) (column : ℕ) (amount : ℤ) (now : List ℕ) → Sums longs laws trees id bookmark row column amount now → (other : ℕ) (own : List ℕ) → is_this id bookmark other own ≡ true
    → row_at (rows_of_nodes (longs other) (table_nodes trees other)) own ≡ Some (record_of (longs id) row)
was_there longs laws trees id bookmark row column amount now sums other own e =
    (λ i. row_at (rows_of_nodes (longs (sym (eqb-true id other (and_left (id == other) (bytes_eq bookmark own) e)) i)) (table_nodes trees (sym (eqb-true id other (and_left (id == other) (bytes_eq bookmark own) e)) i))) (sym (same_bytes bookmark own (and_right (id == other) (bytes_eq bookmark own) e)) i))
    ∙ record_at (longs id) (table_nodes trees id) (sums.fills.sorted id) bookmark
    ∙ ap (option_map (record_of (longs id))) sums.under

-- what holds alike of the record before the sum and after it
same_test : (longs : TableValues) (laws : TreeLaws) (trees : List StoredTable) (id : ℕ) (bookmark row : List ℕ) (column : ℕ) (amount : ℤ) (now : List ℕ) → Sums longs laws trees id bookmark row column amount now → (test : Option RecordFields → Bool) (other : ℕ) (own : List ℕ)
    → (is_this id bookmark other own ≡ true → test (Some (with_sum (record_of (longs id) row) column amount)) ≡ test (Some (record_of (longs id) row)))
    → test (row_at (rows_of_nodes (longs other) (table_nodes (filled trees id bookmark now) other)) own) ≡ test (row_at (rows_of_nodes (longs other) (table_nodes trees other)) own)
same_test longs laws trees id bookmark row column amount now sums test other own alike =
    ap test (record_filled longs laws trees id bookmark now sums.fills other own) ∙ by (is_this id bookmark other own) refl
  where
    by : (b : Bool) → is_this id bookmark other own ≡ b → test (cond b (option_map (record_of (longs id)) (row_in_node now)) (row_at (rows_of_nodes (longs other) (table_nodes trees other)) own)) ≡ test (row_at (rows_of_nodes (longs other) (table_nodes trees other)) own)
    by true e =
        ap (λ (o : Option (List ℕ)). test (option_map (record_of (longs id)) o)) sums.some
        ∙ ap (λ (v : RecordFields). test (Some v)) sums.shows
        ∙ alike e
        ∙ sym (ap test (was_there longs laws trees id bookmark row column amount now sums other own e))
    by false e = refl

table_summed : (longs : TableValues) (laws : TreeLaws) (trees : List StoredTable) (id : ℕ) (bookmark row : List ℕ) (column : ℕ) (amount : ℤ) (now : List ℕ) → Sums longs laws trees id bookmark row column amount now → (own : Table) → is_escrow_column (schema_of own) column ≡ true → IsRowUnder (longs id) own bookmark now
    → (held : List HeldRecord) (t : Table) → ((id == t.id) ≡ true → own ≡ t) → IsKeptTable trees (longs t.id) (table_nodes trees t.id) held t
    → IsKeptTable (filled trees id bookmark now) (longs t.id) (table_nodes (filled trees id bookmark now) t.id) held t
table_summed longs laws trees id bookmark row column amount now sums own escrow under held t which kept = record {
  rules = kept.rules;
  rows = λ at. subst (λ (o : Option (List ℕ)). IfSome o (IsRowUnder (longs t.id) t at)) (sym (row_filled laws trees id bookmark now sums.fills.table sums.fills.node t.id at)) (row_at_all at (is_this id bookmark t.id at) refl);
  stands = λ at.
      there_filled laws trees id bookmark now sums.fills.table t.id at ∙ kept.stands at
      ∙ sym (ap (λ b. b || some_before is_some t.id at held) (same_test longs laws trees id bookmark row column amount now sums is_some t.id at (λ e. refl)));
  entries = λ index. each index (rule_with_id (schema_of t) index) refl (kept.entries index);
}
  where
    row_at_all : (at : List ℕ) (b : Bool) → is_this id bookmark t.id at ≡ b → IfSome (cond b (row_in_node now) (row_under (table_nodes trees t.id) at)) (IsRowUnder (longs t.id) t at)
    row_at_all at true e =
        subst (λ (o : Option (List ℕ)). IfSome o (IsRowUnder (longs t.id) t at)) (sym sums.some)
        (subst (λ (n : ℕ). IsRowUnder (longs n) t at now) (eqb-true id t.id (and_left (id == t.id) (bytes_eq bookmark at) e))
        (subst (λ (x : Table). IsRowUnder (longs id) x at now) (which (and_left (id == t.id) (bytes_eq bookmark at) e))
        (subst (λ (b : List ℕ). IsRowUnder (longs id) own b now) (same_bytes bookmark at (and_right (id == t.id) (bytes_eq bookmark at) e)) under)))
    row_at_all at false e = kept.rows at

    each : (index : ℕ) (o : Option IndexRule) → rule_with_id (schema_of t) index ≡ o
        → IfSome (only_secondary o) (λ rule. HoldsVariants (rows_of_nodes (longs t.id) (table_nodes trees t.id)) held rule (schema_of t) t.id (index_entries trees t.id index))
        → IfSome (only_secondary o) (λ rule. HoldsVariants (rows_of_nodes (longs t.id) (table_nodes (filled trees id bookmark now) t.id)) held rule (schema_of t) t.id (index_entries (filled trees id bookmark now) t.id index))
    each index None e h = tt
    each index (Some rule) e h = by rule.flags.primary h
      where
        alike : (key : List ℕ) → (id == t.id) ≡ true → yields_key rule (schema_of t) key (Some (with_sum (record_of (longs id) row) column amount)) ≡ yields_key rule (schema_of t) key (Some (record_of (longs id) row))
        alike key here =
            let escrow_here : is_escrow_column (schema_of t) column ≡ true = subst (λ (x : Table). is_escrow_column (schema_of x) column ≡ true) (which here) escrow in
            yields_same rule (schema_of t) (schema_of t) key (with_sum (record_of (longs id) row) column amount) (record_of (longs id) row)
            (of_found (SameFields t.columns t (with_sum (record_of (longs id) row) column amount) (record_of (longs id) row)) (λ r. r.id.0 == index) (primary_first t.indexes) rule e
            (all_primary_first (SameFields t.columns t (with_sum (record_of (longs id) row) column amount) (record_of (longs id) row)) t.indexes (all_same t column amount escrow_here kept.rules (record_of (longs id) row))))

        by : (b : Bool) → IfSome (cond b None (Some rule)) (λ rule. HoldsVariants (rows_of_nodes (longs t.id) (table_nodes trees t.id)) held rule (schema_of t) t.id (index_entries trees t.id index))
            → IfSome (cond b None (Some rule)) (λ rule. HoldsVariants (rows_of_nodes (longs t.id) (table_nodes (filled trees id bookmark now) t.id)) held rule (schema_of t) t.id (index_entries (filled trees id bookmark now) t.id index))
        by true h = tt
        by false h = λ key at.
            ap (has_entry key at) (same_index laws trees id (with_data_at (table_nodes trees id) bookmark now) t.id index) ∙ h key at
            ∙ sym (ap (λ b. b || some_before (yields_key rule (schema_of t) key) t.id at held)
            (same_test longs laws trees id bookmark row column amount now sums (yields_key rule (schema_of t) key) t.id at (λ e. alike key (and_left (id == t.id) (bytes_eq bookmark at) e))))

pub sum_kept : (longs : TableValues) (laws : TreeLaws) (trees : List StoredTable) (id : ℕ) (bookmark row : List ℕ) (column : ℕ) (amount : ℤ) (now : List ℕ) → Sums longs laws trees id bookmark row column amount now → (tables : List Table) (own : Table) → table_with_id tables id ≡ Some own
    → is_escrow_column (schema_of own) column ≡ true → IsRowUnder (longs id) own bookmark now → (held : List HeldChange) → AreKeptWith longs tables trees held → AreKeptWith longs tables (filled trees id bookmark now) held
sum_kept longs laws trees id bookmark row column amount now sums tables own named escrow under held kept = record {
  plain = kept.plain;
  numbers = same_numbers id (with_data_at (table_nodes trees id) bookmark now) trees ∙ kept.numbers;
  each = λ other. each other (table_with_id tables other) refl (kept.each other);
  changes = all_weaker (IsKeptChange longs tables trees) (IsKeptChange longs tables (filled trees id bookmark now)) (room_filled longs laws trees id bookmark now sums.fills.table tables) held kept.changes;
}
  where
    each : (other : ℕ) (o : Option Table) → table_with_id tables other ≡ o → IfSome o (IsKeptTable trees (longs other) (table_nodes trees other) (map (held_record_in longs) held)) → IfSome o (IsKeptTable (filled trees id bookmark now) (longs other) (table_nodes (filled trees id bookmark now) other) (map (held_record_in longs) held))
    each other None e is = tt
    each other (Some t) e is =
        let number : t.id ≡ other = found_number other tables t e in
        subst (λ (n : ℕ). IsKeptTable (filled trees id bookmark now) (longs n) (table_nodes (filled trees id bookmark now) n) (map (held_record_in longs) held) t) number
        (table_summed longs laws trees id bookmark row column amount now sums own escrow under (map (held_record_in longs) held) t
        (λ here. same_some own t (sym named ∙ ap (table_with_id tables) (eqb-true id t.id here ∙ number) ∙ e))
        (subst (λ (n : ℕ). IsKeptTable trees (longs n) (table_nodes trees n) (map (held_record_in longs) held) t) (sym number) is))

-- ---- what it shows

pub sum_shown : (longs : TableValues) (laws : TreeLaws) (trees : List StoredTable) (table : TableId) (bookmark row : List ℕ) (column : ColumnId) (amount : ℤ) (now : List ℕ) → Sums longs laws trees table.0 bookmark row column.0 amount now → (tables : List Table)
    → map (with_newest_by longs (filled trees table.0 bookmark now)) tables ≡ tables_after (map (with_newest_by longs trees) tables) (Add table bookmark column amount)
sum_shown longs laws trees table bookmark row column amount now sums [] = refl
sum_shown longs laws trees table bookmark row column amount now sums (t ∷ tables) =
    λ i. (ap (λ (rows : Rows). record t { rows = rows }) (rows_filled longs laws trees table.0 bookmark now sums.fills t.id) ∙ by (t.id == table.0) refl) i ∷ sum_shown longs laws trees table bookmark row column amount now sums tables i
  where
    rows : Rows
    rows = rows_of_nodes (longs t.id) (table_nodes trees t.id)

    newest : (t.id == table.0) ≡ true → row_at rows bookmark ≡ Some (record_of (longs table.0) row)
    newest e =
        ap (λ (n : ℕ). row_at (rows_of_nodes (longs n) (table_nodes trees n)) bookmark) (eqb-true t.id table.0 e)
        ∙ record_at (longs table.0) (table_nodes trees table.0) (sums.fills.sorted table.0) bookmark ∙ ap (option_map (record_of (longs table.0))) sums.under

    by : (b : Bool) → (t.id == table.0) ≡ b → record t { rows = cond b (rows_with rows bookmark (option_map (record_of (longs table.0)) (row_in_node now))) rows }
        ≡ cond b (record (with_newest_by longs trees t) { rows = rows_with_sum rows bookmark (row_at rows bookmark) column.0 amount }) (with_newest_by longs trees t)
    by true e =
        ap (λ (x : Rows). record t { rows = x })
        (ap (λ (o : Option (List ℕ)). rows_with rows bookmark (option_map (record_of (longs table.0)) o)) sums.some
        ∙ ap (λ (v : RecordFields). with_row rows bookmark v) sums.shows
        ∙ sym (ap (λ (o : Option RecordFields). rows_with_sum rows bookmark o column.0 amount) (newest e)))
    by false e = refl

-- where there is no record nothing changes
pub no_sum_shown : (longs : TableValues) (trees : List StoredTable) → ((table : ℕ) → are_sorted (bookmark_entries (table_nodes trees table)) ≡ true) → (table : TableId) (bookmark : List ℕ) (column : ColumnId) (amount : ℤ) → row_under (table_nodes trees table.0) bookmark ≡ None → (tables : List Table)
    → map (with_newest_by longs trees) tables ≡ tables_after (map (with_newest_by longs trees) tables) (Add table bookmark column amount)
no_sum_shown longs trees sorted table bookmark column amount none [] = refl
no_sum_shown longs trees sorted table bookmark column amount none (t ∷ tables) = λ i. by (t.id == table.0) refl i ∷ no_sum_shown longs trees sorted table bookmark column amount none tables i
  where
    rows : Rows
    rows = rows_of_nodes (longs t.id) (table_nodes trees t.id)

    newest : (t.id == table.0) ≡ true → row_at rows bookmark ≡ None
    newest e =
        ap (λ (n : ℕ). row_at (rows_of_nodes (longs n) (table_nodes trees n)) bookmark) (eqb-true t.id table.0 e)
        ∙ record_at (longs table.0) (table_nodes trees table.0) (sorted table.0) bookmark ∙ ap (option_map (record_of (longs table.0))) none

    by : (b : Bool) → (t.id == table.0) ≡ b → with_newest_by longs trees t ≡ cond b (record (with_newest_by longs trees t) { rows = rows_with_sum rows bookmark (row_at rows bookmark) column.0 amount }) (with_newest_by longs trees t)
    by true e = sym (ap (λ (o : Option RecordFields). record (with_newest_by longs trees t) { rows = rows_with_sum rows bookmark o column.0 amount }) (newest e))
    by false e = refl

-- ---- what was written

took : (front rest : List ℕ) → take (length front) (front ++ rest) ≡ front
took [] rest = refl
took (x ∷ front) rest = ap (λ (xs : List ℕ). x ∷ xs) (took front rest)

-- a buffer that is written over whole
pub written_over : (was now : List ℕ) → length now ≡ length was → refill (length was) was now ≡ now
written_over was now e = ap (λ n. take n (now ++ drop (length now) was)) (sym e) ∙ took now (drop (length now) was)

-- The row in a node was written over with the sum of its number and another.
abbrev pub IsWritten : List ℕ → ℕ → ℕ → List ℕ → Type 0
IsWritten row column addend now =
    (number : List ℕ) → row_values_of (row_in row) column ≡ Here number ∷ [] → length number ≡ 4 → now ≡ row_bytes (put_by_number column (Here (to_le_bytes w32 ((from_le_bytes w32 number + addend) % 2 ^ 32)) ∷ []) (row_in row))

-- what the sum leaves
pub record IsDone (tables : List Table) (trees other : List StoredTable) (held : List HeldChange) (made : Change) : Type 0 where
  pub kept : AreKept tables other held
  pub shown : map (with_newest other) tables ≡ tables_after (map (with_newest trees) tables) made
  pub counts : AreCounted trees held → AreCounted other held

pub sum_done : SumLaws → (laws : TreeLaws) (trees other : List StoredTable) (table : TableId) (bookmark row : List ℕ) (column : ColumnId) (addend : ℕ) (now : List ℕ) → row_under (table_nodes trees table.0) bookmark ≡ Some row
    → AreInOrder trees → AreInOrder other → other ≡ filled trees table.0 bookmark now → IsWritten row column.0 addend now → (tables : List Table) (held : List HeldChange) → IsSomeAnd (table_with_id tables table.0) (λ t. is_escrow_column (schema_of t) column.0 ≡ true)
    → AreKeptWith (table_long_values trees) tables trees held → (amount : ℤ) → cast_unsigned w32 amount ≡ addend → IsDone tables trees other held (Add table bookmark column amount)
sum_done rows laws trees other table bookmark row column addend now under sorted sorted_then done written tables held named kept amount is = by (table_with_id tables table.0) refl named (kept.each table.0)
  where
    by : (o : Option Table) → table_with_id tables table.0 ≡ o → IsSomeAnd o (λ t. is_escrow_column (schema_of t) column.0 ≡ true) → IfSome o (IsKeptTable trees (table_long_values trees table.0) (table_nodes trees table.0) (map (held_record_in (table_long_values trees)) held))
        → IsDone tables trees other held (Add table bookmark column amount)
    by None e escrow its = absurd escrow
    by (Some own) e escrow its =
        let under_own : IsRowUnder (table_long_values trees table.0) own bookmark row = subst (λ (o : Option (List ℕ)). IfSome o (IsRowUnder (table_long_values trees table.0) own bookmark)) under (its.rows bookmark) in
        let has = its_value (table_long_values trees table.0) rows own bookmark row under_own column.0 escrow in
        let now_is : now ≡ sum_bytes (table_long_values trees table.0) row column.0 amount =
        written (escrow_bytes (record_of (table_long_values trees table.0) row) column.0) has.0 has.1
        ∙ ap (λ n. row_bytes (put_by_number column.0 (Here (to_le_bytes w32 ((from_le_bytes w32 (escrow_bytes (record_of (table_long_values trees table.0) row) column.0) + n) % 2 ^ 32)) ∷ []) (row_in row))) (sym is) in
        let summed : IsSummed (table_long_values trees table.0) own bookmark row column.0 amount now = subst (IsSummed (table_long_values trees table.0) own bookmark row column.0 amount) (sym now_is) (summed_row (table_long_values trees table.0) rows own its.rules bookmark row under_own column.0 escrow amount) in
        let sums : Sums (table_long_values trees) laws trees table.0 bookmark row column.0 amount now = record {
          under = under;
          shows = summed.shows;
          some = summed.some;
          fills = fills laws trees table.0 bookmark now (node_of_row (table_nodes trees table.0) bookmark (ap is_some under)) sorted (λ n. subst (λ (x : List StoredTable). are_sorted (bookmark_entries (table_nodes x n)) ≡ true) done (sorted_then n));
        } in
        let same : KeepsValues trees (filled trees table.0 bookmark now) = λ n. laws.values trees table.0 n (with_data_at (table_nodes trees table.0) bookmark now) in
        subst (λ (x : List StoredTable). IsDone tables trees x held (Add table bookmark column amount)) (sym done) (record {
          kept = subst (λ (longs : TableValues). AreKeptWith longs tables (filled trees table.0 bookmark now) held) (λ i n. sym (same n) i) (sum_kept (table_long_values trees) laws trees table.0 bookmark row column.0 amount now sums tables own e escrow summed.under held kept);
          shown =
              ap (λ (longs : TableValues). map (with_newest_by longs (filled trees table.0 bookmark now)) tables) (λ i n. same n i)
              ∙ sum_shown (table_long_values trees) laws trees table bookmark row column amount now sums tables;
          counts = sum_counted laws trees table.0 bookmark row now under summed.some summed.names sums.fills held;
        })
