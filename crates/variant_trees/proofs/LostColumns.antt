-- A column goes, with its values in all records.
use Rattle.std.proofs.Common.{◌≢◌, ◌≡◌, ℕ, Bool, true, false, not, ◌||◌, cond, List, [], ◌∷◌, Option, Some, None, map, option_map, refl, sym, ap, subst, ◌∙◌}
use Rattle.std.specs.Prelude.{IsTrue, ◌==◌, filter, IfSome, IsSomeAnd, is_some}
use Rattle.std.specs.List.{AllByRecursion, list_any}
use Rattle.std.proofs.lemmas.Bool.{eqb-true}
use Rattle.btree_inplace.specs.Order.{get_in}
use Rattle.column_set.specs.declared.columns.Column.{Column}
use Rattle.column_set.specs.RecordValues.{RecordFields, column_of_id, record_fits, remove_by_number, values_of, with_values}
use Rattle.cursor_nav.specs.Places.{are_sorted}
use Rattle.database_state.specs.Conflicts.{yields_key}
use Rattle.database_state.specs.Lawful.{is_indexable}
use Rattle.database_state.specs.SchemaChanges.{tables_after_step, rule_columns, without_column}
use Rattle.database_state.specs.Table.{Rows, Table, primary_first, row_at, schema_of, table_with_id, with_table}
use Rattle.index_derive.specs.Schemas.{rule_with_id}
use Rattle.laws_versions.specs.KeptEntries.{has_entry}
use Rattle.index_derive.specs.declared.rules.IndexRule.{IndexRule}
use Rattle.index_derive.specs.declared.schema_calls.SchemaStep.{SchemaStep}
use Rattle.index_derive.specs.declared.schema_calls.SchemaStep.TheVariants as step
use Rattle.index_derive.specs.Entries.{column_is_used}
use Rattle.jet_base.specs.declared.ids.ColumnId.{ColumnId}
use Rattle.jet_base.specs.declared.ids.TableId.{TableId}
use Rattle.jet_catalog.specs.Catalog.{IsNumbered, CatalogState, catalog_after}
use Rattle.page_image.specs.Page.{Node}
use Rattle.table_trees.specs.StoredNodes.{bookmark_entries}
use Rattle.table_trees.specs.StoredTables.{table_long_values, StoredIndex, StoredTable, index_entries, is_index, part_of, table_indexes, table_nodes}
use Rattle.laws_versions.proofs.KeyLemmas.IndexNumbers.{all_primary_first, none_of}
use Rattle.laws_versions.proofs.KeyLemmas.SameColumns.{yields_same}
use Rattle.laws_versions.proofs.KeyLemmas.SchemaKeys.{mapped_row, other_column}
use Rattle.laws_versions.proofs.RecordLemmas.Storing.{fits_without}
use Rattle.laws_versions.specs.EscrowNumbers.{holds_number, is_one_number}
use Rattle.laws_engine.specs.Variants.{HoldsVariants, has_variant}
use Rattle.variant_trees.specs.LostColumns.{LosesValues, HasNodes, HoldsRecord, node_without, row_without}
use Rattle.stored_variants.specs.RecordRows.{TableValues, IsRecordRow, record_of, row_under, rows_of_nodes}
use Rattle.stored_variants.specs.SchemaSteps.{IsMade}
use Rattle.stored_variants.specs.VersionsKept.{AreKept, AreKeptWith, HoldsNumbers, IsBookmarkOf, IsKeptTable, IsRowUnder, needed_trees, only_secondary}
use Rattle.stored_variants.specs.VersionsView.{with_newest_by}
use Rattle.variant_trees.proofs.ChangedColumns.{SameColumns, SameFields, indexable_then, own_then, rules_then}
use Rattle.variant_trees.proofs.EntryTrees.{other_number}
use Rattle.variant_trees.proofs.LostRows.{RowLaws, all_records, got_without, record_without, row_is, rows_lost, under_without, values_elsewhere}
use Rattle.variant_trees.proofs.Stepping.{IsSettled, StepsTo, changed_at, is_made, kept_of, moved, newest_same, plain_table, settled_of}
use Rattle.common_lemmas.proofs.Found.{of_found}
use Rattle.common_lemmas.proofs.Lists.{all_weaker}
use Rattle.common_lemmas.proofs.Booleans.{impossible}
use Rattle.stored_variants.proofs.Tables.{newest_is_row, found_number}
use Rattle.column_set.specs.RowReading.{row_in}
use Rattle.long_rows.specs.ReferenceCounts.{HasCounts}
use Rattle.long_rows.specs.WholeRows.{is_whole}
use Rattle.long_value.specs.Values.{value_of, Values}
use Rattle.stored_variants.specs.CountedValues.{newest_rows, BringsNoValue, AreCounted}
use Rattle.stored_variants.proofs.SameRecords.{same_newest_records, kept_with_others, StaysSame, AreSame, AreInOrder}
use Rattle.variant_trees.specs.LeftVariants.{DistinctIds}
use Rattle.variant_trees.proofs.Forgotten.{distinct_ids}
use Rattle.variant_trees.proofs.LeftNodes.{numbers_needed}

-- no index reads the column
abbrev pub IsUnread : ℕ → IndexRule → Type 0
IsUnread column rule = AllByRecursion (λ id. (id == column) ≡ false) (rule_columns rule)

unread : (column : ColumnId) (rules : List IndexRule) → column_is_used column rules ≡ false → AllByRecursion (IsUnread column.0) rules
unread column rules h =
    all_weaker (λ rule. list_any (λ id. id == column.0) (rule_columns rule) ≡ false) (IsUnread column.0) (λ rule e. none_of (λ id. id == column.0) (rule_columns rule) e) rules
    (none_of (λ rule. list_any (λ id. id == column.0) (rule_columns rule)) rules h)

-- ---- in its table

same_columns : (column : ℕ) (t : Table) (rule : IndexRule) → IsUnread column rule → SameColumns (without_column column t).columns t rule
same_columns column t rule apart =
    all_weaker (λ id. (id == column) ≡ false) (λ id. column_of_id (without_column column t).columns id ≡ column_of_id t.columns id) (other_column column t) (rule_columns rule) apart

same_fields : (column : ℕ) (t : Table) (values : RecordFields) (rule : IndexRule) → IsUnread column rule → SameFields (without_column column t).columns t (remove_by_number column values) values rule
same_fields column t values rule apart =
    all_weaker (λ id. (id == column) ≡ false) (λ id. (column_of_id (without_column column t).columns id ≡ column_of_id t.columns id) × (values_of (remove_by_number column values) id ≡ values_of values id))
    (λ id e. (other_column column t id e, values_elsewhere column values id e)) (rule_columns rule) apart

same_key : (column : ℕ) (t : Table) (rule : IndexRule) → IsUnread column rule → (key : List ℕ) (found : Option RecordFields)
    → yields_key rule (schema_of t) key found ≡ yields_key rule (schema_of (without_column column t)) key (option_map (λ values. with_values values column []) found)
same_key column t rule apart key None = refl
same_key column t rule apart key (Some values) = sym (yields_same rule (schema_of (without_column column t)) (schema_of t) key (remove_by_number column values) values (same_fields column t values rule apart))

-- the other escrow columns hold their numbers
numbers_left : (column : ℕ) (t : Table) (values : RecordFields) → HoldsNumbers (schema_of t) values → HoldsNumbers (schema_of (without_column column t)) (remove_by_number column values)
numbers_left column t values numbers id escrow = by (id == column) refl
  where
    gone : (columns : List Column) → column_of_id (filter (λ c. not (c.id.0 == column)) columns) column ≡ None
    gone [] = refl
    gone (c ∷ columns) = at (c.id.0 == column) refl (gone columns)
      where
        at : (b : Bool) → (c.id.0 == column) ≡ b → column_of_id (filter (λ c. not (c.id.0 == column)) columns) column ≡ None
            → column_of_id (cond (not b) (c ∷ filter (λ c. not (c.id.0 == column)) columns) (filter (λ c. not (c.id.0 == column)) columns)) column ≡ None
        at true e rest = rest
        at false e rest = ap (λ b. cond b (Some c) (column_of_id (filter (λ c. not (c.id.0 == column)) columns) column)) e ∙ rest

    by : (b : Bool) → (id == column) ≡ b → holds_number (remove_by_number column values) id ≡ true
    by true e =
        impossible
        (sym (ap (λ (o : Option Column). elim o [ Some c ↦ c.escrow | None ↦ false ]) (ap (column_of_id (without_column column t).columns) (eqb-true id column e) ∙ gone t.columns))
        ∙ escrow)
    by false e =
        ap is_one_number (values_elsewhere column values id e)
        ∙ numbers id (sym (ap (λ (o : Option Column). elim o [ Some c ↦ c.escrow | None ↦ false ]) (other_column column t id e)) ∙ escrow)

column_lost : (longs : TableValues) → RowLaws → (trees other : List StoredTable) (column : ℕ) (t : Table) → AllByRecursion (IsUnread column) t.indexes → AllByRecursion (HoldsRecord (longs t.id)) (table_nodes trees t.id)
    → table_nodes other t.id ≡ map (node_without column) (table_nodes trees t.id) → table_indexes other t.id ≡ table_indexes trees t.id → IsSettled longs trees t → IsSettled longs other (without_column column t)
column_lost longs laws trees other column t unused records nodes indexes k = subst (λ (n : List Node). IsKeptTable other (longs t.id) n [] (without_column column t)) (sym nodes) (record {
  rules = rules_then (without_column column t).columns t.greatest (without_column column t).rows t k.rules (all_weaker (IsUnread column) (SameColumns (without_column column t).columns t) (same_columns column t) t.indexes unused);
  rows = λ bookmark. subst (λ (o : Option (List ℕ)). IfSome o (IsRowUnder (longs t.id) (without_column column t) bookmark)) (sym (under_without (longs t.id) column were bookmark records)) (row bookmark (row_under were bookmark) (k.rows bookmark));
  stands = λ bookmark.
      ap is_some (got_without column were bookmark) ∙ there (get_in were bookmark) ∙ k.stands bookmark ∙ variants bookmark (row_at (rows_of_nodes (longs t.id) were) bookmark)
      ∙ sym (ap (λ o. has_variant o [] t.id bookmark) (rows_then bookmark));
  entries = λ index. each index (rule_with_id (schema_of t) index) refl (k.entries index);
})
  where
    were : List Node
    were = table_nodes trees t.id

    left : RecordFields → RecordFields
    left values = with_values values column []

    fields : (values : RecordFields) → AllByRecursion (SameFields (without_column column t).columns t (remove_by_number column values) values) t.indexes
    fields values = all_weaker (IsUnread column) (SameFields (without_column column t).columns t (remove_by_number column values) values) (same_fields column t values) t.indexes unused

    rows_then : (bookmark : List ℕ) → row_at (rows_of_nodes (longs t.id) (map (node_without column) were)) bookmark ≡ option_map left (row_at (rows_of_nodes (longs t.id) were) bookmark)
    rows_then bookmark = ap (λ (rows : Rows). row_at rows bookmark) (rows_lost (longs t.id) laws column were records) ∙ mapped_row left (rows_of_nodes (longs t.id) were) bookmark

    there : (o : Option (List ℕ)) → is_some (option_map (row_without column) o) ≡ is_some o
    there None = refl
    there (Some bytes) = refl

    variants : (bookmark : List ℕ) (o : Option RecordFields) → has_variant o [] t.id bookmark ≡ has_variant (option_map left o) [] t.id bookmark
    variants bookmark None = refl
    variants bookmark (Some values) = refl

    row : (bookmark : List ℕ) (o : Option (List ℕ)) → IfSome o (IsRowUnder (longs t.id) t bookmark) → IfSome (option_map (row_without column) o) (IsRowUnder (longs t.id) (without_column column t) bookmark)
    row bookmark None is = tt
    row bookmark (Some bytes) is =
        let same : record_of (longs t.id) (row_without column bytes) ≡ remove_by_number column (record_of (longs t.id) bytes) = record_without (longs t.id) laws column bytes is.fits.row in
        record {
          fits = record {
            row = row_is (longs t.id) laws column bytes is.fits.row;
            columns = ap (record_fits (without_column column t).columns) same ∙ fits_without column t (record_of (longs t.id) bytes) is.fits.columns;
            numbers = subst (HoldsNumbers (schema_of (without_column column t))) (sym same) (numbers_left column t (record_of (longs t.id) bytes) is.fits.numbers);
          };
          indexable =
              ap (is_indexable (schema_of (without_column column t))) same
              ∙ indexable_then (without_column column t).columns t.greatest (without_column column t).rows t (remove_by_number column (record_of (longs t.id) bytes)) (record_of (longs t.id) bytes) (fields (record_of (longs t.id) bytes)) ∙ is.indexable;
          own = subst (λ (values : RecordFields). IsBookmarkOf (without_column column t) values bookmark) (sym same)
              (own_then (without_column column t).columns t.greatest (without_column column t).rows t (remove_by_number column (record_of (longs t.id) bytes)) (record_of (longs t.id) bytes) (fields (record_of (longs t.id) bytes)) bookmark is.own);
        }

    each : (index : ℕ) (o : Option IndexRule) → rule_with_id (schema_of t) index ≡ o
        → IfSome (only_secondary o) (λ rule. HoldsVariants (rows_of_nodes (longs t.id) were) [] rule (schema_of t) t.id (index_entries trees t.id index))
        → IfSome (only_secondary o) (λ rule. HoldsVariants (rows_of_nodes (longs t.id) (map (node_without column) were)) [] rule (schema_of (without_column column t)) t.id (index_entries other t.id index))
    each index None e h = tt
    each index (Some rule) e h = by rule.flags.primary h
      where
        apart : IsUnread column rule
        apart = of_found (IsUnread column) (λ r. r.id.0 == index) (primary_first t.indexes) rule e (all_primary_first (IsUnread column) t.indexes unused)

        by : (b : Bool) → IfSome (cond b None (Some rule)) (λ rule. HoldsVariants (rows_of_nodes (longs t.id) were) [] rule (schema_of t) t.id (index_entries trees t.id index))
            → IfSome (cond b None (Some rule)) (λ rule. HoldsVariants (rows_of_nodes (longs t.id) (map (node_without column) were)) [] rule (schema_of (without_column column t)) t.id (index_entries other t.id index))
        by true h = tt
        by false h = λ key bookmark.
            ap (λ (xs : List StoredIndex). has_entry key bookmark (part_of (is_index index) (λ x. x.1) xs)) indexes ∙ h key bookmark
            ∙ ap (λ b. b || false) (same_key column t rule apart key (row_at (rows_of_nodes (longs t.id) were) bookmark) ∙ sym (ap (yields_key rule (schema_of (without_column column t)) key) (rows_then bookmark)))

-- ---- in the trees

-- each node of a table has a record, once no change is held
pub nodes_hold : (longs : TableValues) (trees : List StoredTable) (t : Table) → are_sorted (bookmark_entries (table_nodes trees t.id)) ≡ true → IsSettled longs trees t → AllByRecursion (HoldsRecord (longs t.id)) (table_nodes trees t.id)
nodes_hold longs trees t sorted k = all_records (longs t.id) (table_nodes trees t.id) sorted k.stands (λ own. by own (row_under (table_nodes trees t.id) own) (k.rows own))
  where
    by : (own : List ℕ) (o : Option (List ℕ)) → IfSome o (IsRowUnder (longs t.id) t own) → IfSome o (IsRecordRow (longs t.id))
    by own None is = tt
    by own (Some row) is = is.fits.row

pub table_holds : (longs : TableValues) (tables : List Table) (trees : List StoredTable) (id : ℕ) (P : Table → Type 0) → AreKeptWith longs tables trees [] → ((table : ℕ) → are_sorted (bookmark_entries (table_nodes trees table)) ≡ true) → IsSomeAnd (table_with_id tables id) P
    → AllByRecursion (HoldsRecord (longs id)) (table_nodes trees id)
table_holds longs tables trees id P kept sorted there = by (table_with_id tables id) refl there (settled_of longs tables trees kept id)
  where
    by : (o : Option Table) → table_with_id tables id ≡ o → IsSomeAnd o P → IfSome o (IsSettled longs trees) → AllByRecursion (HoldsRecord (longs id)) (table_nodes trees id)
    by None e there k = absurd there
    by (Some t) e there k = subst (λ (n : ℕ). AllByRecursion (HoldsRecord (longs n)) (table_nodes trees n)) (found_number id tables t e) (nodes_hold longs trees t (sorted t.id) k)

-- the tables and the trees without the column
column_goes : (longs : TableValues) → RowLaws → (id : TableId) (column : ColumnId) (tables : List Table) (trees other : List StoredTable) → DistinctIds tables → ((table : ℕ) → are_sorted (bookmark_entries (table_nodes trees table)) ≡ true)
    → IsSomeAnd (table_with_id tables id.0) (λ t. column_is_used column t.indexes ≡ false) → HasNodes id.0 (map (node_without column.0) (table_nodes trees id.0)) trees other → AreKeptWith longs tables trees []
    → StepsTo longs (step.DeleteColumn id column) tables trees other
column_goes longs laws id column tables trees other distinct sorted unused h kept = record {
  kept = kept_of longs (with_table id.0 (without_column column.0) tables) other
      (plain_table id.0 (without_column column.0) (λ t. refl) tables kept.plain)
      (numbers_needed other trees tables distinct kept.numbers h.numbers (λ n. ap (λ (indexes : List StoredIndex). map (λ (x : StoredIndex). x.0) indexes) (h.indexes n)) ∙ sym (same_needed tables))
      (changed_at (IsSettled longs trees) (IsSettled longs other) id.0 (without_column column.0) (λ t. refl) tables this
      (λ t apart k. moved longs trees other t (h.others t.id (λ same. other_number t.id id.0 apart same)) (h.indexes t.id) k) (settled_of longs tables trees kept));
  shown = shown tables;
}
  where
    held : AllByRecursion (HoldsRecord (longs id.0)) (table_nodes trees id.0)
    held = table_holds longs tables trees id.0 (λ t. column_is_used column t.indexes ≡ false) kept sorted unused

    this : (t : Table) → table_with_id tables id.0 ≡ Some t → IsSettled longs trees t → IsSettled longs other (without_column column.0 t)
    this t found k =
        let number : t.id ≡ id.0 = found_number id.0 tables t found in
        column_lost longs laws trees other column.0 t
        (unread column t.indexes (subst (λ (o : Option Table). IsSomeAnd o (λ t. column_is_used column t.indexes ≡ false)) found unused))
        (nodes_hold longs trees t (sorted t.id) k)
        (subst (λ (n : ℕ). table_nodes other n ≡ map (node_without column.0) (table_nodes trees n)) (sym number) h.nodes) (h.indexes t.id) k

    same_needed : (ts : List Table) → map needed_trees (with_table id.0 (without_column column.0) ts) ≡ map needed_trees ts
    same_needed [] = refl
    same_needed (t ∷ ts) = λ i. by (t.id == id.0) i ∷ same_needed ts i
      where
        by : (b : Bool) → needed_trees (cond b (without_column column.0 t) t) ≡ needed_trees t
        by true = refl
        by false = refl

    shown : (ts : List Table) → map (with_newest_by longs other) (with_table id.0 (without_column column.0) ts) ≡ with_table id.0 (without_column column.0) (map (with_newest_by longs trees) ts)
    shown [] = refl
    shown (t ∷ ts) = λ i. by (t.id == id.0) refl i ∷ shown ts i
      where
        by : (b : Bool) → (t.id == id.0) ≡ b → with_newest_by longs other (cond b (without_column column.0 t) t) ≡ cond b (without_column column.0 (with_newest_by longs trees t)) (with_newest_by longs trees t)
        by true e =
            ap (λ (rows : Rows). record (without_column column.0 t) { rows = rows })
            (subst (λ (n : ℕ). rows_of_nodes (longs n) (table_nodes other n) ≡ map (λ row. (row.0, with_values row.1 column.0 [])) (rows_of_nodes (longs n) (table_nodes trees n))) (sym (eqb-true t.id id.0 e))
            (ap (rows_of_nodes (longs id.0)) h.nodes ∙ rows_lost (longs id.0) laws column.0 (table_nodes trees id.0) held))
        by false e = newest_same longs trees other t (h.others t.id (λ same. other_number t.id id.0 e same))

-- each row stands for the record that it stood for
rows_same : (id : ℕ) (tables : List Table) (trees other : List StoredTable) → AreKeptWith (table_long_values trees) tables other [] → LosesValues id trees other → AreSame (table_long_values trees) (table_long_values other) other []
rows_same id tables trees other kept lost = record {
  newest = λ table bookmark. by table bookmark (id == table) refl;
  before = tt;
}
  where
    of : (vals now : Values) (o : Option (List ℕ)) → IfSome o (λ row. IsRecordRow now row × (record_of now row ≡ record_of vals row)) → IfSome o (StaysSame vals now)
    of vals now None is = tt
    of vals now (Some row) is = record { shown = is.1; whole = is.0.whole }

    stays : (vals now : Values) (o : Option (List ℕ)) → now ≡ vals → IfSome o (IsRecordRow vals) → IfSome o (StaysSame vals now)
    stays vals now None same is = tt
    stays vals now (Some row) same is = record { shown = ap (λ (v : Values). record_of v row) same; whole = subst (λ (v : Values). IsTrue (is_whole v (row_in row))) (sym same) is.whole }

    by : (table : ℕ) (bookmark : List ℕ) (b : Bool) → (id == table) ≡ b → IfSome (row_under (table_nodes other table) bookmark) (StaysSame (table_long_values trees table) (table_long_values other table))
    by table bookmark true e =
        subst (λ (n : ℕ). IfSome (row_under (table_nodes other n) bookmark) (StaysSame (table_long_values trees n) (table_long_values other n))) (eqb-true id table e)
        (of (table_long_values trees id) (table_long_values other id) (row_under (table_nodes other id) bookmark) (lost.rows bookmark))
    by table bookmark false e =
        stays (table_long_values trees table) (table_long_values other table) (row_under (table_nodes other table) bookmark) (lost.others table (λ same. other_number id table e (sym same)))
        (newest_is_row (table_long_values trees) tables other [] kept table bookmark)

lost_counted : (id : ℕ) (these : List Node) (trees other : List StoredTable) → HasNodes id these trees other → LosesValues id trees other → AreCounted trees [] → AreCounted other []
lost_counted id these trees other h lost counts = λ table. by table (id == table) refl
  where
    by : (table : ℕ) (b : Bool) → (id == table) ≡ b → HasCounts (table_long_values other table) (newest_rows (table_nodes other table)) []
    by table true e = subst (λ (n : ℕ). HasCounts (table_long_values other n) (newest_rows (table_nodes other n)) []) (eqb-true id table e) lost.counts
    by table false e =
        let apart : table ≢ id = λ same. other_number id table e (sym same) in
        subst (λ (v : Values). HasCounts v (newest_rows (table_nodes other table)) []) (sym (lost.others table apart))
        (subst (λ (nodes : List Node). HasCounts (table_long_values trees table) (newest_rows nodes) []) (sym (h.others table apart)) (counts table))

lost_none : (id : ℕ) (trees other : List StoredTable) → LosesValues id trees other → BringsNoValue trees other
lost_none id trees other lost = λ table x none. by table x none (id == table) refl
  where
    by : (table : ℕ) (x : List ℕ) → value_of x (table_long_values trees table) ≡ None → (b : Bool) → (id == table) ≡ b → value_of x (table_long_values other table) ≡ None
    by table x none true e = ap (λ n. value_of x (table_long_values other n)) (sym (eqb-true id table e)) ∙ lost.none x (ap (λ n. value_of x (table_long_values trees n)) (eqb-true id table e) ∙ none)
    by table x none false e = ap (value_of x) (lost.others table (λ same. other_number id table e (sym same))) ∙ none

-- in a catalog
pub column_deleted : RowLaws → (made : SchemaStep) (id : TableId) (column : ColumnId) → made ≡ step.DeleteColumn id column → (was : CatalogState) (trees other : List StoredTable) → IsNumbered was → AreInOrder trees → AreInOrder other
    → IsSomeAnd (table_with_id was.tables id.0) (λ t. column_is_used column t.indexes ≡ false) → HasNodes id.0 (map (node_without column.0) (table_nodes trees id.0)) trees other → LosesValues id.0 trees other
    → AreKept was.tables trees [] → AreCounted trees [] → (is : CatalogState) → is ≡ catalog_after was made → IsMade made was trees is other
column_deleted laws made id column step_is was trees other numbered sorted sorted_then unused h lost kept counts is is_after =
    subst (λ (s : SchemaStep). IsMade s was trees is other) (sym step_is)
    (is_made (step.DeleteColumn id column) was trees is other (is_after ∙ ap (catalog_after was) step_is)
    (kept_with_others (table_long_values trees) (table_long_values other) after other [] sorted_then same steps.kept)
    (same_newest_records (table_long_values trees) (table_long_values other) other [] sorted_then same after ∙ steps.shown)
    (lost_counted id.0 (map (node_without column.0) (table_nodes trees id.0)) trees other h lost counts) (lost_none id.0 trees other lost))
  where
    after : List Table
    after = tables_after_step was.tables (step.DeleteColumn id column)

    steps : StepsTo (table_long_values trees) (step.DeleteColumn id column) was.tables trees other
    steps = column_goes (table_long_values trees) laws id column was.tables trees other (distinct_ids was numbered) sorted unused h kept

    same : AreSame (table_long_values trees) (table_long_values other) other []
    same = rows_same id.0 after trees other steps.kept lost
