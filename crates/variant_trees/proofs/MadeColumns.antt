-- A column comes.
use Rattle.std.proofs.Common.{◌≡◌, ℕ, Bool, true, false, ◌||◌, cond, List, [], ◌∷◌, Option, Some, None, map, option_map, refl, sym, ap, subst, ◌∙◌}
use Rattle.std.specs.Prelude.{◌==◌, IfSome, nat_lt}
use Rattle.std.specs.List.{AllByRecursion, list_all}
use Rattle.column_set.specs.declared.columns.Column.{Column}
use Rattle.column_set.specs.RecordValues.{RecordFields, column_of_id, is_kept_column, values_of, tagged_if_long}
use Rattle.cursor_nav.specs.Places.{are_sorted}
use Rattle.database_state.specs.Conflicts.{yields_key}
use Rattle.database_state.specs.SchemaChanges.{columns_with, rule_columns, with_column, with_column_id}
use Rattle.database_state.specs.Table.{Rows, Table, primary_first, row_at, schema_of, table_with_id, with_table}
use Rattle.index_derive.specs.Schemas.{rule_with_id}
use Rattle.index_derive.specs.declared.rules.IndexRule.{IndexRule}
use Rattle.index_derive.specs.Entries.{is_escrow_column}
use Rattle.index_derive.specs.declared.schema_calls.SchemaStep.{SchemaStep}
use Rattle.index_derive.specs.declared.schema_calls.SchemaStep.TheVariants as step
use Rattle.jet_base.specs.declared.ids.TableId.{TableId}
use Rattle.jet_catalog.specs.Catalog.{CatalogState, catalog_after}
use Rattle.page_image.specs.Page.{Node}
use Rattle.table_trees.specs.StoredNodes.{bookmark_entries}
use Rattle.table_trees.specs.StoredTables.{table_long_values, StoredTable, index_entries, table_nodes}
use Rattle.laws_versions.proofs.KeyLemmas.IndexNumbers.{all_primary_first}
use Rattle.laws_versions.proofs.KeyLemmas.SameColumns.{yields_same}
use Rattle.laws_versions.proofs.RecordLemmas.Storing.{fits_with}
use Rattle.laws_engine.specs.Variants.{HoldsVariants}
use Rattle.stored_variants.specs.RecordRows.{TableValues, record_of, row_under, rows_of_nodes}
use Rattle.stored_variants.specs.SchemaSteps.{IsMade, TakesColumn}
use Rattle.stored_variants.specs.VersionsKept.{AreKeptWith, IsRowUnder, needed_trees, only_secondary}
use Rattle.stored_variants.specs.VersionsView.{with_newest_by}
use Rattle.variant_trees.proofs.ChangedColumns.{SameColumns, SameFields, added_columns, indexable_then, own_then, rules_then}
use Rattle.stored_variants.proofs.NodeRecords.{record_at}
use Rattle.variant_trees.proofs.Stepping.{IsSettled, StepsTo, changed_at, made_with_values, kept_of, map_table, plain_table, settled_of}
use Rattle.common_lemmas.proofs.Found.{of_found}
use Rattle.common_lemmas.proofs.Lists.{all_weaker}
use Rattle.common_lemmas.proofs.Booleans.{impossible}
use Rattle.stored_variants.proofs.Tables.{table_at}
use Rattle.long_value.specs.Values.{Values}
use Rattle.stored_variants.specs.CountedValues.{AreCounted}

-- ---- a column comes

abbrev is_escrow_of : Option Column → Bool
is_escrow_of found = elim found [ Some column ↦ column.escrow | None ↦ false ]

same_fields : (columns : List Column) (t : Table) (values : RecordFields) (rule : IndexRule) → SameColumns columns t rule → SameFields columns t values values rule
same_fields columns t values rule same =
    all_weaker (λ id. column_of_id columns id ≡ column_of_id t.columns id) (λ id. (column_of_id columns id ≡ column_of_id t.columns id) × (values_of values id ≡ values_of values id)) (λ id e. (e, refl)) (rule_columns rule) same

same_key : (column : Column) (t : Table) (rule : IndexRule) → SameColumns (columns_with column t.columns) t rule → (key : List ℕ) (found : Option RecordFields)
    → yields_key rule (schema_of t) key found ≡ yields_key rule (schema_of (with_column column t)) key found
same_key column t rule same key None = refl
same_key column t rule same key (Some values) =
    sym (yields_same rule (schema_of (with_column column t)) (schema_of t) key values values (same_fields (columns_with column t.columns) t values rule same))

-- no row stands where no record does
pub no_rows_left : (vals : Values) (nodes : List Node) → are_sorted (bookmark_entries nodes) ≡ true → rows_of_nodes vals nodes ≡ [] → (bookmark : List ℕ) → row_under nodes bookmark ≡ None
no_rows_left vals nodes sorted none bookmark = by (row_under nodes bookmark) (sym (record_at vals nodes sorted bookmark) ∙ ap (λ (rows : Rows). row_at rows bookmark) none)
  where
    by : (o : Option (List ℕ)) → option_map (record_of vals) o ≡ None → o ≡ None
    by None e = refl
    by (Some row) e = cc

-- a column that is no escrow column leaves which columns are
skipped : (column : Column) (id : ℕ) → is_kept_column column ≡ false → (other : Option Column) (b : Bool) → is_escrow_of (cond b (Some column) other) ≡ true → is_escrow_of other ≡ true
skipped column id plain other true h = impossible (sym (plain_sum column.escrow column.version column.auto plain) ∙ h)
  where
    plain_sum : (a b c : Bool) → ((a || b) || c) ≡ false → a ≡ false
    plain_sum true b c h = h
    plain_sum false b c h = refl
skipped column id plain other false h = h

escrow_before_in : (column : Column) (id : ℕ) → is_kept_column column ≡ false → (columns : List Column) → is_escrow_of (column_of_id (columns_with column columns) id) ≡ true → is_escrow_of (column_of_id columns id) ≡ true
escrow_before_in column id plain [] h = skipped column id plain None (column.id.0 == id) h
escrow_before_in column id plain (x ∷ columns) h = placed (escrow_before_in column id plain columns) (list_all (λ c. nat_lt column.id.0 c.id.0) (x ∷ columns)) h
  where
    first : (one other : Option Column) → (is_escrow_of one ≡ true → is_escrow_of other ≡ true) → (b : Bool) → is_escrow_of (cond b (Some x) one) ≡ true → is_escrow_of (cond b (Some x) other) ≡ true
    first one other step true h = h
    first one other step false h = step h

    placed : (is_escrow_of (column_of_id (columns_with column columns) id) ≡ true → is_escrow_of (column_of_id columns id) ≡ true) → (b : Bool)
        → is_escrow_of (column_of_id (cond b (column ∷ x ∷ columns) (x ∷ columns_with column columns)) id) ≡ true → is_escrow_of (column_of_id (x ∷ columns) id) ≡ true
    placed rest true g = skipped column id plain (column_of_id (x ∷ columns) id) (column.id.0 == id) g
    placed rest false g = first (column_of_id (columns_with column columns) id) (column_of_id columns id) rest (x.id.0 == id) g

escrow_before : (column : Column) (t : Table) (id : ℕ) → is_kept_column column ≡ false → is_escrow_column (schema_of (with_column column t)) id ≡ true → is_escrow_column (schema_of t) id ≡ true
escrow_before column t id plain e = escrow_before_in column id plain t.columns e

column_added : (longs : TableValues) (trees : List StoredTable) (column : Column) (t : Table) → are_sorted (bookmark_entries (table_nodes trees t.id)) ≡ true → (is_kept_column column ≡ true → rows_of_nodes (longs t.id) (table_nodes trees t.id) ≡ []) → IsSettled longs trees t → IsSettled longs trees (with_column column t)
column_added longs trees column t sorted empty k = record {
  rules = rules_then (columns_with column t.columns) (with_column_id t.greatest column.id.0) t.rows t k.rules same;
  rows = λ bookmark. row bookmark (row_under (table_nodes trees t.id) bookmark) refl (k.rows bookmark);
  stands = k.stands;
  entries = λ index. each index (rule_with_id (schema_of t) index) refl (k.entries index);
}
  where
    same : AllByRecursion (SameColumns (columns_with column t.columns) t) t.indexes
    same = added_columns column t k.rules

    fields : (values : RecordFields) → AllByRecursion (SameFields (columns_with column t.columns) t values values) t.indexes
    fields values = all_weaker (SameColumns (columns_with column t.columns) t) (SameFields (columns_with column t.columns) t values values) (same_fields (columns_with column t.columns) t values) t.indexes same

    is_plain : (b : Bool) → is_kept_column column ≡ b → (bookmark row : List ℕ) → row_under (table_nodes trees t.id) bookmark ≡ Some row → is_kept_column column ≡ false
    is_plain false e bookmark row found = e
    is_plain true e bookmark row found = no (sym found ∙ no_rows_left (longs t.id) (table_nodes trees t.id) sorted (empty e) bookmark)
      where
        no : {A : Type 0} → Some row ≡ None → A
        no f = cc

    row : (bookmark : List ℕ) (o : Option (List ℕ)) → row_under (table_nodes trees t.id) bookmark ≡ o → IfSome o (IsRowUnder (longs t.id) t bookmark) → IfSome o (IsRowUnder (longs t.id) (with_column column t) bookmark)
    row bookmark None e is = tt
    row bookmark (Some bytes) e is = record {
      fits = record {
        row = is.fits.row;
        columns = fits_with column t.columns (record_of (longs t.id) bytes) (is_plain (is_kept_column column) refl bookmark bytes e) is.fits.columns;
        numbers = λ id escrow. is.fits.numbers id (escrow_before column t id (is_plain (is_kept_column column) refl bookmark bytes e) escrow);
      };
      indexable = indexable_then (columns_with column t.columns) (with_column_id t.greatest column.id.0) t.rows t (record_of (longs t.id) bytes) (record_of (longs t.id) bytes) (fields (record_of (longs t.id) bytes)) ∙ is.indexable;
      own = own_then (columns_with column t.columns) (with_column_id t.greatest column.id.0) t.rows t (record_of (longs t.id) bytes) (record_of (longs t.id) bytes) (fields (record_of (longs t.id) bytes)) bookmark is.own;
    }

    each : (index : ℕ) (o : Option IndexRule) → rule_with_id (schema_of t) index ≡ o
        → IfSome (only_secondary o) (λ rule. HoldsVariants (rows_of_nodes (longs t.id) (table_nodes trees t.id)) [] rule (schema_of t) t.id (index_entries trees t.id index))
        → IfSome (only_secondary o) (λ rule. HoldsVariants (rows_of_nodes (longs t.id) (table_nodes trees t.id)) [] rule (schema_of (with_column column t)) t.id (index_entries trees t.id index))
    each index None e h = tt
    each index (Some rule) e h = by rule.flags.primary h
      where
        by : (b : Bool) → IfSome (cond b None (Some rule)) (λ rule. HoldsVariants (rows_of_nodes (longs t.id) (table_nodes trees t.id)) [] rule (schema_of t) t.id (index_entries trees t.id index))
            → IfSome (cond b None (Some rule)) (λ rule. HoldsVariants (rows_of_nodes (longs t.id) (table_nodes trees t.id)) [] rule (schema_of (with_column column t)) t.id (index_entries trees t.id index))
        by true h = tt
        by false h = λ key bookmark. h key bookmark ∙ ap (λ b. b || false) (same_key column t rule same_rule key (row_at (rows_of_nodes (longs t.id) (table_nodes trees t.id)) bookmark))
          where
            same_rule : SameColumns (columns_with column t.columns) t rule
            same_rule = of_found (SameColumns (columns_with column t.columns) t) (λ r. r.id.0 == index) (primary_first t.indexes) rule e (all_primary_first (SameColumns (columns_with column t.columns) t) t.indexes same)

-- the tables and the trees with a new column
pub column_comes : (longs : TableValues) (id : TableId) (column : Column) (tables : List Table) (trees : List StoredTable) → ((table : ℕ) → are_sorted (bookmark_entries (table_nodes trees table)) ≡ true)
    → IfSome (table_with_id (map (with_newest_by longs trees) tables) id.0) (TakesColumn column) → AreKeptWith longs tables trees [] → StepsTo longs (step.AddColumn id column) tables trees trees
column_comes longs id column tables trees sorted taken kept = record {
  kept = kept_of longs (with_table id.0 (with_column (tagged_if_long column)) tables) trees
      (plain_table id.0 (with_column (tagged_if_long column)) (λ t. refl) tables kept.plain)
      (kept.numbers ∙ sym (same_needed tables))
      (changed_at (IsSettled longs trees) (IsSettled longs trees) id.0 (with_column (tagged_if_long column)) (λ t. refl) tables
      (λ t found k. column_added longs trees (tagged_if_long column) t (sorted t.id) (takes t found) k) (λ t apart k. k) (settled_of longs tables trees kept));
  shown = map_table (with_newest_by longs trees) id.0 (with_column (tagged_if_long column)) (with_column (tagged_if_long column)) (λ t. refl) (λ t e. refl) tables;
}
  where
    takes : (t : Table) → table_with_id tables id.0 ≡ Some t → is_kept_column column ≡ true → rows_of_nodes (longs t.id) (table_nodes trees t.id) ≡ []
    takes t found = subst (λ (o : Option Table). IfSome o (TakesColumn column)) (table_at longs trees tables id.0 ∙ ap (option_map (with_newest_by longs trees)) found) taken

    same_needed : (ts : List Table) → map needed_trees (with_table id.0 (with_column (tagged_if_long column)) ts) ≡ map needed_trees ts
    same_needed [] = refl
    same_needed (t ∷ ts) = λ i. by (t.id == id.0) i ∷ same_needed ts i
      where
        by : (b : Bool) → needed_trees (cond b (with_column (tagged_if_long column) t) t) ≡ needed_trees t
        by true = refl
        by false = refl

-- in a catalog
pub column_made : (made : SchemaStep) (id : TableId) (column : Column) → made ≡ step.AddColumn id column → (was : CatalogState) (trees : List StoredTable) → ((table : ℕ) → are_sorted (bookmark_entries (table_nodes trees table)) ≡ true)
    → IfSome (table_with_id (map (with_newest_by (table_long_values trees) trees) was.tables) id.0) (TakesColumn column) → AreKeptWith (table_long_values trees) was.tables trees [] → (is : CatalogState) → is ≡ catalog_after was made → AreCounted trees [] → IsMade made was trees is trees
column_made made id column step_is was trees sorted taken kept is is_after counts =
    made_with_values made was trees is trees is_after (subst (λ (s : SchemaStep). StepsTo (table_long_values trees) s was.tables trees trees) (sym step_is) (column_comes (table_long_values trees) id column was.tables trees sorted taken kept)) (λ table. refl) counts
