-- Every record stands under its bookmark, after each entry.
use Rattle.std.proofs.Common.{◌≡◌, ℕ, ◌+◌, Bool, true, false, not, ◌&&◌, ◌||◌, cond, List, [], ◌∷◌, ◌++◌, Option, Some, None, refl, sym, ap, subst, ◌∙◌, bytes_eq}
use Rattle.std.specs.Prelude.{◌==◌, find, is_none, is_some, nat_le, option_map, unwrap_or, if◌then◌else◌, IfSome}
use Rattle.std.specs.List.{AllByRecursion}
use Rattle.jet_base.specs.ColumnType.{big_endian}
use Rattle.column_set.specs.declared.changes.Change.{Change}
use Rattle.column_set.specs.declared.changes.Change.TheVariants.{Put, Drop, Hold, Add}
use Rattle.column_set.specs.declared.columns.Column.{Column}
use Rattle.column_set.specs.RecordValues.{RecordFields, column_of_id, remove_by_number, with_values, tagged_if_long}
use Rattle.index_derive.specs.declared.rules.IndexRule.{IndexRule}
use Rattle.index_derive.specs.declared.rules.Schema.{Schema}
use Rattle.index_derive.specs.declared.log.Entry.{Entry}
use Rattle.index_derive.specs.declared.log.EntryKind.{EntryKind}
use Rattle.index_derive.specs.declared.log.EntryKind.TheVariants as entry
use Rattle.index_derive.specs.declared.schema_calls.SchemaStep.{SchemaStep}
use Rattle.index_derive.specs.declared.schema_calls.SchemaStep.TheVariants as step
use Rattle.index_derive.specs.Entries.{entries, primary_key}
use Rattle.database_state.specs.Table.{Rows, Table, row_at, schema_of, table_with_id}
use Rattle.index_derive.specs.Schemas.{primary_rule}
use Rattle.database_state.specs.Changes.{is_sum, with_sum, without_copied}
use Rattle.column_set.specs.ChangedRecords.{changed_table, changed_bookmark}
use Rattle.database_state.specs.Conflicts.{yields_key}
use Rattle.database_state.specs.Puts.{is_cut_refusal, is_null_refusal, null_refusals}
use Rattle.database_state.specs.SchemaChanges.{has_column, new_table, rule_columns, schema_refusal, tables_after_step, with_column, with_index, without_column, without_index}
use Rattle.database_state.specs.State.{DatabaseState, PastChange, transaction_of}
use Rattle.database_state.specs.View.{view}
use Rattle.database_state.specs.Step.{applied, state_after}
use Rattle.database_state.specs.Lawful.{has_number, is_bookmark_of, is_indexable, is_lawful, is_lawful_kind, is_lawful_put, log_limit}
use Rattle.laws_versions.specs.Records.{Records, after_item, records_of}
use Rattle.laws_versions.specs.History.{IsHistory, IsPlaced}
use Rattle.laws_versions.specs.KeptSteps.{base_after, dropped_after, kept_after, new_change, with_next_number}
use Rattle.laws_versions.specs.Readers.{is_standing}
use Rattle.laws_versions.proofs.HistoryLemmas.EndEntries.{back}
use Rattle.laws_versions.proofs.HistoryLemmas.LawfulEntries.{keeps_lawful}
use Rattle.laws_versions.specs.UniqueKeys.{HasUniqueIndexes, HasUniqueKeys, IsSoundIndex, IsUniqueIndex}
use Rattle.laws_versions.specs.KeySums.{IndexesSeeNoSum, SeesNoSum, adds_to_index}
use Rattle.laws_versions.proofs.KeyLemmas.KeySums.{keys_with_sum}
use Rattle.laws_versions.proofs.KeyLemmas.BookmarkKeys.{HasOneEntry}
use Rattle.laws_versions.proofs.KeyLemmas.IndexNumbers.{all_primary_first, found_with, found_without, none_of}
use Rattle.laws_versions.proofs.KeyLemmas.SameColumns.{SameAt, yields_same}
use Rattle.laws_versions.proofs.KeyLemmas.SchemaKeys.{at_found, at_table, each_column, found_has, mapped_row, no_rows, other_column, other_values, unrefused, unused_by, with_last, without_table}
use Rattle.laws_versions.proofs.KeyLemmas.UniqueKept.{id_of, some_at}
use Rattle.database_state.proofs.Columns.{column_of_id-columns_with}
use Rattle.laws_versions.specs.Bookmarks.{HasBookmarks, StandsUnder, is_bookmark, is_entry_number}
use Rattle.laws_versions.specs.EachRecord.{EachRecordHas}
use Rattle.laws_versions.proofs.RecordLemmas.EachRecord.{GoesOn, PutsHave, RowsHave, SumKeeps, SumsKeep, any_put, each_begun, each_by_kind, each_changed, each_cleaned_where, each_row, each_viewed}
use Rattle.laws_versions.proofs.RecordLemmas.EntryNumbers.{entry_number-new, entry_number-stays}
use Rattle.common_lemmas.proofs.Found.{found_passes, of_found}
use Rattle.common_lemmas.proofs.Booleans.{and_left, and_right, impossible}
use Rattle.common_lemmas.proofs.Lists.{all_weaker}
use Rattle.common_lemmas.proofs.Numbers.{same_bytes}
use Rattle.laws_versions.proofs.RecordLemmas.PrimaryKeys.{each_null, primary_listed}
use Rattle.laws_versions.proofs.RecordLemmas.Touching.{touched_after}

-- ---- as the number of entries goes on

pub goes_on : GoesOn StandsUnder
goes_on number schema bookmark values h = by (primary_rule schema) h
  where
    by : (o : Option IndexRule) → is_bookmark number schema o bookmark values ≡ true → is_bookmark (number + 1) schema o bookmark values ≡ true
    by None e = entry_number-stays number bookmark e
    by (Some rule) e = e

-- ---- a put

-- the indexes of a table are sound
sound_rules : (base : Records) (kept : List PastChange) (state : DatabaseState) → HasUniqueKeys base kept state → (id : ℕ) (table : Table) → table_with_id state.tables id ≡ Some table → AllByRecursion (IsSoundIndex table) (schema_of table).indexes
sound_rules base kept state unique id table found =
    all_primary_first (IsSoundIndex table) table.indexes
    (all_weaker (λ rule. IsSoundIndex table rule × IsUniqueIndex (transaction_of state) base kept table rule) (IsSoundIndex table) (λ rule both. both.0) table.indexes
    (subst (λ (o : Option Table). IfSome o (HasUniqueIndexes (transaction_of state) base kept)) found (unique.tables id)))

parts_of_put : (state : DatabaseState) (label : ℕ) (table : Table) (rows : Rows) (bookmark : List ℕ) (copied : Option (List ℕ)) (values : RecordFields) → is_lawful_put state label table rows bookmark copied values ≡ true
    → (is_indexable (schema_of table) values ≡ true) × (is_bookmark_of (state.number + 1) (schema_of table) rows (primary_rule (schema_of table)) bookmark values ≡ true)
parts_of_put state label table rows bookmark copied values lawful = (and_right _ _ (and_left _ _ (and_left _ _ (and_left _ _ (and_left _ _ lawful)))), and_right _ _ (and_left _ _ (and_left _ _ lawful)))

put_stands : HasOneEntry → (base : Records) (kept : List PastChange) (state : DatabaseState) (label : ℕ) → nat_le state.number log_limit ≡ true → HasUniqueKeys base kept state → PutsHave StandsUnder state label
put_stands one base kept state label few unique table rows bookmark copied values found had lawful =
    elim (primary_rule (schema_of table)) as (λ o. primary_rule (schema_of table) ≡ o → is_bookmark_of (state.number + 1) (schema_of table) rows o bookmark values ≡ true → is_bookmark (state.number + 1) (schema_of table) o bookmark values ≡ true) [
      | None ↦ λ e under. hidden e (row_at rows bookmark) (had bookmark) under
      | Some rule ↦ λ e under.
          let sound : IsSoundIndex table rule = of_found (IsSoundIndex table) (λ r. r.flags.primary) (schema_of table).indexes rule e (sound_rules base kept state unique table.id table found) in
          let primary : rule.flags.primary ≡ true = found_passes (λ r. r.flags.primary) (schema_of table).indexes rule e in
          let whole : (is_null_refusal (entries rule (schema_of table) values) ≡ false) × (is_cut_refusal (entries rule (schema_of table) values) ≡ false) =
          of_found (λ r. (is_null_refusal (entries r (schema_of table) values) ≡ false) × (is_cut_refusal (entries r (schema_of table) values) ≡ false)) (λ r. r.flags.primary) (schema_of table).indexes rule e
          (each_null (schema_of table) values (schema_of table).indexes (unrefused (null_refusals (schema_of table) values) indexable)) in
          ap (λ (key : List ℕ). yields_key rule (schema_of table) key (Some values)) (same_bytes bookmark (primary_key rule (schema_of table) values) under)
          ∙ primary_listed one rule (schema_of table) values (sound.2 primary).1 primary whole.0 whole.1
    ] refl under_put
  where
    indexable : is_indexable (schema_of table) values ≡ true
    indexable = (parts_of_put state label table rows bookmark copied values lawful).0

    under_put : is_bookmark_of (state.number + 1) (schema_of table) rows (primary_rule (schema_of table)) bookmark values ≡ true
    under_put = (parts_of_put state label table rows bookmark copied values lawful).1

    hidden : primary_rule (schema_of table) ≡ None → (o : Option RecordFields) → IfSome o (StandsUnder state.number (schema_of table) bookmark) → (is_some o || bytes_eq bookmark (big_endian 8 (state.number + 1))) ≡ true
        → is_entry_number (state.number + 1) bookmark ≡ true
    hidden e None none own = ap (is_entry_number (state.number + 1)) (same_bytes bookmark (big_endian 8 (state.number + 1)) own) ∙ entry_number-new state.number few
    hidden e (Some seen) stands own = entry_number-stays state.number bookmark (ap (λ (o : Option IndexRule). is_bookmark state.number (schema_of table) o bookmark seen) (sym e) ∙ stands)

-- ---- a schema step

-- the rows of a table
abbrev Stand : ℕ → Table → Type 0
Stand number table = (bookmark : List ℕ) → IfSome (row_at table.rows bookmark) (StandsUnder number (schema_of table) bookmark)

stand_later : (number : ℕ) (table : Table) → Stand number table → Stand (number + 1) table
stand_later number table h bookmark = by (row_at table.rows bookmark) (h bookmark)
  where
    by : (o : Option RecordFields) → IfSome o (StandsUnder number (schema_of table) bookmark) → IfSome o (StandsUnder (number + 1) (schema_of table) bookmark)
    by None s = tt
    by (Some values) s = goes_on number (schema_of table) bookmark values s

-- where a step leaves the rule of the primary index, and the keys in it
kept_primary : (number : ℕ) (one other : Table) → primary_rule (schema_of other) ≡ primary_rule (schema_of one)
    → ((rule : IndexRule) → primary_rule (schema_of one) ≡ Some rule → (key : List ℕ) (values : RecordFields) → yields_key rule (schema_of other) key (Some values) ≡ yields_key rule (schema_of one) key (Some values))
    → (bookmark : List ℕ) (values : RecordFields) → StandsUnder number (schema_of one) bookmark values → StandsUnder number (schema_of other) bookmark values
kept_primary number one other same keys bookmark values h =
    ap (λ (o : Option IndexRule). is_bookmark number (schema_of other) o bookmark values) same
    ∙ elim (primary_rule (schema_of one)) as (λ o. primary_rule (schema_of one) ≡ o → is_bookmark number (schema_of one) o bookmark values ≡ true → is_bookmark number (schema_of other) o bookmark values ≡ true) [
      | None ↦ λ e s. s
      | Some rule ↦ λ e s. keys rule e bookmark values ∙ s
    ] refl h

kept_rows : (number : ℕ) (one other : Table) → ((bookmark : List ℕ) → row_at other.rows bookmark ≡ row_at one.rows bookmark) → primary_rule (schema_of other) ≡ primary_rule (schema_of one)
    → ((rule : IndexRule) → primary_rule (schema_of one) ≡ Some rule → (key : List ℕ) (values : RecordFields) → yields_key rule (schema_of other) key (Some values) ≡ yields_key rule (schema_of one) key (Some values))
    → Stand number one → Stand number other
kept_rows number one other rows same keys h bookmark = subst (λ (o : Option RecordFields). IfSome o (StandsUnder number (schema_of other) bookmark)) (sym (rows bookmark)) (by (row_at one.rows bookmark) (h bookmark))
  where
    by : (o : Option RecordFields) → IfSome o (StandsUnder number (schema_of one) bookmark) → IfSome o (StandsUnder number (schema_of other) bookmark)
    by None s = tt
    by (Some values) s = kept_primary number one other same keys bookmark values s

added : (number : ℕ) (column : Column) (table : Table) → AllByRecursion (IsSoundIndex table) (schema_of table).indexes → Stand number table → Stand number (with_column column table)
added number column table sound h = kept_rows number table (with_column column table) (λ bookmark. refl) refl
    (λ rule e key values.
    let is : IsSoundIndex table rule = of_found (IsSoundIndex table) (λ r. r.flags.primary) (schema_of table).indexes rule e sound in
    yields_same rule (schema_of (with_column column table)) (schema_of table) key values values
    (all_weaker (λ id. (column_of_id (with_column column table).columns id ≡ column_of_id table.columns id) × (has_column table id ≡ true → has_column (with_column column table) id ≡ true)) (SameAt (schema_of (with_column column table)) (schema_of table) values values)
    (λ id c. (c.0, refl)) (rule_columns rule)
    (each_column table (with_column column table) (rule_columns rule) is.1 (λ id has. column_of_id-columns_with column id table.columns (found_has table.columns id ∙ has))))) h

gone : (number column : ℕ) (table : Table) → AllByRecursion (λ rule. AllByRecursion (λ id. (id == column) ≡ false) (rule_columns rule)) table.indexes → Stand number table → Stand number (without_column column table)
gone number column table unused h bookmark =
    subst (λ (o : Option RecordFields). IfSome o (StandsUnder number (schema_of (without_column column table)) bookmark)) (sym (mapped_row (λ values. with_values values column []) table.rows bookmark)) (by (row_at table.rows bookmark) (h bookmark))
  where
    by : (o : Option RecordFields) → IfSome o (StandsUnder number (schema_of table) bookmark) → IfSome (option_map (λ values. with_values values column []) o) (StandsUnder number (schema_of (without_column column table)) bookmark)
    by None s = tt
    by (Some values) s =
        elim (primary_rule (schema_of table)) as (λ o. primary_rule (schema_of table) ≡ o → is_bookmark number (schema_of table) o bookmark values ≡ true → is_bookmark number (schema_of (without_column column table)) o bookmark (remove_by_number column values) ≡ true) [
          | None ↦ λ e t. t
          | Some rule ↦ λ e t.
              yields_same rule (schema_of (without_column column table)) (schema_of table) bookmark (remove_by_number column values) values
              (all_weaker (λ id. (id == column) ≡ false) (SameAt (schema_of (without_column column table)) (schema_of table) (remove_by_number column values) values)
              (λ id apart. (other_column column table id apart, ap (λ (v : Option (List (List ℕ))). unwrap_or v []) (other_values values column id apart))) (rule_columns rule)
              (of_found (λ rule. AllByRecursion (λ id. (id == column) ≡ false) (rule_columns rule)) (λ r. r.flags.primary) (schema_of table).indexes rule e
              (all_primary_first (λ rule. AllByRecursion (λ id. (id == column) ≡ false) (rule_columns rule)) table.indexes unused)))
              ∙ t
        ] refl s

-- the keys of a record come of the columns alone
same_columns : (rule : IndexRule) (one other : Schema) → one.columns ≡ other.columns → (key : List ℕ) (values : RecordFields) → yields_key rule one key (Some values) ≡ yields_key rule other key (Some values)
same_columns rule one other e key values = yields_same rule one other key values values (every (rule_columns rule))
  where
    every : (ids : List ℕ) → AllByRecursion (SameAt one other values values) ids
    every [] = tt
    every (id ∷ ids) = ((ap (λ columns. column_of_id columns id) e, refl), every ids)

made : (number : ℕ) (rule : IndexRule) (table : Table) → (rule.flags.primary ≡ true → (bookmark : List ℕ) → row_at table.rows bookmark ≡ None) → Stand number table → Stand number (with_index rule table)
made number rule table empty h = elim (rule.flags.primary) as (λ b. rule.flags.primary ≡ b → Stand number (with_index rule table)) [
  | true ↦ λ e bookmark. subst (λ (o : Option RecordFields). IfSome o (StandsUnder number (schema_of (with_index rule table)) bookmark)) (sym (empty e bookmark)) tt
  | false ↦ λ e. kept_rows number table (with_index rule table) (λ bookmark. refl) (found_with (λ r. r.flags.primary) table.indexes rule e) (λ r f key values. same_columns r (schema_of (with_index rule table)) (schema_of table) refl key values) h
] refl

dropped_index : (number index : ℕ) (table : Table) → AllByRecursion (λ rule. ((rule.id.0 == index) && rule.flags.primary) ≡ false) table.indexes → Stand number table → Stand number (without_index index table)
dropped_index number index table stays h = kept_rows number table (without_index index table) (λ bookmark. refl)
    (found_without (λ r. r.flags.primary) (λ r. not (r.id.0 == index)) table.indexes
    (all_weaker (λ r. ((r.id.0 == index) && r.flags.primary) ≡ false) (λ r. r.flags.primary ≡ true → not (r.id.0 == index) ≡ true) (λ r none e. ap not (first (r.id.0 == index) r.flags.primary e none)) table.indexes stays))
    (λ r f key values. same_columns r (schema_of (without_index index table)) (schema_of table) refl key values) h
  where
    first : (a b : Bool) → b ≡ true → (a && b) ≡ false → a ≡ false
    first true b e f = impossible (sym f ∙ e)
    first false b e f = refl

step_stands : (state : DatabaseState) (label : ℕ) (made_step : SchemaStep) → is_none (schema_refusal state label made_step) ≡ true → ((id : ℕ) (table : Table) → table_with_id state.tables id ≡ Some table → AllByRecursion (IsSoundIndex table) (schema_of table).indexes)
    → ((id : ℕ) → IfSome (table_with_id state.tables id) (Stand (state.number + 1))) → (id : ℕ) → IfSome (table_with_id (tables_after_step state.tables made_step) id) (Stand (state.number + 1))
step_stands state label (step.CreateTable table name) free sound h id = with_last (Stand (state.number + 1)) (new_table table.0 name) (λ bookmark. tt) state.tables id (h id)
step_stands state label (step.DeleteTable table) free sound h id = without_table (Stand (state.number + 1)) table.0 state.tables id (h id)
step_stands state label (step.AddColumn table column) free sound h id =
    at_table (Stand (state.number + 1)) table.0 (with_column (tagged_if_long column)) (λ t. refl) state.tables (λ t found s. added (state.number + 1) (tagged_if_long column) t (sound table.0 t found) s) h id
step_stands state label (step.DeleteColumn table column) free sound h id =
    at_table (Stand (state.number + 1)) table.0 (without_column column.0) (λ t. refl) state.tables
    (λ t found s. gone (state.number + 1) column.0 t (unused_by column t.indexes (at_found state label (step.DeleteColumn table column) t free found).1.0) s) h id
step_stands state label (step.CreateIndex table rule) free sound h id =
    at_table (Stand (state.number + 1)) table.0 (with_index rule) (λ t. refl) state.tables
    (λ t found s. made (state.number + 1) rule t (λ primary. no_rows t.rows (second rule.flags.primary _ primary (at_found state label (step.CreateIndex table rule) t free found).1.1.1.0)) s) h id
  where
    second : (a b : Bool) → a ≡ true → (a && b) ≡ false → b ≡ false
    second true b e f = f
    second false b e f = impossible e
step_stands state label (step.DeleteIndex table index) free sound h id =
    at_table (Stand (state.number + 1)) table.0 (without_index index.0) (λ t. refl) state.tables
    (λ t found s. dropped_index (state.number + 1) index.0 t (none_of (λ r. (r.id.0 == index.0) && r.flags.primary) t.indexes (at_found state label (step.DeleteIndex table index) t free found).1.0) s) h id

-- ---- a sum

-- a sum of a column that no index names leaves the key that is the bookmark
stands : (number : ℕ) (table : Table) (bookmark : List ℕ) (change : Change) → AllByRecursion (λ rule. adds_to_index rule change ≡ false) table.indexes → SumKeeps (StandsUnder number (schema_of table) bookmark) change
stands number table bookmark (Put id at copied values) h = tt
stands number table bookmark (Drop id at) h = tt
stands number table bookmark (Hold id at) h = tt
stands number table bookmark (Add id at column amount) h = λ values had. by (primary_rule (schema_of table)) refl values had
  where
    among : (rules : List IndexRule) → AllByRecursion (λ rule. adds_to_index rule (Add id at column amount) ≡ false) rules → (rule : IndexRule) → find (λ r. r.flags.primary) rules ≡ Some rule → adds_to_index rule (Add id at column amount) ≡ false
    among [] p rule e = cc
    among (first ∷ rules) p rule e = elim (first.flags.primary) as (λ b. cond b (Some first) (find (λ r. r.flags.primary) rules) ≡ Some rule → adds_to_index rule (Add id at column amount) ≡ false) [
      | true ↦ λ g. subst (λ (r : IndexRule). adds_to_index r (Add id at column amount) ≡ false) (same first rule g) p.0
      | false ↦ λ g. among rules p.1 rule g
    ] e
      where
        same : (x y : IndexRule) → Some x ≡ Some y → x ≡ y
        same x y e = cc

    by : (found : Option IndexRule) → primary_rule (schema_of table) ≡ found → (values : RecordFields) → is_bookmark number (schema_of table) found bookmark values ≡ true → is_bookmark number (schema_of table) found bookmark (with_sum values column.0 amount) ≡ true
    by None e values had = had
    by (Some rule) e values had =
        keys_with_sum rule (schema_of table) bookmark values column.0 amount
        (among (schema_of table).indexes (all_primary_first (λ r. adds_to_index r (Add id at column amount) ≡ false) table.indexes h) rule e) ∙ had

stand_sums : (number : ℕ) (state : DatabaseState) (kept : List PastChange) → IndexesSeeNoSum kept state → SumsKeep StandsUnder number state.tables kept
stand_sums number state [] sees = tt
stand_sums number state (item ∷ kept) sees = (
  some_at (λ t. AllByRecursion (λ rule. SeesNoSum rule t.id (item ∷ kept)) t.indexes) (λ t. SumKeeps (StandsUnder number (schema_of t) (changed_bookmark item.change)) item.change) (table_with_id state.tables (changed_table item.change))
      (λ t found each. stands number t (changed_bookmark item.change) item.change
      (all_weaker (λ rule. SeesNoSum rule t.id (item ∷ kept)) (λ rule. adds_to_index rule item.change ≡ false) (λ rule unseen. unseen.0 (sym (id_of state.tables (changed_table item.change) t found))) t.indexes each)) (sees (changed_table item.change)),
  stand_sums number state kept (λ id. some_at (λ t. AllByRecursion (λ rule. SeesNoSum rule t.id (item ∷ kept)) t.indexes) (λ t. AllByRecursion (λ rule. SeesNoSum rule t.id kept) t.indexes) (table_with_id state.tables id)
      (λ t found each. all_weaker (λ rule. SeesNoSum rule t.id (item ∷ kept)) (λ rule. SeesNoSum rule t.id kept) (λ rule unseen. unseen.1) t.indexes each) (sees id)),
)

stand_new : (state : DatabaseState) (label : ℕ) (change : Change) (kept : List PastChange) → IndexesSeeNoSum (kept_after state label (entry.Change change) kept) state
    → IfSome (table_with_id state.tables (changed_table change)) (λ table. SumKeeps (StandsUnder (state.number + 1) (schema_of table) (changed_bookmark change)) change)
stand_new state label change kept sees =
    of_copied change (back (λ item. IfSome (table_with_id state.tables (changed_table item.change)) (λ table. SumKeeps (StandsUnder (state.number + 1) (schema_of table) (changed_bookmark item.change)) item.change)) kept
    (new_change label change (with_next_number state) ∷ []) (stand_sums (state.number + 1) state (kept ++ new_change label change (with_next_number state) ∷ []) sees)).0
  where
    of_copied : (c : Change) → IfSome (table_with_id state.tables (changed_table (without_copied c))) (λ table. SumKeeps (StandsUnder (state.number + 1) (schema_of table) (changed_bookmark (without_copied c))) (without_copied c))
        → IfSome (table_with_id state.tables (changed_table c)) (λ table. SumKeeps (StandsUnder (state.number + 1) (schema_of table) (changed_bookmark c)) c)
    of_copied (Put id at copied values) h = h
    of_copied (Drop id at) h = h
    of_copied (Hold id at) h = h
    of_copied (Add id at column amount) h = h

-- ---- any entry

pub plain_sum : (change : Change) → is_sum (without_copied change) ≡ false → is_sum change ≡ false
plain_sum (Put table bookmark copied values) e = e
plain_sum (Drop table bookmark) e = e
plain_sum (Hold table bookmark) e = e
plain_sum (Add table bookmark column amount) e = e

by_kind : HasOneEntry → (base : Records) (dropped kept : List PastChange) (state : DatabaseState) (label : ℕ) (kind : EntryKind) → IsHistory base dropped kept state → has_number state.number kind ≡ true → IndexesSeeNoSum kept state → IndexesSeeNoSum (kept_after state label kind kept) state
    → is_lawful_kind state label kind ≡ true → IsHistory (base_after state kind base) (dropped_after kind dropped kept) (kept_after state label kind kept) (applied label kind (with_next_number state)) → HasUniqueKeys base kept state → EachRecordHas StandsUnder base kept state
    → EachRecordHas StandsUnder (base_after state kind base) (kept_after state label kind kept) (applied label kind (with_next_number state))
by_kind one base dropped kept state label entry.Enter h few sees sees_after e after unique each = each_by_kind StandsUnder goes_on base kept state label entry.Enter refl each
by_kind one base dropped kept state label entry.Leave h few sees sees_after e after unique each = each_by_kind StandsUnder goes_on base kept state label entry.Leave refl each
by_kind one base dropped kept state label (entry.Open table) h few sees sees_after e after unique each = each_by_kind StandsUnder goes_on base kept state label (entry.Open table) refl each
by_kind one base dropped kept state label (entry.Shut table) h few sees sees_after e after unique each = each_by_kind StandsUnder goes_on base kept state label (entry.Shut table) refl each
by_kind one base dropped kept state label entry.Begin h few sees sees_after e after unique each = each_by_kind StandsUnder goes_on base kept state label entry.Begin refl each
by_kind one base dropped kept state label entry.Save h few sees sees_after e after unique each = each_by_kind StandsUnder goes_on base kept state label entry.Save refl each
by_kind one base dropped kept state label (entry.Change change) h few sees sees_after e after unique each =
    each_changed StandsUnder goes_on base dropped kept state label change h (stand_sums state.number state kept sees) (stand_new state label change kept sees_after) (and_right _ _ e) (any_put StandsUnder state label (put_stands one base kept state label few unique) change)
    (back (IsPlaced (state.number + 1) state.tables (transaction_of state)) kept (new_change label change (with_next_number state) ∷ []) after.keeps.placed).0.3 each
by_kind one base dropped kept state label entry.Release h few sees sees_after e after unique each = each_by_kind StandsUnder goes_on base kept state label entry.Release refl each
by_kind one base dropped kept state label entry.Undo h few sees sees_after e after unique each = each_by_kind StandsUnder goes_on base kept state label entry.Undo refl each
by_kind one base dropped kept state label entry.UndoAll h few sees sees_after e after unique each = each_by_kind StandsUnder goes_on base kept state label entry.UndoAll refl each
by_kind one base dropped kept state label entry.Commit h few sees sees_after e after unique each = each_by_kind StandsUnder goes_on base kept state label entry.Commit refl each
by_kind one base dropped kept state label (entry.Schema made_step) h few sees sees_after e after unique each =
    each_begun StandsUnder (applied label (entry.Schema made_step) (with_next_number state))
    (step_stands state label made_step (and_right _ _ (and_left _ _ e)) (λ id table found. sound_rules base kept state unique id table found)
    (λ id. some_at (Stand state.number) (Stand (state.number + 1)) (table_with_id state.tables id) (λ t found s. stand_later state.number t s) (each_row StandsUnder base dropped kept state h (stand_sums state.number state kept sees) each id)))

pub bookmarks_kept : HasOneEntry → (base : Records) (dropped kept : List PastChange) (state : DatabaseState) (made_entry : Entry) → IsHistory base dropped kept state → is_lawful state made_entry ≡ true → IndexesSeeNoSum kept state → IndexesSeeNoSum (kept_after state made_entry.session.0 made_entry.kind kept) state
    → HasUniqueKeys base kept state → HasBookmarks base kept state → HasBookmarks (base_after state made_entry.kind base) (kept_after state made_entry.session.0 made_entry.kind kept) (state_after state made_entry)
unfolding is_lawful state_after
bookmarks_kept one base dropped kept state made_entry h e sees sees_after unique marks =
    let lawful : is_lawful_kind state made_entry.session.0 made_entry.kind ≡ true = and_right (has_number state.number made_entry.kind) _ e in
    let few : has_number state.number made_entry.kind ≡ true = and_left (has_number state.number made_entry.kind) _ e in
    let after = keeps_lawful base dropped kept state made_entry h e in
    record {
      records = by_kind one base dropped kept state made_entry.session.0 made_entry.kind h few sees sees_after lawful after unique marks.records;
      touched = touched_after base dropped kept state made_entry.session.0 made_entry.kind h lawful after marks.touched;
    }

pub bookmarks_begun : (state : DatabaseState) → RowsHave StandsUnder state.number state.tables → HasBookmarks (records_of state.tables) [] state
bookmarks_begun state h = record { records = each_begun StandsUnder state h; touched = tt }

pub bookmarks_cleaned : (base : Records) (dropped : List PastChange) (item : PastChange) (kept : List PastChange) (state : DatabaseState) → IsHistory base dropped (item ∷ kept) state → IndexesSeeNoSum (item ∷ kept) state
    → HasBookmarks base (item ∷ kept) state → HasBookmarks (if is_standing item then after_item base item else base) kept state
bookmarks_cleaned base dropped item kept state h sees marks = record { records = each_cleaned_where StandsUnder base dropped item kept state h (stand_sums state.number state (item ∷ kept) sees) marks.records; touched = marks.touched.1 }

pub bookmarks_seen : (base : Records) (dropped kept : List PastChange) (state : DatabaseState) → IsHistory base dropped kept state → IndexesSeeNoSum kept state → HasBookmarks base kept state → (session id : ℕ)
    → IfSome (table_with_id state.tables id) (λ table. (bookmark : List ℕ) → IfSome (records_of (view state session) id bookmark) (StandsUnder state.number (schema_of table) bookmark))
bookmarks_seen base dropped kept state h sees marks session id = each_viewed StandsUnder base dropped kept state h (stand_sums state.number state kept sees) marks.records session id
