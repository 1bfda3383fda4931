-- Long values change, and each row in use stands for the record that it stood for.
use Rattle.std.proofs.Common.{◌≡◌, ℕ, ◌≤◌, length, Bool, true, false, cond, List, [], ◌∷◌, Option, Some, None, map, option_map, refl, sym, ap, subst, ◌∙◌}
use Rattle.std.specs.Prelude.{IfSome, IsSomeAnd, IsTrue}
use Rattle.std.specs.List.{AllByRecursion}
use Rattle.btree_inplace.specs.Order.{extent_in}
use Rattle.column_set.specs.RecordValues.{RecordFields, record_fits}
use Rattle.column_set.specs.RowReading.{row_in}
use Rattle.cursor_nav.specs.Places.{are_sorted}
use Rattle.database_state.specs.Lawful.{is_indexable}
use Rattle.database_state.specs.Table.{Rows, Table, row_at, schema_of, table_with_id}
use Rattle.index_derive.specs.declared.rules.IndexRule.{IndexRule}
use Rattle.long_rows.specs.WholeRows.{is_whole}
use Rattle.long_value.specs.Values.{Values}
use Rattle.page_image.specs.Page.{Node}
use Rattle.table_trees.specs.StoredNodes.{bookmark_entries}
use Rattle.table_trees.specs.StoredTables.{StoredIndex, StoredTable, index_entries, is_index, part_of, table_indexes, table_nodes}
use Rattle.version_store.specs.HeldChanges.{HeldChange, is_standing}
use Rattle.laws_engine.specs.HeldRecords.{HeldRecord}
use Rattle.laws_engine.specs.Variants.{HoldsVariants, has_variant}
use Rattle.stored_variants.specs.RecordRows.{IsRecordRow, TableValues, held_record_in, record_of, row_under, rows_of_nodes}
use Rattle.stored_variants.specs.VersionsKept.{AreKeptWith, HoldsNumbers, IsBookmarkOf, IsKeptChange, IsKeptTable, IsRowUnder, secondary_rule, tree_numbers}
use Rattle.stored_variants.specs.VersionsView.{with_newest_by}
use Rattle.stored_variants.proofs.NodeRecords.{record_at}
use Rattle.stored_variants.proofs.RisingRows.{rows_rise, same_rows}

-- a row stands for the same record, and can be read whole still
pub record StaysSame (old new : Values) (row : List ℕ) : Type 0 where
  pub shown : record_of new row ≡ record_of old row
  pub whole : IsTrue (is_whole new (row_in row))

-- The newest rows, and the rows before puts and drops that are not undone, stand for the same records.
pub record AreSame (old new : TableValues) (trees : List StoredTable) (held : List HeldChange) : Type 0 where
  pub newest : (table : ℕ) (bookmark : List ℕ) → IfSome (row_under (table_nodes trees table) bookmark) (StaysSame (old table) (new table))
  pub before : AllByRecursion (λ h. is_standing h ≡ true → IfSome h.before (StaysSame (old h.table) (new h.table))) held

-- ---- rows

same_record_row : (old new : Values) (row : List ℕ) → StaysSame old new row → IsRecordRow old row → IsRecordRow new row
same_record_row old new row same is = record { formed = is.formed; spelled = is.spelled; whole = same.whole; small = is.small }

same_row_under : (old new : Values) (t : Table) (bookmark row : List ℕ) → StaysSame old new row → IsRowUnder old t bookmark row → IsRowUnder new t bookmark row
same_row_under old new t bookmark row same is = record {
  fits = record {
    row = same_record_row old new row same is.fits.row;
    columns = subst (λ (fields : RecordFields). record_fits t.columns fields ≡ true) (sym same.shown) is.fits.columns;
    numbers = subst (λ (fields : RecordFields). HoldsNumbers (schema_of t) fields) (sym same.shown) is.fits.numbers;
  };
  indexable = subst (λ (fields : RecordFields). is_indexable (schema_of t) fields ≡ true) (sym same.shown) is.indexable;
  own = subst (λ (fields : RecordFields). IsBookmarkOf t fields bookmark) (sym same.shown) is.own;
}

same_of : (old new : Values) (o : Option (List ℕ)) → IfSome o (StaysSame old new) → option_map (record_of new) o ≡ option_map (record_of old) o
same_of old new None same = refl
same_of old new (Some row) same = ap (λ (fields : RecordFields). Some fields) same.shown

-- ---- nodes

pub same_rows_of : (old new : Values) (nodes : List Node) → are_sorted (bookmark_entries nodes) ≡ true → ((own : List ℕ) → IfSome (row_under nodes own) (StaysSame old new)) → rows_of_nodes new nodes ≡ rows_of_nodes old nodes
same_rows_of old new nodes sorted same =
    same_rows (rows_of_nodes new nodes) (rows_of_nodes old nodes) (rows_rise new nodes sorted) (rows_rise old nodes sorted)
    (λ own. record_at new nodes sorted own ∙ same_of old new (row_under nodes own) (same own) ∙ sym (record_at old nodes sorted own))

abbrev pub AreInOrder : List StoredTable → Type 0
AreInOrder trees = (table : ℕ) → are_sorted (bookmark_entries (table_nodes trees table)) ≡ true

pub same_newest_records : (old new : TableValues) (trees : List StoredTable) (held : List HeldChange) → AreInOrder trees → AreSame old new trees held → (tables : List Table) → map (with_newest_by new trees) tables ≡ map (with_newest_by old trees) tables
same_newest_records old new trees held sorted same [] = refl
same_newest_records old new trees held sorted same (t ∷ tables) =
    λ i. record t { rows = same_rows_of (old t.id) (new t.id) (table_nodes trees t.id) (sorted t.id) (same.newest t.id) i } ∷ same_newest_records old new trees held sorted same tables i

-- ---- held changes

same_held_one : (old new : TableValues) (h : HeldChange) → (is_standing h ≡ true → IfSome h.before (StaysSame (old h.table) (new h.table))) → held_record_in new h ≡ held_record_in old h
same_held_one old new h same = ap (λ (o : Option RecordFields). record (held_record_in old h) { before = o }) (by (is_standing h) refl)
  where
    by : (b : Bool) → is_standing h ≡ b → cond (is_standing h) (option_map (record_of (new h.table)) h.before) None ≡ cond (is_standing h) (option_map (record_of (old h.table)) h.before) None
    by true e = ap (λ (o : Option RecordFields). cond (is_standing h) o None) (same_of (old h.table) (new h.table) h.before (same e))
    by false e = ap (λ b. cond b (option_map (record_of (new h.table)) h.before) None) e ∙ sym (ap (λ b. cond b (option_map (record_of (old h.table)) h.before) None) e)

pub same_held : (old new : TableValues) (held : List HeldChange) → AllByRecursion (λ h. is_standing h ≡ true → IfSome h.before (StaysSame (old h.table) (new h.table))) held → map (held_record_in new) held ≡ map (held_record_in old) held
same_held old new [] same = refl
same_held old new (h ∷ held) same = λ i. same_held_one old new h same.0 i ∷ same_held old new held same.1 i

same_change_kept : (old new : TableValues) (tables : List Table) (trees : List StoredTable) (h : HeldChange) → (is_standing h ≡ true → IfSome h.before (StaysSame (old h.table) (new h.table))) → IsKeptChange old tables trees h → IsKeptChange new tables trees h
same_change_kept old new tables trees h same kept = record {
  named = kept.named;
  before = λ standing. by (table_with_id tables h.table) h.before (same standing) (kept.before standing);
  drop = kept.drop;
  room = kept.room;
  other = kept.other;
  sum = kept.sum;
}
  where
    by : (o : Option Table) (row : Option (List ℕ)) → IfSome row (StaysSame (old h.table) (new h.table)) → IfSome o (λ t. IfSome row (IsRowUnder (old h.table) t h.bookmark)) → IfSome o (λ t. IfSome row (IsRowUnder (new h.table) t h.bookmark))
    by None row s is = tt
    by (Some t) None s is = tt
    by (Some t) (Some row) s is = same_row_under (old h.table) (new h.table) t h.bookmark row s is

same_changes_kept : (old new : TableValues) (tables : List Table) (trees : List StoredTable) (held : List HeldChange) → AllByRecursion (λ h. is_standing h ≡ true → IfSome h.before (StaysSame (old h.table) (new h.table))) held
    → AllByRecursion (IsKeptChange old tables trees) held → AllByRecursion (IsKeptChange new tables trees) held
same_changes_kept old new tables trees [] same kept = tt
same_changes_kept old new tables trees (h ∷ held) same kept = (same_change_kept old new tables trees h same.0 kept.0, same_changes_kept old new tables trees held same.1 kept.1)

-- ---- the store

same_table_kept : (old new : Values) (trees : List StoredTable) (nodes : List Node) (one other : List HeldRecord) → rows_of_nodes new nodes ≡ rows_of_nodes old nodes → other ≡ one → ((own : List ℕ) → IfSome (row_under nodes own) (StaysSame old new))
    → (t : Table) → IsKeptTable trees old nodes one t → IsKeptTable trees new nodes other t
same_table_kept old new trees nodes one other rows held same t kept = record {
  rules = kept.rules;
  rows = λ own. row own (row_under nodes own) (same own) (kept.rows own);
  stands = λ own. kept.stands own ∙ (λ i. has_variant (row_at (sym rows i) own) (sym held i) t.id own);
  entries = λ index. by index (secondary_rule t index) (kept.entries index);
}
  where
    row : (own : List ℕ) (o : Option (List ℕ)) → IfSome o (StaysSame old new) → IfSome o (IsRowUnder old t own) → IfSome o (IsRowUnder new t own)
    row own None s is = tt
    row own (Some r) s is = same_row_under old new t own r s is

    by : (index : ℕ) (o : Option IndexRule) → IfSome o (λ rule. HoldsVariants (rows_of_nodes old nodes) one rule (schema_of t) t.id (index_entries trees t.id index))
        → IfSome o (λ rule. HoldsVariants (rows_of_nodes new nodes) other rule (schema_of t) t.id (index_entries trees t.id index))
    by index None holds = tt
    by index (Some rule) holds =
        subst (λ (r : Rows). HoldsVariants r other rule (schema_of t) t.id (index_entries trees t.id index)) (sym rows)
        (subst (λ (hs : List HeldRecord). HoldsVariants (rows_of_nodes old nodes) hs rule (schema_of t) t.id (index_entries trees t.id index)) (sym held) holds)

-- the store is kept with the other long values
pub kept_with_others : (old new : TableValues) (tables : List Table) (trees : List StoredTable) (held : List HeldChange) → AreInOrder trees → AreSame old new trees held → AreKeptWith old tables trees held → AreKeptWith new tables trees held
kept_with_others old new tables trees held sorted same kept = record {
  plain = kept.plain;
  numbers = kept.numbers;
  each = λ table. by table (table_with_id tables table) (kept.each table);
  changes = same_changes_kept old new tables trees held same.before kept.changes;
}
  where
    by : (table : ℕ) (o : Option Table) → IfSome o (IsKeptTable trees (old table) (table_nodes trees table) (map (held_record_in old) held)) → IfSome o (IsKeptTable trees (new table) (table_nodes trees table) (map (held_record_in new) held))
    by table None is = tt
    by table (Some t) is =
        same_table_kept (old table) (new table) trees (table_nodes trees table) (map (held_record_in old) held) (map (held_record_in new) held)
        (same_rows_of (old table) (new table) (table_nodes trees table) (sorted table) (same.newest table)) (same_held old new held same.before) (same.newest table) t is

-- ---- other trees with the same nodes and indexes

-- Each table has its nodes and its indexes, and its number.
pub record HaveSameNodes (one other : List StoredTable) : Type 0 where
  pub numbers : map tree_numbers other ≡ map tree_numbers one
  pub nodes : (table : ℕ) → table_nodes other table ≡ table_nodes one table
  pub indexes : (table : ℕ) → table_indexes other table ≡ table_indexes one table

pub newest_moved : (longs : TableValues) (one other : List StoredTable) → HaveSameNodes one other → (tables : List Table) → map (with_newest_by longs other) tables ≡ map (with_newest_by longs one) tables
newest_moved longs one other same [] = refl
newest_moved longs one other same (t ∷ tables) = λ i. record t { rows = rows_of_nodes (longs t.id) (same.nodes t.id i) } ∷ newest_moved longs one other same tables i

changes_moved : (longs : TableValues) (one other : List StoredTable) → HaveSameNodes one other → (tables : List Table) (held : List HeldChange) → AllByRecursion (IsKeptChange longs tables one) held → AllByRecursion (IsKeptChange longs tables other) held
changes_moved longs one other same tables [] kept = tt
changes_moved longs one other same tables (h ∷ held) kept = (
  record {
    named = kept.0.named;
    before = kept.0.before;
    drop = kept.0.drop;
    room = λ still. subst (λ (nodes : List Node). IfSome h.before (λ row. IsSomeAnd (extent_in nodes h.bookmark) (λ extent. length row ≤ extent))) (sym (same.nodes h.table)) (kept.0.room still);
    other = kept.0.other;
    sum = kept.0.sum;
  },
  changes_moved longs one other same tables held kept.1,
)

pub kept_moved : (longs : TableValues) (one other : List StoredTable) → HaveSameNodes one other → (tables : List Table) (held : List HeldChange) → AreKeptWith longs tables one held → AreKeptWith longs tables other held
kept_moved longs one other same tables held kept = record {
  plain = kept.plain;
  numbers = same.numbers ∙ kept.numbers;
  each = λ table. by table (table_with_id tables table) refl (kept.each table);
  changes = changes_moved longs one other same tables held kept.changes;
}
  where
    entries : (id index : ℕ) → index_entries other id index ≡ index_entries one id index
    entries id index = ap (λ (indexes : List StoredIndex). part_of (is_index index) (λ x. x.1) indexes) (same.indexes id)

    holds : (vals : Values) (nodes : List Node) (t : Table) (index : ℕ) (o : Option IndexRule) → IfSome o (λ rule. HoldsVariants (rows_of_nodes vals nodes) (map (held_record_in longs) held) rule (schema_of t) t.id (index_entries one t.id index))
        → IfSome o (λ rule. HoldsVariants (rows_of_nodes vals nodes) (map (held_record_in longs) held) rule (schema_of t) t.id (index_entries other t.id index))
    holds vals nodes t index None is = tt
    holds vals nodes t index (Some rule) is = subst (HoldsVariants (rows_of_nodes vals nodes) (map (held_record_in longs) held) rule (schema_of t) t.id) (sym (entries t.id index)) is

    here : (vals : Values) (nodes : List Node) (t : Table) → IsKeptTable one vals nodes (map (held_record_in longs) held) t → IsKeptTable other vals nodes (map (held_record_in longs) held) t
    here vals nodes t is = record { rules = is.rules; rows = is.rows; stands = is.stands; entries = λ index. holds vals nodes t index (secondary_rule t index) (is.entries index) }

    by : (table : ℕ) (o : Option Table) → table_with_id tables table ≡ o → IfSome o (IsKeptTable one (longs table) (table_nodes one table) (map (held_record_in longs) held)) → IfSome o (IsKeptTable other (longs table) (table_nodes other table) (map (held_record_in longs) held))
    by table None e is = tt
    by table (Some t) e is =
        subst (λ (nodes : List Node). IsKeptTable other (longs table) nodes (map (held_record_in longs) held) t) (sym (same.nodes table))
        (here (longs table) (table_nodes one table) t is)
