-- A drop keeps what trees, catalog and held changes keep of one another.
use Rattle.std.proofs.Common.{◌≡◌, ℕ, ◌≤◌, Bool, true, false, ◌&&◌, ◌||◌, cond, List, [], ◌∷◌, ◌++◌, length, Option, Some, None, find, map, option_map, refl, sym, ap, subst, ◌∙◌, arith}
use Rattle.std.specs.Prelude.{◌==◌, All, IfSome, IsSomeAnd, bytes_eq, is_some, option_and_then}
use Rattle.std.specs.List.{AllByRecursion, list_any}
use Rattle.std.proofs.lemmas.List.Folds.{list_any-append}
use Rattle.std.proofs.lemmas.Bool.{eqb-true}
use Rattle.common_lemmas.proofs.Booleans.{and_left, and_right, impossible}
use Rattle.common_lemmas.proofs.Lists.{all_append}
use Rattle.common_lemmas.proofs.Numbers.{equal_turned, same_bytes}
use Rattle.btree_inplace.specs.Changes.{with_data_at}
use Rattle.btree_inplace.specs.Order.{extent_in, has_key}
use Rattle.column_set.specs.declared.changes.Change.{Change}
use Rattle.column_set.specs.declared.changes.Change.TheVariants.{Put, Drop, Hold, Add}
use Rattle.column_set.specs.RecordValues.{RecordFields}
use Rattle.cursor_nav.specs.Places.{are_sorted}
use Rattle.database_state.specs.Changes.{tables_after}
use Rattle.column_set.specs.ChangedRecords.{changed_bookmark, changed_table}
use Rattle.database_state.specs.Conflicts.{yields_key}
use Rattle.database_state.specs.Table.{Rows, Table, record_in, row_at, rows_of, schema_of, table_with_id, without_row}
use Rattle.laws_versions.specs.KeptEntries.{has_entry}
use Rattle.index_derive.specs.declared.rules.IndexRule.{IndexRule}
use Rattle.jet_catalog.specs.Catalog.{CatalogState}
use Rattle.jet_base.specs.declared.ids.TableId.{TableId}
use Rattle.page_image.specs.Page.{Node}
use Rattle.table_trees.specs.StoredNodes.{IsShortNode, bookmark_entries}
use Rattle.table_trees.specs.StoredTables.{table_long_values, StoredTable, has_table, index_entries, table_nodes}
use Rattle.version_store.specs.declared.calls.By.{By}
use Rattle.version_store.specs.declared.calls.ChangeKind.TheVariants as kind
use Rattle.version_store.specs.HeldChanges.{HeldChange, kind_of, new_change}
use Rattle.laws_engine.specs.HeldRecords.{HeldRecord, is_standing_rewrite, new_change as new_record}
use Rattle.laws_engine.specs.VersionedTables.{VersionedTables, with_change}
use Rattle.laws_engine.specs.Variants.{HoldsVariants}
use Rattle.stored_variants.specs.RecordRows.{TableValues, IsRecordRow, held_record_in, record_of, row_in_node, row_under, rows_of_nodes}
use Rattle.stored_variants.specs.StoredVersions.{StoredVersions}
use Rattle.stored_variants.specs.VersionsView.{with_newest, stored_versions, with_newest_by}
use Rattle.stored_variants.specs.VersionsKept.{AreKept, AreKeptWith, IsKeptChange, IsKeptTable, IsRowUnder, secondary_rule}
use Rattle.stored_variants.proofs.Dropped.{TreeLaws, emptied, extent_at, has_trees, nodes_are, row_then, same_numbers, there_at, room_in, rows_emptied, same_index}
use Rattle.stored_variants.specs.CountedValues.{AreCounted, HasNoValueBehind}
use Rattle.table_versions.proofs.CountedSteps.{ChangeCounts, ChangesRow, changed_counted}
use Rattle.table_versions.proofs.Held.{appended, no_sum, is_drop, variants}
use Rattle.table_versions.proofs.StepInStore.{IsStored, brings_none, entries_stay, same_values}
use Rattle.stored_variants.proofs.NodeRecords.{record_at}
use Rattle.table_versions.proofs.Span.{RowSizes, same_cost}
use Rattle.stored_variants.proofs.Tables.{found_number, newest_at, newest_is_row, table_at}
use Rattle.long_value.specs.Values.{Values}

-- what is known of the trees before and after
pub record Emptied (laws : TreeLaws) (trees : List StoredTable) (id : ℕ) (bookmark : List ℕ) : Type 0 where
  pub there : has_table trees id ≡ true
  pub sorted : (table : ℕ) → are_sorted (bookmark_entries (table_nodes trees table)) ≡ true
  pub sorted_then : (table : ℕ) → are_sorted (bookmark_entries (table_nodes (emptied trees id bookmark) table)) ≡ true

-- the drop that is held
abbrev pub dropped : By → TableId → List ℕ → List StoredTable → HeldChange
dropped by table bookmark trees = new_change by (Drop table bookmark) (row_under (table_nodes trees table.0) bookmark)

pub record_then : (longs : TableValues) (laws : TreeLaws) (trees : List StoredTable) (id : ℕ) (bookmark : List ℕ) → Emptied laws trees id bookmark → (other : ℕ) (own : List ℕ)
    → row_at (rows_of_nodes (longs other) (table_nodes (emptied trees id bookmark) other)) own ≡ cond ((id == other) && bytes_eq bookmark own) None (row_at (rows_of_nodes (longs other) (table_nodes trees other)) own)
record_then longs laws trees id bookmark known other own =
    record_at (longs other) (table_nodes (emptied trees id bookmark) other) (known.sorted_then other) own
    ∙ ap (option_map (record_of (longs other))) (row_then laws trees id bookmark known.there other own)
    ∙ by ((id == other) && bytes_eq bookmark own)
  where
    by : (b : Bool) → option_map (record_of (longs other)) (cond b None (row_under (table_nodes trees other) own)) ≡ cond b None (row_at (rows_of_nodes (longs other) (table_nodes trees other)) own)
    by true = refl
    by false = sym (record_at (longs other) (table_nodes trees other) (known.sorted other) own)

same_variants : (longs : TableValues) (laws : TreeLaws) (trees : List StoredTable) (by : By) (table : TableId) (bookmark : List ℕ) → Emptied laws trees table.0 bookmark → (held : List HeldChange) (test : Option RecordFields → Bool) → test None ≡ false → (other : ℕ) (own : List ℕ)
    → variants test (row_at (rows_of_nodes (longs other) (table_nodes (emptied trees table.0 bookmark) other)) own) other own (map (held_record_in longs) (held ++ dropped by table bookmark trees ∷ []))
    ≡ variants test (row_at (rows_of_nodes (longs other) (table_nodes trees other)) own) other own (map (held_record_in longs) held)
same_variants longs laws trees by table bookmark known held test none other own =
    ap (λ newest. variants test newest other own (map (held_record_in longs) (held ++ new ∷ []))) (record_then longs laws trees table.0 bookmark known other own)
    ∙ ap (λ records. variants test (cond hit None newest) other own records) (appended longs held new)
    ∙ ap (λ b. test (cond hit None newest) || b) (list_any-append passes (map (held_record_in longs) held) (held_record_in longs new ∷ []))
    ∙ cases hit refl
  where
    new : HeldChange
    new = dropped by table bookmark trees

    hit : Bool
    hit = (table.0 == other) && bytes_eq bookmark own

    newest : Option RecordFields
    newest = row_at (rows_of_nodes (longs other) (table_nodes trees other)) own

    passes : HeldRecord → Bool
    passes change = is_standing_rewrite other own change && test change.before

    before_is : hit ≡ true → (held_record_in longs new).before ≡ newest
    before_is e =
        (λ i. option_map (record_of (longs (eqb-true table.0 other (and_left (table.0 == other) _ e) i))) (row_under (table_nodes trees (eqb-true table.0 other (and_left (table.0 == other) _ e) i)) (same_bytes bookmark own (and_right (table.0 == other) _ e) i)))
        ∙ sym (record_at (longs other) (table_nodes trees other) (known.sorted other) own)

    moved : (a b : Bool) → (false || (b || (((true && true) && true) && a || false))) ≡ (a || b)
    moved true true = refl
    moved true false = refl
    moved false true = refl
    moved false false = refl

    kept : (a b c : Bool) → (a || (b || (((false && true) && true) && c || false))) ≡ (a || b)
    kept true b c = refl
    kept false true c = refl
    kept false false c = refl

    cases : (b : Bool) → hit ≡ b → (test (cond b None newest) || (list_any passes (map (held_record_in longs) held) || (passes (held_record_in longs new) || false))) ≡ (test newest || list_any passes (map (held_record_in longs) held))
    cases true e =
        (λ i. none i || (list_any passes (map (held_record_in longs) held) || (((e i && true) && true) && test (before_is e i) || false)))
        ∙ moved (test newest) (list_any passes (map (held_record_in longs) held))
    cases false e =
        (λ i. test newest || (list_any passes (map (held_record_in longs) held) || (((e i && true) && true) && test (held_record_in longs new).before || false)))
        ∙ kept (test newest) (list_any passes (map (held_record_in longs) held)) (test (held_record_in longs new).before)

-- ---- tables

same_rows : (vals : Values) (table : Table) (own : List ℕ) (b : Bool) (row : Option (List ℕ)) → IfSome row (IsRowUnder vals table own) → IfSome (cond b None row) (IsRowUnder vals table own)
same_rows vals table own true row is = tt
same_rows vals table own false row is = is

dropped_table : (longs : TableValues) (laws : TreeLaws) (trees : List StoredTable) (by : By) (table : TableId) (bookmark : List ℕ) → Emptied laws trees table.0 bookmark → (held : List HeldChange) (t : Table)
    → IsKeptTable trees (longs t.id) (table_nodes trees t.id) (map (held_record_in longs) held) t
    → IsKeptTable (emptied trees table.0 bookmark) (longs t.id) (table_nodes (emptied trees table.0 bookmark) t.id) (map (held_record_in longs) (held ++ dropped by table bookmark trees ∷ [])) t
dropped_table longs laws trees by table bookmark known held t kept = record {
  rules = kept.rules;
  rows = λ own.
      subst (λ (row : Option (List ℕ)). IfSome row (IsRowUnder (longs t.id) t own)) (sym (row_then laws trees table.0 bookmark known.there t.id own))
      (same_rows (longs t.id) t own ((table.0 == t.id) && bytes_eq bookmark own) (row_under (table_nodes trees t.id) own) (kept.rows own));
  stands = λ own.
      there_at laws trees table.0 bookmark known.there t.id own ∙ kept.stands own
      ∙ sym (same_variants longs laws trees by table bookmark known held is_some refl t.id own);
  entries = λ index. each index (secondary_rule t index) (kept.entries index);
}
  where
    each : (index : ℕ) (rule : Option IndexRule)
        → IfSome rule (λ rule. HoldsVariants (rows_of_nodes (longs t.id) (table_nodes trees t.id)) (map (held_record_in longs) held) rule (schema_of t) t.id (index_entries trees t.id index))
        → IfSome rule (λ rule. HoldsVariants (rows_of_nodes (longs t.id) (table_nodes (emptied trees table.0 bookmark) t.id)) (map (held_record_in longs) (held ++ dropped by table bookmark trees ∷ [])) rule (schema_of t) t.id (index_entries (emptied trees table.0 bookmark) t.id index))
    each index None holds = tt
    each index (Some rule) holds = λ key own.
        ap (has_entry key own) (same_index laws trees table.0 _ t.id index) ∙ holds key own
        ∙ sym (same_variants longs laws trees by table bookmark known held (yields_key rule (schema_of t) key) refl t.id own)

-- ---- held changes

room_then : (longs : TableValues) (laws : TreeLaws) (trees : List StoredTable) (id : ℕ) (bookmark : List ℕ) → has_table trees id ≡ true → (tables : List Table) (h : HeldChange) → IsKeptChange longs tables trees h → IsKeptChange longs tables (emptied trees id bookmark) h
room_then longs laws trees id bookmark there tables h kept = record {
  named = kept.named;
  before = kept.before;
  drop = kept.drop;
  room = λ uncommitted. subst (λ (extent : Option ℕ). IfSome h.before (λ row. IsSomeAnd extent (λ n. length row ≤ n))) (sym (extent_at laws trees id bookmark there h.table h.bookmark)) (kept.room uncommitted);
  other = kept.other;
  sum = kept.sum;
}

all_room : (longs : TableValues) (laws : TreeLaws) (trees : List StoredTable) (id : ℕ) (bookmark : List ℕ) → has_table trees id ≡ true → (tables : List Table) (held : List HeldChange) → AllByRecursion (IsKeptChange longs tables trees) held → AllByRecursion (IsKeptChange longs tables (emptied trees id bookmark)) held
all_room longs laws trees id bookmark there tables [] kept = tt
all_room longs laws trees id bookmark there tables (h ∷ held) kept = (room_then longs laws trees id bookmark there tables h kept.0, all_room longs laws trees id bookmark there tables held kept.1)

-- ---- the drop itself

new_kept : (longs : TableValues) (laws : TreeLaws) (trees : List StoredTable) (by : By) (table : TableId) (bookmark : List ℕ) → Emptied laws trees table.0 bookmark → All IsShortNode (table_nodes trees table.0) → (tables : List Table) (held : List HeldRecord)
    → is_some (table_with_id tables table.0) ≡ true → is_some (row_under (table_nodes trees table.0) bookmark) ≡ true → IfSome (table_with_id tables table.0) (IsKeptTable trees (longs table.0) (table_nodes trees table.0) held)
    → IsKeptChange longs tables (emptied trees table.0 bookmark) (dropped by table bookmark trees)
new_kept longs laws trees by table bookmark known short tables held named there kept = record {
  named = named;
  before = λ standing. before_of (table_with_id tables table.0) kept;
  drop = λ standing dropped. there;
  room = λ uncommitted.
      subst (λ (extent : Option ℕ). IfSome (row_under (table_nodes trees table.0) bookmark) (λ row. IsSomeAnd extent (λ n. length row ≤ n))) (sym (extent_at laws trees table.0 bookmark known.there table.0 bookmark))
      (room_in (table_nodes trees table.0) short bookmark);
  other = λ e. impossible (sym e);
  sum = no_sum (table_with_id tables table.0) kind.Drop refl;
}
  where
    before_of : (o : Option Table) → IfSome o (IsKeptTable trees (longs table.0) (table_nodes trees table.0) held) → IfSome o (λ t. IfSome (row_under (table_nodes trees table.0) bookmark) (IsRowUnder (longs table.0) t bookmark))
    before_of None is = tt
    before_of (Some t) is = is.rows bookmark

drop_kept : (longs : TableValues) (laws : TreeLaws) (trees : List StoredTable) (by : By) (table : TableId) (bookmark : List ℕ) → Emptied laws trees table.0 bookmark → All IsShortNode (table_nodes trees table.0) → (tables : List Table) (held : List HeldChange)
    → is_some (table_with_id tables table.0) ≡ true → is_some (row_under (table_nodes trees table.0) bookmark) ≡ true → AreKeptWith longs tables trees held
    → AreKeptWith longs tables (emptied trees table.0 bookmark) (held ++ dropped by table bookmark trees ∷ [])
drop_kept longs laws trees by table bookmark known short tables held named there kept = record {
  plain = kept.plain;
  numbers = same_numbers table.0 (with_data_at (table_nodes trees table.0) bookmark []) trees ∙ kept.numbers;
  each = λ other. each other (table_with_id tables other) refl (kept.each other);
  changes =
      all_append (IsKeptChange longs tables (emptied trees table.0 bookmark)) held (dropped by table bookmark trees ∷ []) (all_room longs laws trees table.0 bookmark known.there tables held kept.changes)
      (new_kept longs laws trees by table bookmark known short tables (map (held_record_in longs) held) named there (kept.each table.0), tt);
}
  where
    each : (other : ℕ) (o : Option Table) → table_with_id tables other ≡ o → IfSome o (IsKeptTable trees (longs other) (table_nodes trees other) (map (held_record_in longs) held))
        → IfSome o (IsKeptTable (emptied trees table.0 bookmark) (longs other) (table_nodes (emptied trees table.0 bookmark) other) (map (held_record_in longs) (held ++ dropped by table bookmark trees ∷ [])))
    each other None e is = tt
    each other (Some t) e is =
        let found = found_number other tables t e in
        subst (λ (n : ℕ). IsKeptTable (emptied trees table.0 bookmark) (longs n) (table_nodes (emptied trees table.0 bookmark) n) (map (held_record_in longs) (held ++ dropped by table bookmark trees ∷ [])) t) found
        (dropped_table longs laws trees by table bookmark known held t (subst (λ (n : ℕ). IsKeptTable trees (longs n) (table_nodes trees n) (map (held_record_in longs) held) t) (sym found) is))

-- ---- what it shows

rows_then : (longs : TableValues) (laws : TreeLaws) (trees : List StoredTable) (id : ℕ) (bookmark : List ℕ) → has_table trees id ≡ true → (other : ℕ)
    → rows_of_nodes (longs other) (table_nodes (emptied trees id bookmark) other) ≡ cond (other == id) (without_row (rows_of_nodes (longs other) (table_nodes trees other)) bookmark) (rows_of_nodes (longs other) (table_nodes trees other))
rows_then longs laws trees id bookmark there other =
    ap (rows_of_nodes (longs other)) (nodes_are laws trees id bookmark there other) ∙ by (id == other)
    ∙ ap (λ b. cond b (without_row (rows_of_nodes (longs other) (table_nodes trees other)) bookmark) (rows_of_nodes (longs other) (table_nodes trees other))) (equal_turned id other)
  where
    by : (b : Bool) → rows_of_nodes (longs other) (cond b (with_data_at (table_nodes trees other) bookmark []) (table_nodes trees other)) ≡ cond b (without_row (rows_of_nodes (longs other) (table_nodes trees other)) bookmark) (rows_of_nodes (longs other) (table_nodes trees other))
    by true = rows_emptied (longs other) bookmark (table_nodes trees other)
    by false = refl

tables_then : (longs : TableValues) (laws : TreeLaws) (trees : List StoredTable) (table : TableId) (bookmark : List ℕ) → has_table trees table.0 ≡ true → (tables : List Table)
    → map (with_newest_by longs (emptied trees table.0 bookmark)) tables ≡ tables_after (map (with_newest_by longs trees) tables) (Drop table bookmark)
tables_then longs laws trees table bookmark there [] = refl
tables_then longs laws trees table bookmark there (t ∷ tables) =
    λ i. (ap (λ (rows : Rows). record t { rows = rows }) (rows_then longs laws trees table.0 bookmark there t.id) ∙ by (t.id == table.0)) i ∷ tables_then longs laws trees table bookmark there tables i
  where
    by : (b : Bool) → record t { rows = cond b (without_row (rows_of_nodes (longs t.id) (table_nodes trees t.id)) bookmark) (rows_of_nodes (longs t.id) (table_nodes trees t.id)) }
        ≡ cond b (record (with_newest_by longs trees t) { rows = without_row (rows_of_nodes (longs t.id) (table_nodes trees t.id)) bookmark }) (with_newest_by longs trees t)
    by true = refl
    by false = refl

dropped_record : (longs : TableValues) (sizes : RowSizes) (by : By) (table : TableId) (bookmark : List ℕ) (row : Option (List ℕ)) → IfSome row (IsRecordRow (longs table.0)) → held_record_in longs (new_change by (Drop table bookmark) row) ≡ new_record by (Drop table bookmark) (option_map (record_of (longs table.0)) row)
dropped_record longs sizes by table bookmark row is = λ i. record (held_record_in longs (new_change by (Drop table bookmark) row)) { cost = same_cost (longs table.0) sizes (Drop table bookmark) row is i }

-- the trees and the held changes after a drop show the versioned tables after it
drop_shown : (longs : TableValues) (sizes : RowSizes) (laws : TreeLaws) (trees : List StoredTable) (by : By) (table : TableId) (bookmark : List ℕ) → Emptied laws trees table.0 bookmark → (tables : List Table) (held : List HeldChange) → AreKeptWith longs tables trees held
    → record { tables = map (with_newest_by longs (emptied trees table.0 bookmark)) tables; held = map (held_record_in longs) (held ++ dropped by table bookmark trees ∷ []) }
    ≡ with_change by (Drop table bookmark) (record { tables = map (with_newest_by longs trees) tables; held = map (held_record_in longs) held })
drop_shown longs sizes laws trees by table bookmark known tables held kept =
    λ i. record {
      tables = tables_then longs laws trees table bookmark known.there tables i;
      held = (appended longs held (dropped by table bookmark trees) ∙ ap (λ r. map (held_record_in longs) held ++ r ∷ []) last) i;
    }
  where
    row : Option (List ℕ)
    row = row_under (table_nodes trees table.0) bookmark

    last : held_record_in longs (dropped by table bookmark trees) ≡ new_record by (Drop table bookmark) (record_in (map (with_newest_by longs trees) tables) table.0 bookmark)
    last =
        dropped_record longs sizes by table bookmark row (newest_is_row longs tables trees held kept table.0 bookmark)
        ∙ ap (new_record by (Drop table bookmark)) (sym (newest_at longs trees tables kept.numbers known.sorted table.0 bookmark))

-- ---- any change that is a drop

-- what the trees and the held changes are after it, and what they show
pub record IsDropped (longs : TableValues) (tables : List Table) (trees : List StoredTable) (held : List HeldChange) (by : By) (made : Change) : Type 0 where
  pub kept : AreKeptWith longs tables (emptied trees (changed_table made) (changed_bookmark made)) (held ++ new_change by made (row_under (table_nodes trees (changed_table made)) (changed_bookmark made)) ∷ [])
  pub shown : record { tables = map (with_newest_by longs (emptied trees (changed_table made) (changed_bookmark made))) tables; held = map (held_record_in longs) (held ++ new_change by made (row_under (table_nodes trees (changed_table made)) (changed_bookmark made)) ∷ []) }
      ≡ with_change by made (record { tables = map (with_newest_by longs trees) tables; held = map (held_record_in longs) held })

pub is_dropped : (longs : TableValues) (sizes : RowSizes) (laws : TreeLaws) (trees : List StoredTable) (by : By) (made : Change) → kind_of made ≡ kind.Drop → Emptied laws trees (changed_table made) (changed_bookmark made) → All IsShortNode (table_nodes trees (changed_table made))
    → (tables : List Table) (held : List HeldChange) → is_some (table_with_id tables (changed_table made)) ≡ true → is_some (row_under (table_nodes trees (changed_table made)) (changed_bookmark made)) ≡ true → AreKeptWith longs tables trees held → IsDropped longs tables trees held by made
is_dropped longs sizes laws trees by (Put table bookmark copied values) is known short tables held named there kept = impossible (ap is_drop is)
is_dropped longs sizes laws trees by (Drop table bookmark) is known short tables held named there kept = record {
  kept = drop_kept longs laws trees by table bookmark known short tables held named there kept;
  shown = drop_shown longs sizes laws trees by table bookmark known tables held kept;
}
is_dropped longs sizes laws trees by (Hold table bookmark) is known short tables held named there kept = impossible (ap is_drop is)
is_dropped longs sizes laws trees by (Add table bookmark column amount) is known short tables held named there kept = impossible (ap is_drop is)

-- ---- in a store

mapped : (vals : Values) (o : Option (List ℕ)) → is_some (option_map (record_of vals) o) ≡ true → is_some o ≡ true
mapped vals None e = e
mapped vals (Some row) e = refl

pub row_there : (latest : ℕ) (catalog : CatalogState) (trees : List StoredTable) (held : List HeldChange) → AreKept catalog.tables trees held → ((table : ℕ) → are_sorted (bookmark_entries (table_nodes trees table)) ≡ true) → (now : StoredVersions) → stored_versions latest catalog trees held ≡ now
    → (id : ℕ) (bookmark : List ℕ) → is_some (record_in now.store.tables id bookmark) ≡ true → is_some (row_under (table_nodes trees id) bookmark) ≡ true
row_there latest catalog trees held kept sorted now shows id bookmark there =
    mapped (table_long_values trees id) (row_under (table_nodes trees id) bookmark)
    (sym (ap is_some (newest_at (table_long_values trees) trees catalog.tables kept.numbers sorted id bookmark)) ∙ ap (λ (v : StoredVersions). is_some (record_in v.store.tables id bookmark)) shows ∙ there)

table_there : (latest : ℕ) (catalog : CatalogState) (trees : List StoredTable) (held : List HeldChange) (now : StoredVersions) → stored_versions latest catalog trees held ≡ now → (id : ℕ) (bookmark : List ℕ) → is_some (record_in now.store.tables id bookmark) ≡ true
    → is_some (table_with_id catalog.tables id) ≡ true
table_there latest catalog trees held now shows id bookmark there =
    by (table_with_id catalog.tables id)
    (sym (ap (λ (o : Option Table). is_some (row_at (rows_of o) bookmark)) (table_at (table_long_values trees) trees catalog.tables id)) ∙ ap (λ (v : StoredVersions). is_some (record_in v.store.tables id bookmark)) shows ∙ there)
  where
    by : (o : Option Table) → is_some (row_at (rows_of (option_map (with_newest trees) o)) bookmark) ≡ true → is_some o ≡ true
    by None e = e
    by (Some t) e = refl

-- what was there has room for no byte
pub has_extent : (nodes : List Node) (own : List ℕ) → is_some (row_under nodes own) ≡ true → IsSomeAnd (extent_in nodes own) (λ n. 0 ≤ n)
has_extent nodes own there = by (find (has_key own) nodes) there
  where
    by : (o : Option Node) → is_some (option_and_then row_in_node (option_map (λ (n : Node). n.data) o)) ≡ true → IsSomeAnd (option_map (λ (n : Node). n.extent) o) (λ n. 0 ≤ n)
    by None e = impossible e
    by (Some n) e = omega arith

-- the store after a drop
pub record IsAfterDrop (latest : ℕ) (catalog : CatalogState) (trees : List StoredTable) (held : List HeldChange) (by : By) (made : Change) (now : StoredVersions) : Type 0 where
  pub stored : IsStored latest catalog trees held
  pub shown : stored_versions latest catalog trees held ≡ record now { store = with_change by made now.store }

pub after_drop : (sizes : RowSizes) (laws : TreeLaws) (counted : ChangeCounts) (latest : ℕ) (catalog : CatalogState) (trees : List StoredTable) (held : List HeldChange) → IsStored latest catalog trees held
    → ((table : ℕ) → are_sorted (bookmark_entries (table_nodes trees table)) ≡ true) → ((table : ℕ) → All IsShortNode (table_nodes trees table)) → (now : StoredVersions) → stored_versions latest catalog trees held ≡ now
    → (by : By) (made : Change) → kind_of made ≡ kind.Drop → is_some (record_in now.store.tables (changed_table made) (changed_bookmark made)) ≡ true
    → (new_trees : List StoredTable) → new_trees ≡ emptied trees (changed_table made) (changed_bookmark made) → ((other : ℕ) → table_long_values (emptied trees (changed_table made) (changed_bookmark made)) other ≡ table_long_values trees other)
    → ((table : ℕ) → are_sorted (bookmark_entries (table_nodes new_trees table)) ≡ true)
    → (new_held : List HeldChange) → new_held ≡ held ++ new_change by made (row_under (table_nodes trees (changed_table made)) (changed_bookmark made)) ∷ []
    → IsAfterDrop latest catalog new_trees new_held by made now
after_drop sizes laws counted latest catalog trees held stored sorted short now shows by made is there new_trees trees_are values sorted_then new_held held_are = record {
  stored = record {
    kept =
        subst (λ (t : List StoredTable). AreKept catalog.tables t new_held) (sym trees_are)
        (subst (λ (h : List HeldChange). AreKept catalog.tables left h) (sym held_are)
        (subst (λ (l : TableValues). AreKeptWith l catalog.tables left (held ++ change ∷ [])) (sym (same_values trees left values)) dropped_so.kept));
    counts =
        subst (λ (t : List StoredTable). AreCounted t new_held) (sym trees_are)
        (subst (AreCounted left) (sym held_are)
        (changed_counted counted id bookmark None [] trees left changes sorted known.sorted_then held change (record { of = refl; at = refl; before = refl; stands = refl }) stored.counts));
    entries = subst (HasNoValueBehind latest) (sym trees_are) (entries_stay latest trees left (brings_none trees left values) stored.entries);
  };
  shown =
      (λ i. stored_versions latest catalog (trees_are i) (held_are i))
      ∙ (λ i. record {
        greatest_table = catalog.greatest_table;
        newest_put = latest;
        store = record { tables = map (with_newest_by (same_values trees left values i) left) catalog.tables; held = map (held_record_in (same_values trees left values i)) (held ++ change ∷ []) };
      })
      ∙ ap (λ (store : VersionedTables). record { greatest_table = catalog.greatest_table; newest_put = latest; store = store }) dropped_so.shown
      ∙ ap (λ (v : StoredVersions). record v { store = with_change by made v.store }) shows;
}
  where
    id : ℕ
    id = changed_table made

    bookmark : List ℕ
    bookmark = changed_bookmark made

    left : List StoredTable
    left = emptied trees id bookmark

    change : HeldChange
    change = new_change by made (row_under (table_nodes trees id) bookmark)

    named : is_some (table_with_id catalog.tables id) ≡ true
    named = table_there latest catalog trees held now shows id bookmark there

    known : Emptied laws trees id bookmark
    known = record {
      there = has_trees trees catalog.tables id stored.kept.numbers ∙ named;
      sorted = sorted;
      sorted_then = λ table. subst (λ (t : List StoredTable). are_sorted (bookmark_entries (table_nodes t table)) ≡ true) trees_are (sorted_then table);
    }

    none : (b : Bool) (other : ℕ) → (id == other) ≡ b → table_long_values left other ≡ cond b (table_long_values trees id) (table_long_values trees other)
    none true other e = values other ∙ ap (table_long_values trees) (sym (eqb-true id other e))
    none false other e = values other

    changes : ChangesRow id bookmark None [] trees left
    changes = record {
      rows = λ other own. row_then laws trees id bookmark known.there other own;
      values = λ other. none (id == other) other refl;
      names = refl;
    }

    dropped_so : IsDropped (table_long_values trees) catalog.tables trees held by made
    dropped_so =
        is_dropped (table_long_values trees) sizes laws trees by made is known (short id) catalog.tables held named
        (row_there latest catalog trees held stored.kept sorted now shows id bookmark there) stored.kept
