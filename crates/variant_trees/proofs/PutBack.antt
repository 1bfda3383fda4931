-- What the store keeps and shows once the row before an undone change is back.
use Rattle.std.proofs.Common.{◌≡◌, ℕ, Bool, true, false, not, ◌&&◌, ◌||◌, cond, List, [], ◌∷◌, Option, Some, None, map, option_map, refl, sym, ap, subst, ◌∙◌}
use Rattle.std.specs.Prelude.{◌==◌, IfSome, bytes_eq, is_some}
use Rattle.std.specs.Ordering.{nat_cmp, is_eq}
use Rattle.std.specs.Cmp.Lexicographic.{slice_cmp, nat_list_cmp_total, texts_ties}
use Rattle.std.specs.FinMap.Entries.{find-put, is_sorted-put}
use Rattle.std.proofs.lemmas.Bool.{eqb-true}
use Rattle.common_lemmas.proofs.Booleans.{and_left, and_right, impossible}
use Rattle.common_lemmas.proofs.Numbers.{bytes_turned, equal_turned, same_bytes}
use Rattle.btree_inplace.specs.Changes.{with_data_at}
use Rattle.column_set.specs.RecordValues.{RecordFields}
use Rattle.database_state.specs.Changes.{tables_after}
use Rattle.database_state.specs.Conflicts.{yields_key}
use Rattle.database_state.specs.Table.{Rows, Table, row_at, schema_of, table_with_id, with_row, without_row}
use Rattle.laws_versions.specs.KeptEntries.{has_entry}
use Rattle.index_derive.specs.declared.rules.IndexRule.{IndexRule}
use Rattle.table_trees.specs.StoredTables.{StoredTable, index_entries, table_nodes}
use Rattle.version_store.specs.declared.calls.ChangeKind.{ChangeKind}
use Rattle.version_store.specs.declared.calls.ChangeKind.TheVariants as kind
use Rattle.version_store.specs.HeldChanges.{HeldChange, is_rewrite, undone_at}
use Rattle.laws_engine.specs.HeldRecords.{HeldRecord, inverse}
use Rattle.laws_engine.specs.Holding.{RowsRise}
use Rattle.laws_engine.specs.VersionedTables.{rows_with}
use Rattle.laws_engine.specs.Variants.{HoldsVariants, has_variant, is_variant_key}
use Rattle.stored_variants.specs.RecordRows.{TableValues, some_before, held_record_in, record_of, row_in_node, rows_of_nodes}
use Rattle.variant_trees.specs.LeftVariants.{is_this}
use Rattle.variant_trees.specs.UndoneChanges.{tables_put_back}
use Rattle.stored_variants.specs.VersionsView.{with_newest_by}
use Rattle.stored_variants.specs.VersionsKept.{AreKeptWith, IsKeptChange, IsKeptTable, secondary_rule}
use Rattle.stored_variants.proofs.Dropped.{TreeLaws, same_numbers, rows_emptied, same_index}
use Rattle.stored_variants.proofs.RisingRows.{rows_rise, same_rows}
use Rattle.variant_trees.proofs.Refilled.{Fills, Undoes, all_undone, filled, nodes_filled, record_back, record_filled, room_filled, rows_back, there_filled, undone_kept, undone_same}
use Rattle.stored_variants.proofs.Tables.{found_number}

-- ---- where there was no newest record

this_none : (longs : TableValues) (trees : List StoredTable) (h : HeldChange) → row_at (rows_of_nodes (longs h.table) (table_nodes trees h.table)) h.bookmark ≡ None → (table : ℕ) (own : List ℕ) → is_this h.table h.bookmark table own ≡ true → row_at (rows_of_nodes (longs table) (table_nodes trees table)) own ≡ None
this_none longs trees h none table own e =
    (λ i. row_at (rows_of_nodes (longs (sym (eqb-true h.table table (and_left (h.table == table) (bytes_eq h.bookmark own) e)) i)) (table_nodes trees (sym (eqb-true h.table table (and_left (h.table == table) (bytes_eq h.bookmark own) e)) i))) (sym (same_bytes h.bookmark own (and_right (h.table == table) (bytes_eq h.bookmark own) e)) i)) ∙ none

table_same : (longs : TableValues) (laws : TreeLaws) (trees : List StoredTable) (held : List HeldChange) (place : ℕ) (h : HeldChange) (row : List ℕ) → Undoes held place h row → Fills laws trees h.table h.bookmark row
    → row_at (rows_of_nodes (longs h.table) (table_nodes trees h.table)) h.bookmark ≡ None → (tables : List Table) → IsKeptChange longs tables trees h → (t : Table) → table_with_id tables t.id ≡ Some t → IsKeptTable trees (longs t.id) (table_nodes trees t.id) (map (held_record_in longs) held) t
    → IsKeptTable (filled trees h.table h.bookmark row) (longs t.id) (table_nodes (filled trees h.table h.bookmark row) t.id) (map (held_record_in longs) (undone_at (Some place) held)) t
table_same longs laws trees held place h row undoes fills none tables kept_change t found kept = record {
  rules = kept.rules;
  rows = rows_back longs laws trees held place h row undoes fills tables kept_change t found kept.rows;
  stands = λ own.
      there_filled laws trees h.table h.bookmark row fills.table t.id own ∙ kept.stands own
      ∙ undone_same longs is_some refl h undoes.rewrites undoes.is_uncommitted held place undoes.at (row_at (rows_of_nodes (longs t.id) (table_nodes trees t.id)) own) t.id own (this_none longs trees h none t.id own)
      ∙ ap (λ n. has_variant n later t.id own) (sym (record_back longs laws trees held place h row undoes fills t.id own));
  entries = λ index. by index (secondary_rule t index) (kept.entries index);
}
  where
    later : List HeldRecord
    later = map (held_record_in longs) (undone_at (Some place) held)

    by : (index : ℕ) (o : Option IndexRule) → IfSome o (λ rule. HoldsVariants (rows_of_nodes (longs t.id) (table_nodes trees t.id)) (map (held_record_in longs) held) rule (schema_of t) t.id (index_entries trees t.id index))
        → IfSome o (λ rule. HoldsVariants (rows_of_nodes (longs t.id) (table_nodes (filled trees h.table h.bookmark row) t.id)) later rule (schema_of t) t.id (index_entries (filled trees h.table h.bookmark row) t.id index))
    by index None holds = tt
    by index (Some rule) holds = λ key own.
        ap (has_entry key own) (same_index laws trees h.table (with_data_at (table_nodes trees h.table) h.bookmark row) t.id index) ∙ holds key own
        ∙ undone_same longs (yields_key rule (schema_of t) key) refl h undoes.rewrites undoes.is_uncommitted held place undoes.at (row_at (rows_of_nodes (longs t.id) (table_nodes trees t.id)) own) t.id own (this_none longs trees h none t.id own)
        ∙ ap (λ n. is_variant_key n later rule (schema_of t) t.id key own) (sym (record_back longs laws trees held place h row undoes fills t.id own))

pub kept_back : (longs : TableValues) (laws : TreeLaws) (trees : List StoredTable) (held : List HeldChange) (place : ℕ) (h : HeldChange) (row : List ℕ) → Undoes held place h row → Fills laws trees h.table h.bookmark row
    → row_at (rows_of_nodes (longs h.table) (table_nodes trees h.table)) h.bookmark ≡ None → (tables : List Table) → IsKeptChange longs tables trees h → AreKeptWith longs tables trees held
    → AreKeptWith longs tables (filled trees h.table h.bookmark row) (undone_at (Some place) held)
kept_back longs laws trees held place h row undoes fills none tables kept_change kept = record {
  plain = kept.plain;
  numbers = same_numbers h.table (with_data_at (table_nodes trees h.table) h.bookmark row) trees ∙ kept.numbers;
  each = λ table. each table (table_with_id tables table) refl (kept.each table);
  changes =
      all_undone (IsKeptChange longs tables trees) (IsKeptChange longs tables (filled trees h.table h.bookmark row)) (room_filled longs laws trees h.table h.bookmark row fills.table tables)
      (λ x kept_x. undone_kept longs tables (filled trees h.table h.bookmark row) x (room_filled longs laws trees h.table h.bookmark row fills.table tables x kept_x)) held place kept.changes;
}
  where
    each : (table : ℕ) (o : Option Table) → table_with_id tables table ≡ o → IfSome o (IsKeptTable trees (longs table) (table_nodes trees table) (map (held_record_in longs) held))
        → IfSome o (IsKeptTable (filled trees h.table h.bookmark row) (longs table) (table_nodes (filled trees h.table h.bookmark row) table) (map (held_record_in longs) (undone_at (Some place) held)))
    each table None e is = tt
    each table (Some t) e is =
        let found : t.id ≡ table = found_number table tables t e in
        subst (λ (n : ℕ). IsKeptTable (filled trees h.table h.bookmark row) (longs n) (table_nodes (filled trees h.table h.bookmark row) n) (map (held_record_in longs) (undone_at (Some place) held)) t) found
        (table_same longs laws trees held place h row undoes fills none tables kept_change t (ap (table_with_id tables) found ∙ e) (subst (λ (n : ℕ). IsKeptTable trees (longs n) (table_nodes trees n) (map (held_record_in longs) held) t) (sym found) is))

-- ---- where there was no record before either

nothing_back : (longs : TableValues) (h : HeldChange) → h.before ≡ None → (newest : Option RecordFields) (table : ℕ) (own : List ℕ) → (is_this h.table h.bookmark table own ≡ true → newest ≡ None) → cond (is_this h.table h.bookmark table own) (option_map (record_of (longs h.table)) h.before) newest ≡ newest
nothing_back longs h before newest table own none = by (is_this h.table h.bookmark table own) refl
  where
    by : (b : Bool) → is_this h.table h.bookmark table own ≡ b → cond b (option_map (record_of (longs h.table)) h.before) newest ≡ newest
    by true e = ap (option_map (record_of (longs h.table))) before ∙ sym (none e)
    by false e = refl

table_unchanged : (longs : TableValues) (trees : List StoredTable) (held : List HeldChange) (place : ℕ) (h : HeldChange) (row : List ℕ) → Undoes held place h row → h.before ≡ None → row_at (rows_of_nodes (longs h.table) (table_nodes trees h.table)) h.bookmark ≡ None → (t : Table) → IsKeptTable trees (longs t.id) (table_nodes trees t.id) (map (held_record_in longs) held) t
    → IsKeptTable trees (longs t.id) (table_nodes trees t.id) (map (held_record_in longs) (undone_at (Some place) held)) t
table_unchanged longs trees held place h row undoes before none t kept = record {
  rules = kept.rules;
  rows = kept.rows;
  stands = λ own. kept.stands own ∙ same is_some refl own;
  entries = λ index. by index (secondary_rule t index) (kept.entries index);
}
  where
    same : (test : Option RecordFields → Bool) → test None ≡ false → (own : List ℕ) → (test (row_at (rows_of_nodes (longs t.id) (table_nodes trees t.id)) own) || some_before test t.id own (map (held_record_in longs) held)) ≡ (test (row_at (rows_of_nodes (longs t.id) (table_nodes trees t.id)) own) || some_before test t.id own (map (held_record_in longs) (undone_at (Some place) held)))
    same test fails own =
        undone_same longs test fails h undoes.rewrites undoes.is_uncommitted held place undoes.at (row_at (rows_of_nodes (longs t.id) (table_nodes trees t.id)) own) t.id own (this_none longs trees h none t.id own)
        ∙ ap (λ n. test n || some_before test t.id own (map (held_record_in longs) (undone_at (Some place) held))) (nothing_back longs h before (row_at (rows_of_nodes (longs t.id) (table_nodes trees t.id)) own) t.id own (this_none longs trees h none t.id own))

    by : (index : ℕ) (o : Option IndexRule) → IfSome o (λ rule. HoldsVariants (rows_of_nodes (longs t.id) (table_nodes trees t.id)) (map (held_record_in longs) held) rule (schema_of t) t.id (index_entries trees t.id index))
        → IfSome o (λ rule. HoldsVariants (rows_of_nodes (longs t.id) (table_nodes trees t.id)) (map (held_record_in longs) (undone_at (Some place) held)) rule (schema_of t) t.id (index_entries trees t.id index))
    by index None holds = tt
    by index (Some rule) holds = λ key own. holds key own ∙ same (yields_key rule (schema_of t) key) refl own

pub kept_unchanged : (longs : TableValues) (trees : List StoredTable) (held : List HeldChange) (place : ℕ) (h : HeldChange) (row : List ℕ) → Undoes held place h row → h.before ≡ None → row_at (rows_of_nodes (longs h.table) (table_nodes trees h.table)) h.bookmark ≡ None → (tables : List Table) → AreKeptWith longs tables trees held
    → AreKeptWith longs tables trees (undone_at (Some place) held)
kept_unchanged longs trees held place h row undoes before none tables kept = record {
  plain = kept.plain;
  numbers = kept.numbers;
  each = λ table. each table (table_with_id tables table) refl (kept.each table);
  changes = all_undone (IsKeptChange longs tables trees) (IsKeptChange longs tables trees) (λ x kept_x. kept_x) (undone_kept longs tables trees) held place kept.changes;
}
  where
    each : (table : ℕ) (o : Option Table) → table_with_id tables table ≡ o → IfSome o (IsKeptTable trees (longs table) (table_nodes trees table) (map (held_record_in longs) held)) → IfSome o (IsKeptTable trees (longs table) (table_nodes trees table) (map (held_record_in longs) (undone_at (Some place) held)))
    each table None e is = tt
    each table (Some t) e is =
        let found : t.id ≡ table = found_number table tables t e in
        subst (λ (n : ℕ). IsKeptTable trees (longs n) (table_nodes trees n) (map (held_record_in longs) (undone_at (Some place) held)) t) found
        (table_unchanged longs trees held place h row undoes before none t (subst (λ (n : ℕ). IsKeptTable trees (longs n) (table_nodes trees n) (map (held_record_in longs) held) t) (sym found) is))

-- ---- what it shows

pub rows_filled : (longs : TableValues) (laws : TreeLaws) (trees : List StoredTable) (id : ℕ) (bookmark row : List ℕ) → Fills laws trees id bookmark row → (other : ℕ)
    → rows_of_nodes (longs other) (table_nodes (filled trees id bookmark row) other) ≡ cond (other == id) (rows_with (rows_of_nodes (longs other) (table_nodes trees other)) bookmark (option_map (record_of (longs id)) (row_in_node row))) (rows_of_nodes (longs other) (table_nodes trees other))
rows_filled longs laws trees id bookmark [] fills other =
    ap (rows_of_nodes (longs other)) (nodes_filled laws trees id bookmark [] fills.table other) ∙ by (id == other)
    ∙ ap (λ b. cond b (without_row (rows_of_nodes (longs other) (table_nodes trees other)) bookmark) (rows_of_nodes (longs other) (table_nodes trees other))) (equal_turned id other)
  where
    by : (b : Bool) → rows_of_nodes (longs other) (cond b (with_data_at (table_nodes trees other) bookmark []) (table_nodes trees other)) ≡ cond b (without_row (rows_of_nodes (longs other) (table_nodes trees other)) bookmark) (rows_of_nodes (longs other) (table_nodes trees other))
    by true = rows_emptied (longs other) bookmark (table_nodes trees other)
    by false = refl
rows_filled longs laws trees id bookmark (byte ∷ bytes) fills other =
    same_rows (rows_of_nodes (longs other) (table_nodes (filled trees id bookmark (byte ∷ bytes)) other)) (cond (other == id) (with_row rows bookmark values) rows)
    (rows_rise (longs other) (table_nodes (filled trees id bookmark (byte ∷ bytes)) other) (fills.sorted_then other)) (rises (other == id))
    (λ at. record_filled longs laws trees id bookmark (byte ∷ bytes) fills other at ∙ ap (λ b. cond (b && bytes_eq bookmark at) (Some values) (row_at rows at)) (equal_turned id other) ∙ by at (other == id))
  where
    values : RecordFields
    values = record_of (longs id) (byte ∷ bytes)

    rows : Rows
    rows = rows_of_nodes (longs other) (table_nodes trees other)

    rises : (b : Bool) → RowsRise (cond b (with_row rows bookmark values) rows)
    rises true = is_sorted-put (slice_cmp nat_cmp) nat_list_cmp_total bookmark values rows (rows_rise (longs other) (table_nodes trees other) (fills.sorted other))
    rises false = rows_rise (longs other) (table_nodes trees other) (fills.sorted other)

    by : (at : List ℕ) (b : Bool) → cond (b && bytes_eq bookmark at) (Some values) (row_at rows at) ≡ row_at (cond b (with_row rows bookmark values) rows) at
    by at true =
        ap (λ t. cond t (Some values) (row_at rows at)) (bytes_turned bookmark at ∙ texts_ties at bookmark)
        ∙ sym (find-put (slice_cmp nat_cmp) nat_list_cmp_total at bookmark values rows)
    by at false = refl

pub tables_back : (longs : TableValues) (laws : TreeLaws) (trees : List StoredTable) (h : HeldChange) (row : List ℕ) → row_in_node row ≡ h.before → Fills laws trees h.table h.bookmark row → (tables : List Table) → map (with_newest_by longs (filled trees h.table h.bookmark row)) tables ≡ tables_put_back (longs h.table) (map (with_newest_by longs trees) tables) h
tables_back longs laws trees h row is fills [] = refl
tables_back longs laws trees h row is fills (t ∷ tables) =
    λ i. (ap (λ (rows : Rows). record t { rows = rows }) (rows_filled longs laws trees h.table h.bookmark row fills t.id ∙ ap (λ (o : Option (List ℕ)). cond (t.id == h.table) (rows_with (rows_of_nodes (longs t.id) (table_nodes trees t.id)) h.bookmark (option_map (record_of (longs h.table)) o)) (rows_of_nodes (longs t.id) (table_nodes trees t.id))) is) ∙ by (t.id == h.table)) i
    ∷ tables_back longs laws trees h row is fills tables i
  where
    by : (b : Bool) → record t { rows = cond b (rows_with (rows_of_nodes (longs t.id) (table_nodes trees t.id)) h.bookmark (option_map (record_of (longs h.table)) h.before)) (rows_of_nodes (longs t.id) (table_nodes trees t.id)) }
        ≡ cond b (record (with_newest_by longs trees t) { rows = rows_with (rows_of_nodes (longs t.id) (table_nodes trees t.id)) h.bookmark (option_map (record_of (longs h.table)) h.before) }) (with_newest_by longs trees t)
    by true = refl
    by false = refl

-- where there is no record, none goes
none_there : (rows : Rows) (bookmark : List ℕ) → row_at rows bookmark ≡ None → without_row rows bookmark ≡ rows
none_there [] bookmark none = refl
none_there (r ∷ rows) bookmark none = by (bytes_eq r.0 bookmark) refl (none_there rows bookmark)
  where
    test : (b : Bool) → bytes_eq r.0 bookmark ≡ b → is_eq (slice_cmp nat_cmp bookmark r.0) ≡ b
    test b e = sym (texts_ties bookmark r.0) ∙ bytes_turned bookmark r.0 ∙ e

    no : {A : Type 0} → Some r.1 ≡ None → A
    no e = cc

    by : (b : Bool) → bytes_eq r.0 bookmark ≡ b → (row_at rows bookmark ≡ None → without_row rows bookmark ≡ rows) → cond (not b) (r ∷ without_row rows bookmark) (without_row rows bookmark) ≡ r ∷ rows
    by true e rest = no (sym (ap (λ b. cond b (Some r.1) (row_at rows bookmark)) (test true e)) ∙ none)
    by false e rest = ap (λ rs. r ∷ rs) (rest (sym (ap (λ b. cond b (Some r.1) (row_at rows bookmark)) (test false e)) ∙ none))

pub tables_unchanged : (longs : TableValues) (trees : List StoredTable) (h : HeldChange) → h.before ≡ None → row_at (rows_of_nodes (longs h.table) (table_nodes trees h.table)) h.bookmark ≡ None → (tables : List Table) → map (with_newest_by longs trees) tables ≡ tables_put_back (longs h.table) (map (with_newest_by longs trees) tables) h
tables_unchanged longs trees h before none [] = refl
tables_unchanged longs trees h before none (t ∷ tables) = λ i. by (t.id == h.table) refl i ∷ tables_unchanged longs trees h before none tables i
  where
    gone : (t.id == h.table) ≡ true → rows_of_nodes (longs t.id) (table_nodes trees t.id) ≡ rows_with (rows_of_nodes (longs t.id) (table_nodes trees t.id)) h.bookmark (option_map (record_of (longs h.table)) h.before)
    gone e =
        sym (none_there (rows_of_nodes (longs t.id) (table_nodes trees t.id)) h.bookmark (ap (λ n. row_at (rows_of_nodes (longs n) (table_nodes trees n)) h.bookmark) (eqb-true t.id h.table e) ∙ none))
        ∙ ap (λ (o : Option (List ℕ)). rows_with (rows_of_nodes (longs t.id) (table_nodes trees t.id)) h.bookmark (option_map (record_of (longs h.table)) o)) (sym before)

    by : (b : Bool) → (t.id == h.table) ≡ b → with_newest_by longs trees t ≡ cond b (record (with_newest_by longs trees t) { rows = rows_with (rows_of_nodes (longs t.id) (table_nodes trees t.id)) h.bookmark (option_map (record_of (longs h.table)) h.before) }) (with_newest_by longs trees t)
    by true e = ap (λ (rows : Rows). record t { rows = rows }) (gone e)
    by false e = refl

-- the change that takes a put or a drop back puts the record before it back
pub inverse_back : (longs : TableValues) (tables : List Table) (h : HeldChange) → is_rewrite h.kind ≡ true → (held_record_in longs h).before ≡ option_map (record_of (longs h.table)) h.before → tables_after tables (inverse (held_record_in longs h)) ≡ tables_put_back (longs h.table) tables h
inverse_back longs tables h rewrites before = ap (λ (o : Option RecordFields). tables_after tables (inverse (record (held_record_in longs h) { before = o }))) before ∙ by h.kind rewrites h.before
  where
    by : (k : ChangeKind) → is_rewrite k ≡ true → (row : Option (List ℕ)) → tables_after tables (inverse (record (held_record_in longs h) { kind = k; before = option_map (record_of (longs h.table)) row })) ≡ tables_put_back (longs h.table) tables (record h { before = row })
    by kind.Put e None = refl
    by kind.Put e (Some row) = refl
    by kind.Drop e None = refl
    by kind.Drop e (Some row) = refl
    by kind.Hold e row = impossible e
    by (kind.Add column amount) e row = impossible e
