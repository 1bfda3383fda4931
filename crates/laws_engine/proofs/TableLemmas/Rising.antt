-- Tables whose rows rise by their bookmarks are told by their definitions and their records.
use Rattle.std.proofs.Common.{◌≡◌, ℕ, Bool, true, false, cond, List, [], ◌∷◌, Option, Some, None, refl, sym, ap, ◌∙◌}
use Rattle.std.specs.Prelude.{◌==◌, map, option_map, not, bytes_eq}
use Rattle.std.specs.Option.{unwrap_or}
use Rattle.std.specs.Ordering.{nat_cmp}
use Rattle.std.specs.Cmp.Lexicographic.{slice_cmp, nat_list_cmp_total}
use Rattle.std.specs.FinMap.Entries.{is_sorted-put, is_sorted-where_key, same_entries}
use Rattle.std.proofs.lemmas.Map.Lookups.{exact_bytes}
use Rattle.common_lemmas.proofs.Options.{some_apart}
use Rattle.column_set.specs.declared.changes.Change.{Change}
use Rattle.column_set.specs.declared.changes.Change.TheVariants.{Put, Drop, Hold, Add}
use Rattle.column_set.specs.RecordValues.{RecordFields}
use Rattle.database_state.specs.Table.{Table, Rows, row_at, rows_of, record_in, table_with_id}
use Rattle.database_state.specs.Changes.{rows_after, rows_with_sum, tables_after, tables_after_all}
use Rattle.column_set.specs.ChangedRecords.{changed_table}
use Rattle.laws_versions.specs.History.{without_rows}
use Rattle.version_store.specs.declared.calls.Reader.{Reader}
use Rattle.laws_engine.specs.HeldRecords.{HeldRecord}
use Rattle.laws_engine.specs.VersionedTables.{hides_in, rows_with, seen_rows, seen_table}
use Rattle.laws_engine.specs.Holding.{RowsRise, AllRise}

-- ---- what keeps the order

pub with_rises : (rows : Rows) (bookmark : List ℕ) (values : Option RecordFields) → RowsRise rows → RowsRise (rows_with rows bookmark values)
with_rises rows bookmark None h = is_sorted-where_key (slice_cmp nat_cmp) (λ key. not (bytes_eq key bookmark)) rows h
with_rises rows bookmark (Some values) h = is_sorted-put (slice_cmp nat_cmp) nat_list_cmp_total bookmark values rows h

pub seen_rise : (table : ℕ) (reader : Reader) (held : List HeldRecord) (rows : Rows) → RowsRise rows → RowsRise (seen_rows table reader held rows)
seen_rise table reader [] rows h = h
seen_rise table reader (change ∷ held) rows h = by (hides_in table reader change) (seen_rise table reader held rows h)
  where
    by : (b : Bool) → RowsRise (seen_rows table reader held rows) → RowsRise (cond b (rows_with (seen_rows table reader held rows) change.bookmark change.before) (seen_rows table reader held rows))
    by true later = with_rises (seen_rows table reader held rows) change.bookmark change.before later
    by false later = later

pub all_seen_rise : (reader : Reader) (held : List HeldRecord) (tables : List Table) → AllRise tables → AllRise (map (seen_table reader held) tables)
all_seen_rise reader held [] h = tt
all_seen_rise reader held (t ∷ tables) h = (seen_rise t.id reader held t.rows h.0, all_seen_rise reader held tables h.1)

after_rises : (rows : Rows) (change : Change) → RowsRise rows → RowsRise (rows_after rows change)
after_rises rows (Put table bookmark copied values) h = with_rises rows bookmark (Some values) h
after_rises rows (Drop table bookmark) h = with_rises rows bookmark None h
after_rises rows (Hold table bookmark) h = h
after_rises rows (Add table bookmark column amount) h = by (row_at rows bookmark)
  where
    by : (found : Option RecordFields) → RowsRise (rows_with_sum rows bookmark found column.0 amount)
    by None = h
    by (Some values) = is_sorted-put (slice_cmp nat_cmp) nat_list_cmp_total bookmark _ rows h

pub tables_rise : (tables : List Table) (change : Change) → AllRise tables → AllRise (tables_after tables change)
tables_rise [] change h = tt
tables_rise (t ∷ tables) change h = (by (t.id == changed_table change), tables_rise tables change h.1)
  where
    by : (b : Bool) → RowsRise (cond b (record t { rows = rows_after t.rows change }) t).rows
    by true = after_rises t.rows change h.0
    by false = h.0

pub all_tables_rise : (tables : List Table) (changes : List Change) → AllRise tables → AllRise (tables_after_all tables changes)
all_tables_rise tables [] h = h
all_tables_rise tables (change ∷ changes) h = all_tables_rise (tables_after tables change) changes (tables_rise tables change h)

-- ---- tables of equal definitions and records

found_rises : (tables : List Table) (id : ℕ) → AllRise tables → RowsRise (rows_of (table_with_id tables id))
found_rises [] id h = tt
found_rises (t ∷ tables) id h = by (t.id == id) (found_rises tables id h.1)
  where
    by : (b : Bool) → RowsRise (rows_of (table_with_id tables id)) → RowsRise (rows_of (cond b (Some t) (table_with_id tables id)))
    by true rest = h.0
    by false rest = rest

pub found_without : (tables : List Table) (id : ℕ) → table_with_id (map without_rows tables) id ≡ option_map without_rows (table_with_id tables id)
found_without [] id = refl
found_without (t ∷ tables) id = by (t.id == id) (found_without tables id)
  where
    by : (b : Bool) → table_with_id (map without_rows tables) id ≡ option_map without_rows (table_with_id tables id)
        → cond b (Some (without_rows t)) (table_with_id (map without_rows tables) id) ≡ option_map without_rows (cond b (Some t) (table_with_id tables id))
    by true rest = refl
    by false rest = rest

one_table : (o p : Option Table) → option_map without_rows o ≡ option_map without_rows p → rows_of o ≡ rows_of p → o ≡ p
one_table None None e r = refl
one_table None (Some u) e r = absurd (some_apart (without_rows u) (sym e))
one_table (Some t) None e r = absurd (some_apart (without_rows t) e)
one_table (Some t) (Some u) e r =
    let bare : without_rows t ≡ without_rows u = ap (λ o. unwrap_or o (without_rows t)) e in
    λ i. Some (record (bare i) { rows = r i })

pub same_table : (one other : List Table) (id : ℕ) → map without_rows one ≡ map without_rows other → AllRise one → AllRise other
    → ((bookmark : List ℕ) → record_in one id bookmark ≡ record_in other id bookmark) → table_with_id one id ≡ table_with_id other id
same_table one other id defined rise_one rise_other same =
    one_table (table_with_id one id) (table_with_id other id)
    (sym (found_without one id) ∙ ap (λ tables. table_with_id tables id) defined ∙ found_without other id)
    (same_entries (slice_cmp nat_cmp) nat_list_cmp_total exact_bytes (rows_of (table_with_id one id)) (rows_of (table_with_id other id)) (found_rises one id rise_one) (found_rises other id rise_other) same)
