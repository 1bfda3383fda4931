-- A record among the tables that a reader sees.
use Rattle.std.proofs.Common.{◌≡◌, ℕ, Bool, true, false, cond, List, [], ◌∷◌, Option, Some, None, map, option_map, refl, ap, ◌∙◌}
use Rattle.std.specs.Prelude.{◌==◌, is_some}
use Rattle.common_lemmas.proofs.Booleans.{impossible}
use Rattle.database_state.specs.Table.{Table, record_in, row_at, rows_of, table_with_id}
use Rattle.laws_versions.proofs.ChangeLemmas.Projecting.{found_id}
use Rattle.version_store.specs.declared.calls.Reader.{Reader}
use Rattle.laws_engine.specs.HeldRecords.{HeldRecord, seen_record}
use Rattle.laws_engine.specs.VersionedTables.{VersionedTables, seen_table, seen_tables}
use Rattle.laws_engine.proofs.TableLemmas.SeenRows.{seen_at}

-- what the table with a number shows a reader
pub seen_at_id : (reader : Reader) (held : List HeldRecord) (tables : List Table) (id : ℕ) → table_with_id (map (seen_table reader held) tables) id ≡ option_map (seen_table reader held) (table_with_id tables id)
seen_at_id reader held [] id = refl
seen_at_id reader held (t ∷ tables) id = by (t.id == id) (seen_at_id reader held tables id)
  where
    by : (b : Bool) → table_with_id (map (seen_table reader held) tables) id ≡ option_map (seen_table reader held) (table_with_id tables id)
        → cond b (Some (seen_table reader held t)) (table_with_id (map (seen_table reader held) tables) id) ≡ option_map (seen_table reader held) (cond b (Some t) (table_with_id tables id))
    by true rest = refl
    by false rest = rest

pub seen_record_in : (reader : Reader) (store : VersionedTables) (table : ℕ) (bookmark : List ℕ) → is_some (table_with_id store.tables table) ≡ true
    → record_in (seen_tables reader store) table bookmark ≡ seen_record table bookmark reader (record_in store.tables table bookmark) store.held
seen_record_in reader store table bookmark there =
    ap (λ o. row_at (rows_of o) bookmark) (seen_at_id reader store.held store.tables table) ∙ by (table_with_id store.tables table) refl there
  where
    by : (o : Option Table) → table_with_id store.tables table ≡ o → is_some o ≡ true
        → row_at (rows_of (option_map (seen_table reader store.held) o)) bookmark ≡ seen_record table bookmark reader (row_at (rows_of o) bookmark) store.held
    by None e there = impossible there
    by (Some t) e there =
        seen_at t.id reader store.held t.rows bookmark
        ∙ ap (λ id. seen_record id bookmark reader (row_at t.rows bookmark) store.held) (found_id table store.tables t e)
