-- A session is shown its view.
use Rattle.std.proofs.Common.{◌≡◌, ℕ, Bool, true, false, cond, List, [], ◌∷◌, Option, Some, None, refl, sym, ap, subst, ◌∙◌}
use Rattle.std.specs.Prelude.{◌==◌, IfSome, find, map, option_and_then, option_map, is_some}
use Rattle.std.specs.List.{AllByRecursion}
use Rattle.database_state.specs.Table.{Table, row_at, rows_of, record_in, table_with_id}
use Rattle.database_state.specs.State.{DatabaseState, LiveSession, PastChange, Transaction, open_changes_of, transaction_of}
use Rattle.database_state.specs.View.{newest, view, view_in}
use Rattle.laws_versions.specs.Records.{Records, records_of}
use Rattle.laws_versions.proofs.ChangeLemmas.Projecting.{found_id}
use Rattle.laws_versions.specs.History.{IsBegun, IsHistory, without_rows}
use Rattle.laws_versions.specs.Readers.{found_record}
use Rattle.laws_versions.proofs.HistoryLemmas.EndEntries.{same_definitions}
use Rattle.laws_versions.proofs.HistoryLemmas.Viewing.{same_there}
use Rattle.laws_versions.specs.Variants.{HasNoSums}
use Rattle.version_store.specs.declared.calls.Reader.{Reader}
use Rattle.laws_engine.specs.HeldRecords.{HeldRecord, seen_record}
use Rattle.laws_engine.specs.VersionedTables.{VersionedTables, seen_table, seen_tables}
use Rattle.laws_engine.specs.Holding.{AllRise, Holds, RecordsRise, SnapshotRises, begin_of}
use Rattle.laws_engine.proofs.TableLemmas.FoundRecords.{seen_is_found}
use Rattle.laws_engine.proofs.TableLemmas.Rising.{all_seen_rise, all_tables_rise, same_table}
use Rattle.laws_engine.proofs.TableLemmas.SeenRows.{seen_at}
use Rattle.laws_engine.proofs.TableLemmas.SeenTables.{seen_at_id}

-- ---- definitions and order

pub seen_defined : (reader : Reader) (held : List HeldRecord) (tables : List Table) → map without_rows (map (seen_table reader held) tables) ≡ map without_rows tables
seen_defined reader held [] = refl
seen_defined reader held (t ∷ tables) = λ i. without_rows t ∷ seen_defined reader held tables i

view_defined_by : (base : Records) (dropped kept : List PastChange) (store : VersionedTables) (state : DatabaseState) → Holds base dropped kept store state → (session : ℕ) (t : Option Transaction) → transaction_of state session ≡ t
    → map without_rows (view_in state session t) ≡ map without_rows state.tables
view_defined_by base dropped kept store state h session None e = refl
view_defined_by base dropped kept store state h session (Some t) e =
    let begun : IsBegun state.number state.tables base kept t = subst (λ u. IfSome u (IsBegun state.number state.tables base kept)) e (h.history.keeps.begun session) in
    same_definitions t.snapshot (open_changes_of session state.past) ∙ begun.defined

snapshot_of : (session : ℕ) (sessions : List LiveSession) → AllByRecursion SnapshotRises sessions → IfSome (option_and_then (λ s. s.transaction) (find (λ s. s.label == session) sessions)) (λ transaction. AllRise transaction.snapshot)
snapshot_of session [] h = tt
snapshot_of session (s ∷ sessions) h = by (s.label == session) (snapshot_of session sessions h.1)
  where
    by : (b : Bool) → IfSome (option_and_then (λ s. s.transaction) (find (λ s. s.label == session) sessions)) (λ transaction. AllRise transaction.snapshot)
        → IfSome (option_and_then (λ s. s.transaction) (cond b (Some s) (find (λ s. s.label == session) sessions))) (λ transaction. AllRise transaction.snapshot)
    by true rest = h.0
    by false rest = rest

view_rises_by : (state : DatabaseState) → RecordsRise state → (session : ℕ) (t : Option Transaction) → transaction_of state session ≡ t → AllRise (view_in state session t)
view_rises_by state rise session None e = rise.committed
view_rises_by state rise session (Some t) e =
    all_tables_rise t.snapshot (open_changes_of session state.past) (subst (λ u. IfSome u (λ transaction. AllRise transaction.snapshot)) e (snapshot_of session state.sessions rise.snapshots))

pub view_defined : (base : Records) (dropped kept : List PastChange) (store : VersionedTables) (state : DatabaseState) → Holds base dropped kept store state → (session : ℕ) → map without_rows (view state session) ≡ map without_rows state.tables
unfolding view
view_defined base dropped kept store state h session = view_defined_by base dropped kept store state h session (transaction_of state session) refl

pub view_rises : (state : DatabaseState) → RecordsRise state → (session : ℕ) → AllRise (view state session)
unfolding view
view_rises state rise session = view_rises_by state rise session (transaction_of state session) refl

-- ---- records

pub no_record : (tables : List Table) (id : ℕ) (bookmark : List ℕ) → is_some (table_with_id tables id) ≡ false → record_in tables id bookmark ≡ None
no_record tables id bookmark e = by (table_with_id tables id) e
  where
    by : (t : Option Table) → is_some t ≡ false → row_at (rows_of t) bookmark ≡ None
    by None e = refl
    by (Some t) e = cc

-- the law that a session finds its very record among the kept changes
abbrev pub FindsItsRecord : Type 0
FindsItsRecord =
    (base : Records) (dropped kept : List PastChange) (state : DatabaseState) → IsHistory base dropped kept state → HasNoSums kept → (session table : ℕ) (bookmark : List ℕ)
    → found_record session (transaction_of state session) table bookmark (records_of (newest state) table bookmark) kept ≡ records_of (view state session) table bookmark

pub seen_records : FindsItsRecord → (base : Records) (dropped kept : List PastChange) (store : VersionedTables) (state : DatabaseState) → Holds base dropped kept store state → HasNoSums kept → (reader : Reader) → reader.begin ≡ begin_of (transaction_of state reader.session.0)
    → (id : ℕ) (bookmark : List ℕ) → record_in (seen_tables reader store) id bookmark ≡ record_in (view state reader.session.0) id bookmark
seen_records finds base dropped kept store state h none reader e id bookmark =
    ap (λ t. row_at (rows_of t) bookmark) (seen_at_id reader store.held store.tables id) ∙ by (table_with_id store.tables id) refl
  where
    by : (t : Option Table) → table_with_id store.tables id ≡ t → row_at (rows_of (option_map (seen_table reader store.held) t)) bookmark ≡ record_in (view state reader.session.0) id bookmark
    by None f =
        sym (no_record (view state reader.session.0) id bookmark
        (same_there (view state reader.session.0) store.tables (view_defined base dropped kept store state h reader.session.0 ∙ sym h.defined) id ∙ ap is_some f))
    by (Some t) f =
        seen_at t.id reader store.held t.rows bookmark
        ∙ ap (λ n. seen_record n bookmark reader (row_at t.rows bookmark) store.held) (found_id id store.tables t f)
        ∙ ap (λ o. seen_record id bookmark reader (row_at (rows_of o) bookmark) store.held) (sym f)
        ∙ ap (λ (r : Records). seen_record id bookmark reader (r id bookmark) store.held) h.newest
        ∙ seen_is_found reader (transaction_of state reader.session.0) e id bookmark (records_of (newest state) id bookmark) kept store.held h.held
        ∙ finds base dropped kept state h.history none reader.session.0 id bookmark

pub is_shown : FindsItsRecord → (base : Records) (dropped kept : List PastChange) (store : VersionedTables) (state : DatabaseState) → Holds base dropped kept store state → HasNoSums kept → (reader : Reader) → reader.begin ≡ begin_of (transaction_of state reader.session.0)
    → (id : ℕ) → table_with_id (seen_tables reader store) id ≡ table_with_id (view state reader.session.0) id
is_shown finds base dropped kept store state h none reader e id =
    same_table (seen_tables reader store) (view state reader.session.0) id
    (seen_defined reader store.held store.tables ∙ h.defined ∙ sym (view_defined base dropped kept store state h reader.session.0))
    (all_seen_rise reader store.held store.tables h.in_order) (view_rises state h.rise reader.session.0)
    (seen_records finds base dropped kept store state h none reader e id)
