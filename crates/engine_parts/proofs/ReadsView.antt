-- What a session reads of a state that the engine holds.
use Rattle.std.proofs.Common.{◌≡◌, ℕ, ◌≤◌, true, List, Option, Some, None, option_map, unwrap_or, refl, sym, ap, subst, ◌∙◌}
use Rattle.std.specs.Prelude.{ℤ, ◌==◌, IfSome, IsTrue, is_some}
use Rattle.std.specs.List.{AllByRecursion}
use Rattle.column_set.specs.RecordValues.{RecordFields, record_fits, record_size}
use Rattle.common_lemmas.proofs.Found.{of_found}
use Rattle.common_lemmas.proofs.Booleans.{impossible}
use Rattle.database_state.specs.State.{DatabaseState, PastChange, transaction_of}
use Rattle.database_state.specs.Table.{Table, index_entries, record_in, row_at, rows_of, schema_of, table_with_id}
use Rattle.database_state.specs.View.{view}
use Rattle.index_derive.specs.declared.rules.Schema.{Schema}
use Rattle.laws_versions.specs.Records.{Records, records_of}
use Rattle.laws_versions.specs.History.{IsHistory, without_rows}
use Rattle.laws_versions.specs.EscrowSums.{with_sums}
use Rattle.laws_versions.specs.KeySums.{SeesNoSum}
use Rattle.laws_versions.proofs.KeyLemmas.EscrowSums.{unseen_now}
use Rattle.laws_versions.proofs.KeyLemmas.IndexNumbers.{all_primary_first}
use Rattle.laws_versions.proofs.KeyLemmas.UniqueKept.{id_of}
use Rattle.laws_versions.specs.EachRecord.{EachRecordHas}
use Rattle.laws_versions.specs.RecordNumbers.{HasEscrowNumbers, HoldsNumbers}
use Rattle.laws_versions.specs.StoredRecords.{IsStored}
use Rattle.version_store.specs.declared.calls.Reader.{Reader}
use Rattle.version_cleanup.specs.Cleaning.{reader_in}
use Rattle.laws_engine.proofs.TableLemmas.HeldSums.{same_sums}
use Rattle.laws_engine.proofs.TableLemmas.SeenTables.{seen_at_id}
use Rattle.laws_engine.proofs.TableLemmas.ViewedRecords.{AreAdded, unseen_added}
use Rattle.laws_engine.specs.HeldRecords.{HeldRecord}
use Rattle.laws_engine.specs.HeldSums.{unseen_sums}
use Rattle.laws_engine.specs.VersionedTables.{VersionedTables, seen_table, seen_tables}
use Rattle.laws_engine.specs.Holding.{Holds, begin_of}
use Rattle.stored_variants.specs.StoredVersions.{entries_in}
use Rattle.table_versions.specs.Shown.{FindsShown, ShowsEntries}
use Rattle.session_local.specs.Agreement.{HasSchemaOf}
use Rattle.session_local.specs.Local.{LocalState, OpenCursor, cursor_labelled}
use Rattle.laws_engine.specs.InStep.{IsInStep}
use Rattle.laws_engine.specs.EngineState.{EngineState}
use Rattle.laws_engine.specs.HoldsState.{HoldsState}
use Rattle.laws_engine.proofs.EngineLemmas.SameTables.{numbered_alike}
use Rattle.laws_engine.proofs.EngineLemmas.RecordsAndConflicts.{begin_told}
use Rattle.engine_parts.specs.HeldLaws.{SeesRows}
use Rattle.engine_parts.specs.Reading.{IsRowOf, entries_for, record_for, unseen_amounts}
use Rattle.engine_parts.proofs.RowSums.{row_of}

-- ---- what it is shown

-- the laws that it rests on
abbrev pub ViewsRecords : Type 0
ViewsRecords =
    (engine : EngineState) (state : DatabaseState) → HoldsState engine state → (session table : ℕ) (bookmark : List ℕ)
    → record_for engine session table bookmark ≡ record_in (view state session) table bookmark

abbrev pub ShowsSums : Type 0
ShowsSums =
    (base : Records) (dropped kept : List PastChange) (store : VersionedTables) (state : DatabaseState) → Holds base dropped kept store state
    → (reader : Reader) → reader.begin ≡ begin_of (transaction_of state reader.session.0) → (table : ℕ) (bookmark : List ℕ)
    → record_in (seen_tables reader store) table bookmark ≡ option_map (λ values. with_sums values (unseen_sums table bookmark reader store.held)) (record_in (view state reader.session.0) table bookmark)

-- every record that a session sees has something under its bookmark
abbrev pub SeesEach : (ℕ → Schema → List ℕ → RecordFields → Type 0) → Type 0
SeesEach P =
    (base : Records) (dropped kept : List PastChange) (state : DatabaseState) → IsHistory base dropped kept state → HasEscrowNumbers base kept state → (session id : ℕ)
    → IfSome (table_with_id state.tables id) (λ table. (bookmark : List ℕ) → IfSome (records_of (view state session) id bookmark) (P state.number (schema_of table) bookmark))

abbrev pub SeesStored : Type 0
SeesStored =
    (base : Records) (dropped kept : List PastChange) (state : DatabaseState) → IsHistory base dropped kept state → HasEscrowNumbers base kept state → EachRecordHas IsStored base kept state → (session id : ℕ)
    → IfSome (table_with_id state.tables id) (λ table. (bookmark : List ℕ) → IfSome (records_of (view state session) id bookmark) (IsStored state.number (schema_of table) bookmark))

-- ---- the cursor's table

-- its schema is that of the committed table
pub schema_at : (state : DatabaseState) (session : ℕ) (local : LocalState) (label : ℕ) (c : OpenCursor) → IsInStep state session local → cursor_labelled local label ≡ Some c → HasSchemaOf c (table_with_id state.tables c.cursor.table)
schema_at state session local label c step found =
    of_found (λ (c : OpenCursor). HasSchemaOf c (table_with_id state.tables c.cursor.table)) (λ (c : OpenCursor). c.label == label) local.cursors c found step.agrees.schemas

pub none_is_some : {A X : Type 0} (x : X) → None ≡ Some x → A
none_is_some {A} {X} x e = impossible (ap (λ (o : Option X). is_some o) e)

-- the stored table is there, and has the cursor's schema
stored_there : (c : OpenCursor) (stored committed : Option Table) → option_map without_rows stored ≡ option_map without_rows committed → HasSchemaOf c committed → is_some stored ≡ true
stored_there c None None same has = absurd has
stored_there c None (Some u) same has = none_is_some (without_rows u) same
stored_there c (Some t) committed same has = refl

same_schema : (t u : Table) → Some (without_rows t) ≡ Some (without_rows u) → schema_of t ≡ schema_of u
same_schema t u same = ap (λ (o : Option Table). schema_of (unwrap_or o t)) same

entries_at : (c : OpenCursor) (reader : Reader) (held : List HeldRecord) (stored committed : Option Table) (index : ℕ) → option_map without_rows stored ≡ option_map without_rows committed → HasSchemaOf c committed
    → entries_in index (option_map (seen_table reader held) stored) ≡ index_entries c.schema (rows_of (option_map (seen_table reader held) stored)) index
entries_at c reader held None None index same has = absurd has
entries_at c reader held None (Some u) index same has = none_is_some (without_rows u) same
entries_at c reader held (Some t) None index same has = absurd has
entries_at c reader held (Some t) (Some u) index same has = ap (λ (s : Schema). index_entries s (seen_table reader held t).rows index) (same_schema t u same ∙ sym has.0)

-- no index of the cursor's schema sees a sum
unseen_at : (tables : List Table) (kept : List PastChange) (c : OpenCursor) (committed : Option Table) → table_with_id tables c.cursor.table ≡ committed → HasSchemaOf c committed → IfSome committed (λ t. AllByRecursion (λ rule. SeesNoSum rule t.id kept) t.indexes)
    → AllByRecursion (λ rule. SeesNoSum rule c.cursor.table kept) c.schema.indexes
unseen_at tables kept c None is has unseen = absurd has
unseen_at tables kept c (Some u) is has unseen =
    subst (λ (s : Schema). AllByRecursion (λ rule. SeesNoSum rule c.cursor.table kept) s.indexes) (sym has.0)
    (all_primary_first (λ rule. SeesNoSum rule c.cursor.table kept) u.indexes
    (subst (λ (n : ℕ). AllByRecursion (λ rule. SeesNoSum rule n kept) u.indexes) (id_of tables c.cursor.table u is) unseen))

pub entries_read : ShowsEntries → (engine : EngineState) (state : DatabaseState) (session : ℕ) (local : LocalState) (label : ℕ) (c : OpenCursor) → HoldsState engine state → IsInStep state session local → cursor_labelled local label ≡ Some c
    → (index : ℕ) → entries_for engine session c.cursor.table index ≡ index_entries c.schema (rows_of (table_with_id (view state session) c.cursor.table)) index
entries_read shows engine state session local label c h step found index =
    let reader = reader_in session engine.sessions in
    let id = c.cursor.table in
    let seen = seen_at_id reader engine.store.held engine.store.tables id in
    let has = schema_at state session local label c step found in
    ap (entries_in index) seen
    ∙ entries_at c reader engine.store.held (table_with_id engine.store.tables id) (table_with_id state.tables id) index (numbered_alike engine.store.tables state.tables h.holds.defined id) has
    ∙ ap (λ (o : Option Table). index_entries c.schema (rows_of o) index) (sym seen)
    ∙ shows h.base h.dropped h.kept engine.store state h.holds reader (begin_told engine state h session) id c.schema
    (unseen_at state.tables h.kept c (table_with_id state.tables id) refl has (unseen_now h.base h.kept state h.reached.sums id)) index

pub record_read : ViewsRecords → (engine : EngineState) (state : DatabaseState) (session : ℕ) (local : LocalState) (label : ℕ) (c : OpenCursor) → HoldsState engine state → IsInStep state session local → cursor_labelled local label ≡ Some c
    → (bookmark : List ℕ) → record_for engine session c.cursor.table bookmark ≡ row_at (rows_of (table_with_id (view state session) c.cursor.table)) bookmark
record_read views engine state session local label c h step found bookmark = views engine state h session c.cursor.table bookmark

-- ---- records fit, and hold numbers

has_at : (P : Schema → List ℕ → RecordFields → Type 0) (c : OpenCursor) (committed : Option Table) (records : List ℕ → Option RecordFields) (bookmark : List ℕ) (values : RecordFields) → HasSchemaOf c committed
    → IfSome committed (λ table. (bookmark : List ℕ) → IfSome (records bookmark) (P (schema_of table) bookmark)) → records bookmark ≡ Some values → P c.schema bookmark values
has_at P c None records bookmark values has each is = absurd has
has_at P c (Some u) records bookmark values has each is =
    subst (λ (s : Schema). P s bookmark values) (sym has.0)
    (subst (λ (o : Option RecordFields). IfSome o (P (schema_of u) bookmark)) is (each bookmark))

pub stored_read : ViewsRecords → SeesStored → (engine : EngineState) (state : DatabaseState) (session : ℕ) (local : LocalState) (label : ℕ) (c : OpenCursor) → HoldsState engine state → IsInStep state session local → cursor_labelled local label ≡ Some c
    → (bookmark : List ℕ) (values : RecordFields) → record_for engine session c.cursor.table bookmark ≡ Some values → (record_size values ≤ 1700) × IsTrue (record_fits c.schema.columns values)
stored_read views stored engine state session local label c h step found bookmark values is =
    let id = c.cursor.table in
    has_at (IsStored state.number) c (table_with_id state.tables id) (records_of (view state session) id) bookmark values (schema_at state session local label c step found)
    (stored h.base h.dropped h.kept state h.reached.history h.reached.numbers h.stored session id)
    (sym (views engine state h session id bookmark) ∙ is)

numbers_read : ViewsRecords → SeesEach HoldsNumbers → (engine : EngineState) (state : DatabaseState) (session : ℕ) (local : LocalState) (label : ℕ) (c : OpenCursor) → HoldsState engine state → IsInStep state session local → cursor_labelled local label ≡ Some c
    → (bookmark : List ℕ) (values : RecordFields) → record_for engine session c.cursor.table bookmark ≡ Some values → HoldsNumbers state.number c.schema bookmark values
numbers_read views numbers engine state session local label c h step found bookmark values is =
    let id = c.cursor.table in
    has_at (HoldsNumbers state.number) c (table_with_id state.tables id) (records_of (view state session) id) bookmark values (schema_at state session local label c step found)
    (numbers h.base h.dropped h.kept state h.reached.history h.reached.numbers session id)
    (sym (views engine state h session id bookmark) ∙ is)

-- ---- rows

-- the sums that the session does not see are of escrow columns
added : (engine : EngineState) (state : DatabaseState) (session : ℕ) (c : OpenCursor) → HoldsState engine state → (committed : Option Table) → table_with_id state.tables c.cursor.table ≡ committed → HasSchemaOf c committed
    → (bookmark : List ℕ) → AreAdded c.schema (unseen_sums c.cursor.table bookmark (reader_in session engine.sessions) engine.store.held)
added engine state session c h None is has bookmark = absurd has
added engine state session c h (Some u) is has bookmark =
    subst (λ (s : Schema). AreAdded s (unseen_sums c.cursor.table bookmark (reader_in session engine.sessions) engine.store.held)) (sym has.0)
    (subst (AreAdded (schema_of u)) (sym (same_sums (reader_in session engine.sessions) (transaction_of state session) (begin_told engine state h session) c.cursor.table bookmark h.kept engine.store.held h.holds.held))
    (unseen_added h.base h.kept state h.reached.numbers session (transaction_of state session) c.cursor.table u is bookmark))

-- the laws that rows rest on
pub record ReadsRows : Type 0 where
  pub views : ViewsRecords
  pub sums : ShowsSums
  pub finds : FindsShown
  pub stored : SeesStored
  pub numbers : SeesEach HoldsNumbers

pub row_read : ReadsRows → SeesRows
row_read laws engine state session local label c h step found bookmark row seen shown is =
    subst (λ (r : RecordFields). IsRowOf c.schema (unseen_amounts engine session id bookmark) r seen) (sym same)
    (row_of c.schema state.number bookmark sums (added engine state session c h (table_with_id state.tables id) refl has bookmark) seen
    (stored_read laws.views laws.stored engine state session local label c h step found bookmark seen is, numbers_read laws.views laws.numbers engine state session local label c h step found bookmark seen is))
  where
    id : ℕ
    id = c.cursor.table

    sums : List (ℕ × ℤ)
    sums = unseen_sums id bookmark (reader_in session engine.sessions) engine.store.held

    has : HasSchemaOf c (table_with_id state.tables id)
    has = schema_at state session local label c step found

    there : is_some (table_with_id engine.store.tables id) ≡ true
    there = stored_there c (table_with_id engine.store.tables id) (table_with_id state.tables id) (numbered_alike engine.store.tables state.tables h.holds.defined id) has

    as_one : (one other : RecordFields) → Some one ≡ Some other → one ≡ other
    as_one one other e = ap (λ (o : Option RecordFields). unwrap_or o one) e

    same : row ≡ with_sums seen sums
    same = as_one row (with_sums seen sums)
        (sym shown
        ∙ sym (laws.finds (reader_in session engine.sessions) engine.store id bookmark there)
        ∙ laws.sums h.base h.dropped h.kept engine.store state h.holds (reader_in session engine.sessions) (begin_told engine state h session) id bookmark
        ∙ ap (option_map (λ (values : RecordFields). with_sums values sums)) (sym (laws.views engine state h session id bookmark) ∙ is))
