-- Where no session is in a transaction, each is shown the committed tables.
use Rattle.std.proofs.Common.{◌≡◌, ℕ, Bool, true, false, ◌&&◌, cond, List, [], ◌∷◌, map, Option, Some, None, refl, ap, ◌∙◌}
use Rattle.std.specs.Prelude.{◌==◌, is_none}
use Rattle.std.specs.List.{AllByRecursion}
use Rattle.common_lemmas.proofs.Booleans.{impossible}
use Rattle.database_state.specs.Table.{Rows, Table}
use Rattle.database_state.specs.State.{DatabaseState, PastChange, Status, Transaction, uncommitted, committed, undone, transaction_of}
use Rattle.laws_versions.specs.History.{IsOpenIn, IsPlaced, IsPlacedBy}
use Rattle.version_cleanup.specs.Cleaning.{reader_in}
use Rattle.version_store.specs.declared.calls.Reader.{Reader}
use Rattle.version_store.specs.HeldChanges.{is_rewrite, is_unseen_status}
use Rattle.laws_engine.specs.HeldRecords.{HeldRecord, is_unseen}
use Rattle.laws_engine.specs.Holding.{AllMatch, begin_of}
use Rattle.laws_engine.specs.VersionedTables.{rows_with, seen_rows, seen_table, seen_tables}
use Rattle.laws_engine.specs.EngineState.{EngineState}
use Rattle.laws_engine.specs.HoldsState.{HoldsState}
use Rattle.laws_engine.proofs.EngineLemmas.RecordsAndConflicts.{begin_told, tables_settled}

-- ---- no held change is unseen

seen_status : (number : ℕ) (transactions : ℕ → Option Transaction) → ((x : ℕ) → transactions x ≡ None) → (item : PastChange) (reader : Reader) (session : ℕ) → reader.begin ≡ None → (s : Status) → IsPlacedBy number transactions item s
    → is_unseen_status reader session s ≡ false
seen_status number transactions none item reader session outside uncommitted placed = absurd (closed (transactions item.session) (none item.session) placed)
  where
    closed : (t : Option Transaction) → t ≡ None → IsOpenIn item t → ⊥
    closed None e h = h
    closed (Some t) e h = impossible (ap is_none e)
seen_status number transactions none item reader session outside (committed at) placed = ap (λ (begin : Option ℕ). is_unseen_status (record reader { begin = begin }) session (committed at)) outside
seen_status number transactions none item reader session outside undone placed = refl

all_seen : (number : ℕ) (tables : List Table) (transactions : ℕ → Option Transaction) → ((x : ℕ) → transactions x ≡ None) → (reader : Reader) → reader.begin ≡ None → (kept : List PastChange) (held : List HeldRecord)
    → AllByRecursion (IsPlaced number tables transactions) kept → AllMatch kept held → AllByRecursion (λ h. is_unseen reader h ≡ false) held
all_seen number tables transactions none reader outside [] [] placed match = tt
all_seen number tables transactions none reader outside [] (h ∷ held) placed match = absurd match
all_seen number tables transactions none reader outside (item ∷ kept) [] placed match = absurd match
all_seen number tables transactions none reader outside (item ∷ kept) (h ∷ held) placed match = (
  ap (is_unseen_status reader h.session) match.0.status ∙ seen_status number transactions none item reader h.session outside item.status placed.0.2,
  all_seen number tables transactions none reader outside kept held placed.1 match.1,
)

-- ---- so the newest records are shown

rows_seen : (table : ℕ) (reader : Reader) (held : List HeldRecord) (rows : Rows) → AllByRecursion (λ h. is_unseen reader h ≡ false) held → seen_rows table reader held rows ≡ rows
rows_seen table reader [] rows seen = refl
rows_seen table reader (h ∷ held) rows seen =
    let later : Rows = seen_rows table reader held rows in
    ap (λ b. cond b (rows_with later h.bookmark h.before) later) (unhidden (h.table == table) (is_rewrite h.kind) (is_unseen reader h) seen.0)
    ∙ rows_seen table reader held rows seen.1
  where
    unhidden : (a b c : Bool) → c ≡ false → (a && b && c) ≡ false
    unhidden true true c e = e
    unhidden true false c e = refl
    unhidden false b c e = refl

tables_seen : (reader : Reader) (held : List HeldRecord) → AllByRecursion (λ h. is_unseen reader h ≡ false) held → (tables : List Table) → map (seen_table reader held) tables ≡ tables
tables_seen reader held seen [] = refl
tables_seen reader held seen (t ∷ tables) = λ i. record t { rows = rows_seen t.id reader held t.rows seen i } ∷ tables_seen reader held seen tables i

pub shown_settled : (engine : EngineState) (state : DatabaseState) → HoldsState engine state → ((x : ℕ) → transaction_of state x ≡ None) → (session : ℕ) → seen_tables (reader_in session engine.sessions) engine.store ≡ state.tables
shown_settled engine state h none session =
    let reader : Reader = reader_in session engine.sessions in
    tables_seen reader engine.store.held
    (all_seen state.number state.tables (transaction_of state) none reader (begin_told engine state h session ∙ ap begin_of (none session)) h.kept engine.store.held h.reached.history.keeps.placed h.holds.held)
    engine.store.tables
    ∙ tables_settled engine state h none
