-- What the engine tells of records and conflicts.
use Rattle.std.proofs.Common.{◌≡◌, ℕ, Bool, true, false, not, ◌&&◌, ◌||◌, cond, List, [], ◌∷◌, Option, Some, None, refl, sym, ap, subst, ◌∙◌}
use Rattle.std.specs.Prelude.{option_map, ℤ, ◌==◌, filter, find, fold, is_none, is_some, option_and_then, IfSome}
use Rattle.std.specs.List.{AllByRecursion, list_any}
use Rattle.std.proofs.lemmas.Bool.{eqb-true}
use Rattle.common_lemmas.proofs.Booleans.{impossible}
use Rattle.column_set.specs.RecordValues.{RecordFields}
use Rattle.database_state.specs.Table.{Table, record_in, schema_of, table_with_id}
use Rattle.database_state.specs.State.{DatabaseState, LiveSession, PastChange, Status, Transaction, uncommitted, committed, undone, levels, transaction_of}
use Rattle.database_state.specs.View.{view}
use Rattle.database_state.specs.Conflicts.{has_key_conflict as has_key_conflict_in}
use Rattle.laws_versions.specs.Records.{Records, after_item, records_after_items, records_of}
use Rattle.laws_versions.specs.History.{IsOpenIn, IsPlaced, IsPlacedBy}
use Rattle.laws_versions.specs.Readers.{is_standing, was_committed, was_committed_status}
use Rattle.laws_versions.proofs.HistoryLemmas.LawfulEntries.{outside}
use Rattle.laws_versions.proofs.HistoryLemmas.SeenRecords.{newest_records}
use Rattle.laws_versions.proofs.HistoryLemmas.Lists.{all_both}
use Rattle.laws_versions.specs.KeySums.{HasKeyBefores, SeesNoSum}
use Rattle.laws_versions.proofs.KeyLemmas.EscrowSums.{key_befores_at, unseen_now}
use Rattle.laws_versions.proofs.KeyLemmas.UniqueKept.{id_of}
use Rattle.version_cleanup.specs.Cleaning.{reader_in}
use Rattle.version_cleanup.specs.LiveSessions.{has_other_transaction, LiveState}
use Rattle.laws_engine.specs.HeldRecords.{has_key_conflict, seen_record}
use Rattle.laws_engine.specs.HeldSums.{unseen_sums}
use Rattle.laws_engine.specs.ViewedRecords.{viewed_record, without_sums}
use Rattle.laws_engine.specs.Holding.{begin_of}
use Rattle.laws_engine.proofs.TableLemmas.Rising.{same_table}
use Rattle.laws_engine.proofs.TableLemmas.KeyConflicts.{VariantsTellKeyConflicts, key_conflict_is_told}
use Rattle.laws_engine.proofs.TableLemmas.ViewedRecords.{very_viewed}
use Rattle.laws_engine.specs.EngineState.{EngineState}
use Rattle.laws_engine.specs.HoldsState.{HoldsState}
use Rattle.laws_engine.proofs.EngineLemmas.SameTables.{same_tables}
use Rattle.laws_engine.proofs.EngineLemmas.Sessions.{begin_alike, other_alike}

pub begin_told : (engine : EngineState) (state : DatabaseState) → HoldsState engine state → (session : ℕ) → (reader_in session engine.sessions).begin ≡ begin_of (transaction_of state session)
begin_told engine state h session = ap (λ (sessions : List LiveState). (reader_in session sessions).begin) (sym h.sessions) ∙ begin_alike session state

-- ---- the view

-- a record of it, also where others changed its escrow columns
pub record_viewed : (engine : EngineState) (state : DatabaseState) → HoldsState engine state → (session table : ℕ) (bookmark : List ℕ)
    → viewed_record table bookmark (reader_in session engine.sessions) (record_in engine.store.tables table bookmark) engine.store.held ≡ record_in (view state session) table bookmark
record_viewed engine state h session table bookmark =
    very_viewed h.base h.dropped h.kept engine.store state h.holds h.reached.numbers (reader_in session engine.sessions) (begin_told engine state h session) table bookmark

-- and whether there is one
pub record_shown : (engine : EngineState) (state : DatabaseState) → HoldsState engine state → (session table : ℕ) (bookmark : List ℕ)
    → is_some (seen_record table bookmark (reader_in session engine.sessions) (record_in engine.store.tables table bookmark) engine.store.held) ≡ is_some (record_in (view state session) table bookmark)
record_shown engine state h session table bookmark =
    same_some (unseen_sums table bookmark (reader_in session engine.sessions) engine.store.held) (seen_record table bookmark (reader_in session engine.sessions) (record_in engine.store.tables table bookmark) engine.store.held)
    ∙ ap is_some (record_viewed engine state h session table bookmark)
  where
    same_some : (sums : List (ℕ × ℤ)) (o : Option RecordFields) → is_some o ≡ is_some (option_map (λ values. without_sums values sums) o)
    same_some sums None = refl
    same_some sums (Some values) = refl

-- ---- no transaction is open

none_elsewhere : (label : ℕ) (sessions : List LiveSession) → list_any (λ s. not (s.label == label) && is_some s.transaction) sessions ≡ false → (x : ℕ) → (x == label) ≡ false
    → option_and_then (λ (s : LiveSession). s.transaction) (find (λ s. s.label == x) sessions) ≡ None
none_elsewhere label [] h x e = refl
none_elsewhere label (s ∷ sessions) h x e =
    by (s.label == x) refl (none_elsewhere label sessions (later (not (s.label == label) && is_some s.transaction) _ h) x e) (earlier_one (not (s.label == label) && is_some s.transaction) _ h)
  where
    later : (a b : Bool) → (a || b) ≡ false → b ≡ false
    later true b f = impossible (sym f)
    later false b f = f

    earlier_one : (a b : Bool) → (a || b) ≡ false → a ≡ false
    earlier_one true b f = f
    earlier_one false b f = refl

    none_of : (o : Option Transaction) → is_some o ≡ false → o ≡ None
    none_of None f = refl
    none_of (Some t) f = impossible (sym f)

    apart : (b : Bool) → (s.label == label) ≡ b → b ≡ false → (not (s.label == label) && is_some s.transaction) ≡ false → is_some s.transaction ≡ false
    apart b f g k = sym (ap (λ (c : Bool). not c && is_some s.transaction) (f ∙ g)) ∙ k

    by : (b : Bool) → (s.label == x) ≡ b → option_and_then (λ (s : LiveSession). s.transaction) (find (λ s. s.label == x) sessions) ≡ None → (not (s.label == label) && is_some s.transaction) ≡ false
        → option_and_then (λ (s : LiveSession). s.transaction) (cond b (Some s) (find (λ s. s.label == x) sessions)) ≡ None
    by true f rest k = none_of s.transaction (apart (s.label == label) refl (ap (λ (n : ℕ). n == label) (eqb-true s.label x f) ∙ e) k)
    by false f rest k = rest

pub all_closed : (engine : EngineState) (state : DatabaseState) → HoldsState engine state → (session : ℕ) → (levels state session == 0) ≡ true → has_other_transaction session engine.sessions ≡ false → (x : ℕ) → transaction_of state x ≡ None
all_closed engine state h session e f x =
    elim (x == session) as (λ b. (x == session) ≡ b → transaction_of state x ≡ None) [
      | true ↦ λ g. ap (transaction_of state) (eqb-true x session g) ∙ outside h.base h.dropped h.kept state h.reached.history session e
      | false ↦ λ g. none_elsewhere session state.sessions (sym (other_alike session state.sessions) ∙ ap (has_other_transaction session) h.sessions ∙ f) x g
    ] refl

-- then what stands is what was committed
all_settled : (number : ℕ) (tables : List Table) (transactions : ℕ → Option Transaction) → ((x : ℕ) → transactions x ≡ None) → (kept : List PastChange) → AllByRecursion (IsPlaced number tables transactions) kept → (base : Records)
    → records_after_items is_standing base kept ≡ records_after_items (was_committed None) base kept
all_settled number tables transactions none [] placed base = refl
all_settled number tables transactions none (item ∷ kept) placed base =
    ap (λ b. fold after_item base (cond b (item ∷ filter is_standing kept) (filter is_standing kept))) (same item.status placed.0.2)
    ∙ by (was_committed None item) (all_settled number tables transactions none kept placed.1 (after_item base item)) (all_settled number tables transactions none kept placed.1 base)
  where
    closed : (t : Option Transaction) → t ≡ None → IsOpenIn item t → ⊥
    closed None e h = h
    closed (Some t) e h = impossible (ap is_none e)

    same : (s : Status) → IsPlacedBy number transactions item s → is_standing (record item { status = s }) ≡ was_committed_status None s
    same uncommitted h = absurd (closed (transactions item.session) (none item.session) h)
    same (committed n) h = refl
    same undone h = refl

    by : (b : Bool) → records_after_items is_standing (after_item base item) kept ≡ records_after_items (was_committed None) (after_item base item) kept → records_after_items is_standing base kept ≡ records_after_items (was_committed None) base kept
        → fold after_item base (cond b (item ∷ filter is_standing kept) (filter is_standing kept)) ≡ fold after_item base (cond b (item ∷ filter (was_committed None) kept) (filter (was_committed None) kept))
    by true with_it without = with_it
    by false with_it without = without

pub tables_settled : (engine : EngineState) (state : DatabaseState) → HoldsState engine state → ((x : ℕ) → transaction_of state x ≡ None) → engine.store.tables ≡ state.tables
tables_settled engine state h none =
    let settled : records_of engine.store.tables ≡ records_of state.tables =
    h.holds.newest ∙ newest_records h.base h.dropped h.kept state h.reached.history
    ∙ all_settled state.number state.tables (transaction_of state) none h.kept h.reached.history.keeps.placed h.base ∙ sym h.reached.history.keeps.committed in
    same_tables engine.store.tables state.tables h.holds.defined h.reached.order.ids
    (λ id. same_table engine.store.tables state.tables id h.holds.defined h.holds.in_order h.holds.rise.committed (λ bookmark. ap (λ (r : Records). r id bookmark) settled))

-- ---- key conflicts

-- of the indexes of each table, which read no sum
pub keys_told : VariantsTellKeyConflicts → (engine : EngineState) (state : DatabaseState) → HoldsState engine state → (session table : ℕ)
    → IfSome (table_with_id state.tables table) (λ t. AllByRecursion (λ rule. (key : List ℕ)
    → has_key_conflict (reader_in session engine.sessions) (records_of engine.store.tables) table rule (schema_of t) key engine.store.held ≡ has_key_conflict_in state session table (schema_of t) rule key) t.indexes)
keys_told tells engine state h session table =
    by (table_with_id state.tables table) refl (unseen_now h.base h.kept state h.reached.sums table) (key_befores_at h.base h.kept state h.reached.sums table)
  where
    by : (o : Option Table) → table_with_id state.tables table ≡ o → IfSome o (λ t. AllByRecursion (λ rule. SeesNoSum rule t.id h.kept) t.indexes)
        → IfSome o (λ t. AllByRecursion (λ rule. HasKeyBefores rule (schema_of t) t.id h.base h.kept) t.indexes)
        → IfSome o (λ t. AllByRecursion (λ rule. (key : List ℕ)
        → has_key_conflict (reader_in session engine.sessions) (records_of engine.store.tables) table rule (schema_of t) key engine.store.held ≡ has_key_conflict_in state session table (schema_of t) rule key) t.indexes)
    by None e unseen befores = tt
    by (Some t) e unseen befores =
        all_both (λ rule. SeesNoSum rule t.id h.kept) (λ rule. HasKeyBefores rule (schema_of t) t.id h.base h.kept)
        (λ rule. (key : List ℕ) → has_key_conflict (reader_in session engine.sessions) (records_of engine.store.tables) table rule (schema_of t) key engine.store.held ≡ has_key_conflict_in state session table (schema_of t) rule key)
        (λ rule sees had key. key_conflict_is_told tells h.base h.dropped h.kept engine.store state h.holds (reader_in session engine.sessions) (begin_told engine state h session) table (schema_of t) rule
        (subst (λ (k : ℕ). SeesNoSum rule k h.kept) (id_of state.tables table t e) sees) (subst (λ (k : ℕ). HasKeyBefores rule (schema_of t) k h.base h.kept) (id_of state.tables table t e) had) key) t.indexes unseen befores
