-- A clean before a lawful schema step leaves no held change: no transaction is open, and so none needs one.
use Rattle.std.proofs.Common.{◌≡◌, ℕ, ◌+◌, ◌<◌, Bool, true, false, not, ◌&&◌, cond, List, [], ◌∷◌, map, Option, Some, None, refl, sym, ap, ◌∙◌, arith}
use Rattle.std.specs.Prelude.{◌==◌, find, is_none, option_and_then, option_map}
use Rattle.std.specs.List.{AllByRecursion}
use Rattle.std.proofs.lemmas.Bool.{eqb-true}
use Rattle.common_lemmas.proofs.Booleans.{and_left, and_right, impossible}
use Rattle.common_lemmas.proofs.Numbers.{self_equal}
use Rattle.index_derive.specs.declared.log.EntryKind.{EntryKind}
use Rattle.index_derive.specs.declared.log.EntryKind.TheVariants as entry
use Rattle.index_derive.specs.declared.log.Step.{Step}
use Rattle.index_derive.specs.declared.log.Step.TheVariants.{One, Alone}
use Rattle.index_derive.specs.declared.schema_calls.SchemaStep.{SchemaStep}
use Rattle.database_state.specs.Table.{Table}
use Rattle.database_state.specs.State.{DatabaseState, LiveSession, PastChange, Status, Transaction as WholeTransaction, uncommitted, committed, undone, levels, levels_of, transaction_of}
use Rattle.database_state.specs.SchemaChanges.{schema_refusal}
use Rattle.database_state.specs.Step.{entry_by, state_after}
use Rattle.database_state.specs.Lawful.{has_next_numbers, is_lawful, is_live as is_live_in}
use Rattle.laws_versions.specs.History.{EachTwo, IsOpenIn, IsPlaced, IsPlacedBy, LabelsRise}
use Rattle.laws_versions.specs.KeptSteps.{with_next_number}
use Rattle.laws_versions.proofs.HistoryLemmas.LawfulEntries.{all_outside}
use Rattle.laws_versions.proofs.HistoryLemmas.Transactions.{transaction-begun}
use Rattle.version_store.specs.HeldChanges.{is_kept_status}
use Rattle.version_cleanup.specs.declared.live.Transaction.{Transaction}
use Rattle.version_cleanup.specs.LiveSessions.{lesser, live_state, oldest_begin, without_snapshot}
use Rattle.laws_engine.specs.HeldRecords.{HeldRecord, from_oldest_kept}
use Rattle.laws_engine.specs.Holding.{AllMatch}
use Rattle.laws_engine.specs.EngineState.{EngineState, cleaned}
use Rattle.laws_engine.specs.EngineSteps.{cleaned_for, cleans_first, step_cleans}
use Rattle.laws_engine.specs.HoldsState.{HoldsState}
use Rattle.engine_core.specs.Steps.{IsSettledFor, IsSettledForStep, MayTake}
use Rattle.engine_core.proofs.Fitting.{lawful_by_kind}
use Rattle.engine_core.proofs.Turns.{apart}

-- ---- what is lawful

-- nothing refuses the step, and it has the next numbers
pub record IsLawfulStep (state : DatabaseState) (session : ℕ) (made : SchemaStep) : Type 0 where
  pub free : is_none (schema_refusal state session made) ≡ true
  pub numbers : has_next_numbers state made ≡ true

pub lawful_step : (state : DatabaseState) (session : ℕ) (made : SchemaStep) → is_lawful state (entry_by session (entry.Schema made)) ≡ true → IsLawfulStep state session made
lawful_step state session made h =
    let free = is_none (schema_refusal state session made) in
    let both = lawful_by_kind state session (entry.Schema made) h in
    record {
      free = and_right (is_live_in state session) free (and_left (is_live_in state session && free) (has_next_numbers state made) both);
      numbers = and_right (is_live_in state session && free) (has_next_numbers state made) both;
    }

pub none_open : (engine : EngineState) (state : DatabaseState) → HoldsState engine state → (session : ℕ) (made : SchemaStep) → IsLawfulStep state session made → (x : ℕ) → transaction_of state x ≡ None
none_open engine state h session made is = all_outside h.base h.dropped h.kept state session made h.reached.history is.free

-- ---- where the oldest transaction began

abbrev transaction_at : ℕ → List LiveSession → Option WholeTransaction
transaction_at x sessions = option_and_then (λ (s : LiveSession). s.transaction) (find (λ s. s.label == x) sessions)

-- sessions of greater labels have none of this label
none_labelled : (x : ℕ) (sessions : List LiveSession) → AllByRecursion (λ s. x < s.label) sessions → transaction_at x sessions ≡ None
none_labelled x [] above = refl
none_labelled x (s ∷ sessions) above =
    ap (λ (b : Bool). option_and_then (λ (s : LiveSession). s.transaction) (cond b (Some s) (find (λ s. s.label == x) sessions))) (apart s.label x above.0) ∙ none_labelled x sessions above.1

none_behind : (s : LiveSession) (sessions : List LiveSession) → AllByRecursion (LabelsRise s) sessions → (x : ℕ) → transaction_at x (s ∷ sessions) ≡ None → transaction_at x sessions ≡ None
none_behind s sessions above x none =
    elim (s.label == x) as (λ b. (s.label == x) ≡ b → option_and_then (λ (s : LiveSession). s.transaction) (cond b (Some s) (find (λ s. s.label == x) sessions)) ≡ None → transaction_at x sessions ≡ None) [
      | true ↦ λ e f. ap (λ (k : ℕ). transaction_at k sessions) (sym (eqb-true s.label x e)) ∙ none_labelled s.label sessions above
      | false ↦ λ e f. f
    ] refl none

none_begun : (sessions : List LiveSession) → EachTwo LabelsRise sessions → ((x : ℕ) → transaction_at x sessions ≡ None) → oldest_begin (map live_state sessions) ≡ None
none_begun [] rise none = refl
none_begun (s ∷ sessions) rise none =
    let own : s.transaction ≡ None =
    ap (λ (b : Bool). option_and_then (λ (s : LiveSession). s.transaction) (cond b (Some s) (find (λ x. x.label == s.label) sessions))) (sym (self_equal s.label)) ∙ none s.label in
    ap (λ (t : Option WholeTransaction). lesser (option_map (λ (t : Transaction). t.begin) (option_map without_snapshot t)) (oldest_begin (map live_state sessions))) own
    ∙ none_begun sessions rise.1 (λ x. none_behind s sessions rise.0 x (none x))

-- ---- what is held

none_kept : (number : ℕ) (tables : List Table) (transactions : ℕ → Option WholeTransaction) → ((x : ℕ) → transactions x ≡ None) → (items : List PastChange) (held : List HeldRecord) → AllMatch items held
    → AllByRecursion (IsPlaced number tables transactions) items → from_oldest_kept None held ≡ []
none_kept number tables transactions none [] [] m placed = refl
none_kept number tables transactions none [] (h ∷ held) m placed = absurd m
none_kept number tables transactions none (item ∷ items) [] m placed = refl
none_kept number tables transactions none (item ∷ items) (h ∷ held) m placed =
    ap (λ (b : Bool). cond b (h ∷ held) (from_oldest_kept None held)) (ap (is_kept_status None) m.0.status ∙ unneeded item.status placed.0.2)
    ∙ none_kept number tables transactions none items held m.1 placed.1
  where
    closed : (t : Option WholeTransaction) → t ≡ None → IsOpenIn item t → ⊥
    closed None e is = is
    closed (Some t) e is = impossible (ap is_none e)

    unneeded : (s : Status) → IsPlacedBy number transactions item s → is_kept_status None s ≡ false
    unneeded uncommitted is = absurd (closed (transactions item.session) (none item.session) is)
    unneeded (committed n) is = refl
    unneeded undone is = refl

-- ---- a schema step

schema_settled : (engine : EngineState) (state : DatabaseState) → HoldsState engine state → (session : ℕ) (made : SchemaStep) → is_lawful state (entry_by session (entry.Schema made)) ≡ true → (cleaned engine).store.held ≡ []
schema_settled engine state h session made lawful =
    let none = none_open engine state h session made (lawful_step state session made lawful) in
    let oldest : oldest_begin engine.sessions ≡ None = ap oldest_begin (sym h.sessions) ∙ none_begun state.sessions h.labels none in
    ap (λ (o : Option ℕ). from_oldest_kept o engine.store.held) oldest
    ∙ none_kept state.number state.tables (transaction_of state) none h.kept engine.store.held h.holds.held h.reached.history.keeps.placed

-- no schema step comes behind a begin of its session
step_outside : (state : DatabaseState) (session : ℕ) (made : SchemaStep) → is_none (schema_refusal state session made) ≡ true → (levels state session == 0) ≡ true
unfolding schema_refusal
step_outside state session made free = first_of (levels state session == 0) _ _ free
  where
    first_of : {X : Type 0} (b : Bool) (x : X) (rest : Option X) → is_none (cond (not b) (Some x) rest) ≡ true → b ≡ true
    first_of true x rest e = refl
    first_of false x rest e = e

begun_levels : (state : DatabaseState) (session : ℕ) → is_live_in state session ≡ true → levels (state_after state (entry_by session entry.Begin)) session ≡ 1
unfolding state_after
begun_levels state session live =
    let begun : WholeTransaction = record { levels = 1; begin = state.number + 1; snapshot = state.tables } in
    (λ i. levels_of (transaction-begun session begun (with_next_number state) live i session))
    ∙ ap (λ (b : Bool). levels_of (cond b (Some begun) (transaction_of state session))) (self_equal session)

never_alone : (state : DatabaseState) (session : ℕ) (made : SchemaStep) → is_lawful state (entry_by session entry.Begin) ≡ true → is_lawful (state_after state (entry_by session entry.Begin)) (entry_by session (entry.Schema made)) ≡ true → ⊥
never_alone state session made first next =
    let after = state_after state (entry_by session entry.Begin) in
    let live : is_live_in state session ≡ true = and_left (is_live_in state session) (levels state session == 0) (lawful_by_kind state session entry.Begin first) in
    differ (levels after session) (begun_levels state session live) (eqb-true (levels after session) 0 (step_outside after session made (lawful_step after session made next).free))
  where
    differ : (n : ℕ) → n ≡ 1 → n ≡ 0 → ⊥
    differ n e f = omega arith

-- ---- any step

pub step_settled : (engine : EngineState) (step : Step) → MayTake engine step → IsSettledForStep step (cleaned_for (step_cleans step) engine).store.held
step_settled engine (One made) may = by made.kind may.lawful.0
  where
    by : (kind : EntryKind) → is_lawful may.state (entry_by made.session.0 kind) ≡ true → IsSettledFor kind (cleaned_for (cleans_first kind) engine).store.held
    by (entry.Schema step) lawful = schema_settled engine may.state may.holds made.session.0 step lawful
    by _ lawful = tt
step_settled engine (Alone made) may = by made.kind may.lawful.0 may.lawful.1.0
  where
    session : ℕ
    session = made.session.0

    by : (kind : EntryKind) → is_lawful may.state (entry_by session entry.Begin) ≡ true → is_lawful (state_after may.state (entry_by session entry.Begin)) (entry_by session kind) ≡ true → IsSettledFor kind (cleaned_for (cleans_first kind) engine).store.held
    by (entry.Schema step) first next = absurd (never_alone may.state session step first next)
    by _ first next = tt
