-- A session's own entries that change no record: of sessions, transactions, schemas, and tables that are opened and closed.
use Rattle.std.proofs.Common.{◌≡◌, ℕ, ◌+◌, ◌-◌, Bool, true, false, not, ◌&&◌, cond, List, [], ◌∷◌, ◌++◌, Option, Some, None, refl, sym, ap, subst, ◌∙◌}
use Rattle.std.specs.Prelude.{◌==◌, bytes_eq, count_by, filter, is_none, is_some, length, map, nat_le, nat_lt, option_map, if◌then◌else◌}
use Rattle.std.specs.List.{AllByRecursion, list_any}
use Rattle.std.proofs.lemmas.Bool.{eqb-true}
use Rattle.jet_base.specs.declared.ids.CursorId.{CursorId}
use Rattle.jet_base.specs.declared.replies.Jet.TheVariants as jet
use Rattle.index_derive.specs.declared.log.EntryKind.{EntryKind}
use Rattle.index_derive.specs.declared.log.EntryKind.TheVariants as entry
use Rattle.index_derive.specs.declared.schema_calls.SchemaStep.{SchemaStep}
use Rattle.database_state.specs.Table.{Table, primary_order, schema_of, table_named, table_with_id}
use Rattle.database_state.specs.Changes.{tables_after_all}
use Rattle.database_state.specs.SchemaChanges.{schema_refusal}
use Rattle.database_state.specs.State.{DatabaseState, LiveSession, PastChange, Transaction, change_of, is_open_change_of, levels, live_session, open_changes_of, transaction_of}
use Rattle.database_state.specs.View.{view, view_in}
use Rattle.database_state.specs.Step.{all_undone, applied, at_levels, is_at_level, state_after, with_changes_at, with_levels, with_one, without_one}
use Rattle.cursor_nav.specs.Navigation.{new_cursor}
use Rattle.laws_versions.specs.Records.{Records}
use Rattle.laws_versions.specs.History.{IsHistory}
use Rattle.laws_versions.specs.KeptSteps.{with_next_number}
use Rattle.laws_versions.proofs.HistoryLemmas.LawfulEntries.{all_outside, outside}
use Rattle.laws_versions.proofs.HistoryLemmas.Transactions.{found-left, same-with, transaction-levels}
use Rattle.laws_versions.specs.TableOrder.{HasTablesInOrder}
use Rattle.laws_versions.proofs.KeyLemmas.OrderedTables.{found_each}
use Rattle.common_lemmas.proofs.Found.{found_passes, of_found}
use Rattle.common_lemmas.proofs.Lists.{all_append, all_each, all_map, all_weaker}
use Rattle.common_lemmas.proofs.Numbers.{self_equal}
use Rattle.common_lemmas.proofs.Booleans.{impossible}
use Rattle.session_local.specs.declared.request.Request.TheVariants as call
use Rattle.session_local.specs.Agreement.{HasSchemaOf, IsStorable, cursor_table, open_tables_of}
use Rattle.session_local.specs.Answer.{Nothing}
use Rattle.session_local.specs.Calls.{answer}
use Rattle.session_local.specs.CursorCalls.{close_table, opened}
use Rattle.session_local.specs.Local.{OpenCursor, cursor_labelled, no_session, unprepared, with_new_cursor, without_cursor, without_prepared}
use Rattle.session_local.specs.Outcome.{CallInputs, done, entry_of, is_outside, number_refusals, one}
use Rattle.session_local.specs.SchemaCalls.{schema_changed}
use Rattle.session_local.specs.SessionCalls.{begin_session}
use Rattle.session_local.specs.SessionSide.{are_distinct, label_of}
use Rattle.laws_engine.proofs.LawfulLemmas.SessionSteps.{cursor_there, same_members}
use Rattle.laws_engine.specs.EntryTypes.{HasRisingColumns}
use Rattle.laws_engine.proofs.LawfulLemmas.TableTests.{definitions_stay, is_schema_entry}
use Rattle.laws_engine.specs.InStep.{IsInStep, StaysInStep}
use Rattle.laws_engine.proofs.AgreeingLemmas.Answering.{at_found, past, unrefused_in_step, when_begun}
use Rattle.laws_engine.proofs.AgreeingLemmas.Counting.{cancelled, counted, counted-last, counted-with_one, counted-without_one, counts}
use Rattle.laws_engine.proofs.AgreeingLemmas.OpenCursors.{counted-without, distinct_filtered, filtered_all, labels_with}
use Rattle.laws_engine.proofs.AgreeingLemmas.Moves.{primary_order_there}
use Rattle.laws_engine.proofs.AgreeingLemmas.Prepared.{AreStorable, all_anywhere, all_stay, same_locks, unlocked_outside}
use Rattle.laws_engine.proofs.AgreeingLemmas.Schemas.{schemas_defined, schemas_kept}
use Rattle.laws_engine.proofs.AgreeingLemmas.LiveSessions.{insert_own, keeps_sessions, own_live, with_own}

-- ---- a session's begin and end

no_one : (o : Option LiveSession) → is_some o ≡ false → o ≡ None
no_one None e = refl
no_one (Some s) e = impossible (sym e)

pub not_begun : (state : DatabaseState) (session : ℕ) → is_some (live_session state session) ≡ false → IsInStep state session no_session
not_begun state session e = record {
  agrees = record {
    begun = sym e;
    tables = λ id. sym (ap (λ (o : Option LiveSession). count_by (λ n. n == id) (open_tables_of o)) (no_one (live_session state session) e));
    schemas = tt;
    prepared = tt;
  };
  labels = refl;
  updates = tt;
}

begins : (asked : CallInputs) → IsInStep asked.state asked.session asked.local → StaysInStep asked (begin_session asked)
unfolding state_after
begins asked step = past asked step ((asked.local.begun, jet.SessionInUse) ∷ (nat_le 64 (length asked.state.sessions), jet.OutOfSessions) ∷ number_refusals asked) _ (λ r.
    let found : live_session (state_after asked.state (entry_of asked entry.Enter)) asked.session ≡ Some (record { label = asked.session; open_tables = []; transaction = None }) =
    insert_own (record { label = asked.session; open_tables = []; transaction = None }) asked.state.sessions (no_one (live_session asked.state asked.session) (sym step.agrees.begun ∙ r.0)) in
    record {
      agrees = record {
        begun = sym (ap is_some found);
        tables = λ id. sym (ap (λ (o : Option LiveSession). count_by (λ n. n == id) (open_tables_of o)) found);
        schemas = tt;
        prepared = tt;
      };
      labels = refl;
      updates = tt;
    })

pub session_begins : (asked : CallInputs) → IsInStep asked.state asked.session asked.local → StaysInStep asked (answer asked call.BeginSession)
session_begins asked step = when_begun asked call.BeginSession (λ e. begins asked step) (λ e. begins asked step)

ends : (asked : CallInputs) → IsInStep (state_after asked.state (entry_of asked entry.Leave)) asked.session no_session
unfolding state_after
ends asked =
    let gone : live_session (state_after asked.state (entry_of asked entry.Leave)) asked.session ≡ None =
    found-left asked.session asked.session (all_undone asked.session (with_next_number asked.state)).sessions
    ∙ ap (λ b. cond b None (live_session (all_undone asked.session (with_next_number asked.state)) asked.session)) (self_equal asked.session) in
    record {
      agrees = record {
        begun = sym (ap is_some gone);
        tables = λ id. sym (ap (λ (o : Option LiveSession). count_by (λ n. n == id) (open_tables_of o)) gone);
        schemas = tt;
        prepared = tt;
      };
      labels = refl;
      updates = tt;
    }

pub session_ends : (asked : CallInputs) → IsInStep asked.state asked.session asked.local → StaysInStep asked (answer asked call.EndSession)
session_ends asked step = when_begun asked call.EndSession (λ e. ends asked) (λ e. step)

-- ---- entries that leave the session's cursors

pub entry_keeps : (asked : CallInputs) (kind : EntryKind) → keeps_sessions kind ≡ true → is_schema_entry kind ≡ false → IsInStep asked.state asked.session asked.local → AreStorable (state_after asked.state (entry_of asked kind)) asked.session asked.local.cursors
    → IsInStep (state_after asked.state (entry_of asked kind)) asked.session asked.local
unfolding state_after
entry_keeps asked kind plain no_schema step storable =
    let live = own_live asked.state asked.session kind plain asked.session in
    record {
      agrees = record {
        begun = step.agrees.begun ∙ sym live.0;
        tables = λ id. step.agrees.tables id ∙ ap (count_by (λ n. n == id)) (sym live.1);
        schemas = schemas_defined (applied asked.session kind (with_next_number asked.state)).tables asked.state.tables (definitions_stay asked.state asked.session kind no_schema) asked.local.cursors step.agrees.schemas;
        prepared = storable;
      };
      labels = step.labels;
      updates = step.updates;
    }

-- every prepared update is dropped
unprepared_same : (f : OpenCursor → ℕ) → ((c : OpenCursor) → f (unprepared c) ≡ f c) → (cursors : List OpenCursor) → map f (map unprepared cursors) ≡ map f cursors
unprepared_same f same [] = refl
unprepared_same f same (c ∷ cursors) = λ i. same c i ∷ unprepared_same f same cursors i

all_unprepared : (state : DatabaseState) (session : ℕ) (cursors : List OpenCursor) → AreStorable state session (map unprepared cursors)
all_unprepared state session cursors = all_map (λ c. IsStorable state session c c.prepared) unprepared cursors (all_each (λ c. IsStorable state session (unprepared c) None) (λ c. tt) cursors)

schema_unprepared : (c : OpenCursor) (o : Option Table) → HasSchemaOf c o → HasSchemaOf (unprepared c) o
schema_unprepared c None h = h
schema_unprepared c (Some t) h = h

entry_drops : (asked : CallInputs) (kind : EntryKind) → keeps_sessions kind ≡ true → is_schema_entry kind ≡ false → IsInStep asked.state asked.session asked.local → IsInStep (state_after asked.state (entry_of asked kind)) asked.session (without_prepared asked.local)
unfolding state_after
entry_drops asked kind plain no_schema step =
    let live = own_live asked.state asked.session kind plain asked.session in
    record {
      agrees = record {
        begun = step.agrees.begun ∙ sym live.0;
        tables = λ id. ap (count_by (λ n. n == id)) (unprepared_same cursor_table (λ c. refl) asked.local.cursors) ∙ step.agrees.tables id ∙ ap (count_by (λ n. n == id)) (sym live.1);
        schemas = all_map (λ c. HasSchemaOf c (table_with_id (applied asked.session kind (with_next_number asked.state)).tables c.cursor.table)) unprepared asked.local.cursors
            (all_weaker (λ c. HasSchemaOf c (table_with_id (applied asked.session kind (with_next_number asked.state)).tables c.cursor.table)) (λ c. HasSchemaOf (unprepared c) (table_with_id (applied asked.session kind (with_next_number asked.state)).tables c.cursor.table))
            (λ c h. schema_unprepared c (table_with_id (applied asked.session kind (with_next_number asked.state)).tables c.cursor.table) h) asked.local.cursors
            (schemas_defined (applied asked.session kind (with_next_number asked.state)).tables asked.state.tables (definitions_stay asked.state asked.session kind no_schema) asked.local.cursors step.agrees.schemas));
        prepared = all_unprepared (applied asked.session kind (with_next_number asked.state)) asked.session asked.local.cursors;
      };
      labels = ap are_distinct (unprepared_same label_of (λ c. refl) asked.local.cursors) ∙ step.labels;
      updates = all_map (λ c. HasRisingColumns c.prepared) unprepared asked.local.cursors (all_each (λ c. HasRisingColumns (unprepared c).prepared) (λ c. tt) asked.local.cursors);
    }

-- ---- transactions

-- a transaction of the same snapshot and changes sees the same
same_view : (one other : DatabaseState) (session : ℕ) (f : ℕ → ℕ) → transaction_of other session ≡ at_levels f (transaction_of one session) → other.tables ≡ one.tables → open_changes_of session other.past ≡ open_changes_of session one.past → view other session ≡ view one session
unfolding view
same_view one other session f same tables changes = ap (view_in other session) same ∙ by (transaction_of one session)
  where
    by : (t : Option Transaction) → view_in other session (at_levels f t) ≡ view_in one session t
    by None = tables
    by (Some t) = ap (tables_after_all t.snapshot) changes

plain_view : (one other : DatabaseState) (session : ℕ) → transaction_of other session ≡ transaction_of one session → other.tables ≡ one.tables → open_changes_of session other.past ≡ open_changes_of session one.past → view other session ≡ view one session
unfolding view
plain_view one other session same tables changes = ap (view_in other session) same ∙ by (transaction_of one session)
  where
    by : (t : Option Transaction) → view_in other session t ≡ view_in one session t
    by None = tables
    by (Some t) = ap (tables_after_all t.snapshot) changes

own_levels : (session : ℕ) (f : ℕ → ℕ) (state : DatabaseState) → transaction_of (with_levels session f state) session ≡ at_levels f (transaction_of state session)
own_levels session f state = ap (λ (g : ℕ → Option Transaction). g session) (transaction-levels session f state) ∙ ap (λ b. cond b (at_levels f (transaction_of state session)) (transaction_of state session)) (self_equal session)

saves : (asked : CallInputs) → IsInStep asked.state asked.session asked.local → IsInStep (state_after asked.state (entry_of asked entry.Save)) asked.session asked.local
unfolding state_after
saves asked step = entry_keeps asked entry.Save refl refl step
    (all_stay asked.state (state_after asked.state (entry_of asked entry.Save)) asked.session
    (same_view asked.state (state_after asked.state (entry_of asked entry.Save)) asked.session (λ n. n + 1) (own_levels asked.session (λ n. n + 1) (with_next_number asked.state)) refl refl)
    (same_locks asked.state (state_after asked.state (entry_of asked entry.Save)) asked.session refl) asked.local.cursors step.agrees.prepared)

-- changes that go a level down are the same changes
lowered_same : (label : ℕ) (test : PastChange → Bool) (past : List PastChange) → open_changes_of label (map (λ item. if is_open_change_of label item && test item then record item { level = item.level - 1 } else item) past) ≡ open_changes_of label past
lowered_same label test [] = refl
lowered_same label test (item ∷ past) =
    elim (is_open_change_of label item && test item) as (λ b. map change_of (cond (is_open_change_of label (cond b (record item { level = item.level - 1 }) item)) (cond b (record item { level = item.level - 1 }) item ∷ rest) rest)
    ≡ map change_of (cond (is_open_change_of label item) (item ∷ filter (is_open_change_of label) past) (filter (is_open_change_of label) past))) [
      | true ↦ either (record item { level = item.level - 1 }) refl (lowered_same label test past) (is_open_change_of label item)
      | false ↦ either item refl (lowered_same label test past) (is_open_change_of label item)
    ]
  where
    rest : List PastChange
    rest = filter (is_open_change_of label) (map (λ item. if is_open_change_of label item && test item then record item { level = item.level - 1 } else item) past)

    either : (x : PastChange) → x.change ≡ item.change → map change_of rest ≡ open_changes_of label past → (b : Bool) → map change_of (cond b (x ∷ rest) rest) ≡ map change_of (cond b (item ∷ filter (is_open_change_of label) past) (filter (is_open_change_of label) past))
    either x same others true = λ i. same i ∷ others i
    either x same others false = others

releases : (asked : CallInputs) → IsInStep asked.state asked.session asked.local → IsInStep (state_after asked.state (entry_of asked entry.Release)) asked.session asked.local
unfolding state_after
releases asked step = entry_keeps asked entry.Release refl refl step
    (all_stay asked.state (state_after asked.state (entry_of asked entry.Release)) asked.session
    (same_view asked.state (state_after asked.state (entry_of asked entry.Release)) asked.session (λ n. n - 1)
    (own_levels asked.session (λ n. n - 1) (with_changes_at asked.session (is_at_level (levels asked.state asked.session)) (λ item. record item { level = item.level - 1 }) (with_next_number asked.state))) refl same)
    (same_locks asked.state (state_after asked.state (entry_of asked entry.Release)) asked.session same) asked.local.cursors step.agrees.prepared)
  where
    same : open_changes_of asked.session (map (λ item. if is_open_change_of asked.session item && is_at_level (levels asked.state asked.session) item then record item { level = item.level - 1 } else item) asked.state.past) ≡ open_changes_of asked.session asked.state.past
    same = lowered_same asked.session (is_at_level (levels asked.state asked.session)) asked.state.past

-- outside a transaction nothing depends on the state
pub anywhere : (base : Records) (dropped kept : List PastChange) (asked : CallInputs) (after : DatabaseState) → IsHistory base dropped kept asked.state → is_outside asked ≡ true → IsInStep asked.state asked.session asked.local → AreStorable after asked.session asked.local.cursors
anywhere base dropped kept asked after h out step =
    all_anywhere asked.state after asked.session (unlocked_outside base dropped kept asked.state asked.session h (outside base dropped kept asked.state h asked.session out)) asked.local.cursors step.agrees.prepared

pub transaction_begins : (base : Records) (dropped kept : List PastChange) (asked : CallInputs) → IsHistory base dropped kept asked.state → IsInStep asked.state asked.session asked.local → StaysInStep asked (answer asked call.BeginTransaction)
transaction_begins base dropped kept asked h step = when_begun asked call.BeginTransaction
    (λ begun. past asked step ((nat_le 7 (levels asked.state asked.session), jet.TransTooDeep) ∷ number_refusals asked) _ (λ r.
    elim (is_outside asked) as (λ b. is_outside asked ≡ b → IsInStep (state_after asked.state (entry_of asked (if b then entry.Begin else entry.Save))) asked.session asked.local) [
      | true ↦ λ out. entry_keeps asked entry.Begin refl refl step (anywhere base dropped kept asked (state_after asked.state (entry_of asked entry.Begin)) h out step)
      | false ↦ λ in_one. saves asked step
    ] refl))
    (λ e. step)

pub commits : (asked : CallInputs) (lazy : Bool) → IsInStep asked.state asked.session asked.local → StaysInStep asked (answer asked (call.CommitTransaction lazy))
commits asked lazy step = when_begun asked (call.CommitTransaction lazy)
    (λ begun. past asked step ((is_outside asked, jet.NotInTransaction) ∷ []) _ (λ r.
    elim (nat_lt 1 (levels asked.state asked.session)) as (λ b. StaysInStep asked (if b then done asked.local Nothing (one asked entry.Release) else done (without_prepared asked.local) Nothing (one asked entry.Commit))) [
      | true ↦ releases asked step
      | false ↦ entry_drops asked entry.Commit refl refl step
    ]))
    (λ e. step)

pub rolls_back : (asked : CallInputs) (all : Bool) → IsInStep asked.state asked.session asked.local → StaysInStep asked (answer asked (call.Rollback all))
rolls_back asked all step = when_begun asked (call.Rollback all)
    (λ begun. past asked step ((is_outside asked, jet.NotInTransaction) ∷ []) _ (λ r.
    elim all as (λ b. IsInStep (state_after asked.state (entry_of asked (if b then entry.UndoAll else entry.Undo))) asked.session (without_prepared asked.local)) [
      | true ↦ entry_drops asked entry.UndoAll refl refl step
      | false ↦ entry_drops asked entry.Undo refl refl step
    ]))
    (λ e. step)

-- ---- schema steps

defines : (base : Records) (dropped kept : List PastChange) (asked : CallInputs) (made : SchemaStep) → IsHistory base dropped kept asked.state → IsInStep asked.state asked.session asked.local → is_none (schema_refusal asked.state asked.session made) ≡ true
    → IsInStep (state_after asked.state (entry_of asked (entry.Schema made))) asked.session asked.local
unfolding state_after
defines base dropped kept asked made h step free = record {
  agrees = record {
    begun = step.agrees.begun;
    tables = step.agrees.tables;
    schemas = schemas_kept asked.state asked.session asked.session asked.local made free step.agrees;
    prepared = all_anywhere asked.state (applied asked.session (entry.Schema made) (with_next_number asked.state)) asked.session
        (unlocked_outside base dropped kept asked.state asked.session h (all_outside base dropped kept asked.state asked.session made h free asked.session)) asked.local.cursors step.agrees.prepared;
  };
  labels = step.labels;
  updates = step.updates;
}

pub schema_in_step : (base : Records) (dropped kept : List PastChange) (asked : CallInputs) (made : SchemaStep) → IsHistory base dropped kept asked.state → IsInStep asked.state asked.session asked.local → StaysInStep asked (schema_changed asked made)
schema_in_step base dropped kept asked made h step = unrefused_in_step asked step (schema_refusal asked.state asked.session made) _ (λ free.
    past asked step (number_refusals asked) _ (λ r. defines base dropped kept asked made h step free))

-- ---- tables that are opened

table_opens : (asked : CallInputs) (label : ℕ) (table : Table) → IsInStep asked.state asked.session asked.local → asked.local.begun ≡ true → is_some (cursor_labelled asked.local label) ≡ false
    → table_with_id asked.state.tables table.id ≡ Some table
    → IsInStep (state_after asked.state (entry_of asked (entry.Open (record { 0 = table.id })))) asked.session
    (with_new_cursor asked.local (record { label = label; schema = schema_of table; cursor = new_cursor table.id (primary_order (schema_of table)); prepared = None }))
unfolding state_after
table_opens asked label table step begun fresh found = record {
  agrees = record {
    begun = step.agrees.begun ∙ sym (ap is_some own ∙ some_mapped (live_session asked.state asked.session));
    tables = λ id. sym (counts (λ n. n == id) (map cursor_table (asked.local.cursors ++ new ∷ []))) ∙ more (λ n. n == id) asked.local.cursors ∙ ap (λ n. cond (table.id == id) (1 + n) n) (counts (λ n. n == id) (map cursor_table asked.local.cursors)
        ∙ step.agrees.tables id ∙ sym (counts (λ n. n == id) (open_tables_of (live_session asked.state asked.session))))
        ∙ opened_counts (λ n. n == id) (live_session asked.state asked.session) (sym step.agrees.begun ∙ begun)
        ∙ counts (λ n. n == id) (open_tables_of (option_map (λ (s : LiveSession). record s { open_tables = with_one table.id s.open_tables }) (live_session asked.state asked.session)))
        ∙ ap (λ (o : Option LiveSession). count_by (λ n. n == id) (open_tables_of o)) (sym own);
    schemas = all_append (λ c. HasSchemaOf c (table_with_id asked.state.tables c.cursor.table)) asked.local.cursors (new ∷ []) step.agrees.schemas
        (subst (λ (o : Option Table). HasSchemaOf new o) (sym found) (refl, primary_order_there (schema_of table)), tt);
    prepared = all_append (λ c. IsStorable (state_after asked.state (entry_of asked (entry.Open (record { 0 = table.id })))) asked.session c c.prepared) asked.local.cursors (new ∷ [])
        (all_stay asked.state (state_after asked.state (entry_of asked (entry.Open (record { 0 = table.id })))) asked.session seen (same_locks asked.state (state_after asked.state (entry_of asked (entry.Open (record { 0 = table.id })))) asked.session refl)
        asked.local.cursors step.agrees.prepared) (tt, tt);
  };
  labels = labels_with asked.local new step.labels fresh;
  updates = all_append (λ c. HasRisingColumns c.prepared) asked.local.cursors (new ∷ []) step.updates (tt, tt);
}
  where
    new : OpenCursor
    new = record { label = label; schema = schema_of table; cursor = new_cursor table.id (primary_order (schema_of table)); prepared = None }

    own : live_session (applied asked.session (entry.Open (record { 0 = table.id })) (with_next_number asked.state)) asked.session ≡ option_map (λ (s : LiveSession). record s { open_tables = with_one table.id s.open_tables }) (live_session asked.state asked.session)
    own = with_own asked.session (λ s. record s { open_tables = with_one table.id s.open_tables }) (λ s. refl) asked.state.sessions

    some_mapped : (o : Option LiveSession) → is_some (option_map (λ (s : LiveSession). record s { open_tables = with_one table.id s.open_tables }) o) ≡ is_some o
    some_mapped None = refl
    some_mapped (Some s) = refl

    more : (p : ℕ → Bool) (cursors : List OpenCursor) → counted p (map cursor_table (cursors ++ new ∷ [])) ≡ counted p (table.id ∷ map cursor_table cursors)
    more p cursors = ap (counted p) (mapped cursors) ∙ counted-last p (map cursor_table cursors) table.id
      where
        mapped : (cursors : List OpenCursor) → map cursor_table (cursors ++ new ∷ []) ≡ map cursor_table cursors ++ table.id ∷ []
        mapped [] = refl
        mapped (c ∷ cursors) = ap (λ ys. c.cursor.table ∷ ys) (mapped cursors)

    opened_counts : (p : ℕ → Bool) (o : Option LiveSession) → is_some o ≡ true
        → counted p (table.id ∷ open_tables_of o) ≡ counted p (open_tables_of (option_map (λ (s : LiveSession). record s { open_tables = with_one table.id s.open_tables }) o))
    opened_counts p None e = impossible e
    opened_counts p (Some s) e = sym (counted-with_one p table.id s.open_tables)

    seen : view (applied asked.session (entry.Open (record { 0 = table.id })) (with_next_number asked.state)) asked.session ≡ view asked.state asked.session
    seen = plain_view asked.state (applied asked.session (entry.Open (record { 0 = table.id })) (with_next_number asked.state)) asked.session
        (ap (λ (g : ℕ → Option Transaction). g asked.session) (same-with asked.session (λ s. record s { open_tables = with_one table.id s.open_tables }) (λ s. refl) (λ s. refl) (with_next_number asked.state))) refl refl

named_there : (tables : List Table) (name : List ℕ) (table : Table) → AllByRecursion (λ t. table_with_id tables t.id ≡ Some t) tables → table_named tables name ≡ Some table → table_with_id tables table.id ≡ Some table
named_there tables name table h e = of_found (λ t. table_with_id tables t.id ≡ Some t) (λ t. bytes_eq t.name name) tables table e h

pub opens : (asked : CallInputs) (cursor : CursorId) (name : List ℕ) → IsInStep asked.state asked.session asked.local → HasTablesInOrder asked.state → StaysInStep asked (answer asked (call.OpenTable cursor name))
opens asked cursor name step order = when_begun asked (call.OpenTable cursor name)
    (λ begun. past asked step ((is_some (cursor_labelled asked.local cursor.0), jet.InvalidTableId) ∷ (nat_le 16 (length asked.local.cursors), jet.OutOfCursors) ∷ []) (λ _. opened asked cursor.0 (table_named asked.state.tables name)) (λ r.
    elim (table_named asked.state.tables name) as (λ o. table_named asked.state.tables name ≡ o → StaysInStep asked (opened asked cursor.0 o)) [
      | None ↦ λ e. step
      | Some table ↦ λ e. past asked step (number_refusals asked) _ (λ s. table_opens asked cursor.0 table step begun r.0 (named_there asked.state.tables name table (found_each asked.state.tables order.ids) e))
    ] refl))
    (λ e. step)

-- ---- tables that are closed

table_closes : (asked : CallInputs) (label : ℕ) (c : OpenCursor) → IsInStep asked.state asked.session asked.local → cursor_labelled asked.local label ≡ Some c
    → IsInStep (state_after asked.state (entry_of asked (entry.Shut (record { 0 = c.cursor.table })))) asked.session (without_cursor asked.local label)
unfolding state_after
table_closes asked label c step e = record {
  agrees = record {
    begun = step.agrees.begun ∙ sym (ap is_some own ∙ some_mapped (live_session asked.state asked.session));
    tables = λ id. sym (counts (λ n. n == id) (map cursor_table (filter (λ c. not (c.label == label)) asked.local.cursors)))
        ∙ cancelled (c.cursor.table == id) (counted (λ n. n == id) (map cursor_table (filter (λ c. not (c.label == label)) asked.local.cursors)))
        (counted (λ n. n == id) (open_tables_of (option_map (λ (s : LiveSession). record s { open_tables = without_one c.cursor.table s.open_tables }) (live_session asked.state asked.session))))
        (counted-without (λ n. n == id) label asked.local.cursors c step.labels e ∙ counts (λ n. n == id) (map cursor_table asked.local.cursors) ∙ step.agrees.tables id ∙ sym (counts (λ n. n == id) (open_tables_of (live_session asked.state asked.session)))
        ∙ sym (closed_counts (λ n. n == id) (live_session asked.state asked.session) is_open))
        ∙ counts (λ n. n == id) (open_tables_of (option_map (λ (s : LiveSession). record s { open_tables = without_one c.cursor.table s.open_tables }) (live_session asked.state asked.session)))
        ∙ ap (λ (o : Option LiveSession). count_by (λ n. n == id) (open_tables_of o)) (sym own);
    schemas = filtered_all (λ c. HasSchemaOf c (table_with_id asked.state.tables c.cursor.table)) (λ c. not (c.label == label)) asked.local.cursors step.agrees.schemas;
    prepared = filtered_all (λ x. IsStorable (state_after asked.state (entry_of asked (entry.Shut (record { 0 = c.cursor.table })))) asked.session x x.prepared) (λ c. not (c.label == label)) asked.local.cursors
        (all_stay asked.state (state_after asked.state (entry_of asked (entry.Shut (record { 0 = c.cursor.table })))) asked.session seen
        (same_locks asked.state (state_after asked.state (entry_of asked (entry.Shut (record { 0 = c.cursor.table })))) asked.session refl) asked.local.cursors step.agrees.prepared);
  };
  labels = distinct_filtered (λ c. not (c.label == label)) asked.local.cursors step.labels;
  updates = filtered_all (λ c. HasRisingColumns c.prepared) (λ c. not (c.label == label)) asked.local.cursors step.updates;
}
  where
    own : live_session (applied asked.session (entry.Shut (record { 0 = c.cursor.table })) (with_next_number asked.state)) asked.session
        ≡ option_map (λ (s : LiveSession). record s { open_tables = without_one c.cursor.table s.open_tables }) (live_session asked.state asked.session)
    own = with_own asked.session (λ s. record s { open_tables = without_one c.cursor.table s.open_tables }) (λ s. refl) asked.state.sessions

    some_mapped : (o : Option LiveSession) → is_some (option_map (λ (s : LiveSession). record s { open_tables = without_one c.cursor.table s.open_tables }) o) ≡ is_some o
    some_mapped None = refl
    some_mapped (Some s) = refl

    is_open : list_any (λ n. n == c.cursor.table) (open_tables_of (live_session asked.state asked.session)) ≡ true
    is_open = same_members (λ n. n == c.cursor.table) (map cursor_table asked.local.cursors) (open_tables_of (live_session asked.state asked.session)) (step.agrees.tables c.cursor.table) (cursor_there label asked.local.cursors c e)

    closed_counts : (p : ℕ → Bool) (o : Option LiveSession) → list_any (λ n. n == c.cursor.table) (open_tables_of o) ≡ true
        → counted p (c.cursor.table ∷ open_tables_of (option_map (λ (s : LiveSession). record s { open_tables = without_one c.cursor.table s.open_tables }) o)) ≡ counted p (open_tables_of o)
    closed_counts p None e = impossible e
    closed_counts p (Some s) e = counted-without_one p c.cursor.table s.open_tables e

    seen : view (applied asked.session (entry.Shut (record { 0 = c.cursor.table })) (with_next_number asked.state)) asked.session ≡ view asked.state asked.session
    seen = plain_view asked.state (applied asked.session (entry.Shut (record { 0 = c.cursor.table })) (with_next_number asked.state)) asked.session
        (ap (λ (g : ℕ → Option Transaction). g asked.session) (same-with asked.session (λ s. record s { open_tables = without_one c.cursor.table s.open_tables }) (λ s. refl) (λ s. refl) (with_next_number asked.state))) refl refl

pub closes : (asked : CallInputs) (cursor : CursorId) → IsInStep asked.state asked.session asked.local → StaysInStep asked (answer asked (call.CloseTable cursor))
closes asked cursor step = when_begun asked (call.CloseTable cursor)
    (λ begun. at_found asked step cursor.0 (close_table asked) (λ c e. labelled_in_step c e))
    (λ e. step)
  where
    -- the cursor has the label that it was found by
    labelled_in_step : (c : OpenCursor) → cursor_labelled asked.local cursor.0 ≡ Some c → StaysInStep asked (close_table asked c)
    labelled_in_step c e = table_closes asked c.label c step (ap (cursor_labelled asked.local) (eqb-true c.label cursor.0 (found_passes (λ c. c.label == cursor.0) asked.local.cursors c e)) ∙ e)
