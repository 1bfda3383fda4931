-- The schemas of cursors, after an entry.
use Rattle.std.proofs.Common.{◌≡◌, ℕ, Bool, true, false, not, ◌&&◌, ◌||◌, cond, List, [], ◌∷◌, ◌++◌, Option, Some, None, refl, sym, ap, subst, ◌∙◌}
use Rattle.std.specs.Prelude.{◌==◌, filter, is_none, is_some, map, unwrap_or}
use Rattle.std.specs.List.{AllByRecursion, list_any}
use Rattle.std.proofs.lemmas.Bool.{eqb-true, false_from_ne_true}
use Rattle.jet_base.specs.declared.replies.Jet.TheVariants as jet
use Rattle.index_derive.specs.declared.log.EntryKind.TheVariants as entry
use Rattle.index_derive.specs.declared.schema_calls.SchemaStep.{SchemaStep}
use Rattle.index_derive.specs.declared.schema_calls.SchemaStep.TheVariants as step
use Rattle.column_set.specs.RecordValues.{tagged_if_long}
use Rattle.database_state.specs.Table.{Table, table_with_id}
use Rattle.database_state.specs.SchemaChanges.{is_in_use, makes_table, new_table, schema_refusal, step_refusals, step_table, tables_after_step, with_column, with_index, without_column, without_index}
use Rattle.database_state.specs.State.{DatabaseState, LiveSession, levels, live_session}
use Rattle.laws_versions.proofs.ChangeLemmas.Tests.{or_second}
use Rattle.laws_versions.specs.History.{without_rows}
use Rattle.laws_versions.proofs.HistoryLemmas.Lists.{all_both}
use Rattle.laws_versions.proofs.KeyLemmas.IndexNumbers.{found_in_filter, none_of}
use Rattle.laws_versions.proofs.KeyLemmas.SchemaKeys.{other_table, unrefused}
use Rattle.laws_versions.proofs.KeyLemmas.UniqueKept.{id_of}
use Rattle.common_lemmas.proofs.Found.{of_found}
use Rattle.common_lemmas.proofs.Lists.{all_each, all_weaker}
use Rattle.common_lemmas.proofs.Numbers.{self_equal}
use Rattle.common_lemmas.proofs.Booleans.{impossible}
use Rattle.session_local.specs.Agreement.{Agrees, HasSchemaOf, cursor_table, open_tables_of}
use Rattle.session_local.specs.Local.{LocalState, OpenCursor}
use Rattle.laws_engine.proofs.LawfulLemmas.SessionSteps.{same_members}

-- ---- tables that change in their rows alone

there : (c : OpenCursor) (tables : List Table) (id : ℕ) → HasSchemaOf c (table_with_id (map without_rows tables) id) → HasSchemaOf c (table_with_id tables id)
there c [] id h = h
there c (t ∷ tables) id h = elim (t.id == id) as (λ b. HasSchemaOf c (cond b (Some (without_rows t)) (table_with_id (map without_rows tables) id)) → HasSchemaOf c (cond b (Some t) (table_with_id tables id))) [
  | true ↦ λ g. g
  | false ↦ λ g. there c tables id g
] h

back_there : (c : OpenCursor) (tables : List Table) (id : ℕ) → HasSchemaOf c (table_with_id tables id) → HasSchemaOf c (table_with_id (map without_rows tables) id)
back_there c [] id h = h
back_there c (t ∷ tables) id h = elim (t.id == id) as (λ b. HasSchemaOf c (cond b (Some t) (table_with_id tables id)) → HasSchemaOf c (cond b (Some (without_rows t)) (table_with_id (map without_rows tables) id))) [
  | true ↦ λ g. g
  | false ↦ λ g. back_there c tables id g
] h

pub defined : (c : OpenCursor) (after tables : List Table) → map without_rows after ≡ map without_rows tables → (id : ℕ) → HasSchemaOf c (table_with_id tables id) → HasSchemaOf c (table_with_id after id)
defined c after tables e id h = there c after id (subst (λ (ts : List Table). HasSchemaOf c (table_with_id ts id)) (sym e) (back_there c tables id h))

abbrev pub HaveSchemas : List Table → List OpenCursor → Type 0
HaveSchemas tables cursors = AllByRecursion (λ c. HasSchemaOf c (table_with_id tables c.cursor.table)) cursors

pub schemas_defined : (after tables : List Table) → map without_rows after ≡ map without_rows tables → (cursors : List OpenCursor) → HaveSchemas tables cursors → HaveSchemas after cursors
schemas_defined after tables e cursors h =
    all_weaker (λ c. HasSchemaOf c (table_with_id tables c.cursor.table)) (λ c. HasSchemaOf c (table_with_id after c.cursor.table)) (λ c s. defined c after tables e c.cursor.table s) cursors h

-- ---- a schema step

-- the table of each cursor is open
each_counted : (cursors : List OpenCursor) → AllByRecursion (λ c. list_any (λ n. n == c.cursor.table) (map cursor_table cursors) ≡ true) cursors
each_counted [] = tt
each_counted (c ∷ cursors) = (
  ap (λ b. b || list_any (λ n. n == c.cursor.table) (map cursor_table cursors)) (self_equal c.cursor.table),
  all_weaker (λ d. list_any (λ n. n == d.cursor.table) (map cursor_table cursors) ≡ true) (λ d. ((c.cursor.table == d.cursor.table) || list_any (λ n. n == d.cursor.table) (map cursor_table cursors)) ≡ true)
      (λ d h. later (c.cursor.table == d.cursor.table) (list_any (λ n. n == d.cursor.table) (map cursor_table cursors)) h) cursors (each_counted cursors),
)
  where
    later : (a b : Bool) → b ≡ true → (a || b) ≡ true
    later true b e = refl
    later false b e = e

each_open : (state : DatabaseState) (session : ℕ) (local : LocalState) → Agrees state session local → AllByRecursion (λ c. list_any (λ n. n == c.cursor.table) (open_tables_of (live_session state session)) ≡ true) local.cursors
each_open state session local agrees = all_weaker (λ c. list_any (λ n. n == c.cursor.table) (map cursor_table local.cursors) ≡ true) (λ c. list_any (λ n. n == c.cursor.table) (open_tables_of (live_session state session)) ≡ true)
    (λ c h. same_members (λ n. n == c.cursor.table) (map cursor_table local.cursors) (open_tables_of (live_session state session)) (agrees.tables c.cursor.table) h) local.cursors (each_counted local.cursors)

-- no session has a table open that is changed
none_has_open : (state : DatabaseState) (label session : ℕ) (t : Table) → is_in_use state label (Some t) ≡ false → list_any (λ n. n == t.id) (open_tables_of (live_session state session)) ≡ false
none_has_open state label session t free = by (live_session state session) refl
  where
    by : (o : Option LiveSession) → live_session state session ≡ o → list_any (λ n. n == t.id) (open_tables_of o) ≡ false
    by None e = refl
    by (Some s) e = of_found (λ s. list_any (λ id. id == t.id) s.open_tables ≡ false) (λ s. s.label == session) state.sessions s e
        (none_of (λ s. list_any (λ id. id == t.id) s.open_tables) state.sessions (or_second (list_any (λ s. not (s.label == label) && is_some s.transaction) state.sessions) _ free))

not_in_use : (state : DatabaseState) (label : ℕ) (made : SchemaStep) → is_none (schema_refusal state label made) ≡ true → is_in_use state label (step_table state.tables made) ≡ false
unfolding schema_refusal
not_in_use state label made h =
    (unrefused
    ((not (levels state label == 0), jet.InTransaction) ∷ (not (makes_table made) && is_none (step_table state.tables made), jet.ObjectNotFound) ∷ (is_in_use state label (step_table state.tables made), jet.TableInUse)
    ∷ step_refusals state (unwrap_or (step_table state.tables made) (new_table 0 [])) made) h).1.1.0

-- the table of a cursor is none that is changed
apart_from : (state : DatabaseState) (label session d : ℕ) (made : SchemaStep) → is_none (schema_refusal state label made) ≡ true → step_table state.tables made ≡ table_with_id state.tables d → (c : OpenCursor)
    → list_any (λ n. n == c.cursor.table) (open_tables_of (live_session state session)) ≡ true → HasSchemaOf c (table_with_id state.tables c.cursor.table) → (c.cursor.table == d) ≡ false
apart_from state label session d made free of_step c is_open has = false_from_ne_true (c.cursor.table == d) (λ e.
    let same : c.cursor.table ≡ d = eqb-true c.cursor.table d e in
    by same (table_with_id state.tables d) refl (subst (λ (k : ℕ). HasSchemaOf c (table_with_id state.tables k)) same has))
  where
    by : c.cursor.table ≡ d → (o : Option Table) → table_with_id state.tables d ≡ o → HasSchemaOf c o → ⊥
    by same None f h = h
    by same (Some t) f h = impossible (sym (none_has_open state label session t (ap (is_in_use state label) (sym (of_step ∙ f)) ∙ not_in_use state label made free))
        ∙ ap (λ k. list_any (λ n. n == k) (open_tables_of (live_session state session))) (id_of state.tables d t f ∙ sym same) ∙ is_open)

found_before : (c : OpenCursor) (tables : List Table) (new : Table) (id : ℕ) → HasSchemaOf c (table_with_id tables id) → HasSchemaOf c (table_with_id (tables ++ new ∷ []) id)
found_before c [] new id h = absurd h
found_before c (t ∷ tables) new id h = elim (t.id == id) as (λ b. HasSchemaOf c (cond b (Some t) (table_with_id tables id)) → HasSchemaOf c (cond b (Some t) (table_with_id (tables ++ new ∷ []) id))) [
  | true ↦ λ g. g
  | false ↦ λ g. found_before c tables new id g
] h

same_table : (c : OpenCursor) (one other : Option Table) → other ≡ one → HasSchemaOf c one → HasSchemaOf c other
same_table c one other e h = subst (λ (o : Option Table). HasSchemaOf c o) (sym e) h

schema_of_cursor : (state : DatabaseState) (label session : ℕ) (made : SchemaStep) → is_none (schema_refusal state label made) ≡ true → (c : OpenCursor) → list_any (λ n. n == c.cursor.table) (open_tables_of (live_session state session)) ≡ true
    → HasSchemaOf c (table_with_id state.tables c.cursor.table) → HasSchemaOf c (table_with_id (tables_after_step state.tables made) c.cursor.table)
schema_of_cursor state label session (step.CreateTable table name) free c is_open has = found_before c state.tables (new_table table.0 name) c.cursor.table has
schema_of_cursor state label session (step.DeleteTable table) free c is_open has =
    let apart : (c.cursor.table == table.0) ≡ false = apart_from state label session table.0 (step.DeleteTable table) free refl c is_open has in
    same_table c (table_with_id state.tables c.cursor.table) (table_with_id (filter (λ t. not (t.id == table.0)) state.tables) c.cursor.table)
    (found_in_filter (λ t. t.id == c.cursor.table) (λ t. not (t.id == table.0)) state.tables
    (all_each (λ t. (t.id == c.cursor.table) ≡ true → not (t.id == table.0) ≡ true) (λ t f. ap (λ k. not (k == table.0)) (eqb-true t.id c.cursor.table f) ∙ ap not apart) state.tables)) has
schema_of_cursor state label session (step.AddColumn table column) free c is_open has =
    same_table c (table_with_id state.tables c.cursor.table) _ (other_table table.0 (with_column (tagged_if_long column)) (λ t. refl) state.tables c.cursor.table (apart_from state label session table.0 (step.AddColumn table column) free refl c is_open has)) has
schema_of_cursor state label session (step.DeleteColumn table column) free c is_open has =
    same_table c (table_with_id state.tables c.cursor.table) _ (other_table table.0 (without_column column.0) (λ t. refl) state.tables c.cursor.table (apart_from state label session table.0 (step.DeleteColumn table column) free refl c is_open has)) has
schema_of_cursor state label session (step.CreateIndex table rule) free c is_open has =
    same_table c (table_with_id state.tables c.cursor.table) _ (other_table table.0 (with_index rule) (λ t. refl) state.tables c.cursor.table (apart_from state label session table.0 (step.CreateIndex table rule) free refl c is_open has)) has
schema_of_cursor state label session (step.DeleteIndex table index) free c is_open has =
    same_table c (table_with_id state.tables c.cursor.table) _ (other_table table.0 (without_index index.0) (λ t. refl) state.tables c.cursor.table (apart_from state label session table.0 (step.DeleteIndex table index) free refl c is_open has)) has

pub schemas_kept : (state : DatabaseState) (label session : ℕ) (local : LocalState) (made : SchemaStep) → is_none (schema_refusal state label made) ≡ true → Agrees state session local → HaveSchemas (tables_after_step state.tables made) local.cursors
schemas_kept state label session local made free agrees =
    all_both (λ c. list_any (λ n. n == c.cursor.table) (open_tables_of (live_session state session)) ≡ true) (λ c. HasSchemaOf c (table_with_id state.tables c.cursor.table)) (λ c. HasSchemaOf c (table_with_id (tables_after_step state.tables made) c.cursor.table))
    (λ c is_open has. schema_of_cursor state label session made free c is_open has) local.cursors (each_open state session local agrees) agrees.schemas
