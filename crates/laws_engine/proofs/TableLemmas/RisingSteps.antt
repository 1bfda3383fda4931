-- Every entry leaves the records in the order of their bookmarks.
use Rattle.std.proofs.Common.{◌≡◌, ℕ, Bool, true, false, not, ◌&&◌, cond, List, [], ◌∷◌, map, Option, Some, None, refl, sym, ap, subst}
use Rattle.std.specs.Prelude.{◌+◌, ◌-◌, ◌==◌, if◌then◌else◌, nat_lt, IfSome, T}
use Rattle.std.specs.List.{AllByRecursion}
use Rattle.std.specs.Ordering.{nat_cmp, is_lt}
use Rattle.std.specs.Cmp.Lexicographic.{slice_cmp}
use Rattle.std.specs.FinMap.Entries.{below_all, is_sorted}
use Rattle.common_lemmas.proofs.Lists.{all_append, all_filter}
use Rattle.column_set.specs.RecordValues.{RecordFields, with_values, tagged_if_long}
use Rattle.index_derive.specs.declared.log.Entry.{Entry}
use Rattle.index_derive.specs.declared.log.EntryKind.{EntryKind}
use Rattle.index_derive.specs.declared.log.EntryKind.TheVariants as entry
use Rattle.index_derive.specs.declared.schema_calls.SchemaStep.{SchemaStep}
use Rattle.index_derive.specs.declared.schema_calls.SchemaStep.TheVariants as step
use Rattle.database_state.specs.Table.{Table, Rows, with_table}
use Rattle.database_state.specs.State.{DatabaseState, LiveSession, Transaction, undone, open_changes_of, levels}
use Rattle.database_state.specs.SchemaChanges.{tables_after_step, with_column, without_column, with_index, without_index}
use Rattle.database_state.specs.Step.{insert_session, at_levels, with_levels, with_transaction, with_changes_at, is_at_level, innermost_undone, applied, state_after}
use Rattle.laws_engine.specs.Holding.{RowsRise, AllRise, RecordsRise, SnapshotRises}
use Rattle.laws_engine.proofs.TableLemmas.Rising.{all_tables_rise}

-- ---- schema steps

-- other values under the same bookmarks
mapped_below : (change : RecordFields → RecordFields) (key : List ℕ) (rows : Rows) → below_all (slice_cmp nat_cmp) key (map (λ row. (row.0, change row.1)) rows) ≡ below_all (slice_cmp nat_cmp) key rows
mapped_below change key [] = refl
mapped_below change key (row ∷ rows) = ap (λ b. is_lt (slice_cmp nat_cmp key row.0) && b) (mapped_below change key rows)

mapped_sorted : (change : RecordFields → RecordFields) (rows : Rows) → is_sorted (slice_cmp nat_cmp) (map (λ row. (row.0, change row.1)) rows) ≡ is_sorted (slice_cmp nat_cmp) rows
mapped_sorted change [] = refl
mapped_sorted change (row ∷ rows) = λ i. mapped_below change row.0 rows i && mapped_sorted change rows i

table_changed : (id : ℕ) (change : Table → Table) → ((t : Table) → RowsRise t.rows → RowsRise (change t).rows) → (tables : List Table) → AllRise tables → AllRise (with_table id change tables)
table_changed id change keep [] h = tt
table_changed id change keep (t ∷ tables) h = (by (t.id == id), table_changed id change keep tables h.1)
  where
    by : (b : Bool) → RowsRise (cond b (change t) t).rows
    by true = keep t h.0
    by false = h.0

pub step_rises : (tables : List Table) (made : SchemaStep) → AllRise tables → AllRise (tables_after_step tables made)
step_rises tables (step.CreateTable table name) h = all_append (λ t. RowsRise t.rows) tables _ h (tt, tt)
step_rises tables (step.DeleteTable table) h = all_filter (λ t. RowsRise t.rows) (λ t. not (t.id == table.0)) tables h
step_rises tables (step.AddColumn table column) h = table_changed table.0 (with_column (tagged_if_long column)) (λ t rise. rise) tables h
step_rises tables (step.DeleteColumn table column) h =
    table_changed table.0 (without_column column.0) (λ t rise. subst T (sym (mapped_sorted (λ values. with_values values column.0 []) t.rows)) rise) tables h
step_rises tables (step.CreateIndex table rule) h = table_changed table.0 (with_index rule) (λ t rise. rise) tables h
step_rises tables (step.DeleteIndex table index) h = table_changed table.0 (without_index index.0) (λ t rise. rise) tables h

-- ---- sessions

abbrev SessionsRise : List LiveSession → Type 0
SessionsRise sessions = AllByRecursion SnapshotRises sessions

session_changed : (label : ℕ) (change : LiveSession → LiveSession) → ((s : LiveSession) → SnapshotRises s → SnapshotRises (change s)) → (sessions : List LiveSession) → SessionsRise sessions → SessionsRise (map (λ s. if s.label == label then change s else s) sessions)
session_changed label change keep [] h = tt
session_changed label change keep (s ∷ sessions) h = (by (s.label == label), session_changed label change keep sessions h.1)
  where
    by : (b : Bool) → SnapshotRises (cond b (change s) s)
    by true = keep s h.0
    by false = h.0

session_entered : (new : LiveSession) → SnapshotRises new → (sessions : List LiveSession) → SessionsRise sessions → SessionsRise (insert_session new sessions)
session_entered new h [] rest = (h, tt)
session_entered new h (s ∷ sessions) rest = by (nat_lt new.label s.label) (session_entered new h sessions rest.1)
  where
    by : (b : Bool) → SessionsRise (insert_session new sessions) → SessionsRise (cond b (new ∷ s ∷ sessions) (s ∷ insert_session new sessions))
    by true later = (h, rest)
    by false later = (rest.0, later)

levels_changed : (label : ℕ) (change : ℕ → ℕ) (sessions : List LiveSession) → SessionsRise sessions → SessionsRise (map (λ (s : LiveSession). if s.label == label then record s { transaction = at_levels change s.transaction } else s) sessions)
levels_changed label change sessions h = session_changed label (λ s. record s { transaction = at_levels change s.transaction }) (λ s rise. by s.transaction rise) sessions h
  where
    by : (t : Option Transaction) → IfSome t (λ transaction. AllRise transaction.snapshot) → IfSome (at_levels change t) (λ transaction. AllRise transaction.snapshot)
    by None rise = tt
    by (Some t) rise = rise

ended : (label : ℕ) (sessions : List LiveSession) → SessionsRise sessions → SessionsRise (map (λ (s : LiveSession). if s.label == label then record s { transaction = None } else s) sessions)
ended label sessions h = session_changed label (λ s. record s { transaction = None }) (λ s rise. tt) sessions h

-- ---- any entry

innermost_undone_rises : (label : ℕ) (state : DatabaseState) → RecordsRise state → RecordsRise (innermost_undone label state)
innermost_undone_rises label state h = by (nat_lt 1 (levels state label))
  where
    undoing : DatabaseState
    undoing = with_changes_at label (is_at_level (levels state label)) (λ item. record item { status = undone }) state

    by : (b : Bool) → RecordsRise (cond b (with_levels label (λ n. n - 1) undoing) (with_transaction label None undoing))
    by true = record { committed = h.committed; snapshots = levels_changed label (λ n. n - 1) state.sessions h.snapshots }
    by false = record { committed = h.committed; snapshots = ended label state.sessions h.snapshots }

applied_rises : (label : ℕ) (kind : EntryKind) (state : DatabaseState) → RecordsRise state → RecordsRise (applied label kind state)
applied_rises label entry.Enter state h = record { committed = h.committed; snapshots = session_entered (record { label = label; open_tables = []; transaction = None }) tt state.sessions h.snapshots }
applied_rises label entry.Leave state h = record { committed = h.committed; snapshots = all_filter SnapshotRises (λ s. not (s.label == label)) _ (ended label state.sessions h.snapshots) }
applied_rises label (entry.Open table) state h = record { committed = h.committed; snapshots = session_changed label _ (λ s rise. rise) state.sessions h.snapshots }
applied_rises label (entry.Shut table) state h = record { committed = h.committed; snapshots = session_changed label _ (λ s rise. rise) state.sessions h.snapshots }
applied_rises label entry.Begin state h = record {
  committed = h.committed;
  snapshots = session_changed label (λ s. record s { transaction = Some (record { levels = 1; begin = state.number; snapshot = state.tables }) }) (λ s rise. h.committed) state.sessions h.snapshots;
}
applied_rises label entry.Save state h = record { committed = h.committed; snapshots = levels_changed label (λ n. n + 1) state.sessions h.snapshots }
applied_rises label (entry.Change change) state h = record { committed = h.committed; snapshots = h.snapshots }
applied_rises label entry.Release state h = record { committed = h.committed; snapshots = levels_changed label (λ n. n - 1) state.sessions h.snapshots }
applied_rises label entry.Undo state h = innermost_undone_rises label state h
applied_rises label entry.UndoAll state h = record { committed = h.committed; snapshots = ended label state.sessions h.snapshots }
applied_rises label entry.Commit state h = record { committed = all_tables_rise state.tables (open_changes_of label state.past) h.committed; snapshots = ended label state.sessions h.snapshots }
applied_rises label (entry.Schema made) state h = record { committed = step_rises state.tables made h.committed; snapshots = h.snapshots }

pub step_keeps_order : (state : DatabaseState) (made : Entry) → RecordsRise state → RecordsRise (state_after state made)
unfolding state_after
step_keeps_order state made h = applied_rises made.session.0 made.kind (record state { number = state.number + 1 }) (record { committed = h.committed; snapshots = h.snapshots })
