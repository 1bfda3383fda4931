-- A session's own changes of records: what it sees of the records that it has prepared to replace.
use Rattle.std.proofs.Common.{◌≡◌, ℕ, Bool, true, false, not, ◌&&◌, ◌||◌, cond, List, [], ◌∷◌, ◌++◌, Option, Some, None, refl, sym, ap, subst, ◌∙◌, arith, bytes_eq}
use Rattle.std.specs.Prelude.{ℤ, ◌==◌, filter, is_some, map, if◌then◌else◌, IsSome, IsTrue}
use Rattle.std.specs.List.{AllByRecursion, list_any}
use Rattle.std.proofs.lemmas.Bool.Decides.{nat_tests}
use Rattle.std.proofs.lemmas.List.{map-append}
use Rattle.std.proofs.lemmas.List.Elements.{filter-append}
use Rattle.std.proofs.lemmas.List.Folds.{list_any-append}
use Rattle.std.proofs.lemmas.List.Sums.{fold-append}
use Rattle.std.proofs.lemmas.Bool.{and_from, eqb-true}
use Rattle.common_lemmas.proofs.Booleans.{and_left, and_right, impossible}
use Rattle.common_lemmas.proofs.Lists.{all_weaker}
use Rattle.common_lemmas.proofs.Numbers.{equal_bytes, same_bytes, self_equal}
use Rattle.jet_base.specs.declared.ids.ColumnId.{ColumnId}
use Rattle.jet_base.specs.declared.ids.TableId.{TableId}
use Rattle.column_set.specs.declared.changes.Change.{Change}
use Rattle.column_set.specs.declared.changes.Change.TheVariants.{Put, Drop, Hold, Add}
use Rattle.column_set.specs.declared.columns.Column.{Column}
use Rattle.column_set.specs.RecordValues.{RecordFields}
use Rattle.index_derive.specs.declared.log.EntryKind.TheVariants as entry
use Rattle.index_derive.specs.declared.log.Step.TheVariants.{Alone, One}
use Rattle.index_derive.specs.Steps.{entries_of_step}
use Rattle.database_state.specs.Table.{Table, row_at, rows_of, table_with_id}
use Rattle.database_state.specs.Changes.{escrow_bytes, rows_after, tables_after, tables_after_all, without_copied}
use Rattle.column_set.specs.ChangedRecords.{changed_bookmark, changed_table}
use Rattle.database_state.specs.State.{DatabaseState, PastChange, Transaction, change_of, is_open_change_of, levels_of, open_changes_of, transaction_of}
use Rattle.database_state.specs.View.{view, view_in}
use Rattle.database_state.specs.Step.{applied, state_after, state_after_all}
use Rattle.database_state.specs.Lawful.{has_number, is_lawful, is_lawful_at, is_lawful_change, keeps_escrow}
use Rattle.laws_versions.specs.Records.{Records, is_change_of, record_after, records_after, records_of}
use Rattle.laws_versions.proofs.ChangeLemmas.Projecting.{projected}
use Rattle.laws_versions.specs.History.{IsHistory}
use Rattle.laws_versions.specs.KeptSteps.{new_change, with_next_number}
use Rattle.laws_versions.proofs.HistoryLemmas.Lists.{all_both}
use Rattle.laws_versions.proofs.KeyLemmas.IndexNumbers.{none_of}
use Rattle.laws_versions.proofs.KeyLemmas.SchemaKeys.{other_table}
use Rattle.laws_versions.proofs.KeyLemmas.UniqueKept.{id_of}
use Rattle.session_local.specs.Agreement.{HasSchemaOf, IsStorable, MayReplace, has_lock, is_lock_on, replaced_in}
use Rattle.session_local.specs.Local.{OpenCursor, PreparedFor, PreparedUpdate, inserting, is_replace_of, replacing}
use Rattle.session_local.specs.Outcome.{CallInputs, entry_of, is_outside, step_of_change}
use Rattle.laws_engine.specs.InStep.{IsInStep}
use Rattle.laws_engine.proofs.AgreeingLemmas.OwnSessions.{anywhere, entry_keeps}
use Rattle.laws_engine.proofs.AgreeingLemmas.Prepared.{AreStorable}
use Rattle.laws_engine.proofs.AgreeingLemmas.Schemas.{HaveSchemas}

-- ---- the view after a change

open_changes_more : (session : ℕ) (past : List PastChange) (new : PastChange) → is_open_change_of session new ≡ true → open_changes_of session (past ++ new ∷ []) ≡ open_changes_of session past ++ new.change ∷ []
open_changes_more session past new own =
    ap (map change_of) (filter-append (is_open_change_of session) past (new ∷ []))
    ∙ map-append change_of (filter (is_open_change_of session) past) (filter (is_open_change_of session) (new ∷ []))
    ∙ ap (λ b. open_changes_of session past ++ map change_of (cond b (new ∷ []) [])) own

pub view_changed : (state : DatabaseState) (session : ℕ) (change : Change) (t : Transaction) → transaction_of state session ≡ Some t → view (applied session (entry.Change change) (with_next_number state)) session ≡ tables_after (view state session) (without_copied change)
unfolding view
view_changed state session change t e =
    ap (view_in (applied session (entry.Change change) (with_next_number state)) session) e
    ∙ ap (tables_after_all t.snapshot) (open_changes_more session state.past (new_change session change (with_next_number state)) (self_equal session))
    ∙ fold-append tables_after t.snapshot (open_changes_of session state.past) (without_copied change ∷ [])
    ∙ sym (ap (λ tables. tables_after tables (without_copied change)) (ap (view_in state session) e))

-- a lock stays
locks_more : (state : DatabaseState) (session : ℕ) (change : Change) (table : ℕ) (bookmark : List ℕ) → has_lock state session table bookmark ≡ true → has_lock (applied session (entry.Change change) (with_next_number state)) session table bookmark ≡ true
locks_more state session change table bookmark h =
    list_any-append (λ item. is_open_change_of session item && is_lock_on table bookmark item.change) state.past (new_change session change (with_next_number state) ∷ [])
    ∙ left (list_any (λ item. is_open_change_of session item && is_lock_on table bookmark item.change) state.past) _ h
  where
    left : (a b : Bool) → a ≡ true → (a || b) ≡ true
    left true b e = refl
    left false b e = impossible e

-- a record after a change of tables that have its table
pub row_after : (tables : List Table) (change : Change) (table : ℕ) (bookmark : List ℕ) → is_some (table_with_id tables table) ≡ true → records_of (tables_after tables change) table bookmark ≡ records_after (records_of tables) change table bookmark
row_after tables change table bookmark there =
    elim (changed_table change == table) as (λ b. (changed_table change == table) ≡ b → records_of (tables_after tables change) table bookmark ≡ records_after (records_of tables) change table bookmark) [
      | true ↦ λ f. ap (λ (r : Records). r table bookmark) (projected tables change (ap (λ i. is_some (table_with_id tables i)) (eqb-true (changed_table change) table f) ∙ there))
      | false ↦ λ f.
          ap (λ (o : Option Table). row_at (rows_of o) bookmark) (other_table (changed_table change) (λ t. record t { rows = rows_after t.rows change }) (λ t. refl) tables table (turned (changed_table change) table f))
          ∙ sym (ap (λ b. cond (b && bytes_eq (changed_bookmark change) bookmark) (record_after change (records_of tables table bookmark)) (records_of tables table bookmark)) f)
    ] refl
  where
    turned : (a b : ℕ) → (a == b) ≡ false → (b == a) ≡ false
    turned a b e = grind (arith, nat_tests)

pub there_by_row : (o : Option Table) (bookmark : List ℕ) → IsSome (row_at (rows_of o) bookmark) → is_some o ≡ true
there_by_row None bookmark h = impossible h
there_by_row (Some t) bookmark h = refl

-- ---- what may be stored after a change

-- of a record that may be replaced: it is there, with these sums
abbrev Replaces : List Column → RecordFields → Option RecordFields → Type 0
Replaces columns values row = IsSome row × IsTrue (keeps_escrow columns row values)

-- where the change is of a record that is to be replaced, it leaves one that may be
abbrev LeavesReplaced : DatabaseState → ℕ → Change → OpenCursor → PreparedUpdate → PreparedFor → Type 0
LeavesReplaced state session change c p (inserting copied) = Unit {0}
LeavesReplaced state session change c p (replacing b) =
    (row : RecordFields) → records_of (view state session) c.cursor.table b ≡ Some row → is_change_of c.cursor.table b change ≡ true → Replaces c.schema.columns p.values (Some row) → Replaces c.schema.columns p.values (record_after change (Some row))

abbrev AllowsChange : DatabaseState → ℕ → Change → OpenCursor → Option PreparedUpdate → Type 0
AllowsChange state session change c None = Unit {0}
AllowsChange state session change c (Some p) = LeavesReplaced state session change c p p.for

row_replaces : (columns : List Column) (values : RecordFields) (one other : Records) (change : Change) (table : ℕ) (bookmark : List ℕ) → other table bookmark ≡ records_after one change table bookmark
    → ((row : RecordFields) → one table bookmark ≡ Some row → is_change_of table bookmark change ≡ true → Replaces columns values (Some row) → Replaces columns values (record_after change (Some row)))
    → (o : Option RecordFields) → one table bookmark ≡ o → Replaces columns values o → Replaces columns values (other table bookmark)
row_replaces columns values one other change table bookmark same f None e h = impossible h.0
row_replaces columns values one other change table bookmark same f (Some row) e h =
    subst (λ (o : Option RecordFields). Replaces columns values o) (sym (same ∙ ap (λ (o : Option RecordFields). cond (is_change_of table bookmark change) (record_after change o) o) e))
    (elim (is_change_of table bookmark change) as (λ b. is_change_of table bookmark change ≡ b → Replaces columns values (cond b (record_after change (Some row)) (Some row))) [
      | true ↦ λ mine. f row e mine h
      | false ↦ λ other_one. h
    ] refl)

storable_after : (one other : DatabaseState) (session : ℕ) (change : Change) → view other session ≡ tables_after (view one session) change → ((table : ℕ) (bookmark : List ℕ) → has_lock one session table bookmark ≡ true → has_lock other session table bookmark ≡ true)
    → (c : OpenCursor) (o : Option PreparedUpdate) → AllowsChange one session change c o → IsStorable one session c o → IsStorable other session c o
storable_after one other session change same locks c None allows h = tt
storable_after one other session change same locks c (Some p) allows h = let rest = by p.for allows (h.2, h.3) in (h.0, h.1, rest.0, rest.1)
  where
    by : (for : PreparedFor) → LeavesReplaced one session change c p for → IsTrue (keeps_escrow c.schema.columns (replaced_in one session c for) p.values) × MayReplace one session c for
        → IsTrue (keeps_escrow c.schema.columns (replaced_in other session c for) p.values) × MayReplace other session c for
    by (inserting copied) f g = g
    by (replacing b) f g =
        let made : Replaces c.schema.columns p.values (records_of (view other session) c.cursor.table b) =
        row_replaces c.schema.columns p.values (records_of (view one session)) (records_of (view other session)) change c.cursor.table b
        (ap (λ (tables : List Table). records_of tables c.cursor.table b) same ∙ row_after (view one session) change c.cursor.table b (there_by_row (table_with_id (view one session) c.cursor.table) b g.1.0))
        f (records_of (view one session) c.cursor.table b) refl (g.1.0, g.0) in
        (made.1, (made.0, locks c.cursor.table b g.1.1))

pub all_after : (state : DatabaseState) (session : ℕ) (change : Change) (t : Transaction) → transaction_of state session ≡ Some t → (cursors : List OpenCursor) → AllByRecursion (λ c. AllowsChange state session (without_copied change) c c.prepared) cursors
    → AreStorable state session cursors → AreStorable (applied session (entry.Change change) (with_next_number state)) session cursors
all_after state session change t e cursors allows h =
    all_both (λ c. AllowsChange state session (without_copied change) c c.prepared) (λ c. IsStorable state session c c.prepared) (λ c. IsStorable (applied session (entry.Change change) (with_next_number state)) session c c.prepared)
    (λ c a s. storable_after state (applied session (entry.Change change) (with_next_number state)) session (without_copied change) (view_changed state session change t e) (locks_more state session change) c c.prepared a s) cursors allows h

-- ---- a lock, a drop, a sum, a put

lock_allowed : (state : DatabaseState) (session : ℕ) (id : TableId) (bookmark : List ℕ) (c : OpenCursor) (o : Option PreparedUpdate) → AllowsChange state session (Hold id bookmark) c o
lock_allowed state session id bookmark c None = tt
lock_allowed state session id bookmark c (Some p) = by p.for
  where
    by : (for : PreparedFor) → LeavesReplaced state session (Hold id bookmark) c p for
    by (inserting copied) = tt
    by (replacing b) = λ row e mine h. h

pub locks_allowed : (state : DatabaseState) (session : ℕ) (id : TableId) (bookmark : List ℕ) (cursors : List OpenCursor) → AllByRecursion (λ c. AllowsChange state session (Hold id bookmark) c c.prepared) cursors
locks_allowed state session id bookmark [] = tt
locks_allowed state session id bookmark (c ∷ cursors) = (lock_allowed state session id bookmark c c.prepared, locks_allowed state session id bookmark cursors)

-- a change of a record that the session is not to replace
beside_allowed : (state : DatabaseState) (session table : ℕ) (bookmark : List ℕ) (change : Change) → changed_table change ≡ table → changed_bookmark change ≡ bookmark → (c : OpenCursor) (o : Option PreparedUpdate)
    → ((c.cursor.table == table) && is_replace_of bookmark o) ≡ false → AllowsChange state session change c o
beside_allowed state session table bookmark change is at c None e = tt
beside_allowed state session table bookmark change is at c (Some p) e = by p.for p.values e
  where
    by : (for : PreparedFor) (values : RecordFields) → ((c.cursor.table == table) && is_replace_of bookmark (Some (record { for = for; values = values }))) ≡ false → LeavesReplaced state session change c p for
    by (inserting copied) values f = tt
    by (replacing b) values f = λ row g mine h. impossible (sym f ∙ and_from (c.cursor.table == table) (bytes_eq b bookmark)
        (ap (λ k. c.cursor.table == k) (sym is ∙ eqb-true (changed_table change) c.cursor.table (and_left _ _ mine)) ∙ self_equal c.cursor.table)
        (equal_bytes b bookmark (sym (sym at ∙ same_bytes (changed_bookmark change) b (and_right (changed_table change == c.cursor.table) _ mine)))))

all_beside : (state : DatabaseState) (session table : ℕ) (bookmark : List ℕ) (change : Change) → changed_table change ≡ table → changed_bookmark change ≡ bookmark → (cursors : List OpenCursor)
    → list_any (λ c. (c.cursor.table == table) && is_replace_of bookmark c.prepared) cursors ≡ false → AllByRecursion (λ c. AllowsChange state session change c c.prepared) cursors
all_beside state session table bookmark change is at cursors none =
    all_weaker (λ c. ((c.cursor.table == table) && is_replace_of bookmark c.prepared) ≡ false) (λ c. AllowsChange state session change c c.prepared)
    (λ c e. beside_allowed state session table bookmark change is at c c.prepared e) cursors (none_of (λ c. (c.cursor.table == table) && is_replace_of bookmark c.prepared) cursors none)

pub drops_allowed : (state : DatabaseState) (session : ℕ) (id : TableId) (bookmark : List ℕ) (cursors : List OpenCursor) → list_any (λ c. (c.cursor.table == id.0) && is_replace_of bookmark c.prepared) cursors ≡ false
    → AllByRecursion (λ c. AllowsChange state session (Drop id bookmark) c c.prepared) cursors
drops_allowed state session id bookmark cursors none = all_beside state session id.0 bookmark (Drop id bookmark) refl refl cursors none

pub sums_allowed : (state : DatabaseState) (session : ℕ) (id : TableId) (bookmark : List ℕ) (column : ColumnId) (amount : ℤ) (cursors : List OpenCursor) → list_any (λ c. (c.cursor.table == id.0) && is_replace_of bookmark c.prepared) cursors ≡ false
    → AllByRecursion (λ c. AllowsChange state session (Add id bookmark column amount) c c.prepared) cursors
sums_allowed state session id bookmark column amount cursors none = all_beside state session id.0 bookmark (Add id bookmark column amount) refl refl cursors none

-- two records of the sums of a third have the same sums
same_sums : (columns : List Column) (row one other : RecordFields) → keeps_escrow columns (Some row) one ≡ true → keeps_escrow columns (Some row) other ≡ true → keeps_escrow columns (Some one) other ≡ true
same_sums [] row one other h k = refl
same_sums (c ∷ columns) row one other h k =
    and_from _ _ (by c.escrow (and_left _ _ h) (and_left _ _ k)) (same_sums columns row one other (and_right (not c.escrow || bytes_eq (escrow_bytes one c.id.0) (escrow_bytes row c.id.0)) _ h) (and_right (not c.escrow || bytes_eq (escrow_bytes other c.id.0) (escrow_bytes row c.id.0)) _ k))
  where
    by : (b : Bool) → (not b || bytes_eq (escrow_bytes one c.id.0) (escrow_bytes row c.id.0)) ≡ true → (not b || bytes_eq (escrow_bytes other c.id.0) (escrow_bytes row c.id.0)) ≡ true → (not b || bytes_eq (escrow_bytes other c.id.0) (escrow_bytes one c.id.0)) ≡ true
    by false e f = refl
    by true e f = equal_bytes (escrow_bytes other c.id.0) (escrow_bytes one c.id.0) (same_bytes (escrow_bytes other c.id.0) (escrow_bytes row c.id.0) f ∙ sym (same_bytes (escrow_bytes one c.id.0) (escrow_bytes row c.id.0) e))

put_allowed : (state : DatabaseState) (session : ℕ) (id : TableId) (bookmark : List ℕ) (copied : Option (List ℕ)) (values : RecordFields) → is_lawful_at state session (table_with_id state.tables id.0) (Put id bookmark copied values) ≡ true
    → (c : OpenCursor) (o : Option PreparedUpdate) → HasSchemaOf c (table_with_id state.tables c.cursor.table) → AllowsChange state session (Put id bookmark None values) c o
put_allowed state session id bookmark copied values lawful c None has = tt
put_allowed state session id bookmark copied values lawful c (Some p) has = by p.for
  where
    -- the sums of the put are those of the record in whose place it comes
    sums : (b : List ℕ) (row : RecordFields) → records_of (view state session) c.cursor.table b ≡ Some row → id.0 ≡ c.cursor.table → bookmark ≡ b → (o : Option Table) → table_with_id state.tables c.cursor.table ≡ o → HasSchemaOf c o
        → is_lawful_at state session o (Put id bookmark copied values) ≡ true → keeps_escrow c.schema.columns (Some row) values ≡ true
    sums b row e same_table same_bookmark None f g l = absurd g
    sums b row e same_table same_bookmark (Some t) f g l =
        ap (λ (columns : List Column). keeps_escrow columns (Some row) values) (ap (λ s. s.columns) g.0)
        ∙ ap (λ (o : Option RecordFields). keeps_escrow t.columns o values) (sym (ap (λ (k : List ℕ). row_at (rows_of (table_with_id (view state session) t.id)) k) same_bookmark
        ∙ ap (λ k. records_of (view state session) k b) (id_of state.tables c.cursor.table t f) ∙ e))
        ∙ and_right _ _ (and_left _ _ l)

    by : (for : PreparedFor) → LeavesReplaced state session (Put id bookmark None values) c p for
    by (inserting was) = tt
    by (replacing b) = λ row e mine h.
        let same_table : id.0 ≡ c.cursor.table = eqb-true id.0 c.cursor.table (and_left _ _ mine) in (
          refl,
          same_sums c.schema.columns row values p.values
              (sums b row e same_table (same_bytes bookmark b (and_right (id.0 == c.cursor.table) _ mine)) (table_with_id state.tables c.cursor.table) refl has
              (ap (λ k. is_lawful_at state session (table_with_id state.tables k) (Put id bookmark copied values)) (sym same_table) ∙ lawful)) h.1,
        )

pub puts_allowed : (state : DatabaseState) (session : ℕ) (id : TableId) (bookmark : List ℕ) (copied : Option (List ℕ)) (values : RecordFields) → is_lawful_at state session (table_with_id state.tables id.0) (Put id bookmark copied values) ≡ true
    → (cursors : List OpenCursor) → HaveSchemas state.tables cursors → AllByRecursion (λ c. AllowsChange state session (Put id bookmark None values) c c.prepared) cursors
puts_allowed state session id bookmark copied values lawful cursors has =
    all_weaker (λ c. HasSchemaOf c (table_with_id state.tables c.cursor.table)) (λ c. AllowsChange state session (Put id bookmark None values) c c.prepared) (λ c s. put_allowed state session id bookmark copied values lawful c c.prepared s) cursors has

-- ---- the entries of a change

-- in a transaction or alone
pub change_in_step : (base : Records) (dropped kept : List PastChange) (asked : CallInputs) (change : Change) → IsHistory base dropped kept asked.state → IsInStep asked.state asked.session asked.local
    → ((t : Transaction) → transaction_of asked.state asked.session ≡ Some t → is_outside asked ≡ false → AreStorable (state_after asked.state (entry_of asked (entry.Change change))) asked.session asked.local.cursors)
    → IsInStep (state_after_all asked.state (entries_of_step (step_of_change asked change))) asked.session asked.local
change_in_step base dropped kept asked change h step storable =
    elim (is_outside asked) as (λ b. is_outside asked ≡ b
    → IsInStep (state_after_all asked.state (entries_of_step (if b then Some (Alone (entry_of asked (entry.Change change))) else Some (One (entry_of asked (entry.Change change)))))) asked.session asked.local) [
      | true ↦ λ out.
          let begun = entry_keeps asked entry.Begin refl refl step (anywhere base dropped kept asked begun_state h out step) in
          let changed = entry_keeps (record asked { state = begun_state }) (entry.Change change) refl refl begun (anywhere base dropped kept asked changed_state h out step) in
          entry_keeps (record asked { state = changed_state }) entry.Commit refl refl changed (anywhere base dropped kept asked (state_after changed_state (entry_of asked entry.Commit)) h out step)
      | false ↦ λ in_one. entry_keeps asked (entry.Change change) refl refl step (in_transaction (transaction_of asked.state asked.session) refl in_one)
    ] refl
  where
    begun_state : DatabaseState
    begun_state = state_after asked.state (entry_of asked entry.Begin)

    changed_state : DatabaseState
    changed_state = state_after (state_after asked.state (entry_of asked entry.Begin)) (entry_of asked (entry.Change change))

    in_transaction : (t : Option Transaction) → transaction_of asked.state asked.session ≡ t → is_outside asked ≡ false → AreStorable (state_after asked.state (entry_of asked (entry.Change change))) asked.session asked.local.cursors
    in_transaction None e in_one = impossible (sym (sym (ap (λ u. levels_of u == 0) e) ∙ in_one))
    in_transaction (Some t) e in_one = storable t e in_one

-- the put of a lawful entry
pub put_of_entry : (state : DatabaseState) (session : ℕ) (change : Change) → is_lawful state (record { session = record { 0 = session }; kind = entry.Change change }) ≡ true → is_lawful_at state session (table_with_id state.tables (changed_table change)) change ≡ true
unfolding is_lawful
put_of_entry state session change h = and_right _ _ (and_right (has_number state.number (entry.Change change)) (is_lawful_change state session change) h)
