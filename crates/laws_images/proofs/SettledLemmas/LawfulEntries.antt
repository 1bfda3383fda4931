-- Which entries may come.
use Rattle.std.proofs.Common.{◌≡◌, ℕ, ◌+◌, not, Option, Some, None, List, [], ◌∷◌, refl, sym, ap, ◌∙◌}
use Rattle.std.specs.Prelude.{filter, ◌&&◌, ◌||◌, ◌==◌, nat_le, nat_lt, is_none, unwrap_or}
use Rattle.std.specs.List.{list_all, list_any}
use Rattle.column_set.specs.declared.changes.Change.{Change}
use Rattle.column_set.specs.declared.changes.Change.TheVariants.{Put, Drop, Hold, Add}
use Rattle.column_set.specs.RecordValues.{RecordFields, is_missing_a_value, record_fits, record_size}
use Rattle.index_derive.specs.declared.log.Entry.{Entry}
use Rattle.index_derive.specs.declared.log.EntryKind.{EntryKind}
use Rattle.index_derive.specs.declared.log.EntryKind.TheVariants as entry
use Rattle.index_derive.specs.declared.rules.IndexRule.{IndexRule}
use Rattle.index_derive.specs.declared.rules.Schema.{Schema}
use Rattle.index_derive.specs.Entries.{is_unique}
use Rattle.index_derive.specs.declared.schema_calls.SchemaStep.{SchemaStep}
use Rattle.index_derive.specs.declared.schema_calls.SchemaStep.TheVariants as step
use Rattle.jet_base.specs.declared.replies.Jet.TheVariants as jet
use Rattle.database_state.specs.Changes.{tables_after_all}
use Rattle.column_set.specs.ChangedRecords.{changed_table}
use Rattle.database_state.specs.Conflicts.{collide, concurrent_changes, has_key_conflict, has_write_conflict, is_concurrent, yields_key}
use Rattle.database_state.specs.Lawful.{has_free_keys, has_next_numbers, has_number, is_bookmark_of, is_copied_in, is_indexable, is_lawful, is_lawful_at, is_lawful_change, is_lawful_in, is_lawful_kind, is_live, is_unique_throughout, keeps_escrow}
use Rattle.database_state.specs.Puts.{is_taken, new_keys}
use Rattle.column_set.specs.Refusals.{first_refusal}
use Rattle.database_state.specs.SchemaChanges.{is_in_use, makes_table, new_table, schema_refusal, step_refusals, step_table}
use Rattle.database_state.specs.State.{DatabaseState, Transaction, levels, transaction_of}
use Rattle.database_state.specs.Step.{state_after}
use Rattle.database_state.specs.Table.{Rows, Table, row_at, rows_of, schema_of, table_with_id}
use Rattle.index_derive.specs.Schemas.{primary_rule}
use Rattle.database_state.specs.View.{view, view_in}
use Rattle.laws_images.specs.Settled.{settled}
use Rattle.laws_engine.specs.LawfulSteps.{AreLawful}
use Rattle.laws_images.proofs.SettledLemmas.Filters.{concurrent_stands, passing_stands}
use Rattle.laws_images.proofs.SettledLemmas.Steps.{after_alike, own_open, settled_again}

concurrent_alike : (state : DatabaseState) (session : ℕ) → concurrent_changes (settled state) session ≡ concurrent_changes state session
unfolding concurrent_changes
concurrent_alike state session = passing_stands (is_concurrent session (transaction_of state session)) (concurrent_stands session (transaction_of state session)) state.past

write_alike : (state : DatabaseState) (session : ℕ) (change : Change) → has_write_conflict (settled state) session change ≡ has_write_conflict state session change
unfolding has_write_conflict
write_alike state session change = ap (list_any (λ item. collide item.change change)) (concurrent_alike state session)

key_alike : (state : DatabaseState) (session table : ℕ) (schema : Schema) (rule : IndexRule) (key : List ℕ) → has_key_conflict (settled state) session table schema rule key ≡ has_key_conflict state session table schema rule key
unfolding has_key_conflict
key_alike state session table schema rule key = ap (list_any (λ item. (changed_table item.change == table) && (yields_key rule schema key item.before || yields_key rule schema key item.after))) (concurrent_alike state session)

free_alike : (state : DatabaseState) (session table : ℕ) (schema : Schema) (rows : Rows) (bookmark : List ℕ) (values : RecordFields) → has_free_keys (settled state) session table schema rows bookmark values ≡ has_free_keys state session table schema rows bookmark values
free_alike state session table schema rows bookmark values = λ i. list_all (λ rule. list_all (λ key. not (key_alike state session table schema rule key i || is_taken schema rows rule (Some bookmark) key)) (new_keys rule schema (row_at rows bookmark) values)) (filter is_unique schema.indexes)

view_by : (state : DatabaseState) (session : ℕ) (t : Option Transaction) → view_in (settled state) session t ≡ view_in state session t
view_by state session None = refl
view_by state session (Some t) = ap (tables_after_all t.snapshot) (own_open session state.past)

view_alike : (state : DatabaseState) (session : ℕ) → view (settled state) session ≡ view state session
unfolding view
view_alike state session = view_by state session (transaction_of state session)

put_alike : (state : DatabaseState) (session : ℕ) (table : Table) (rows : Rows) (change : Change) → is_lawful_in (settled state) session table rows change ≡ is_lawful_in state session table rows change
put_alike state session table rows (Put id bookmark copied values) =
    ap (λ free. record_fits table.columns values && not (is_missing_a_value table.columns values) && nat_le (record_size values) 1700 && is_indexable (schema_of table) values && free
    && is_bookmark_of (state.number + 1) (schema_of table) rows (primary_rule (schema_of table)) bookmark values && keeps_escrow table.columns (row_at rows bookmark) values && is_copied_in rows copied)
    (free_alike state session table.id (schema_of table) rows bookmark values)
put_alike state session table rows (Drop id bookmark) = refl
put_alike state session table rows (Hold id bookmark) = refl
put_alike state session table rows (Add id bookmark column amount) = refl

at_alike : (state : DatabaseState) (session : ℕ) (found : Option Table) (change : Change) → is_lawful_at (settled state) session found change ≡ is_lawful_at state session found change
at_alike state session None change = refl
at_alike state session (Some table) change =
    put_alike state session table (rows_of (table_with_id (view (settled state) session) table.id)) change
    ∙ ap (λ tables. is_lawful_in state session table (rows_of (table_with_id tables table.id)) change) (view_alike state session)

change_alike : (state : DatabaseState) (session : ℕ) (change : Change) → is_lawful_change (settled state) session change ≡ is_lawful_change state session change
change_alike state session change = λ i. nat_lt 0 (levels state session) && not (write_alike state session change i) && at_alike state session (table_with_id state.tables (changed_table change)) change i

in_use_alike : (state : DatabaseState) (session : ℕ) (table : Option Table) → is_in_use (settled state) session table ≡ is_in_use state session table
in_use_alike state session None = refl
in_use_alike state session (Some table) = refl

refusals_alike : (state : DatabaseState) (table : Table) (made : SchemaStep) → step_refusals (settled state) table made ≡ step_refusals state table made
refusals_alike state table (step.CreateTable id name) = refl
refusals_alike state table (step.DeleteTable id) = refl
refusals_alike state table (step.AddColumn id column) = refl
refusals_alike state table (step.DeleteColumn id column) = refl
refusals_alike state table (step.CreateIndex id rule) = refl
refusals_alike state table (step.DeleteIndex id index) = refl

schema_alike : (state : DatabaseState) (session : ℕ) (made : SchemaStep) → schema_refusal (settled state) session made ≡ schema_refusal state session made
unfolding schema_refusal
schema_alike state session made =
    let table = step_table state.tables made in
    λ i. first_refusal
    ((not (levels state session == 0), jet.InTransaction)
    ∷ (not (makes_table made) && is_none table, jet.ObjectNotFound)
    ∷ (in_use_alike state session table i, jet.TableInUse)
    ∷ refusals_alike state (unwrap_or table (new_table 0 [])) made i)

next_alike : (state : DatabaseState) (made : SchemaStep) → has_next_numbers (settled state) made ≡ has_next_numbers state made
next_alike state (step.CreateTable table name) = refl
next_alike state (step.DeleteTable table) = refl
next_alike state (step.AddColumn table column) = refl
next_alike state (step.DeleteColumn table column) = refl
next_alike state (step.CreateIndex table rule) = refl
next_alike state (step.DeleteIndex table index) = refl

commit_alike : (state : DatabaseState) (session : ℕ)
    → (state_after (settled state) (record { session = record { 0 = session }; kind = entry.Commit })).tables ≡ (state_after state (record { session = record { 0 = session }; kind = entry.Commit })).tables
unfolding state_after
commit_alike state session = ap (tables_after_all state.tables) (own_open session state.past)

kind_alike : (state : DatabaseState) (session : ℕ) (kind : EntryKind) → is_lawful_kind (settled state) session kind ≡ is_lawful_kind state session kind
kind_alike state session entry.Enter = refl
kind_alike state session entry.Leave = refl
kind_alike state session (entry.Open table) = refl
kind_alike state session (entry.Shut table) = refl
kind_alike state session entry.Begin = refl
kind_alike state session entry.Save = refl
kind_alike state session (entry.Change change) = change_alike state session change
kind_alike state session entry.Release = refl
kind_alike state session entry.Undo = refl
kind_alike state session entry.UndoAll = refl
kind_alike state session entry.Commit = ap (λ tables. (levels state session == 1) && is_unique_throughout tables) (commit_alike state session)
kind_alike state session (entry.Schema made) = λ i. is_live state session && is_none (schema_alike state session made i) && next_alike state made i

pub lawful_alike : (state : DatabaseState) (made : Entry) → is_lawful (settled state) made ≡ is_lawful state made
unfolding is_lawful
lawful_alike state made = ap (λ b. has_number state.number made.kind && b) (kind_alike state made.session.0 made.kind)

-- states that are the same but for undone changes
same_lawful : (state other : DatabaseState) → settled state ≡ settled other → (entries : List Entry) → AreLawful state entries → AreLawful other entries
same_lawful state other e [] h = tt
same_lawful state other e (made ∷ entries) h = (
  sym (lawful_alike other made) ∙ ap (λ (s : DatabaseState). is_lawful s made) (sym e) ∙ lawful_alike state made ∙ h.0,
  same_lawful (state_after state made) (state_after other made) (sym (after_alike state made) ∙ ap (λ (s : DatabaseState). settled (state_after s made)) e ∙ after_alike other made) entries h.1,
)

pub all_alike : (state : DatabaseState) (entries : List Entry) → AreLawful state entries → AreLawful (settled state) entries
all_alike state entries h = same_lawful state (settled state) (sym (settled_again state)) entries h
