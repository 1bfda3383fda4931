-- Which entries may come, in two states of one essence.
use Rattle.std.proofs.Common.{◌≡◌, ℕ, ◌+◌, Bool, true, false, not, ◌&&◌, ◌||◌, cond, List, [], ◌∷◌, Option, Some, None, refl, sym, ap, subst, ◌∙◌}
use Rattle.std.specs.Prelude.{◌==◌, nat_lt, nat_le, filter, is_none, unwrap_or}
use Rattle.std.specs.List.{AllByRecursion, list_all}
use Rattle.std.proofs.lemmas.Bool.{eqb-true}
use Rattle.common_lemmas.proofs.Lists.{all_append, all_filter, all_weaker}
use Rattle.common_lemmas.proofs.Booleans.{and_left, and_right}
use Rattle.jet_base.specs.declared.replies.Jet.TheVariants as jet
use Rattle.column_set.specs.declared.changes.Change.{Change}
use Rattle.column_set.specs.declared.changes.Change.TheVariants.{Put, Drop, Hold, Add}
use Rattle.column_set.specs.RecordValues.{RecordFields, record_fits, record_size, is_missing_a_value}
use Rattle.index_derive.specs.declared.rules.IndexRule.{IndexRule}
use Rattle.index_derive.specs.declared.log.Entry.{Entry}
use Rattle.index_derive.specs.declared.log.EntryKind.{EntryKind}
use Rattle.index_derive.specs.declared.log.EntryKind.TheVariants as entry
use Rattle.index_derive.specs.declared.schema_calls.SchemaStep.{SchemaStep}
use Rattle.index_derive.specs.declared.schema_calls.SchemaStep.TheVariants as step
use Rattle.index_derive.specs.Entries.{is_unique}
use Rattle.column_set.specs.Refusals.{first_refusal}
use Rattle.database_state.specs.Table.{Rows, Table, row_at, rows_of, schema_of, table_with_id}
use Rattle.index_derive.specs.Schemas.{primary_rule}
use Rattle.database_state.specs.Changes.{tables_after_all}
use Rattle.column_set.specs.ChangedRecords.{changed_table}
use Rattle.database_state.specs.SchemaChanges.{is_in_use, makes_table, new_table, schema_refusal, step_refusals, step_table}
use Rattle.database_state.specs.State.{DatabaseState, PastChange, levels}
use Rattle.database_state.specs.View.{view}
use Rattle.database_state.specs.Conflicts.{has_key_conflict}
use Rattle.database_state.specs.Puts.{is_taken, new_keys}
use Rattle.database_state.specs.Lawful.{has_next_numbers, has_number, is_bookmark_of, is_copied_in, is_indexable, is_live, is_lawful, is_lawful_at, is_lawful_change, is_lawful_in, is_lawful_kind, is_unique_throughout, keeps_escrow, has_free_keys}
use Rattle.database_state.specs.Step.{state_after}
use Rattle.laws_engine.specs.PlainIndexes.{reads_no_sum, read_no_sums}
use Rattle.laws_engine.proofs.EquivalentLemmas.Keys.{key_conflict_alike}
use Rattle.laws_engine.proofs.EquivalentLemmas.Reading.{SamePast, own_open_alike, view_alike, with_past, write_conflict_alike}

-- ---- the indexes of a table that is found

all_reads : (table : Table) (rules : List IndexRule) → list_all (reads_no_sum table) rules ≡ true → AllByRecursion (λ rule. reads_no_sum table rule ≡ true) rules
all_reads table [] h = tt
all_reads table (rule ∷ rules) h = (and_left (reads_no_sum table rule) (list_all (reads_no_sum table) rules) h, all_reads table rules (and_right (reads_no_sum table rule) (list_all (reads_no_sum table) rules) h))

just : {X : Type 0} {x y : X} → Some x ≡ Some y → x ≡ y
just {X} {x} e = ap (λ (o : Option X). unwrap_or o x) e

reads_of : (tables : List Table) (id : ℕ) (table : Table) → read_no_sums tables ≡ true → table_with_id tables id ≡ Some table → list_all (reads_no_sum table) table.indexes ≡ true
reads_of [] id table h e = absurd (none e)
  where
    none : None ≡ Some table → ⊥
    none e = cc
reads_of (t ∷ tables) id table h e = by (reads_of tables id table (and_right (list_all (reads_no_sum t) t.indexes) (read_no_sums tables) h)) (t.id == id) e
  where
    by : (table_with_id tables id ≡ Some table → list_all (reads_no_sum table) table.indexes ≡ true) → (b : Bool) → cond b (Some t) (table_with_id tables id) ≡ Some table → list_all (reads_no_sum table) table.indexes ≡ true
    by rest true f = subst (λ (found : Table). list_all (reads_no_sum found) found.indexes ≡ true) (just f) (and_left (list_all (reads_no_sum t) t.indexes) (read_no_sums tables) h)
    by rest false f = rest f

-- the unique indexes of a table, the primary one first
pub unique_reads : (tables : List Table) (id : ℕ) (table : Table) → read_no_sums tables ≡ true → table_with_id tables id ≡ Some table → AllByRecursion (λ rule. reads_no_sum table rule ≡ true) (filter is_unique (schema_of table).indexes)
unique_reads tables id table h e =
    let all = all_reads table table.indexes (reads_of tables id table h e) in
    all_filter (λ rule. reads_no_sum table rule ≡ true) is_unique (schema_of table).indexes
    (all_append (λ rule. reads_no_sum table rule ≡ true) (filter (λ r. r.flags.primary) table.indexes) (filter (λ r. not r.flags.primary) table.indexes)
    (all_filter (λ rule. reads_no_sum table rule ≡ true) (λ r. r.flags.primary) table.indexes all)
    (all_filter (λ rule. reads_no_sum table rule ≡ true) (λ r. not r.flags.primary) table.indexes all))

found_id : (tables : List Table) (id : ℕ) (table : Table) → table_with_id tables id ≡ Some table → table.id ≡ id
found_id [] id table e = absurd (none e)
  where
    none : None ≡ Some table → ⊥
    none e = cc
found_id (t ∷ tables) id table e = by (found_id tables id table) (t.id == id) refl e
  where
    by : (table_with_id tables id ≡ Some table → table.id ≡ id) → (b : Bool) → (t.id == id) ≡ b → cond b (Some t) (table_with_id tables id) ≡ Some table → table.id ≡ id
    by rest true f g = ap (λ (found : Table). found.id) (sym (just g)) ∙ eqb-true t.id id f
    by rest false f g = rest g

-- ---- changes

all_alike : {X : Type 0} (p q : X → Bool) (xs : List X) → AllByRecursion (λ x. p x ≡ q x) xs → list_all p xs ≡ list_all q xs
all_alike p q [] h = refl
all_alike p q (x ∷ xs) h = λ i. h.0 i && all_alike p q xs h.1 i

free_alike : (state : DatabaseState) (past : List PastChange) → SamePast state past → (session : ℕ) (table : Table) → table_with_id state.tables table.id ≡ Some table → read_no_sums state.tables ≡ true
    → (rows : Rows) (bookmark : List ℕ) (values : RecordFields) → has_free_keys state session table.id (schema_of table) rows bookmark values ≡ has_free_keys (with_past state past) session table.id (schema_of table) rows bookmark values
free_alike state past e session table found none rows bookmark values =
    all_alike (free state) (free (with_past state past)) (filter is_unique (schema_of table).indexes)
    (all_weaker (λ rule. reads_no_sum table rule ≡ true) (λ rule. free state rule ≡ free (with_past state past) rule)
    (λ rule plain. λ i. list_all (λ key. not (key_conflict_alike state past e session table.id table found rule plain key i || is_taken (schema_of table) rows rule (Some bookmark) key)) (new_keys rule (schema_of table) (row_at rows bookmark) values))
    (filter is_unique (schema_of table).indexes) (unique_reads state.tables table.id table none found))
  where
    free : DatabaseState → IndexRule → Bool
    free s rule = list_all (λ key. not (has_key_conflict s session table.id (schema_of table) rule key || is_taken (schema_of table) rows rule (Some bookmark) key)) (new_keys rule (schema_of table) (row_at rows bookmark) values)

put_alike : (state : DatabaseState) (past : List PastChange) → SamePast state past → (session : ℕ) (table : Table) → table_with_id state.tables table.id ≡ Some table → read_no_sums state.tables ≡ true
    → (rows : Rows) (change : Change) → is_lawful_in state session table rows change ≡ is_lawful_in (with_past state past) session table rows change
put_alike state past e session table found none rows (Put id bookmark copied values) =
    ap (λ free. record_fits table.columns values
    && not (is_missing_a_value table.columns values)
    && nat_le (record_size values) 1700
    && is_indexable (schema_of table) values
    && free
    && is_bookmark_of (state.number + 1) (schema_of table) rows (primary_rule (schema_of table)) bookmark values
    && keeps_escrow table.columns (row_at rows bookmark) values
    && is_copied_in rows copied) (free_alike state past e session table found none rows bookmark values)
put_alike state past e session table found none rows (Drop id bookmark) = refl
put_alike state past e session table found none rows (Hold id bookmark) = refl
put_alike state past e session table found none rows (Add id bookmark column amount) = refl

change_alike : (state : DatabaseState) (past : List PastChange) → SamePast state past → read_no_sums state.tables ≡ true → (session : ℕ) (change : Change) → is_lawful_change state session change ≡ is_lawful_change (with_past state past) session change
change_alike state past e none session change = λ i.
    nat_lt 0 (levels state session) && not (write_conflict_alike state past e session change i) && by (table_with_id state.tables (changed_table change)) refl i
  where
    by : (found : Option Table) → table_with_id state.tables (changed_table change) ≡ found → is_lawful_at state session found change ≡ is_lawful_at (with_past state past) session found change
    by None f = refl
    by (Some table) f =
        put_alike state past e session table (ap (table_with_id state.tables) (found_id state.tables (changed_table change) table f) ∙ f) none (rows_of (table_with_id (view state session) table.id)) change
        ∙ ap (λ tables. is_lawful_in (with_past state past) session table (rows_of (table_with_id tables table.id)) change) (view_alike state past e session)

-- ---- schema steps

in_use_alike : (state : DatabaseState) (past : List PastChange) (session : ℕ) (table : Option Table) → is_in_use state session table ≡ is_in_use (with_past state past) session table
in_use_alike state past session None = refl
in_use_alike state past session (Some table) = refl

refusals_alike : (state : DatabaseState) (past : List PastChange) (table : Table) (made : SchemaStep) → step_refusals state table made ≡ step_refusals (with_past state past) table made
refusals_alike state past table (step.CreateTable id name) = refl
refusals_alike state past table (step.DeleteTable id) = refl
refusals_alike state past table (step.AddColumn id column) = refl
refusals_alike state past table (step.DeleteColumn id column) = refl
refusals_alike state past table (step.CreateIndex id rule) = refl
refusals_alike state past table (step.DeleteIndex id index) = refl

pub schema_alike : (state : DatabaseState) (past : List PastChange) (session : ℕ) (made : SchemaStep) → schema_refusal state session made ≡ schema_refusal (with_past state past) session made
unfolding schema_refusal
schema_alike state past session made =
    let table = step_table state.tables made in
    λ i. first_refusal
    ((not (levels state session == 0), jet.InTransaction)
    ∷ (not (makes_table made) && is_none table, jet.ObjectNotFound)
    ∷ (in_use_alike state past session table i, jet.TableInUse)
    ∷ refusals_alike state past (unwrap_or table (new_table 0 [])) made i)

next_alike : (state : DatabaseState) (past : List PastChange) (made : SchemaStep) → has_next_numbers state made ≡ has_next_numbers (with_past state past) made
next_alike state past (step.CreateTable table name) = refl
next_alike state past (step.DeleteTable table) = refl
next_alike state past (step.AddColumn table column) = refl
next_alike state past (step.DeleteColumn table column) = refl
next_alike state past (step.CreateIndex table rule) = refl
next_alike state past (step.DeleteIndex table index) = refl

-- ---- entries

-- the committed tables after a commit
commit_alike : (state : DatabaseState) (past : List PastChange) → SamePast state past → (session : ℕ)
    → (state_after state (record { session = record { 0 = session }; kind = entry.Commit })).tables ≡ (state_after (with_past state past) (record { session = record { 0 = session }; kind = entry.Commit })).tables
unfolding state_after
commit_alike state past e session = ap (tables_after_all state.tables) (own_open_alike state past e session)

pub kind_alike : (state : DatabaseState) (past : List PastChange) → SamePast state past → read_no_sums state.tables ≡ true → (session : ℕ) (kind : EntryKind) → is_lawful_kind state session kind ≡ is_lawful_kind (with_past state past) session kind
kind_alike state past e none session entry.Enter = refl
kind_alike state past e none session entry.Leave = refl
kind_alike state past e none session (entry.Open table) = refl
kind_alike state past e none session (entry.Shut table) = refl
kind_alike state past e none session entry.Begin = refl
kind_alike state past e none session entry.Save = refl
kind_alike state past e none session (entry.Change change) = change_alike state past e none session change
kind_alike state past e none session entry.Release = refl
kind_alike state past e none session entry.Undo = refl
kind_alike state past e none session entry.UndoAll = refl
kind_alike state past e none session entry.Commit = ap (λ tables. (levels state session == 1) && is_unique_throughout tables) (commit_alike state past e session)
kind_alike state past e none session (entry.Schema made) = λ i. is_live state session && is_none (schema_alike state past session made i) && next_alike state past made i

pub lawful_alike : (state : DatabaseState) (past : List PastChange) → SamePast state past → read_no_sums state.tables ≡ true → (made : Entry) → is_lawful state made ≡ is_lawful (with_past state past) made
unfolding is_lawful
lawful_alike state past e none made = ap (λ b. has_number state.number made.kind && b) (kind_alike state past e none made.session.0 made.kind)

-- of a schema step, whatever the indexes read
pub lawful_step_alike : (state : DatabaseState) (past : List PastChange) (session : ℕ) (made : SchemaStep)
    → is_lawful state (record { session = record { 0 = session }; kind = entry.Schema made }) ≡ is_lawful (with_past state past) (record { session = record { 0 = session }; kind = entry.Schema made })
unfolding is_lawful
lawful_step_alike state past session made = λ i. has_number state.number (entry.Schema made) && (is_live state session && is_none (schema_alike state past session made i) && next_alike state past made i)
