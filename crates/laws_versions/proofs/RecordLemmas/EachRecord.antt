-- What every record has, as entries and cleans keep it.
use Rattle.std.proofs.Common.{◌≡◌, ℕ, ◌+◌, ◌-◌, Bool, true, false, cond, List, [], ◌∷◌, Option, Some, None, refl, sym, ap, subst, ◌∙◌}
use Rattle.std.specs.Prelude.{ℤ, ◌==◌, filter, fold, map, if◌then◌else◌, nat_lt, option_map, IfSome}
use Rattle.std.specs.List.{AllByRecursion}
use Rattle.std.proofs.lemmas.Bool.{eqb-true}
use Rattle.common_lemmas.proofs.Booleans.{and_left, and_right, impossible}
use Rattle.common_lemmas.proofs.Lists.{all_append, all_map, all_weaker}
use Rattle.common_lemmas.proofs.Numbers.{same_bytes}
use Rattle.column_set.specs.declared.changes.Change.{Change}
use Rattle.column_set.specs.declared.changes.Change.TheVariants.{Put, Drop, Hold, Add}
use Rattle.column_set.specs.RecordValues.{RecordFields}
use Rattle.index_derive.specs.declared.rules.Schema.{Schema}
use Rattle.index_derive.specs.declared.log.EntryKind.{EntryKind}
use Rattle.index_derive.specs.declared.log.EntryKind.TheVariants as entry
use Rattle.database_state.specs.Table.{Rows, Table, row_at, rows_of, schema_of, table_with_id}
use Rattle.database_state.specs.Changes.{is_sum, with_sum, without_copied}
use Rattle.column_set.specs.ChangedRecords.{changed_table, changed_bookmark}
use Rattle.database_state.specs.State.{DatabaseState, PastChange, levels, transaction_of, undone}
use Rattle.database_state.specs.View.{newest, view}
use Rattle.database_state.specs.Step.{applied, every_change, is_at_level, with_changes_at, with_levels, with_transaction}
use Rattle.database_state.specs.Lawful.{is_lawful_at, is_lawful_put}
use Rattle.laws_versions.specs.Records.{Records, after_item, is_change_of, record_after, records_after_items, records_of}
use Rattle.laws_versions.proofs.ChangeLemmas.Folds.{folded-cons}
use Rattle.laws_versions.specs.History.{IsHistory, IsPlaced, without_rows}
use Rattle.laws_versions.specs.KeptSteps.{committed_own, is_own_open, kept_after, lowered_own, new_change, undone_where, with_next_number}
use Rattle.laws_versions.specs.Readers.{is_standing, sees, was_committed}
use Rattle.laws_versions.proofs.HistoryLemmas.Ending.{commit_before, commit_change, lower_before, lower_change}
use Rattle.laws_versions.proofs.HistoryLemmas.Entries.{history_later}
use Rattle.laws_versions.proofs.HistoryLemmas.Keeping.{some_map, undone_change}
use Rattle.laws_versions.proofs.HistoryLemmas.SeenRecords.{newest_records}
use Rattle.laws_versions.proofs.HistoryLemmas.Viewing.{view_records}
use Rattle.laws_versions.specs.Variants.{HasNoSums}
use Rattle.laws_versions.proofs.KeyLemmas.KeysOfEntries.{changes_records, commit_after, lower_after}
use Rattle.laws_versions.proofs.KeyLemmas.UniqueKept.{id_of, same_defined, same_tables, some_at, undone_after, undone_before}
use Rattle.laws_versions.specs.EachRecord.{EachRecordHas, HasBoth}

-- ---- sums

-- a sum leaves what has it
abbrev pub SumKeeps : (RecordFields → Type 0) → Change → Type 0
SumKeeps P (Put table bookmark copied values) = Unit {0}
SumKeeps P (Drop table bookmark) = Unit {0}
SumKeeps P (Hold table bookmark) = Unit {0}
SumKeeps P (Add table bookmark column amount) = (values : RecordFields) → P values → P (with_sum values column.0 amount)

-- so does each sum of its own table's records
abbrev pub SumsKeep : (ℕ → Schema → List ℕ → RecordFields → Type 0) → ℕ → List Table → List PastChange → Type 0
SumsKeep P number tables items = AllByRecursion (λ item. IfSome (table_with_id tables (changed_table item.change)) (λ table. SumKeeps (P number (schema_of table) (changed_bookmark item.change)) item.change)) items

plain_keeps : (P : RecordFields → Type 0) (change : Change) → is_sum change ≡ false → SumKeeps P change
plain_keeps P (Put table bookmark copied values) e = tt
plain_keeps P (Drop table bookmark) e = tt
plain_keeps P (Hold table bookmark) e = tt
plain_keeps P (Add table bookmark column amount) e = impossible (sym e)

pub plain_change_keeps : (P : ℕ → Schema → List ℕ → RecordFields → Type 0) (number : ℕ) (tables : List Table) (change : Change) → is_sum change ≡ false
    → IfSome (table_with_id tables (changed_table change)) (λ table. SumKeeps (P number (schema_of table) (changed_bookmark change)) change)
plain_change_keeps P number tables change e = by (table_with_id tables (changed_table change))
  where
    by : (found : Option Table) → IfSome found (λ table. SumKeeps (P number (schema_of table) (changed_bookmark change)) change)
    by None = tt
    by (Some table) = plain_keeps (P number (schema_of table) (changed_bookmark change)) change e

-- where no escrow column was changed
pub no_sums_keep : (P : ℕ → Schema → List ℕ → RecordFields → Type 0) (number : ℕ) (tables : List Table) (items : List PastChange) → HasNoSums items → SumsKeep P number tables items
no_sums_keep P number tables items none = all_weaker (λ item. is_sum item.change ≡ false) (λ item. IfSome (table_with_id tables (changed_table item.change)) (λ table. SumKeeps (P number (schema_of table) (changed_bookmark item.change)) item.change))
    (λ item e. plain_change_keeps P number tables item.change e) items none

summed : (P : RecordFields → Type 0) (column : ℕ) (amount : ℤ) → ((values : RecordFields) → P values → P (with_sum values column amount)) → (found : Option RecordFields) → IfSome found P → IfSome (option_map (λ values. with_sum values column amount) found) P
summed P column amount keeps None p = tt
summed P column amount keeps (Some values) p = keeps values p

-- ---- the records after changes

one_after : (P : RecordFields → Type 0) (id : ℕ) (bookmark : List ℕ) (item : PastChange) → (is_change_of id bookmark item.change ≡ true → SumKeeps P item.change) → item.after ≡ record_after item.change item.before → (is_change_of id bookmark item.change ≡ true → IfSome item.after P)
    → (records : Records) → IfSome (records id bookmark) P → IfSome (after_item records item id bookmark) P
one_after P id bookmark item sum is after records p =
    elim (is_change_of id bookmark item.change) as (λ b. is_change_of id bookmark item.change ≡ b → IfSome (cond b (record_after item.change (records id bookmark)) (records id bookmark)) P) [
      | true ↦ λ mine. left item.change (sum mine) is (after mine)
      | false ↦ λ other. p
    ] refl
  where
    left : (c : Change) → SumKeeps P c → item.after ≡ record_after c item.before → IfSome item.after P → IfSome (record_after c (records id bookmark)) P
    left (Put table at copied values) keeps made had = subst (λ (o : Option RecordFields). IfSome o P) made had
    left (Drop table at) keeps made had = tt
    left (Hold table at) keeps made had = p
    left (Add table at column amount) keeps made had = summed P column.0 amount keeps (records id bookmark) p

-- a change that is known to leave what has it
abbrev pub Leaves : (RecordFields → Type 0) → ℕ → List ℕ → PastChange → Type 0
Leaves P id bookmark item = (is_change_of id bookmark item.change ≡ true → SumKeeps P item.change) × (item.after ≡ record_after item.change item.before) × (is_change_of id bookmark item.change ≡ true → IfSome item.after P)

pub each_after : (P : RecordFields → Type 0) (test : PastChange → Bool) (id : ℕ) (bookmark : List ℕ) (items : List PastChange) → AllByRecursion (Leaves P id bookmark) items
    → (records : Records) → IfSome (records id bookmark) P → IfSome (records_after_items test records items id bookmark) P
each_after P test id bookmark [] h records p = p
each_after P test id bookmark (item ∷ items) h records p =
    elim (test item) as (λ b. IfSome (fold after_item records (cond b (item ∷ filter test items) (filter test items)) id bookmark) P) [
      | true ↦ each_after P test id bookmark items h.1 (after_item records item) (one_after P id bookmark item h.0.0 h.0.1 h.0.2 records p)
      | false ↦ each_after P test id bookmark items h.1 records p
    ]

-- of the change's own table
at_its : (Q : Table → Type 0) (tables : List Table) (id : ℕ) (table : Table) (item : PastChange) → table_with_id tables id ≡ Some table → changed_table item.change ≡ id → IfSome (table_with_id tables (changed_table item.change)) Q → Q table
at_its Q tables id table item found same h = subst (λ (o : Option Table). IfSome o Q) (ap (table_with_id tables) same ∙ found) h

pub leaves_each : (P : ℕ → Schema → List ℕ → RecordFields → Type 0) (number : ℕ) (tables : List Table) (id : ℕ) (table : Table) → table_with_id tables id ≡ Some table → (bookmark : List ℕ) (items : List PastChange) → SumsKeep P number tables items
    → AllByRecursion (λ item. item.after ≡ record_after item.change item.before) items → AllByRecursion (λ item. IfSome (table_with_id tables (changed_table item.change)) (λ table. HasBoth P number (schema_of table) item)) items
    → AllByRecursion (Leaves (P number (schema_of table) bookmark) id bookmark) items
leaves_each P number tables id table found bookmark [] keeps afters h = tt
leaves_each P number tables id table found bookmark (item ∷ items) keeps afters h = (
  (
    λ mine. subst (λ (at : List ℕ). SumKeeps (P number (schema_of table) at) item.change) (same_bytes (changed_bookmark item.change) bookmark (and_right (changed_table item.change == id) _ mine))
        (at_its (λ t. SumKeeps (P number (schema_of t) (changed_bookmark item.change)) item.change) tables id table item found (eqb-true (changed_table item.change) id (and_left _ _ mine)) keeps.0),
    afters.0,
    λ mine. subst (λ (at : List ℕ). IfSome item.after (P number (schema_of table) at)) (same_bytes (changed_bookmark item.change) bookmark (and_right (changed_table item.change == id) _ mine))
        (at_its (λ t. HasBoth P number (schema_of t) item) tables id table item found (eqb-true (changed_table item.change) id (and_left _ _ mine)) h.0).1,
  ),
  leaves_each P number tables id table found bookmark items keeps.1 afters.1 h.1,
)

pub afters_of : (base : Records) (dropped kept : List PastChange) (state : DatabaseState) → IsHistory base dropped kept state → AllByRecursion (λ item. item.after ≡ record_after item.change item.before) kept
afters_of base dropped kept state h = all_weaker (IsPlaced state.number state.tables (transaction_of state)) (λ item. item.after ≡ record_after item.change item.before) (λ item p. p.3) kept h.keeps.placed

-- what the kept changes leave, if some of them are made
pub each_made : (P : ℕ → Schema → List ℕ → RecordFields → Type 0) (base : Records) (dropped kept : List PastChange) (state : DatabaseState) → IsHistory base dropped kept state → SumsKeep P state.number state.tables kept → EachRecordHas P base kept state → (test : PastChange → Bool) (id : ℕ)
    → IfSome (table_with_id state.tables id) (λ table. (bookmark : List ℕ) → IfSome (records_after_items test base kept id bookmark) (P state.number (schema_of table) bookmark))
each_made P base dropped kept state history keeps h test id =
    some_at (λ table. (bookmark : List ℕ) → IfSome (base id bookmark) (P state.number (schema_of table) bookmark)) (λ table. (bookmark : List ℕ) → IfSome (records_after_items test base kept id bookmark) (P state.number (schema_of table) bookmark)) (table_with_id state.tables id)
    (λ table found first bookmark. each_after (P state.number (schema_of table) bookmark) test id bookmark kept
    (leaves_each P state.number state.tables id table found bookmark kept keeps (afters_of base dropped kept state history) h.changes) base (first bookmark)) (h.at_first id)

-- ---- as the number of entries goes on

-- what was had goes on to be had
abbrev pub GoesOn : (ℕ → Schema → List ℕ → RecordFields → Type 0) → Type 0
GoesOn P = (number : ℕ) (schema : Schema) (bookmark : List ℕ) (values : RecordFields) → P number schema bookmark values → P (number + 1) schema bookmark values

abbrev pub AtFirst : (ℕ → Schema → List ℕ → RecordFields → Type 0) → ℕ → Records → ℕ → Table → Type 0
AtFirst P number base id table = (bookmark : List ℕ) → IfSome (base id bookmark) (P number (schema_of table) bookmark)

abbrev pub AtChange : (ℕ → Schema → List ℕ → RecordFields → Type 0) → ℕ → List Table → PastChange → Type 0
AtChange P number tables item = IfSome (table_with_id tables (changed_table item.change)) (λ table. HasBoth P number (schema_of table) item)

first_goes_on : (P : ℕ → Schema → List ℕ → RecordFields → Type 0) → GoesOn P → (number : ℕ) (base : Records) (tables after : List Table) → map without_rows after ≡ map without_rows tables
    → ((id : ℕ) → IfSome (table_with_id tables id) (AtFirst P number base id)) → (id : ℕ) → IfSome (table_with_id after id) (AtFirst P (number + 1) base id)
first_goes_on P on number base tables after e h id = same_defined (AtFirst P (number + 1) base id) (λ t p. p) (λ t p. p) after tables e id
    (some_map (AtFirst P number base id) (AtFirst P (number + 1) base id)
    (λ t first bookmark. some_map (P number (schema_of t) bookmark) (P (number + 1) (schema_of t) bookmark) (on number (schema_of t) bookmark) (base id bookmark) (first bookmark)) (table_with_id tables id) (h id))

both_goes_on : (P : ℕ → Schema → List ℕ → RecordFields → Type 0) → GoesOn P → (number : ℕ) (schema : Schema) (item : PastChange) → HasBoth P number schema item → HasBoth P (number + 1) schema item
both_goes_on P on number schema item h = (
  some_map (P number schema (changed_bookmark item.change)) (P (number + 1) schema (changed_bookmark item.change)) (on number schema (changed_bookmark item.change)) item.before h.0,
  some_map (P number schema (changed_bookmark item.change)) (P (number + 1) schema (changed_bookmark item.change)) (on number schema (changed_bookmark item.change)) item.after h.1,
)

change_goes_on : (P : ℕ → Schema → List ℕ → RecordFields → Type 0) → GoesOn P → (number : ℕ) (tables after : List Table) → map without_rows after ≡ map without_rows tables → (item : PastChange) → AtChange P number tables item → AtChange P (number + 1) after item
change_goes_on P on number tables after e item h = same_defined (λ t. HasBoth P (number + 1) (schema_of t) item) (λ t p. p) (λ t p. p) after tables e (changed_table item.change)
    (some_map (λ t. HasBoth P number (schema_of t) item) (λ t. HasBoth P (number + 1) (schema_of t) item) (λ t. both_goes_on P on number (schema_of t) item) (table_with_id tables (changed_table item.change)) h)

-- ---- entries that change no record

-- a change becomes another of the same records
abbrev pub KeepsRecords : (PastChange → PastChange) → Type 0
KeepsRecords f = (item : PastChange) → ((f item).change ≡ item.change) × ((f item).before ≡ item.before) × ((f item).after ≡ item.after)

abbrev Of : (ℕ → Schema → List ℕ → RecordFields → Type 0) → ℕ → List Table → Change → Option RecordFields → Option RecordFields → Type 0
Of P number tables c before after = IfSome (table_with_id tables (changed_table c)) (λ table. IfSome before (P number (schema_of table) (changed_bookmark c)) × IfSome after (P number (schema_of table) (changed_bookmark c)))

of_same : (P : ℕ → Schema → List ℕ → RecordFields → Type 0) (number : ℕ) (tables : List Table) (f : PastChange → PastChange) → KeepsRecords f → (item : PastChange) → AtChange P number tables item → AtChange P number tables (f item)
of_same P number tables f keeps item h =
    subst (λ (c : Change). Of P number tables c (f item).before (f item).after) (sym (keeps item).0)
    (subst (λ (b : Option RecordFields). Of P number tables item.change b (f item).after) (sym (keeps item).1)
    (subst (λ (a : Option RecordFields). Of P number tables item.change item.before a) (sym (keeps item).2) h))

each_mapped : (P : ℕ → Schema → List ℕ → RecordFields → Type 0) → GoesOn P → (base : Records) (kept : List PastChange) (state after : DatabaseState) → after.number ≡ state.number + 1 → map without_rows after.tables ≡ map without_rows state.tables
    → (f : PastChange → PastChange) → KeepsRecords f → EachRecordHas P base kept state → EachRecordHas P base (map f kept) after
each_mapped P on base kept state after number tables f keeps h = record {
  at_first = λ id. subst (λ (n : ℕ). IfSome (table_with_id after.tables id) (AtFirst P n base id)) (sym number) (first_goes_on P on state.number base state.tables after.tables tables h.at_first id);
  changes = all_map (AtChange P after.number after.tables) f kept (all_weaker (AtChange P state.number state.tables) (λ item. AtChange P after.number after.tables (f item))
      (λ item c. subst (λ (n : ℕ). AtChange P n after.tables (f item)) (sym number) (of_same P (state.number + 1) after.tables f keeps item (change_goes_on P on state.number state.tables after.tables tables item c))) kept h.changes);
}

each_same : (P : ℕ → Schema → List ℕ → RecordFields → Type 0) → GoesOn P → (base : Records) (kept : List PastChange) (state after : DatabaseState) → after.number ≡ state.number + 1 → map without_rows after.tables ≡ map without_rows state.tables
    → EachRecordHas P base kept state → EachRecordHas P base kept after
each_same P on base kept state after number tables h = record {
  at_first = λ id. subst (λ (n : ℕ). IfSome (table_with_id after.tables id) (AtFirst P n base id)) (sym number) (first_goes_on P on state.number base state.tables after.tables tables h.at_first id);
  changes = all_weaker (AtChange P state.number state.tables) (AtChange P after.number after.tables)
      (λ item c. subst (λ (n : ℕ). AtChange P n after.tables item) (sym number) (change_goes_on P on state.number state.tables after.tables tables item c)) kept h.changes;
}

pub undone_keeps : (gone : PastChange → Bool) → KeepsRecords (undone_where gone)
undone_keeps gone item = (undone_change gone item, undone_before gone item, undone_after gone item)

pub lower_keeps : (label level : ℕ) → KeepsRecords (lowered_own label level)
lower_keeps label level item = (lower_change label level item, lower_before label level item, lower_after label level item)

pub commit_keeps : (label number : ℕ) → KeepsRecords (committed_own label number)
commit_keeps label number item = (commit_change label number item, commit_before label number item, commit_after label number item)

undo_number : (state : DatabaseState) (label : ℕ) → (applied label entry.Undo (with_next_number state)).number ≡ state.number + 1
undo_number state label = elim (nat_lt 1 (levels state label)) as (λ b. (cond b (with_levels label (λ n. n - 1) undoing) (with_transaction label None undoing)).number ≡ state.number + 1) [ true ↦ refl | false ↦ refl ]
  where
    undoing : DatabaseState
    undoing = with_changes_at label (is_at_level (levels state label)) (λ item. record item { status = undone }) (with_next_number state)

pub each_by_kind : (P : ℕ → Schema → List ℕ → RecordFields → Type 0) → GoesOn P → (base : Records) (kept : List PastChange) (state : DatabaseState) (label : ℕ) (kind : EntryKind) → changes_records kind ≡ false
    → EachRecordHas P base kept state → EachRecordHas P base (kept_after state label kind kept) (applied label kind (with_next_number state))
each_by_kind P on base kept state label entry.Enter plain h = each_same P on base kept state (applied label entry.Enter (with_next_number state)) refl refl h
each_by_kind P on base kept state label entry.Leave plain h = each_mapped P on base kept state (applied label entry.Leave (with_next_number state)) refl refl (undone_where (is_own_open label every_change)) (undone_keeps (is_own_open label every_change)) h
each_by_kind P on base kept state label (entry.Open opened) plain h = each_same P on base kept state (applied label (entry.Open opened) (with_next_number state)) refl refl h
each_by_kind P on base kept state label (entry.Shut opened) plain h = each_same P on base kept state (applied label (entry.Shut opened) (with_next_number state)) refl refl h
each_by_kind P on base kept state label entry.Begin plain h = each_same P on base kept state (applied label entry.Begin (with_next_number state)) refl refl h
each_by_kind P on base kept state label entry.Save plain h = each_same P on base kept state (applied label entry.Save (with_next_number state)) refl refl h
each_by_kind P on base kept state label (entry.Change change) plain h = impossible (sym plain)
each_by_kind P on base kept state label entry.Release plain h =
    each_mapped P on base kept state (applied label entry.Release (with_next_number state)) refl refl (lowered_own label (levels state label)) (lower_keeps label (levels state label)) h
each_by_kind P on base kept state label entry.Undo plain h =
    each_mapped P on base kept state (applied label entry.Undo (with_next_number state)) (undo_number state label) (same_tables state label entry.Undo refl)
    (undone_where (is_own_open label (is_at_level (levels state label)))) (undone_keeps (is_own_open label (is_at_level (levels state label)))) h
each_by_kind P on base kept state label entry.UndoAll plain h = each_mapped P on base kept state (applied label entry.UndoAll (with_next_number state)) refl refl (undone_where (is_own_open label every_change)) (undone_keeps (is_own_open label every_change)) h
each_by_kind P on base kept state label entry.Commit plain h =
    each_mapped P on base kept state (applied label entry.Commit (with_next_number state)) refl (same_tables state label entry.Commit refl) (committed_own label (state.number + 1)) (commit_keeps label (state.number + 1)) h
each_by_kind P on base kept state label (entry.Schema made) plain h = impossible (sym plain)

-- ---- a change

-- what a lawful put gives, where the records that its session sees have it
abbrev pub PutsHave : (ℕ → Schema → List ℕ → RecordFields → Type 0) → DatabaseState → ℕ → Type 0
PutsHave P state label = (table : Table) (rows : Rows) (bookmark : List ℕ) (copied : Option (List ℕ)) (values : RecordFields) → table_with_id state.tables table.id ≡ Some table
    → ((at : List ℕ) → IfSome (row_at rows at) (P state.number (schema_of table) at)) → is_lawful_put state label table rows bookmark copied values ≡ true → P (state.number + 1) (schema_of table) bookmark values

-- what the put of a change gives, if it is one
abbrev pub PutHas : (ℕ → Schema → List ℕ → RecordFields → Type 0) → DatabaseState → ℕ → Change → Type 0
PutHas P state label (Put id bookmark copied values) = (table : Table) (rows : Rows) → table_with_id state.tables table.id ≡ Some table
    → ((at : List ℕ) → IfSome (row_at rows at) (P state.number (schema_of table) at)) → is_lawful_put state label table rows bookmark copied values ≡ true → P (state.number + 1) (schema_of table) bookmark values
PutHas P state label (Drop id bookmark) = Unit {0}
PutHas P state label (Hold id bookmark) = Unit {0}
PutHas P state label (Add id bookmark column amount) = Unit {0}

pub any_put : (P : ℕ → Schema → List ℕ → RecordFields → Type 0) (state : DatabaseState) (label : ℕ) → PutsHave P state label → (change : Change) → PutHas P state label change
any_put P state label puts (Put id bookmark copied values) = λ table rows found had lawful. puts table rows bookmark copied values found had lawful
any_put P state label puts (Drop id bookmark) = tt
any_put P state label puts (Hold id bookmark) = tt
any_put P state label puts (Add id bookmark column amount) = tt

-- what a session sees has it
pub each_viewed : (P : ℕ → Schema → List ℕ → RecordFields → Type 0) (base : Records) (dropped kept : List PastChange) (state : DatabaseState) → IsHistory base dropped kept state → SumsKeep P state.number state.tables kept → EachRecordHas P base kept state → (session id : ℕ)
    → IfSome (table_with_id state.tables id) (λ table. (bookmark : List ℕ) → IfSome (records_of (view state session) id bookmark) (P state.number (schema_of table) bookmark))
each_viewed P base dropped kept state history keeps h session id =
    subst (λ (r : Records). IfSome (table_with_id state.tables id) (λ table. (bookmark : List ℕ) → IfSome (r id bookmark) (P state.number (schema_of table) bookmark)))
    (sym (view_records base dropped kept state history session)) (each_made P base dropped kept state history keeps h (sees session (transaction_of state session)) id)

pub each_seen : (P : ℕ → Schema → List ℕ → RecordFields → Type 0) (base : Records) (dropped kept : List PastChange) (state : DatabaseState) → IsHistory base dropped kept state → HasNoSums kept → EachRecordHas P base kept state → (session id : ℕ)
    → IfSome (table_with_id state.tables id) (λ table. (bookmark : List ℕ) → IfSome (records_of (view state session) id bookmark) (P state.number (schema_of table) bookmark))
each_seen P base dropped kept state history none h session id = each_viewed P base dropped kept state history (no_sums_keep P state.number state.tables kept none) h session id

seen_at : (P : ℕ → Schema → List ℕ → RecordFields → Type 0) (base : Records) (dropped kept : List PastChange) (state : DatabaseState) → IsHistory base dropped kept state → SumsKeep P state.number state.tables kept → EachRecordHas P base kept state → (session : ℕ)
    → (table : Table) → table_with_id state.tables table.id ≡ Some table → (at : List ℕ) → IfSome (row_at (rows_of (table_with_id (view state session) table.id)) at) (P state.number (schema_of table) at)
seen_at P base dropped kept state history keeps h session table found =
    subst (λ (o : Option Table). IfSome o (λ table_found. (bookmark : List ℕ) → IfSome (records_of (view state session) table.id bookmark) (P state.number (schema_of table_found) bookmark))) found
    (each_viewed P base dropped kept state history keeps h session table.id)

-- the record before a change
had_before : (P : ℕ → Schema → List ℕ → RecordFields → Type 0) → GoesOn P → (base : Records) (dropped kept : List PastChange) (state : DatabaseState) → IsHistory base dropped kept state → SumsKeep P state.number state.tables kept → EachRecordHas P base kept state → (id : ℕ) (bookmark : List ℕ)
    → IfSome (table_with_id state.tables id) (λ table. IfSome (records_of (newest (with_next_number state)) id bookmark) (P (state.number + 1) (schema_of table) bookmark))
had_before P on base dropped kept state history keeps h id bookmark =
    some_map (λ table. (at : List ℕ) → IfSome (records_after_items is_standing base kept id at) (P state.number (schema_of table) at))
    (λ table. IfSome (records_of (newest (with_next_number state)) id bookmark) (P (state.number + 1) (schema_of table) bookmark))
    (λ table made. subst (λ (r : Records). IfSome (r id bookmark) (P (state.number + 1) (schema_of table) bookmark)) (sym (newest_records base dropped kept (with_next_number state) (history_later base dropped kept state history)))
    (some_map (P state.number (schema_of table) bookmark) (P (state.number + 1) (schema_of table) bookmark) (on state.number (schema_of table) bookmark) (records_after_items is_standing base kept id bookmark) (made bookmark)))
    (table_with_id state.tables id) (each_made P base dropped kept state history keeps h is_standing id)

new_has : (P : ℕ → Schema → List ℕ → RecordFields → Type 0) → GoesOn P → (base : Records) (dropped kept : List PastChange) (state : DatabaseState) (label : ℕ) (change : Change) → IsHistory base dropped kept state → SumsKeep P state.number state.tables kept
    → IfSome (table_with_id state.tables (changed_table change)) (λ table. SumKeeps (P (state.number + 1) (schema_of table) (changed_bookmark change)) change)
    → is_lawful_at state label (table_with_id state.tables (changed_table change)) change ≡ true → PutHas P state label change
    → (new_change label change (with_next_number state)).after ≡ record_after (without_copied change) (new_change label change (with_next_number state)).before
    → EachRecordHas P base kept state → AtChange P (state.number + 1) state.tables (new_change label change (with_next_number state))
new_has P on base dropped kept state label (Put id bookmark copied values) history keeps sum lawful puts after h =
    some_at (λ table. IfSome (records_of (newest (with_next_number state)) id.0 bookmark) (P (state.number + 1) (schema_of table) bookmark))
    (λ table. HasBoth P (state.number + 1) (schema_of table) (new_change label (Put id bookmark copied values) (with_next_number state))) (table_with_id state.tables id.0)
    (λ table found before.
    let itself : table_with_id state.tables table.id ≡ Some table = ap (table_with_id state.tables) (id_of state.tables id.0 table found) ∙ found in (
      before,
      subst (λ (o : Option RecordFields). IfSome o (P (state.number + 1) (schema_of table) bookmark)) (sym after)
          (puts table (rows_of (table_with_id (view state label) table.id)) itself (seen_at P base dropped kept state history keeps h label table itself)
          (ap (λ (o : Option Table). is_lawful_at state label o (Put id bookmark copied values)) (sym found) ∙ lawful)),
    ))
    (had_before P on base dropped kept state history keeps h id.0 bookmark)
new_has P on base dropped kept state label (Drop id bookmark) history keeps sum lawful puts after h =
    some_map (λ table. IfSome (records_of (newest (with_next_number state)) id.0 bookmark) (P (state.number + 1) (schema_of table) bookmark))
    (λ table. HasBoth P (state.number + 1) (schema_of table) (new_change label (Drop id bookmark) (with_next_number state)))
    (λ table before. (before, subst (λ (o : Option RecordFields). IfSome o (P (state.number + 1) (schema_of table) bookmark)) (sym after) tt))
    (table_with_id state.tables id.0) (had_before P on base dropped kept state history keeps h id.0 bookmark)
new_has P on base dropped kept state label (Hold id bookmark) history keeps sum lawful puts after h =
    some_map (λ table. IfSome (records_of (newest (with_next_number state)) id.0 bookmark) (P (state.number + 1) (schema_of table) bookmark))
    (λ table. HasBoth P (state.number + 1) (schema_of table) (new_change label (Hold id bookmark) (with_next_number state)))
    (λ table before. (before, subst (λ (o : Option RecordFields). IfSome o (P (state.number + 1) (schema_of table) bookmark)) (sym after) before))
    (table_with_id state.tables id.0) (had_before P on base dropped kept state history keeps h id.0 bookmark)
new_has P on base dropped kept state label (Add id bookmark column amount) history keeps sum lawful puts after h =
    some_at (λ table. IfSome (records_of (newest (with_next_number state)) id.0 bookmark) (P (state.number + 1) (schema_of table) bookmark))
    (λ table. HasBoth P (state.number + 1) (schema_of table) (new_change label (Add id bookmark column amount) (with_next_number state))) (table_with_id state.tables id.0)
    (λ table found before. (
      before,
      subst (λ (o : Option RecordFields). IfSome o (P (state.number + 1) (schema_of table) bookmark)) (sym after)
          (summed (P (state.number + 1) (schema_of table) bookmark) column.0 amount (subst (λ (o : Option Table). IfSome o (λ t. SumKeeps (P (state.number + 1) (schema_of t) bookmark) (Add id bookmark column amount))) found sum)
          (new_change label (Add id bookmark column amount) (with_next_number state)).before before),
    ))
    (had_before P on base dropped kept state history keeps h id.0 bookmark)

pub each_changed : (P : ℕ → Schema → List ℕ → RecordFields → Type 0) → GoesOn P → (base : Records) (dropped kept : List PastChange) (state : DatabaseState) (label : ℕ) (change : Change) → IsHistory base dropped kept state → SumsKeep P state.number state.tables kept
    → IfSome (table_with_id state.tables (changed_table change)) (λ table. SumKeeps (P (state.number + 1) (schema_of table) (changed_bookmark change)) change)
    → is_lawful_at state label (table_with_id state.tables (changed_table change)) change ≡ true → PutHas P state label change
    → (new_change label change (with_next_number state)).after ≡ record_after (without_copied change) (new_change label change (with_next_number state)).before
    → EachRecordHas P base kept state → EachRecordHas P base (kept_after state label (entry.Change change) kept) (applied label (entry.Change change) (with_next_number state))
each_changed P on base dropped kept state label change history keeps sum lawful puts after h = record {
  at_first = first_goes_on P on state.number base state.tables state.tables refl h.at_first;
  changes = all_append (AtChange P (state.number + 1) state.tables) kept (new_change label change (with_next_number state) ∷ [])
      (all_weaker (AtChange P state.number state.tables) (AtChange P (state.number + 1) state.tables) (change_goes_on P on state.number state.tables state.tables refl) kept h.changes)
      (new_has P on base dropped kept state label change history keeps sum lawful puts after h, tt);
}

-- ---- tables without changes

abbrev pub RowsHave : (ℕ → Schema → List ℕ → RecordFields → Type 0) → ℕ → List Table → Type 0
RowsHave P number tables = (id : ℕ) → IfSome (table_with_id tables id) (λ table. (bookmark : List ℕ) → IfSome (row_at table.rows bookmark) (P number (schema_of table) bookmark))

pub each_row : (P : ℕ → Schema → List ℕ → RecordFields → Type 0) (base : Records) (dropped kept : List PastChange) (state : DatabaseState) → IsHistory base dropped kept state → SumsKeep P state.number state.tables kept → EachRecordHas P base kept state → RowsHave P state.number state.tables
each_row P base dropped kept state history keeps h id =
    some_at (λ table. (bookmark : List ℕ) → IfSome (records_after_items (was_committed None) base kept id bookmark) (P state.number (schema_of table) bookmark))
    (λ table. (bookmark : List ℕ) → IfSome (row_at table.rows bookmark) (P state.number (schema_of table) bookmark)) (table_with_id state.tables id)
    (λ table found made bookmark. subst (λ (o : Option RecordFields). IfSome o (P state.number (schema_of table) bookmark))
    (sym (ap (λ (r : Records). r id bookmark) history.keeps.committed) ∙ ap (λ (o : Option Table). row_at (rows_of o) bookmark) found) (made bookmark))
    (each_made P base dropped kept state history keeps h (was_committed None) id)

pub each_begun : (P : ℕ → Schema → List ℕ → RecordFields → Type 0) (state : DatabaseState) → RowsHave P state.number state.tables → EachRecordHas P (records_of state.tables) [] state
each_begun P state h = record {
  at_first = λ id. some_at (λ table. (bookmark : List ℕ) → IfSome (row_at table.rows bookmark) (P state.number (schema_of table) bookmark)) (AtFirst P state.number (records_of state.tables) id) (table_with_id state.tables id)
      (λ table found rows bookmark. subst (λ (o : Option RecordFields). IfSome o (P state.number (schema_of table) bookmark)) (sym (ap (λ (o : Option Table). row_at (rows_of o) bookmark) found)) (rows bookmark)) (h id);
  changes = tt;
}

-- ---- a clean

pub each_cleaned_where : (P : ℕ → Schema → List ℕ → RecordFields → Type 0) (base : Records) (dropped : List PastChange) (item : PastChange) (kept : List PastChange) (state : DatabaseState) → IsHistory base dropped (item ∷ kept) state → SumsKeep P state.number state.tables (item ∷ kept)
    → EachRecordHas P base (item ∷ kept) state → EachRecordHas P (if is_standing item then after_item base item else base) kept state
each_cleaned_where P base dropped item kept state history keeps h = record {
  at_first = λ id. some_at (AtFirst P state.number base id) (AtFirst P state.number (if is_standing item then after_item base item else base) id) (table_with_id state.tables id)
      (λ table found first bookmark. subst (λ (r : Records). IfSome (r id bookmark) (P state.number (schema_of table) bookmark)) (folded-cons is_standing base item [])
      (each_after (P state.number (schema_of table) bookmark) is_standing id bookmark (item ∷ [])
      (leaves_each P state.number state.tables id table found bookmark (item ∷ []) (keeps.0, tt) ((afters_of base dropped (item ∷ kept) state history).0, tt) (h.changes.0, tt)) base (first bookmark))) (h.at_first id);
  changes = h.changes.1;
}

pub each_cleaned : (P : ℕ → Schema → List ℕ → RecordFields → Type 0) (base : Records) (dropped : List PastChange) (item : PastChange) (kept : List PastChange) (state : DatabaseState) → IsHistory base dropped (item ∷ kept) state → HasNoSums (item ∷ kept)
    → EachRecordHas P base (item ∷ kept) state → EachRecordHas P (if is_standing item then after_item base item else base) kept state
each_cleaned P base dropped item kept state history none h = each_cleaned_where P base dropped item kept state history (no_sums_keep P state.number state.tables (item ∷ kept) none) h
