-- Lawful entries keep columns with numbers of their own.
use Rattle.std.proofs.Common.{◌≡◌, ℕ, Bool, true, false, not, ◌&&◌, ◌||◌, cond, List, [], ◌∷◌, map, filter, Option, Some, refl, sym, ap, ◌∙◌}
use Rattle.std.specs.Prelude.{◌==◌, IfSome, is_none, unwrap_or}
use Rattle.std.specs.List.{list_all, list_any}
use Rattle.std.proofs.lemmas.Bool.{and_from, eqb-true, not-true}
use Rattle.common_lemmas.proofs.Lists.{all_filtered}
use Rattle.common_lemmas.proofs.Booleans.{and_left, and_right, impossible}
use Rattle.column_set.specs.declared.columns.Column.{Column}
use Rattle.index_derive.specs.declared.log.Entry.{Entry}
use Rattle.index_derive.specs.declared.log.EntryKind.{EntryKind}
use Rattle.index_derive.specs.declared.log.EntryKind.TheVariants as entry
use Rattle.index_derive.specs.declared.schema_calls.SchemaStep.{SchemaStep}
use Rattle.index_derive.specs.declared.schema_calls.SchemaStep.TheVariants as step
use Rattle.column_set.specs.RecordValues.{tagged_if_long}
use Rattle.database_state.proofs.Columns.{has_column_id-tagged, next_column_id-tagged}
use Rattle.database_state.specs.Table.{Table, table_with_id}
use Rattle.database_state.specs.SchemaChanges.{has_column_id, new_table, next_column_id, schema_refusal, tables_after_step, with_column, without_column, with_index, without_index}
use Rattle.database_state.specs.State.{DatabaseState}
use Rattle.database_state.specs.Step.{applied, state_after}
use Rattle.database_state.specs.Lawful.{has_next_numbers, has_number, is_lawful, is_lawful_kind, is_live, is_name}
use Rattle.session_local.specs.SessionSide.{are_distinct}
use Rattle.session_local.specs.WellFormed.{number_of_column}
use Rattle.laws_versions.specs.History.{EachTwo}
use Rattle.laws_versions.specs.KeptSteps.{with_next_number}
use Rattle.laws_versions.specs.TableOrder.{HasTablesInOrder, IdsRise}
use Rattle.laws_versions.proofs.KeyLemmas.SchemaKeys.{at_found, at_table, with_last, without_table}
use Rattle.laws_engine.specs.ColumnNumbers.{are_in_range, has_own_numbers, have_own_numbers, is_given_number}
use Rattle.laws_engine.proofs.LawfulLemmas.ColumnNumbers.{has_own_numbers-with_column}
use Rattle.laws_engine.proofs.LawfulLemmas.TableTests.{all_found, all_listed, definitions_stay, is_schema_entry, tested_alike}

-- ---- columns that go

none_filtered : (number : ℕ) (q : Column → Bool) (columns : List Column) → list_any (λ n. n == number) (map number_of_column columns) ≡ false → list_any (λ n. n == number) (map number_of_column (filter q columns)) ≡ false
none_filtered number q [] h = refl
none_filtered number q (c ∷ columns) h = elim (q c) as (λ b. list_any (λ n. n == number) (map number_of_column (cond b (c ∷ filter q columns) (filter q columns))) ≡ false) [
  | true ↦ neither (c.id.0 == number) _ _ (none_filtered number q columns (later (c.id.0 == number) _ h)) h
  | false ↦ none_filtered number q columns (later (c.id.0 == number) _ h)
]
  where
    later : (a b : Bool) → (a || b) ≡ false → b ≡ false
    later true b e = impossible (sym e)
    later false b e = e

    neither : (a b d : Bool) → d ≡ false → (a || b) ≡ false → (a || d) ≡ false
    neither true b d g e = impossible (sym e)
    neither false b d g e = g

distinct_filtered : (q : Column → Bool) (columns : List Column) → are_distinct (map number_of_column columns) ≡ true → are_distinct (map number_of_column (filter q columns)) ≡ true
distinct_filtered q [] h = refl
distinct_filtered q (c ∷ columns) h =
    let any = list_any (λ n. n == c.id.0) (map number_of_column columns) in
    let rest = distinct_filtered q columns (and_right (not any) (are_distinct (map number_of_column columns)) h) in
    elim (q c) as (λ b. are_distinct (map number_of_column (cond b (c ∷ filter q columns) (filter q columns))) ≡ true) [
      | true ↦ and_from (not (list_any (λ n. n == c.id.0) (map number_of_column (filter q columns)))) (are_distinct (map number_of_column (filter q columns)))
          (ap not (none_filtered c.id.0 q columns (not-true any (and_left (not any) (are_distinct (map number_of_column columns)) h)))) rest
      | false ↦ rest
    ]

-- ---- schema steps

abbrev Numbered : Table → Type 0
Numbered t = has_own_numbers t ≡ true

numbered-without : (column : ℕ) (t : Table) → Numbered t → Numbered (without_column column t)
numbered-without column t h =
    let given = list_all (is_given_number t.greatest) t.columns in
    let distinct = are_distinct (map number_of_column t.columns) in
    let left : List Column = filter (λ c. not (c.id.0 == column)) t.columns in
    let first : (are_in_range t.greatest && given) ≡ true = and_left (are_in_range t.greatest && given) distinct h in
    and_from (are_in_range t.greatest && list_all (is_given_number t.greatest) left) (are_distinct (map number_of_column left))
    (and_from (are_in_range t.greatest) (list_all (is_given_number t.greatest) left) (and_left (are_in_range t.greatest) given first) (all_filtered (is_given_number t.greatest) (λ c. not (c.id.0 == column)) t.columns (and_right (are_in_range t.greatest) given first)))
    (distinct_filtered (λ c. not (c.id.0 == column)) t.columns (and_right (are_in_range t.greatest && given) distinct h))

step_numbered : (state : DatabaseState) (label : ℕ) (made : SchemaStep) → is_none (schema_refusal state label made) ≡ true → has_next_numbers state made ≡ true → ((id : ℕ) → IfSome (table_with_id state.tables id) Numbered)
    → (id : ℕ) → IfSome (table_with_id (tables_after_step state.tables made) id) Numbered
step_numbered state label (step.CreateTable table name) free next h id = with_last Numbered (new_table table.0 name) refl state.tables id (h id)
step_numbered state label (step.DeleteTable table) free next h id = without_table Numbered table.0 state.tables id (h id)
step_numbered state label (step.AddColumn table column) free next h id =
    at_table Numbered table.0 (with_column (tagged_if_long column)) (λ t. refl) state.tables
    (λ t found b. by t (number t found) (denied (has_column_id column.kind column.tagged (next_column_id t.greatest column.kind column.tagged)) (at_found state label (step.AddColumn table column) t free found).1.1.1.1.0) b) h id
  where
    denied : (b : Bool) → not b ≡ false → b ≡ true
    denied true e = refl
    denied false e = sym e

    number : (t : Table) → table_with_id state.tables table.0 ≡ Some t → column.id.0 ≡ next_column_id t.greatest column.kind column.tagged
    number t found =
        eqb-true column.id.0 (next_column_id t.greatest column.kind column.tagged)
        (ap (λ (o : Option Table). column.id.0 == next_column_id (unwrap_or o (new_table 0 [])).greatest column.kind column.tagged) (sym found)
        ∙ and_left (column.id.0 == next_column_id (unwrap_or (table_with_id state.tables table.0) (new_table 0 [])).greatest column.kind column.tagged) (is_name column.name) next)

    by : (t : Table) → column.id.0 ≡ next_column_id t.greatest column.kind column.tagged → has_column_id column.kind column.tagged (next_column_id t.greatest column.kind column.tagged) ≡ true → Numbered t → Numbered (with_column (tagged_if_long column) t)
    by t e f b =
        has_own_numbers-with_column t (tagged_if_long column)
        (record { next = e ∙ sym (next_column_id-tagged t.greatest column.kind column.tagged); has = has_column_id-tagged t.greatest column.kind column.tagged ∙ f }) b
step_numbered state label (step.DeleteColumn table column) free next h id = at_table Numbered table.0 (without_column column.0) (λ t. refl) state.tables (λ t found b. numbered-without column.0 t b) h id
step_numbered state label (step.CreateIndex table rule) free next h id = at_table Numbered table.0 (with_index rule) (λ t. refl) state.tables (λ t found b. b) h id
step_numbered state label (step.DeleteIndex table index) free next h id = at_table Numbered table.0 (without_index index.0) (λ t. refl) state.tables (λ t found b. b) h id

-- ---- any entry

numbers_stay : (state : DatabaseState) (label : ℕ) (kind : EntryKind) → EachTwo IdsRise (applied label kind (with_next_number state)).tables → is_lawful_kind state label kind ≡ true → have_own_numbers state.tables ≡ true
    → have_own_numbers (applied label kind (with_next_number state)).tables ≡ true
numbers_stay state label kind rise e h = by (is_schema_entry kind) refl
  where
    step_of : (k : EntryKind) → is_schema_entry k ≡ true → EachTwo IdsRise (applied label k (with_next_number state)).tables → is_lawful_kind state label k ≡ true → have_own_numbers (applied label k (with_next_number state)).tables ≡ true
    step_of (entry.Schema made) f rise e =
        all_listed has_own_numbers (tables_after_step state.tables made) rise
        (step_numbered state label made (and_right (is_live state label) _ (and_left _ _ e)) (and_right (is_live state label && is_none (schema_refusal state label made)) _ e) (all_found has_own_numbers state.tables h))
    step_of _ f rise e = impossible f

    by : (b : Bool) → is_schema_entry kind ≡ b → have_own_numbers (applied label kind (with_next_number state)).tables ≡ true
    by true f = step_of kind f rise e
    by false f = tested_alike has_own_numbers (λ t. refl) (applied label kind (with_next_number state)).tables state.tables (definitions_stay state label kind f) ∙ h

pub numbers_kept : (state : DatabaseState) (made : Entry) → HasTablesInOrder (state_after state made) → is_lawful state made ≡ true → have_own_numbers state.tables ≡ true → have_own_numbers (state_after state made).tables ≡ true
unfolding is_lawful state_after
numbers_kept state made order e = numbers_stay state made.session.0 made.kind order.ids (and_right (has_number state.number made.kind) _ e)
