-- What is the same for tables with and without their records.
use Rattle.std.proofs.Common.{◌≡◌, ℕ, Bool, true, false, ◌&&◌, cond, List, [], ◌∷◌, ◌++◌, length, map, Option, Some, None, Result, refl, sym, ap, ◌∙◌}
use Rattle.std.specs.Prelude.{◌==◌, not, ◌||◌, nat_le, find, filter, option_map, unwrap_or, bytes_eq, is_none, is_some}
use Rattle.jet_base.specs.declared.replies.Jet.{Jet}
use Rattle.jet_base.specs.declared.replies.Jet.TheVariants as jet
use Rattle.column_set.specs.RecordValues.{tagged_if_long}
use Rattle.index_derive.specs.declared.schema_calls.SchemaCall.{SchemaCall}
use Rattle.index_derive.specs.declared.schema_calls.SchemaCall.TheVariants as call
use Rattle.index_derive.specs.declared.schema_calls.SchemaStep.{SchemaStep}
use Rattle.index_derive.specs.declared.schema_calls.SchemaStep.TheVariants as step
use Rattle.database_state.specs.Table.{Table, table_named, table_with_id, with_table}
use Rattle.database_state.specs.State.{DatabaseState}
use Rattle.database_state.specs.Step.{with_schema_step}
use Rattle.database_state.specs.SchemaChanges.{new_table, with_column, without_column, with_index, without_index, schema_refusals, makes_table}
use Rattle.database_state.specs.SchemaSteps.{step_of_call, table_step, asked_column, asked_index, column_id_named, index_id_named}
use Rattle.jet_catalog.specs.Catalog.{CatalogState, without_rows, catalog_of, database_of, catalog_after, ids_rise}
use Rattle.jet_catalog.specs.Decisions.{answer, decided}

find-without_rows : (p : Table → Bool) → ((t : Table) → p (without_rows t) ≡ p t) → (tables : List Table) → find p (map without_rows tables) ≡ option_map without_rows (find p tables)
find-without_rows p same [] = refl
find-without_rows p same (t ∷ tables) =
    rw (same t) (elim (p t) as (λ b. cond b (Some (without_rows t)) (find p (map without_rows tables)) ≡ option_map without_rows (cond b (Some t) (find p tables))) [
      | true ↦ refl
      | false ↦ find-without_rows p same tables
    ])

pub table_named-without_rows : (tables : List Table) (name : List ℕ) → table_named (map without_rows tables) name ≡ option_map without_rows (table_named tables name)
table_named-without_rows tables name = find-without_rows (λ t. bytes_eq t.name name) (λ t. refl) tables

pub table_with_id-without_rows : (tables : List Table) (id : ℕ) → table_with_id (map without_rows tables) id ≡ option_map without_rows (table_with_id tables id)
table_with_id-without_rows tables id = find-without_rows (λ t. t.id == id) (λ t. refl) tables

pub ids_rise-without_rows : (low high : ℕ) (tables : List Table) → ids_rise low high (map without_rows tables) ≡ ids_rise low high tables
ids_rise-without_rows low high [] = refl
ids_rise-without_rows low high (t ∷ tables) = rw (ids_rise-without_rows t.id high tables)

length-without_rows : (tables : List Table) → length (map without_rows tables) ≡ length tables
length-without_rows [] = refl
length-without_rows (t ∷ tables) = rw (length-without_rows tables)

-- ---- steps

append-without_rows : (tables others : List Table) → map without_rows tables ++ map without_rows others ≡ map without_rows (tables ++ others)
append-without_rows [] others = refl
append-without_rows (t ∷ tables) others = ap (λ rest. without_rows t ∷ rest) (append-without_rows tables others)

filter-without_rows : (p : Table → Bool) → ((t : Table) → p (without_rows t) ≡ p t) → (tables : List Table) → filter p (map without_rows tables) ≡ map without_rows (filter p tables)
filter-without_rows p same [] = refl
filter-without_rows p same (t ∷ tables) =
    rw (same t) (elim (p t) as (λ b. cond b (without_rows t ∷ filter p (map without_rows tables)) (filter p (map without_rows tables)) ≡ map without_rows (cond b (t ∷ filter p tables) (filter p tables))) [
      | true ↦ ap (λ rest. without_rows t ∷ rest) (filter-without_rows p same tables)
      | false ↦ filter-without_rows p same tables
    ])

changed-without_rows : (b : Bool) (change : Table → Table) → ((t : Table) → change (without_rows t) ≡ without_rows (change t)) → (t : Table) → cond b (change (without_rows t)) (without_rows t) ≡ without_rows (cond b (change t) t)
changed-without_rows true change same t = same t
changed-without_rows false change same t = refl

with_table-without_rows : (id : ℕ) (change : Table → Table) → ((t : Table) → change (without_rows t) ≡ without_rows (change t)) → (tables : List Table) → with_table id change (map without_rows tables) ≡ map without_rows (with_table id change tables)
with_table-without_rows id change same [] = refl
with_table-without_rows id change same (t ∷ tables) =
    ap (λ head. head ∷ with_table id change (map without_rows tables)) (changed-without_rows (t.id == id) change same t)
    ∙ ap (λ rest. without_rows (cond (t.id == id) (change t) t) ∷ rest) (with_table-without_rows id change same tables)

abbrev catalog : ℕ → List Table → CatalogState
catalog greatest tables = record { greatest_table = greatest; tables = tables }

pub catalog_after-without_rows : (state : DatabaseState) (made : SchemaStep) → catalog_after (catalog_of state) made ≡ catalog_of (with_schema_step made state)
catalog_after-without_rows state (step.CreateTable table name) = ap (catalog table.0) (append-without_rows state.tables (new_table table.0 name ∷ []))
catalog_after-without_rows state (step.DeleteTable table) = ap (catalog state.greatest_table) (filter-without_rows (λ t. not (t.id == table.0)) (λ t. refl) state.tables)
catalog_after-without_rows state (step.AddColumn table column) = ap (catalog state.greatest_table) (with_table-without_rows table.0 (with_column (tagged_if_long column)) (λ t. refl) state.tables)
catalog_after-without_rows state (step.DeleteColumn table column) = ap (catalog state.greatest_table) (with_table-without_rows table.0 (without_column column.0) (λ t. refl) state.tables)
catalog_after-without_rows state (step.CreateIndex table rule) = ap (catalog state.greatest_table) (with_table-without_rows table.0 (with_index rule) (λ t. refl) state.tables)
catalog_after-without_rows state (step.DeleteIndex table index) = ap (catalog state.greatest_table) (with_table-without_rows table.0 (without_index index.0) (λ t. refl) state.tables)

-- ---- calls

-- what is computed of the table of a name, reading no record
same_found : {X : Type 0} (f : Option Table → X) → ((t : Table) → f (Some (without_rows t)) ≡ f (Some t)) → (tables : List Table) (name : List ℕ) → f (table_named (map without_rows tables) name) ≡ f (table_named tables name)
same_found f same tables name =
    ap f (table_named-without_rows tables name)
    ∙ elim (table_named tables name) as (λ found. f (option_map without_rows found) ≡ f found) [ Some t ↦ same t | None ↦ refl ]

abbrev found : Option Table → Table
found table = unwrap_or table (new_table 0 [])

pub step-without_rows : (state : DatabaseState) (asked : SchemaCall) → step_of_call (database_of (catalog_of state)) asked ≡ step_of_call state asked
step-without_rows state (call.CreateTable table) = refl
step-without_rows state (call.DeleteTable table) = same_found (λ t. step.DeleteTable (record { 0 = (found t).id })) (λ t. refl) state.tables table
step-without_rows state (call.AddColumn table column kind flags) =
    same_found (λ t. step.AddColumn (record { 0 = (found t).id }) (asked_column (found t) column kind flags)) (λ t. refl) state.tables table
step-without_rows state (call.DeleteColumn table column) =
    same_found (λ t. step.DeleteColumn (record { 0 = (found t).id }) (record { 0 = column_id_named (found t).columns column })) (λ t. refl) state.tables table
step-without_rows state (call.CreateIndex table index flags key_most segments conditions) =
    same_found (λ t. step.CreateIndex (record { 0 = (found t).id }) (asked_index (found t) index flags key_most segments conditions)) (λ t. refl) state.tables table
step-without_rows state (call.DeleteIndex table index) =
    same_found (λ t. step.DeleteIndex (record { 0 = (found t).id }) (record { 0 = index_id_named (found t).indexes index })) (λ t. refl) state.tables table

-- what is decided of a call whose step is this, on the table of its name
abbrev decision : DatabaseState → Bool → (Table → SchemaStep) → Option Table → Result SchemaStep Jet
decision state holds_records made t =
    answer ((not (makes_table (made (found t))) && is_none t, jet.ObjectNotFound) ∷ schema_refusals state holds_records (found t) (made (found t))) (made (found t))

abbrev made_table : DatabaseState → List ℕ → Bool → Result SchemaStep Jet
made_table state name taken =
    answer ((taken, jet.TableDuplicate) ∷ (nat_le 64 (length state.tables) || nat_le 4294967295 state.greatest_table, jet.OutOfObjectIDs) ∷ []) (table_step state name)

pub decided-without_rows : (state : DatabaseState) (holds_records : Bool) (asked : SchemaCall) → decided (database_of (catalog_of state)) holds_records asked ≡ decided state holds_records asked
unfolding decided
decided-without_rows state holds_records (call.CreateTable table) =
    rw (length-without_rows state.tables) (same_found (λ t. made_table state table (is_some t)) (λ t. refl) state.tables table)
decided-without_rows state holds_records (call.DeleteTable table) =
    same_found (decision state holds_records (λ t. step.DeleteTable (record { 0 = t.id }))) (λ t. refl) state.tables table
decided-without_rows state holds_records (call.AddColumn table column kind flags) =
    same_found (decision state holds_records (λ t. step.AddColumn (record { 0 = t.id }) (asked_column t column kind flags))) (λ t. refl) state.tables table
decided-without_rows state holds_records (call.DeleteColumn table column) =
    same_found (decision state holds_records (λ t. step.DeleteColumn (record { 0 = t.id }) (record { 0 = column_id_named t.columns column }))) (λ t. refl) state.tables table
decided-without_rows state holds_records (call.CreateIndex table index flags key_most segments conditions) =
    same_found (decision state holds_records (λ t. step.CreateIndex (record { 0 = t.id }) (asked_index t index flags key_most segments conditions))) (λ t. refl) state.tables table
decided-without_rows state holds_records (call.DeleteIndex table index) =
    same_found (decision state holds_records (λ t. step.DeleteIndex (record { 0 = t.id }) (record { 0 = index_id_named t.indexes index }))) (λ t. refl) state.tables table
