-- The steps that calls ask for have the next numbers.
use Rattle.std.proofs.Common.{◌≡◌, ℕ, ◌+◌, ◌<◌, Bool, true, ◌&&◌, Option, Some, None, Result, Ok, Err, IfOk, IsTrue, refl, sym, ap, subst, ◌∙◌, arith}
use Rattle.std.specs.Prelude.{◌==◌, nat_lt, unwrap_or}
use Rattle.std.proofs.lemmas.Bool.Decides.{nat_tests}
use Rattle.std.proofs.lemmas.Bool.{and_from}
use Rattle.common_lemmas.proofs.Booleans.{and_left}
use Rattle.common_lemmas.proofs.Numbers.{self_equal}
use Rattle.jet_base.specs.declared.replies.Jet.{Jet}
use Rattle.jet_base.specs.declared.memory.OutOfMemory.{OutOfMemory}
use Rattle.index_derive.specs.declared.schema_calls.SchemaCall.{SchemaCall}
use Rattle.index_derive.specs.declared.schema_calls.SchemaCall.TheVariants as call
use Rattle.index_derive.specs.declared.schema_calls.SchemaStep.{SchemaStep}
use Rattle.index_derive.specs.declared.schema_calls.SchemaStep.TheVariants as step
use Rattle.database_state.specs.Table.{Table}
use Rattle.database_state.specs.State.{DatabaseState}
use Rattle.column_set.specs.Refusals.{Refusals, first_refusal}
use Rattle.database_state.specs.SchemaChanges.{new_table, next_index_id, greatest_order}
use Rattle.database_state.specs.SchemaSteps.{asked_column, step_of_call, table_or_none}
use Rattle.database_state.specs.Lawful.{has_next_numbers, is_name}
use Rattle.jet_catalog.specs.Catalog.{CatalogState, IsNumbered, catalog_of, database_of, has_new_id}
use Rattle.jet_catalog.specs.Decisions.{decided, refused_or, makes_named, call_refusals}
use Rattle.jet_catalog.proofs.Composed.{step_table-called}

-- ---- new table ids

one_above : (n : ℕ) → nat_lt n (n + 1) ≡ true
one_above n = grind (arith, nat_tests)

asked_id_is_new : (catalog : CatalogState) (asked : SchemaCall) → has_new_id catalog (step_of_call (database_of catalog) asked) ≡ true
asked_id_is_new catalog (call.CreateTable table) = one_above catalog.greatest_table
asked_id_is_new catalog (call.DeleteTable table) = refl
asked_id_is_new catalog (call.AddColumn table column kind flags) = refl
asked_id_is_new catalog (call.DeleteColumn table column) = refl
asked_id_is_new catalog (call.CreateIndex table index flags key_most segments conditions) = refl
asked_id_is_new catalog (call.DeleteIndex table index) = refl

new_unless_refused : (catalog : CatalogState) (first : Option Jet) (made : SchemaStep) → has_new_id catalog made ≡ true → IfOk (refused_or first made) (λ step. IsTrue (has_new_id catalog step))
new_unless_refused catalog (Some refusal) made new = tt
new_unless_refused catalog None made new = new

pub decided_is_new : (catalog : CatalogState) (holds_records : Bool) (asked : SchemaCall) (result : Result (Result SchemaStep Jet) OutOfMemory)
    → IfOk result (λ made. made ≡ decided (database_of catalog) holds_records asked) → IfOk result (λ made. IfOk made (λ step. IsTrue (has_new_id catalog step)))
unfolding decided
decided_is_new catalog holds_records asked (Ok made) is =
    let P : Result SchemaStep Jet → Type 0 = λ made. IfOk made (λ step. IsTrue (has_new_id catalog step)) in
    subst P (sym is) (new_unless_refused catalog (first_refusal (call_refusals (database_of catalog) holds_records asked)) (step_of_call (database_of catalog) asked) (asked_id_is_new catalog asked))
decided_is_new catalog holds_records asked (Err want) is = tt

next_is_new : (greatest id : ℕ) → (id == (greatest + 1)) ≡ true → nat_lt greatest id ≡ true
next_is_new greatest id h = grind (arith, nat_tests)

pub new_from_next : (state : DatabaseState) (made : SchemaStep) → has_next_numbers state made ≡ true → has_new_id (catalog_of state) made ≡ true
new_from_next state (step.CreateTable table name) next = next_is_new state.greatest_table table.0 (and_left _ _ next)
new_from_next state (step.DeleteTable table) next = refl
new_from_next state (step.AddColumn table column) next = refl
new_from_next state (step.DeleteColumn table column) next = refl
new_from_next state (step.CreateIndex table rule) next = refl
new_from_next state (step.DeleteIndex table index) next = refl

-- ---- the next numbers of columns and indexes

-- the table of a step is the one for which the call's numbers were taken
pub has_next_numbers-asked : (state : DatabaseState) (asked : SchemaCall) → IsNumbered (catalog_of state) → makes_named asked ≡ true → has_next_numbers state (step_of_call state asked) ≡ true
has_next_numbers-asked state (call.CreateTable table) numbered named = and_from _ _ (self_equal (state.greatest_table + 1)) named
has_next_numbers-asked state (call.DeleteTable table) numbered named = refl
has_next_numbers-asked state (call.AddColumn table column kind flags) numbered named =
    let same = step_table-called state (call.AddColumn table column kind flags) numbered in
    let t = table_or_none state table in
    rw same (and_from _ _ (self_equal (asked_column t column kind flags).id.0) named)
has_next_numbers-asked state (call.DeleteColumn table column) numbered named = refl
has_next_numbers-asked state (call.CreateIndex table index flags key_most segments conditions) numbered named =
    let same = step_table-called state (call.CreateIndex table index flags key_most segments conditions) numbered in
    let t = table_or_none state table in
    rw same (and_from _ _ (and_from _ _ (self_equal (next_index_id t.indexes)) (self_equal (greatest_order t.indexes + 1))) named)
has_next_numbers-asked state (call.DeleteIndex table index) numbered named = refl
