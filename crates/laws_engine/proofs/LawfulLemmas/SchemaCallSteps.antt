-- The steps of schema calls.
use Rattle.std.proofs.Common.{◌≡◌, ℕ, ◌+◌, ◌<◌, ◌≤◌, true, false, ◌&&◌, cond, List, [], ◌∷◌, Option, Some, None, refl, sym, ap, ◌∙◌, bytes_eq, arith}
use Rattle.std.specs.Prelude.{◌==◌, ◌||◌, is_none, unwrap_or}
use Rattle.std.specs.List.{AllByRecursion}
use Rattle.std.proofs.lemmas.Bool.Decides.{nat_tests}
use Rattle.std.proofs.lemmas.Bool.{and_from}
use Rattle.jet_base.specs.declared.words.ColType.{ColType}
use Rattle.jet_base.specs.declared.words.ColumnFlags.{ColumnFlags}
use Rattle.index_derive.specs.declared.rules.IndexFlags.{IndexFlags}
use Rattle.index_derive.specs.declared.log.EntryKind.TheVariants as entry
use Rattle.index_derive.specs.declared.schema_calls.NamedCondition.{NamedCondition}
use Rattle.index_derive.specs.declared.schema_calls.NamedSegment.{NamedSegment}
use Rattle.index_derive.specs.declared.schema_calls.SchemaStep.{SchemaStep}
use Rattle.jet_base.specs.TypeKinds.{is_long_type}
use Rattle.database_state.specs.Table.{Table, table_named, table_with_id}
use Rattle.database_state.specs.State.{DatabaseState}
use Rattle.database_state.specs.SchemaChanges.{greatest_order, new_table, next_column_id, next_index_id, schema_refusal}
use Rattle.database_state.specs.SchemaSteps.{column_step, deleted_column_step, deleted_index_step, deleted_table_step, index_step, table_or_none, table_step}
use Rattle.database_state.specs.Lawful.{has_next_numbers, is_lawful, is_name, log_limit}
use Rattle.laws_versions.specs.TableOrder.{HasTablesInOrder}
use Rattle.laws_versions.proofs.KeyLemmas.OrderedTables.{found_each}
use Rattle.session_local.specs.declared.request.Request.TheVariants as call
use Rattle.session_local.specs.Agreement.{Agrees}
use Rattle.session_local.specs.Answer.{Nothing}
use Rattle.session_local.specs.Calls.{answer}
use Rattle.session_local.specs.Outcome.{CallInputs, done, number_refusals, one, unless, unless_refused}
use Rattle.session_local.specs.SchemaCalls.{schema_changed}
use Rattle.laws_engine.specs.LawfulSteps.{HasLawfulStep}
use Rattle.common_lemmas.proofs.Found.{of_found}
use Rattle.common_lemmas.proofs.Numbers.{self_equal}
use Rattle.laws_engine.proofs.LawfulLemmas.Refusals.{past, when_begun}
use Rattle.laws_engine.proofs.LawfulLemmas.SessionSteps.{below}

schema_lawful : (asked : CallInputs) (made : SchemaStep) → Agrees asked.state asked.session asked.local → asked.local.begun ≡ true → has_next_numbers asked.state made ≡ true → HasLawfulStep asked.state (schema_changed asked made)
unfolding is_lawful
schema_lawful asked made agrees begun numbers =
    elim (schema_refusal asked.state asked.session made) as (λ o. schema_refusal asked.state asked.session made ≡ o
    → HasLawfulStep asked.state (unless_refused asked o (λ _. unless asked (number_refusals asked) (λ _. done asked.local Nothing (one asked (entry.Schema made)))))) [
      | Some reply ↦ λ e. tt
      | None ↦ λ e. past asked (number_refusals asked) _ (λ r. (and_from _ _ (below log_limit asked.state.number r.0) (and_from _ _ (and_from _ _ (sym agrees.begun ∙ begun) (ap is_none e)) numbers), tt))
    ] refl

-- ---- the table that a call names

none_at_zero : (tables : List Table) (greatest : ℕ) → AllByRecursion (λ table. (0 < table.id) × (table.id ≤ greatest)) tables → table_with_id tables 0 ≡ None
none_at_zero [] greatest h = refl
none_at_zero (t ∷ tables) greatest h = ap (λ b. cond b (Some t) (table_with_id tables 0)) (apart t.id h.0.0) ∙ none_at_zero tables greatest h.1
  where
    apart : (n : ℕ) → 0 < n → (n == 0) ≡ false
    apart n lt = grind (arith, nat_tests)

same_table : (state : DatabaseState) (name : List ℕ) → HasTablesInOrder state → unwrap_or (table_with_id state.tables (table_or_none state name).id) (new_table 0 []) ≡ table_or_none state name
same_table state name order = by (table_named state.tables name) refl
  where
    by : (o : Option Table) → table_named state.tables name ≡ o → unwrap_or (table_with_id state.tables (unwrap_or o (new_table 0 [])).id) (new_table 0 []) ≡ unwrap_or o (new_table 0 [])
    by None e = ap (λ found. unwrap_or found (new_table 0 [])) (none_at_zero state.tables state.greatest_table order.given)
    by (Some t) e = ap (λ found. unwrap_or found (new_table 0 [])) (of_found (λ t. table_with_id state.tables t.id ≡ Some t) (λ t. bytes_eq t.name name) state.tables t e (found_each state.tables order.ids))

-- ---- call by call

pub table_made : (asked : CallInputs) (table : List ℕ) → Agrees asked.state asked.session asked.local → is_name table ≡ true → HasLawfulStep asked.state (answer asked (call.CreateTable table))
table_made asked table agrees named = when_begun asked (call.CreateTable table)
    (λ begun. schema_lawful asked (table_step asked.state table) agrees begun (and_from _ _ (self_equal (asked.state.greatest_table + 1)) named)) (λ e. tt)

pub table_deleted : (asked : CallInputs) (table : List ℕ) → Agrees asked.state asked.session asked.local → HasLawfulStep asked.state (answer asked (call.DeleteTable table))
table_deleted asked table agrees = when_begun asked (call.DeleteTable table) (λ begun. schema_lawful asked (deleted_table_step asked.state table) agrees begun refl) (λ e. tt)

pub column_made : (asked : CallInputs) (table column : List ℕ) (kind : ColType) (flags : ColumnFlags) → Agrees asked.state asked.session asked.local → HasTablesInOrder asked.state → is_name column ≡ true
    → HasLawfulStep asked.state (answer asked (call.AddColumn table column kind flags))
column_made asked table column kind flags agrees order named = when_begun asked (call.AddColumn table column kind flags)
    (λ begun. schema_lawful asked (column_step asked.state table column kind flags) agrees begun
    (ap (λ (t : Table). (next (table_or_none asked.state table) == next t) && is_name column) (same_table asked.state table order)
    ∙ and_from _ _ (self_equal (next (table_or_none asked.state table))) named)) (λ e. tt)
  where
    next : Table → ℕ
    next t = next_column_id t.greatest kind (flags.tagged || is_long_type kind)

pub column_deleted : (asked : CallInputs) (table column : List ℕ) → Agrees asked.state asked.session asked.local → HasLawfulStep asked.state (answer asked (call.DeleteColumn table column))
column_deleted asked table column agrees = when_begun asked (call.DeleteColumn table column) (λ begun. schema_lawful asked (deleted_column_step asked.state table column) agrees begun refl) (λ e. tt)

pub index_made : (asked : CallInputs) (table index : List ℕ) (flags : IndexFlags) (key_most : ℕ) (segments : List NamedSegment) (conditions : List NamedCondition) → Agrees asked.state asked.session asked.local → HasTablesInOrder asked.state → is_name index ≡ true
    → HasLawfulStep asked.state (answer asked (call.CreateIndex table index flags key_most segments conditions))
index_made asked table index flags key_most segments conditions agrees order named = when_begun asked (call.CreateIndex table index flags key_most segments conditions)
    (λ begun. schema_lawful asked (index_step asked.state table index flags key_most segments conditions) agrees begun
    (ap (λ (t : Table). (next_index_id (table_or_none asked.state table).indexes == next_index_id t.indexes) && ((greatest_order (table_or_none asked.state table).indexes + 1) == (greatest_order t.indexes + 1)) && is_name index) (same_table asked.state table order)
    ∙ and_from _ _ (and_from _ _ (self_equal (next_index_id (table_or_none asked.state table).indexes)) (self_equal (greatest_order (table_or_none asked.state table).indexes + 1))) named)) (λ e. tt)

pub index_deleted : (asked : CallInputs) (table index : List ℕ) → Agrees asked.state asked.session asked.local → HasLawfulStep asked.state (answer asked (call.DeleteIndex table index))
index_deleted asked table index agrees = when_begun asked (call.DeleteIndex table index) (λ begun. schema_lawful asked (deleted_index_step asked.state table index) agrees begun refl) (λ e. tt)
