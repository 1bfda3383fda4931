-- Schema calls, one by one.
use Rattle.std.proofs.Common.{ℕ, List}
use Rattle.jet_base.specs.declared.words.ColType.{ColType}
use Rattle.jet_base.specs.declared.words.ColumnFlags.{ColumnFlags}
use Rattle.index_derive.specs.declared.rules.IndexFlags.{IndexFlags}
use Rattle.index_derive.specs.declared.schema_calls.NamedCondition.{NamedCondition}
use Rattle.index_derive.specs.declared.schema_calls.NamedSegment.{NamedSegment}
use Rattle.database_state.specs.SchemaSteps.{column_step, deleted_column_step, deleted_index_step, deleted_table_step, index_step, table_step}
use Rattle.database_state.specs.State.{PastChange}
use Rattle.laws_versions.specs.Records.{Records}
use Rattle.laws_versions.specs.History.{IsHistory}
use Rattle.session_local.specs.declared.request.Request.TheVariants as call
use Rattle.session_local.specs.Calls.{answer}
use Rattle.session_local.specs.Outcome.{CallInputs}
use Rattle.laws_engine.specs.InStep.{IsInStep, StaysInStep}
use Rattle.laws_engine.proofs.AgreeingLemmas.Answering.{when_begun}
use Rattle.laws_engine.proofs.AgreeingLemmas.OwnSessions.{schema_in_step}

pub table_created : (base : Records) (dropped kept : List PastChange) (asked : CallInputs) (table : List ℕ) → IsHistory base dropped kept asked.state → IsInStep asked.state asked.session asked.local → StaysInStep asked (answer asked (call.CreateTable table))
table_created base dropped kept asked table h step = when_begun asked (call.CreateTable table) (λ begun. schema_in_step base dropped kept asked (table_step asked.state table) h step) (λ e. step)

pub table_deleted : (base : Records) (dropped kept : List PastChange) (asked : CallInputs) (table : List ℕ) → IsHistory base dropped kept asked.state → IsInStep asked.state asked.session asked.local → StaysInStep asked (answer asked (call.DeleteTable table))
table_deleted base dropped kept asked table h step = when_begun asked (call.DeleteTable table) (λ begun. schema_in_step base dropped kept asked (deleted_table_step asked.state table) h step) (λ e. step)

pub column_added : (base : Records) (dropped kept : List PastChange) (asked : CallInputs) (table column : List ℕ) (kind : ColType) (flags : ColumnFlags) → IsHistory base dropped kept asked.state → IsInStep asked.state asked.session asked.local
    → StaysInStep asked (answer asked (call.AddColumn table column kind flags))
column_added base dropped kept asked table column kind flags h step =
    when_begun asked (call.AddColumn table column kind flags) (λ begun. schema_in_step base dropped kept asked (column_step asked.state table column kind flags) h step) (λ e. step)

pub column_deleted : (base : Records) (dropped kept : List PastChange) (asked : CallInputs) (table column : List ℕ) → IsHistory base dropped kept asked.state → IsInStep asked.state asked.session asked.local → StaysInStep asked (answer asked (call.DeleteColumn table column))
column_deleted base dropped kept asked table column h step = when_begun asked (call.DeleteColumn table column) (λ begun. schema_in_step base dropped kept asked (deleted_column_step asked.state table column) h step) (λ e. step)

pub index_created : (base : Records) (dropped kept : List PastChange) (asked : CallInputs) (table index : List ℕ) (flags : IndexFlags) (key_most : ℕ) (segments : List NamedSegment) (conditions : List NamedCondition) → IsHistory base dropped kept asked.state
    → IsInStep asked.state asked.session asked.local → StaysInStep asked (answer asked (call.CreateIndex table index flags key_most segments conditions))
index_created base dropped kept asked table index flags key_most segments conditions h step =
    when_begun asked (call.CreateIndex table index flags key_most segments conditions) (λ begun. schema_in_step base dropped kept asked (index_step asked.state table index flags key_most segments conditions) h step) (λ e. step)

pub index_deleted : (base : Records) (dropped kept : List PastChange) (asked : CallInputs) (table index : List ℕ) → IsHistory base dropped kept asked.state → IsInStep asked.state asked.session asked.local → StaysInStep asked (answer asked (call.DeleteIndex table index))
index_deleted base dropped kept asked table index h step = when_begun asked (call.DeleteIndex table index) (λ begun. schema_in_step base dropped kept asked (deleted_index_step asked.state table index) h step) (λ e. step)
