-- Calls that look at a record.
use Rattle.std.proofs.Common.{ℕ, Bool, true, false, List, Option, Some, None}
use Rattle.std.specs.Prelude.{◌==◌, ◌-◌, slice_get, if◌then◌else◌}
use Rattle.jet_base.specs.declared.ids.CursorId.{CursorId}
use Rattle.jet_base.specs.ColumnType.{is_number_type}
use Rattle.column_set.specs.declared.columns.Column.{Column}
use Rattle.column_set.specs.RecordValues.{RecordFields, column_named, values_of}
use Rattle.session_local.specs.declared.request.Request.TheVariants as call
use Rattle.session_local.specs.Calls.{answer}
use Rattle.session_local.specs.CursorCalls.{get_bookmark, index_record_count, retrieve_key}
use Rattle.session_local.specs.Local.{OpenCursor, PreparedUpdate}
use Rattle.session_local.specs.Outcome.{CallInputs, Outcome, current_refusals, rows_seen}
use Rattle.session_local.specs.RecordCalls.{column_shown, current, on_column, on_prepared, record_at, retrieve_column, retrieve_copy, value_shown}
use Rattle.laws_engine.specs.InStep.{IsInStep, StaysInStep}
use Rattle.laws_engine.proofs.AgreeingLemmas.Answering.{at_found, past, when_begun}

pub counts_entries : (asked : CallInputs) (cursor : CursorId) (most : Option ℕ) → IsInStep asked.state asked.session asked.local → StaysInStep asked (answer asked (call.IndexRecordCount cursor most))
counts_entries asked cursor most step = when_begun asked (call.IndexRecordCount cursor most)
    (λ begun. at_found asked step cursor.0 (λ c. index_record_count asked c most) (λ c e. past asked step (current_refusals (rows_seen asked c) c.cursor.place) _ (λ r. step)))
    (λ e. step)

pub shows_key : (asked : CallInputs) (cursor : CursorId) → IsInStep asked.state asked.session asked.local → StaysInStep asked (answer asked (call.RetrieveKey cursor))
shows_key asked cursor step = when_begun asked (call.RetrieveKey cursor)
    (λ begun. at_found asked step cursor.0 (retrieve_key asked) (λ c e. past asked step (current_refusals (rows_seen asked c) c.cursor.place) _ (λ r. step)))
    (λ e. step)

pub shows_bookmark : (asked : CallInputs) (cursor : CursorId) → IsInStep asked.state asked.session asked.local → StaysInStep asked (answer asked (call.GetBookmark cursor))
shows_bookmark asked cursor step = when_begun asked (call.GetBookmark cursor)
    (λ begun. at_found asked step cursor.0 (get_bookmark asked) (λ c e. past asked step (current_refusals (rows_seen asked c) c.cursor.place) _ (λ r. step)))
    (λ e. step)

either : (asked : CallInputs) (b : Bool) (x y : Outcome) → StaysInStep asked x → StaysInStep asked y → StaysInStep asked (if b then x else y)
either asked true x y h k = h
either asked false x y h k = k

value_in_step : (asked : CallInputs) → IsInStep asked.state asked.session asked.local → (column : Column) (most : ℕ) (o : Option (List ℕ)) → StaysInStep asked (value_shown asked column most o)
value_in_step asked step column most None = step
value_in_step asked step column most (Some value) = either asked (is_number_type column.kind) _ _ step step

column_in_step : (asked : CallInputs) → IsInStep asked.state asked.session asked.local → (sequence most : ℕ) (fields : RecordFields) (o : Option Column) → StaysInStep asked (on_column asked o (column_shown asked sequence most fields))
column_in_step asked step sequence most fields None = step
column_in_step asked step sequence most fields (Some column) = either asked (sequence == 0) _ _ step (value_in_step asked step column most (slice_get (values_of fields column.id.0) (sequence - 1)))

copy_in_step : (asked : CallInputs) → IsInStep asked.state asked.session asked.local → (c : OpenCursor) (name : List ℕ) (sequence most : ℕ) (o : Option PreparedUpdate)
    → StaysInStep asked (on_prepared asked o (λ prepared. on_column asked (column_named c.schema.columns name) (column_shown asked sequence most prepared.values)))
copy_in_step asked step c name sequence most None = step
copy_in_step asked step c name sequence most (Some prepared) = column_in_step asked step sequence most prepared.values (column_named c.schema.columns name)

pub shows_value : (asked : CallInputs) (cursor : CursorId) (column : List ℕ) (sequence : ℕ) (copy : Bool) (most : ℕ) → IsInStep asked.state asked.session asked.local → StaysInStep asked (answer asked (call.RetrieveColumn cursor column sequence copy most))
shows_value asked cursor column sequence copy most step = when_begun asked (call.RetrieveColumn cursor column sequence copy most)
    (λ begun. at_found asked step cursor.0 (λ c. elim copy [ true ↦ retrieve_copy asked c column sequence most | false ↦ retrieve_column asked c column sequence most ]) (λ c e.
    elim copy as (λ b. StaysInStep asked (elim b [ true ↦ retrieve_copy asked c column sequence most | false ↦ retrieve_column asked c column sequence most ])) [
      | true ↦ copy_in_step asked step c column sequence most c.prepared
      | false ↦ past asked step (current asked c) _ (λ r. column_in_step asked step sequence most (record_at asked c) (column_named c.schema.columns column))
    ]))
    (λ e. step)
