-- The entries of an answer are as their types have them.
use Rattle.std.proofs.Common.{◌≡◌, ℕ, Bool, true, false, not, cond, List, [], ◌∷◌, ◌++◌, length, Option, Some, None, refl, sym}
use Rattle.std.specs.Prelude.{◌==◌, ℤ, is_some, nat_le, nat_lt, FitsSigned}
use Rattle.std.specs.Int.{w32}
use Rattle.jet_base.specs.declared.replies.Jet.TheVariants as jet
use Rattle.jet_base.specs.declared.words.Prepare.TheVariants as prepare
use Rattle.column_set.specs.declared.changes.Change.{Change}
use Rattle.column_set.specs.declared.changes.Change.TheVariants.{Add}
use Rattle.column_set.specs.declared.columns.Column.{Column}
use Rattle.column_set.specs.RecordValues.{column_named}
use Rattle.index_derive.specs.declared.log.EntryKind.TheVariants as entry
use Rattle.index_derive.specs.declared.log.Step.TheVariants.{Alone}
use Rattle.index_derive.specs.declared.schema_calls.SchemaStep.{SchemaStep}
use Rattle.index_derive.specs.Steps.{entries_of_step}
use Rattle.database_state.specs.SchemaChanges.{schema_refusal}
use Rattle.database_state.specs.SchemaSteps.{column_step, deleted_column_step, deleted_index_step, deleted_table_step, index_step, table_step}
use Rattle.database_state.specs.State.{levels}
use Rattle.database_state.specs.Table.{Table, table_named}
use Rattle.laws_versions.specs.EscrowNumbers.{IsOfItsType}
use Rattle.common_lemmas.proofs.Found.{of_found}
use Rattle.common_lemmas.proofs.Booleans.{impossible}
use Rattle.session_local.specs.declared.request.Request.{Request}
use Rattle.session_local.specs.declared.request.Request.TheVariants as call
use Rattle.session_local.specs.Calls.{answer, prepare_update}
use Rattle.session_local.specs.CursorCalls.{close_table, opened}
use Rattle.session_local.specs.Local.{OpenCursor, PreparedUpdate, cursor_labelled}
use Rattle.session_local.specs.Outcome.{CallInputs, Outcome, is_outside, number_refusals, one, span_refusals, step_of_change}
use Rattle.session_local.specs.RecordCalls.{bookmark_at, bookmark_for, conflict_refusals, current, delete, drop_at, escrow_update, get_lock, hold_at, on_prepared, own_refusals, prepared_refusals, put_of, sum_in, transaction_refusals, update, update_with}
use Rattle.session_local.specs.SchemaCalls.{schema_changed}
use Rattle.session_local.specs.SessionCalls.{begin_session}
use Rattle.laws_engine.specs.EntryTypes.{AreOfTheirTypes, HasItsAmount, HasRisingColumns, HasRisingUpdates}
use Rattle.laws_engine.proofs.LawfulLemmas.Replies.{Quiet, begun_each, column_each, cursor_each, either, passed_each, refused_each, takes_no_step, unless_each, without_step}
use Rattle.laws_engine.proofs.LawfulLemmas.UpdateSteps.{update_refusals}

abbrev TakesTyped : Outcome → Type 0
TakesTyped outcome = AreOfTheirTypes (entries_of_step outcome.step)

quiet : Quiet TakesTyped
quiet answered local = tt

-- ---- changes

change_typed : (asked : CallInputs) (made : Change) → IsOfItsType made → AreOfTheirTypes (entries_of_step (step_of_change asked made))
change_typed asked made type = by (levels asked.state asked.session == 0)
  where
    by : (b : Bool) → AreOfTheirTypes (entries_of_step (cond b (Some (Alone (record { session = record { 0 = asked.session }; kind = entry.Change made }))) (one asked (entry.Change made))))
    by true = (tt, (type, (tt, tt)))
    by false = (type, tt)

replace_typed : (asked : CallInputs) (c : OpenCursor) → TakesTyped (prepare_update asked c prepare.Replace)
replace_typed asked c =
    unless_each TakesTyped quiet asked (prepared_refusals c ++ transaction_refusals asked ++ current asked c ++ own_refusals asked c ++ conflict_refusals asked (hold_at c) ++ number_refusals asked ++ span_refusals asked (hold_at c)) _ (change_typed asked (hold_at c) tt)

delete_typed : (asked : CallInputs) (c : OpenCursor) → TakesTyped (delete asked c)
delete_typed asked c =
    unless_each TakesTyped quiet asked (current asked c ++ own_refusals asked c ++ conflict_refusals asked (drop_at c) ++ number_refusals asked ++ span_refusals asked (drop_at c)) _ (change_typed asked (drop_at c) tt)

lock_typed : (asked : CallInputs) (c : OpenCursor) → TakesTyped (get_lock asked c)
lock_typed asked c =
    unless_each TakesTyped quiet asked (transaction_refusals asked ++ current asked c ++ conflict_refusals asked (hold_at c) ++ number_refusals asked ++ span_refusals asked (hold_at c)) _ (change_typed asked (hold_at c) tt)

-- an update puts what is prepared
update_typed : (asked : CallInputs) (c : OpenCursor) (o : Option PreparedUpdate) → HasRisingColumns o → TakesTyped (on_prepared asked o (update_with asked c))
update_typed asked c None rise = refused_each TakesTyped quiet asked jet.UpdateNotPrepared
update_typed asked c (Some p) rise = unless_each TakesTyped quiet asked (update_refusals asked c p.for p.values) _ (change_typed asked (put_of asked c p (bookmark_for asked c.schema p.for p.values)) rise)

-- a sum has the amount of its call
sum_typed : (asked : CallInputs) (c : OpenCursor) (name : List ℕ) (amount : ℤ) → FitsSigned w32 amount → TakesTyped (escrow_update asked c name amount)
sum_typed asked c name amount fits =
    unless_each TakesTyped quiet asked (transaction_refusals asked ++ current asked c) _ (column_each TakesTyped quiet asked (column_named c.schema.columns name) (sum_in asked c amount) by)
  where
    by : (column : Column) → TakesTyped (sum_in asked c amount column)
    by column =
        let sum : Change = Add (record { 0 = c.cursor.table }) (bookmark_at c) column.id amount in
        unless_each TakesTyped quiet asked ((not column.escrow, jet.InvalidColumnType) ∷ own_refusals asked c ++ conflict_refusals asked sum ++ number_refusals asked ++ span_refusals asked sum) _ (change_typed asked sum fits)

-- ---- other steps

schema_typed : (asked : CallInputs) (made : SchemaStep) → TakesTyped (schema_changed asked made)
schema_typed asked made = passed_each TakesTyped quiet asked (schema_refusal asked.state asked.session made) _ (unless_each TakesTyped quiet asked (number_refusals asked) _ (tt, tt))

opened_typed : (asked : CallInputs) (label : ℕ) (o : Option Table) → TakesTyped (opened asked label o)
opened_typed asked label None = tt
opened_typed asked label (Some t) = unless_each TakesTyped quiet asked (number_refusals asked) _ (tt, tt)

begins_typed : (asked : CallInputs) (b : Bool) → AreOfTheirTypes (entries_of_step (one asked (cond b entry.Begin entry.Save)))
begins_typed asked true = (tt, tt)
begins_typed asked false = (tt, tt)

ends_typed : (asked : CallInputs) (b : Bool) → AreOfTheirTypes (entries_of_step (one asked (cond b entry.UndoAll entry.Undo)))
ends_typed asked true = (tt, tt)
ends_typed asked false = (tt, tt)

session_typed : (asked : CallInputs) → TakesTyped (answer asked call.BeginSession)
session_typed asked = begun_each TakesTyped asked call.BeginSession (λ b. begins) (λ b. begins)
  where
    begins : TakesTyped (begin_session asked)
    begins = unless_each TakesTyped quiet asked ((asked.local.begun, jet.SessionInUse) ∷ (nat_le 64 (length asked.state.sessions), jet.OutOfSessions) ∷ number_refusals asked) _ (tt, tt)

step_typed : (asked : CallInputs) (request : Request) → HasItsAmount request → HasRisingUpdates asked.local → takes_no_step request ≡ false → TakesTyped (answer asked request)
step_typed asked call.BeginSession fits rise f = session_typed asked
step_typed asked call.EndSession fits rise f = begun_each TakesTyped asked _ (λ b. (tt, tt)) (λ b. tt)
step_typed asked call.BeginTransaction fits rise f =
    begun_each TakesTyped asked _ (λ b. unless_each TakesTyped quiet asked ((nat_le 7 (levels asked.state asked.session), jet.TransTooDeep) ∷ number_refusals asked) _ (begins_typed asked (is_outside asked))) (λ b. tt)
step_typed asked (call.CommitTransaction lazy) fits rise f =
    begun_each TakesTyped asked _ (λ b. unless_each TakesTyped quiet asked ((is_outside asked, jet.NotInTransaction) ∷ []) _ (either TakesTyped (nat_lt 1 (levels asked.state asked.session)) _ _ (tt, tt) (tt, tt))) (λ b. tt)
step_typed asked (call.Rollback all) fits rise f = begun_each TakesTyped asked _ (λ b. unless_each TakesTyped quiet asked ((is_outside asked, jet.NotInTransaction) ∷ []) _ (ends_typed asked all)) (λ b. tt)
step_typed asked (call.CreateTable table) fits rise f = begun_each TakesTyped asked _ (λ b. schema_typed asked (table_step asked.state table)) (λ b. tt)
step_typed asked (call.DeleteTable table) fits rise f = begun_each TakesTyped asked _ (λ b. schema_typed asked (deleted_table_step asked.state table)) (λ b. tt)
step_typed asked (call.AddColumn table column kind flags) fits rise f = begun_each TakesTyped asked _ (λ b. schema_typed asked (column_step asked.state table column kind flags)) (λ b. tt)
step_typed asked (call.DeleteColumn table column) fits rise f = begun_each TakesTyped asked _ (λ b. schema_typed asked (deleted_column_step asked.state table column)) (λ b. tt)
step_typed asked (call.CreateIndex table index flags key_most segments conditions) fits rise f = begun_each TakesTyped asked _ (λ b. schema_typed asked (index_step asked.state table index flags key_most segments conditions)) (λ b. tt)
step_typed asked (call.DeleteIndex table index) fits rise f = begun_each TakesTyped asked _ (λ b. schema_typed asked (deleted_index_step asked.state table index)) (λ b. tt)
step_typed asked (call.OpenTable cursor table) fits rise f =
    begun_each TakesTyped asked _ (λ b. unless_each TakesTyped quiet asked ((is_some (cursor_labelled asked.local cursor.0), jet.InvalidTableId) ∷ (nat_le 16 (length asked.local.cursors), jet.OutOfCursors) ∷ []) _ (opened_typed asked cursor.0 (table_named asked.state.tables table))) (λ b. tt)
step_typed asked (call.CloseTable cursor) fits rise f = begun_each TakesTyped asked _ (λ b. cursor_each TakesTyped quiet asked cursor.0 (close_table asked) (λ c e. (tt, tt))) (λ b. tt)
step_typed asked (call.PrepareUpdate cursor prepare.Replace) fits rise f = begun_each TakesTyped asked _ (λ b. cursor_each TakesTyped quiet asked cursor.0 (λ c. prepare_update asked c prepare.Replace) (λ c e. replace_typed asked c)) (λ b. tt)
step_typed asked (call.Update cursor) fits rise f =
    begun_each TakesTyped asked _ (λ b. cursor_each TakesTyped quiet asked cursor.0 (update asked) (λ c e.
    update_typed asked c c.prepared (of_found (λ c. HasRisingColumns c.prepared) (λ c. c.label == cursor.0) asked.local.cursors c e rise))) (λ b. tt)
step_typed asked (call.Delete cursor) fits rise f = begun_each TakesTyped asked _ (λ b. cursor_each TakesTyped quiet asked cursor.0 (delete asked) (λ c e. delete_typed asked c)) (λ b. tt)
step_typed asked (call.GetLock cursor) fits rise f = begun_each TakesTyped asked _ (λ b. cursor_each TakesTyped quiet asked cursor.0 (get_lock asked) (λ c e. lock_typed asked c)) (λ b. tt)
step_typed asked (call.EscrowUpdate cursor column amount) fits rise f = begun_each TakesTyped asked _ (λ b. cursor_each TakesTyped quiet asked cursor.0 (λ c. escrow_update asked c column amount) (λ c e. sum_typed asked c column amount fits)) (λ b. tt)
step_typed asked _ fits rise f = impossible (sym f)

pub answer_typed : (asked : CallInputs) (request : Request) → HasItsAmount request → HasRisingUpdates asked.local → AreOfTheirTypes (entries_of_step (answer asked request).step)
answer_typed asked request fits rise = elim (takes_no_step request) as (λ b. takes_no_step request ≡ b → TakesTyped (answer asked request)) [
  | true ↦ λ f. without_step TakesTyped quiet asked request f
  | false ↦ λ f. step_typed asked request fits rise f
] refl
