-- The calls that change a record.
use Rattle.std.proofs.Common.{◌≡◌, ℕ, true, false, not, List, ◌∷◌, ◌++◌, Option, Some, None, refl, subst}
use Rattle.std.specs.Prelude.{ℤ, ◌==◌, if◌then◌else◌}
use Rattle.jet_base.specs.declared.ids.CursorId.{CursorId}
use Rattle.jet_base.specs.declared.replies.Jet.TheVariants as jet
use Rattle.column_set.specs.declared.changes.Change.{Change}
use Rattle.column_set.specs.declared.changes.Change.TheVariants.{Add}
use Rattle.column_set.specs.RecordValues.{RecordFields, column_named}
use Rattle.index_derive.specs.declared.log.EntryKind.TheVariants as entry
use Rattle.index_derive.specs.declared.log.Step.TheVariants.{Alone, One}
use Rattle.index_derive.specs.Steps.{entries_of_step}
use Rattle.database_state.specs.State.{PastChange}
use Rattle.database_state.specs.Step.{applied, state_after, state_after_all}
use Rattle.database_state.specs.Lawful.{is_lawful}
use Rattle.laws_versions.proofs.IndexLemmas.Adding.{KeysRise}
use Rattle.laws_versions.specs.Records.{Records}
use Rattle.laws_versions.specs.History.{IsHistory}
use Rattle.laws_versions.specs.KeptSteps.{with_next_number}
use Rattle.laws_versions.proofs.KeyLemmas.BookmarkKeys.{HasOneEntry}
use Rattle.common_lemmas.proofs.Found.{of_found}
use Rattle.session_local.specs.declared.request.Request.TheVariants as call
use Rattle.session_local.specs.Agreement.{IsStorable}
use Rattle.session_local.specs.Calls.{answer}
use Rattle.session_local.specs.Local.{OpenCursor, PreparedFor, PreparedUpdate, cursor_labelled}
use Rattle.session_local.specs.Outcome.{CallInputs, entry_of, is_outside, number_refusals, rows_seen, span_refusals, step_of_change}
use Rattle.session_local.specs.RecordCalls.{bookmark_at, bookmark_for, conflict_refusals, copied_in, current, delete, drop_at, escrow_update, get_lock, hold_at, on_column, on_prepared, own_refusals, put_of, sum_in, transaction_refusals, update, update_with}
use Rattle.laws_engine.specs.LawfulSteps.{AreLawful, IsReached}
use Rattle.laws_engine.proofs.LawfulLemmas.UpdateSteps.{update_entries, update_refusals}
use Rattle.laws_engine.specs.InStep.{IsInStep, StaysInStep}
use Rattle.laws_engine.proofs.AgreeingLemmas.Answering.{at_found, past, when_begun}
use Rattle.laws_engine.proofs.AgreeingLemmas.OpenCursors.{unprepared_in_step}
use Rattle.laws_engine.proofs.AgreeingLemmas.OwnChanges.{all_after, change_in_step, drops_allowed, locks_allowed, put_of_entry, puts_allowed, sums_allowed}
use Rattle.laws_engine.proofs.AgreeingLemmas.Prepared.{AreStorable}

-- the same state, as an entry or as its effect
pub after_entry : (asked : CallInputs) (change : Change) → AreStorable (applied asked.session (entry.Change change) (with_next_number asked.state)) asked.session asked.local.cursors → AreStorable (state_after asked.state (entry_of asked (entry.Change change))) asked.session asked.local.cursors
unfolding state_after
after_entry asked change h = h

pub locks : (base : Records) (dropped kept : List PastChange) (asked : CallInputs) (cursor : CursorId) → IsHistory base dropped kept asked.state → IsInStep asked.state asked.session asked.local → StaysInStep asked (answer asked (call.GetLock cursor))
locks base dropped kept asked cursor h step = when_begun asked (call.GetLock cursor)
    (λ begun. at_found asked step cursor.0 (get_lock asked) (λ c e.
    past asked step (transaction_refusals asked ++ current asked c ++ conflict_refusals asked (hold_at c) ++ number_refusals asked ++ span_refusals asked (hold_at c)) _ (λ r.
    change_in_step base dropped kept asked (hold_at c) h step (λ t f in_one. after_entry asked (hold_at c)
    (all_after asked.state asked.session (hold_at c) t f asked.local.cursors (locks_allowed asked.state asked.session (record { 0 = c.cursor.table }) (bookmark_at c) asked.local.cursors) step.agrees.prepared)))))
    (λ e. step)

pub deletes : (base : Records) (dropped kept : List PastChange) (asked : CallInputs) (cursor : CursorId) → IsHistory base dropped kept asked.state → IsInStep asked.state asked.session asked.local → StaysInStep asked (answer asked (call.Delete cursor))
deletes base dropped kept asked cursor h step = when_begun asked (call.Delete cursor)
    (λ begun. at_found asked step cursor.0 (delete asked) (λ c e.
    past asked step (current asked c ++ own_refusals asked c ++ conflict_refusals asked (drop_at c) ++ number_refusals asked ++ span_refusals asked (drop_at c)) _ (λ r.
    change_in_step base dropped kept asked (drop_at c) h step (λ t f in_one. after_entry asked (drop_at c)
    (all_after asked.state asked.session (drop_at c) t f asked.local.cursors (drops_allowed asked.state asked.session (record { 0 = c.cursor.table }) (bookmark_at c) asked.local.cursors r.1.1.0) step.agrees.prepared)))))
    (λ e. step)

pub sums : (base : Records) (dropped kept : List PastChange) (asked : CallInputs) (cursor : CursorId) (name : List ℕ) (amount : ℤ) → IsHistory base dropped kept asked.state → IsInStep asked.state asked.session asked.local
    → StaysInStep asked (answer asked (call.EscrowUpdate cursor name amount))
sums base dropped kept asked cursor name amount h step = when_begun asked (call.EscrowUpdate cursor name amount)
    (λ begun. at_found asked step cursor.0 (λ c. escrow_update asked c name amount) (λ c e.
    past asked step (transaction_refusals asked ++ current asked c) _ (λ r.
    elim (column_named c.schema.columns name) as (λ o. StaysInStep asked (on_column asked o (sum_in asked c amount))) [
      | None ↦ step
      | Some column ↦
          let sum : Change = Add (record { 0 = c.cursor.table }) (bookmark_at c) column.id amount in
          past asked step ((not column.escrow, jet.InvalidColumnType) ∷ own_refusals asked c ++ conflict_refusals asked sum ++ number_refusals asked ++ span_refusals asked sum) _ (λ s.
          change_in_step base dropped kept asked sum h step (λ t f in_one. after_entry asked sum
          (all_after asked.state asked.session sum t f asked.local.cursors (sums_allowed asked.state asked.session (record { 0 = c.cursor.table }) (bookmark_at c) column.id amount asked.local.cursors s.1.0) step.agrees.prepared)))
    ])))
    (λ e. step)

update_in_step : HasOneEntry → KeysRise → (base : Records) (dropped kept : List PastChange) (asked : CallInputs) (label : ℕ) (c : OpenCursor) (for : PreparedFor) (values : RecordFields) → IsReached base dropped kept asked.state
    → IsInStep asked.state asked.session asked.local → asked.local.begun ≡ true → cursor_labelled asked.local label ≡ Some c → IsStorable asked.state asked.session c (Some (record { for = for; values = values }))
    → StaysInStep asked (update_with asked c (record { for = for; values = values }))
update_in_step one rise base dropped kept asked label c for values reached step begun e storable =
    past asked step (update_refusals asked c for values) _ (λ r.
    unprepared_in_step (state_after_all asked.state (entries_of_step (step_of_change asked put))) asked.session asked.local label c
    (change_in_step base dropped kept asked put reached.history step (λ t f in_one. after_entry asked put
    (all_after asked.state asked.session put t f asked.local.cursors
    (puts_allowed asked.state asked.session (record { 0 = c.cursor.table }) (bookmark_for asked c.schema for values) (copied_in (rows_seen asked c) for) values
    (put_of_entry asked.state asked.session put (single (update_entries one rise base dropped kept asked label c for values reached step.agrees begun e storable r) in_one)) asked.local.cursors step.agrees.schemas)
    step.agrees.prepared))) e)
  where
    put : Change
    put = put_of asked c (record { for = for; values = values }) (bookmark_for asked c.schema for values)

    -- in a transaction the change is the one entry
    single : AreLawful asked.state (entries_of_step (step_of_change asked (put_of asked c (record { for = for; values = values }) (bookmark_for asked c.schema for values)))) → is_outside asked ≡ false
        → is_lawful asked.state (entry_of asked (entry.Change (put_of asked c (record { for = for; values = values }) (bookmark_for asked c.schema for values)))) ≡ true
    single lawful in_one =
        (subst (λ b. AreLawful asked.state (entries_of_step (if b then Some (Alone (entry_of asked (entry.Change (put_of asked c (record { for = for; values = values }) (bookmark_for asked c.schema for values)))))
        else Some (One (entry_of asked (entry.Change (put_of asked c (record { for = for; values = values }) (bookmark_for asked c.schema for values)))))))) in_one lawful).0

pub updates : HasOneEntry → KeysRise → (base : Records) (dropped kept : List PastChange) (asked : CallInputs) (cursor : CursorId) → IsReached base dropped kept asked.state → IsInStep asked.state asked.session asked.local → StaysInStep asked (answer asked (call.Update cursor))
updates one rise base dropped kept asked cursor reached step = when_begun asked (call.Update cursor)
    (λ begun. at_found asked step cursor.0 (update asked) (λ c e.
    elim (c.prepared) as (λ o. c.prepared ≡ o → StaysInStep asked (on_prepared asked o (update_with asked c))) [
      | None ↦ λ f. step
      | Some prepared ↦ λ f. update_in_step one rise base dropped kept asked cursor.0 c prepared.for prepared.values reached step begun e
          (subst (λ (o : Option PreparedUpdate). IsStorable asked.state asked.session c o) f (of_found (λ c. IsStorable asked.state asked.session c c.prepared) (λ c. c.label == cursor.0) asked.local.cursors c e step.agrees.prepared))
    ] refl))
    (λ e. step)
