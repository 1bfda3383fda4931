-- What the steps of calls make: what is built, and entries of their session.
use Rattle.std.proofs.Common.{◌≡◌, ℕ, Bool, true, false, cond, List, [], ◌∷◌, ◌++◌, length, Option, Some, None, refl, sym, not}
use Rattle.std.specs.Prelude.{◌==◌, is_some, nat_le, nat_lt, ℤ}
use Rattle.std.specs.List.{AllByRecursion}
use Rattle.common_lemmas.proofs.Booleans.{and_right, impossible}
use Rattle.common_lemmas.proofs.Lists.{all_weaker}
use Rattle.jet_base.specs.declared.replies.Jet.TheVariants as jet
use Rattle.jet_base.specs.declared.words.Prepare.TheVariants as prepare
use Rattle.column_set.specs.declared.changes.Change.{Change}
use Rattle.column_set.specs.declared.changes.Change.TheVariants.{Add}
use Rattle.column_set.specs.RecordValues.{column_named, is_missing_a_value}
use Rattle.index_derive.specs.declared.log.Entry.{Entry}
use Rattle.index_derive.specs.declared.log.EntryKind.TheVariants as entry
use Rattle.index_derive.specs.declared.log.Step.TheVariants.{Alone}
use Rattle.index_derive.specs.declared.schema_calls.SchemaStep.{SchemaStep}
use Rattle.index_derive.specs.Steps.{entries_of_step}
use Rattle.column_set.specs.Refusals.{Refusals}
use Rattle.database_state.specs.SchemaChanges.{schema_refusal}
use Rattle.database_state.specs.Lawful.{is_name}
use Rattle.database_state.specs.SchemaSteps.{column_step, deleted_column_step, deleted_index_step, deleted_table_step, index_step, table_step}
use Rattle.database_state.specs.State.{levels}
use Rattle.database_state.specs.Table.{Table, table_named}
use Rattle.database_state.specs.Puts.{put_refusals}
use Rattle.session_local.specs.declared.request.Request.{Request}
use Rattle.session_local.specs.declared.request.Request.TheVariants as call
use Rattle.session_local.specs.Calls.{answer, prepare_update}
use Rattle.session_local.specs.CursorCalls.{opened, close_table}
use Rattle.session_local.specs.Local.{OpenCursor, PreparedUpdate, cursor_labelled}
use Rattle.session_local.specs.Outcome.{CallInputs, Outcome, is_outside, number_refusals, one, rows_seen, span_refusals, step_of_change}
use Rattle.session_local.specs.RecordCalls.{bookmark_at, bookmark_for, conflict_refusals, current, delete, drop_at, escrow_update, get_lock, hold_at, is_primary_changed, own_refusals, prepare_replace, prepared_refusals, put_of, replaced_by, transaction_refusals, update, update_with, sum_in}
use Rattle.session_local.specs.SchemaCalls.{schema_changed}
use Rattle.laws_engine.specs.EntryTypes.{HasItsAmount}
use Rattle.laws_engine.proofs.LawfulLemmas.Replies.{Quiet, passed_each, unless_each, cursor_each, begun_each, column_each, prepared_each, either, takes_no_step, without_step}
use Rattle.session_local.specs.BuiltCalls.{is_built_request}
use Rattle.laws_engine.proofs.EngineLemmas.BuiltAmounts.{amount_fits}
use Rattle.session_local.specs.BuiltTables.{AllMakeBuilt, is_unnumbered, is_built_limit, makes_built}

-- an entry of the session that makes only what is built
abbrev IsOwnBuilt : ℕ → Entry → Type 0
IsOwnBuilt session made = (makes_built made.kind ≡ true) × (made.session.0 ≡ session)

abbrev AreOwnBuilt : ℕ → List Entry → Type 0
AreOwnBuilt session entries = AllByRecursion (IsOwnBuilt session) entries

abbrev TakesBuilt : ℕ → Outcome → Type 0
TakesBuilt session outcome = AreOwnBuilt session (entries_of_step outcome.step)

quiet_built : (session : ℕ) → Quiet (TakesBuilt session)
quiet_built session answered local = tt

change_built : (asked : CallInputs) (made : Change) → AreOwnBuilt asked.session (entries_of_step (step_of_change asked made))
change_built asked made = by (levels asked.state asked.session == 0)
  where
    by : (b : Bool) → AreOwnBuilt asked.session (entries_of_step (cond b (Some (Alone (record { session = record { 0 = asked.session }; kind = entry.Change made }))) (one asked (entry.Change made))))
    by true = ((refl, refl), ((refl, refl), ((refl, refl), tt)))
    by false = ((refl, refl), tt)

schema_built : (asked : CallInputs) (made : SchemaStep) → makes_built (entry.Schema made) ≡ true → TakesBuilt asked.session (schema_changed asked made)
schema_built asked made e = passed_each (TakesBuilt asked.session) (quiet_built asked.session) asked (schema_refusal asked.state asked.session made) _ (unless_each (TakesBuilt asked.session) (quiet_built asked.session) asked (number_refusals asked) _ ((e, refl), tt))

replace_built : (asked : CallInputs) (c : OpenCursor) → TakesBuilt asked.session (prepare_replace asked c)
replace_built asked c =
    unless_each (TakesBuilt asked.session) (quiet_built asked.session) asked
    (prepared_refusals c ++ transaction_refusals asked ++ current asked c ++ own_refusals asked c ++ conflict_refusals asked (hold_at c) ++ number_refusals asked ++ span_refusals asked (hold_at c)) _ (change_built asked (hold_at c))

abbrev update_refusals : CallInputs → OpenCursor → PreparedUpdate → Change → Refusals
update_refusals asked c p put =
    (is_missing_a_value c.schema.columns p.values, jet.NullInvalid)
    ∷ (is_primary_changed c.schema p.for p.values, jet.RecordPrimaryChanged)
    ∷ put_refusals asked.state asked.session c.cursor.table c.schema (rows_seen asked c) (replaced_by p.for) p.values
    ++ number_refusals asked
    ++ span_refusals asked put

update_built : (asked : CallInputs) (c : OpenCursor) → TakesBuilt asked.session (update asked c)
update_built asked c = prepared_each (TakesBuilt asked.session) (quiet_built asked.session) asked c.prepared (update_with asked c) (λ p.
    unless_each (TakesBuilt asked.session) (quiet_built asked.session) asked (update_refusals asked c p (put_of asked c p (bookmark_for asked c.schema p.for p.values))) _ (change_built asked (put_of asked c p (bookmark_for asked c.schema p.for p.values))))

sum_built : (asked : CallInputs) (c : OpenCursor) (name : List ℕ) (amount : ℤ) → TakesBuilt asked.session (escrow_update asked c name amount)
sum_built asked c name amount =
    unless_each (TakesBuilt asked.session) (quiet_built asked.session) asked (transaction_refusals asked ++ current asked c) _
    (column_each (TakesBuilt asked.session) (quiet_built asked.session) asked (column_named c.schema.columns name) (sum_in asked c amount) (λ column.
    let sum : Change = Add (record { 0 = c.cursor.table }) (bookmark_at c) column.id amount in
    unless_each (TakesBuilt asked.session) (quiet_built asked.session) asked ((not column.escrow, jet.InvalidColumnType) ∷ own_refusals asked c ++ conflict_refusals asked sum ++ number_refusals asked ++ span_refusals asked sum) _ (change_built asked sum)))

opened_built : (asked : CallInputs) (label : ℕ) (o : Option Table) → TakesBuilt asked.session (opened asked label o)
opened_built asked label None = tt
opened_built asked label (Some t) = unless_each (TakesBuilt asked.session) (quiet_built asked.session) asked (number_refusals asked) _ ((refl, refl), tt)

begins_built : (asked : CallInputs) (b : Bool) → AreOwnBuilt asked.session (entries_of_step (one asked (cond b entry.Begin entry.Save)))
begins_built asked true = ((refl, refl), tt)
begins_built asked false = ((refl, refl), tt)

ends_built : (asked : CallInputs) (b : Bool) → AreOwnBuilt asked.session (entries_of_step (one asked (cond b entry.UndoAll entry.Undo)))
ends_built asked true = ((refl, refl), tt)
ends_built asked false = ((refl, refl), tt)

abbrev begin_refusals : CallInputs → Refusals
begin_refusals asked = (asked.local.begun, jet.SessionInUse) ∷ (nat_le 64 (length asked.state.sessions), jet.OutOfSessions) ∷ number_refusals asked

step_built : (asked : CallInputs) (request : Request) → is_built_request request ≡ true → takes_no_step request ≡ false → TakesBuilt asked.session (answer asked request)
step_built asked call.BeginSession e f = begun_each (TakesBuilt asked.session) asked _ (λ b. unless_each (TakesBuilt asked.session) (quiet_built asked.session) asked (begin_refusals asked) _ ((refl, refl), tt)) (λ b. unless_each (TakesBuilt asked.session) (quiet_built asked.session) asked (begin_refusals asked) _ ((refl, refl), tt))
step_built asked call.EndSession e f = begun_each (TakesBuilt asked.session) asked _ (λ b. ((refl, refl), tt)) (λ b. tt)
step_built asked call.BeginTransaction e f = begun_each (TakesBuilt asked.session) asked _ (λ b. unless_each (TakesBuilt asked.session) (quiet_built asked.session) asked ((nat_le 7 (levels asked.state asked.session), jet.TransTooDeep) ∷ number_refusals asked) _ (begins_built asked (is_outside asked))) (λ b. tt)
step_built asked (call.CommitTransaction lazy) e f =
    begun_each (TakesBuilt asked.session) asked _ (λ b. unless_each (TakesBuilt asked.session) (quiet_built asked.session) asked ((is_outside asked, jet.NotInTransaction) ∷ []) _ (either (TakesBuilt asked.session) (nat_lt 1 (levels asked.state asked.session)) _ _ ((refl, refl), tt) ((refl, refl), tt))) (λ b. tt)
step_built asked (call.Rollback all) e f = begun_each (TakesBuilt asked.session) asked _ (λ b. unless_each (TakesBuilt asked.session) (quiet_built asked.session) asked ((is_outside asked, jet.NotInTransaction) ∷ []) _ (ends_built asked all)) (λ b. tt)
step_built asked (call.CreateTable table) e f = begun_each (TakesBuilt asked.session) asked _ (λ b. schema_built asked (table_step asked.state table) refl) (λ b. tt)
step_built asked (call.DeleteTable table) e f = begun_each (TakesBuilt asked.session) asked _ (λ b. schema_built asked (deleted_table_step asked.state table) refl) (λ b. tt)
step_built asked (call.AddColumn table column kind flags) e f =
    begun_each (TakesBuilt asked.session) asked _ (λ b. schema_built asked (column_step asked.state table column kind flags) (and_right (is_name column) (is_unnumbered flags.version flags.auto) e)) (λ b. tt)
step_built asked (call.DeleteColumn table column) e f = begun_each (TakesBuilt asked.session) asked _ (λ b. schema_built asked (deleted_column_step asked.state table column) refl) (λ b. tt)
step_built asked (call.CreateIndex table index flags key_most segments conditions) e f =
    begun_each (TakesBuilt asked.session) asked _ (λ b. schema_built asked (index_step asked.state table index flags key_most segments conditions) (and_right (is_name index) (is_built_limit key_most) e)) (λ b. tt)
step_built asked (call.DeleteIndex table index) e f = begun_each (TakesBuilt asked.session) asked _ (λ b. schema_built asked (deleted_index_step asked.state table index) refl) (λ b. tt)
step_built asked (call.OpenTable cursor table) e f = begun_each (TakesBuilt asked.session) asked _ (λ b. unless_each (TakesBuilt asked.session) (quiet_built asked.session) asked ((is_some (cursor_labelled asked.local cursor.0), jet.InvalidTableId) ∷ (nat_le 16 (length asked.local.cursors), jet.OutOfCursors) ∷ []) _ (opened_built asked cursor.0 (table_named asked.state.tables table))) (λ b. tt)
step_built asked (call.CloseTable cursor) e f = begun_each (TakesBuilt asked.session) asked _ (λ b. cursor_each (TakesBuilt asked.session) (quiet_built asked.session) asked cursor.0 (close_table asked) (λ c g. ((refl, refl), tt))) (λ b. tt)
step_built asked (call.PrepareUpdate cursor prepare.Replace) e f = begun_each (TakesBuilt asked.session) asked _ (λ b. cursor_each (TakesBuilt asked.session) (quiet_built asked.session) asked cursor.0 (λ c. prepare_update asked c prepare.Replace) (λ c g. replace_built asked c)) (λ b. tt)
step_built asked (call.Update cursor) e f = begun_each (TakesBuilt asked.session) asked _ (λ b. cursor_each (TakesBuilt asked.session) (quiet_built asked.session) asked cursor.0 (update asked) (λ c g. update_built asked c)) (λ b. tt)
step_built asked (call.Delete cursor) e f = begun_each (TakesBuilt asked.session) asked _ (λ b. cursor_each (TakesBuilt asked.session) (quiet_built asked.session) asked cursor.0 (delete asked) (λ c g. unless_each (TakesBuilt asked.session) (quiet_built asked.session) asked (current asked c ++ own_refusals asked c ++ conflict_refusals asked (drop_at c) ++ number_refusals asked ++ span_refusals asked (drop_at c)) _ (change_built asked (drop_at c)))) (λ b. tt)
step_built asked (call.GetLock cursor) e f = begun_each (TakesBuilt asked.session) asked _ (λ b. cursor_each (TakesBuilt asked.session) (quiet_built asked.session) asked cursor.0 (get_lock asked) (λ c g. unless_each (TakesBuilt asked.session) (quiet_built asked.session) asked (transaction_refusals asked ++ current asked c ++ conflict_refusals asked (hold_at c) ++ number_refusals asked ++ span_refusals asked (hold_at c)) _ (change_built asked (hold_at c)))) (λ b. tt)
step_built asked (call.EscrowUpdate cursor column amount) e f = begun_each (TakesBuilt asked.session) asked _ (λ b. cursor_each (TakesBuilt asked.session) (quiet_built asked.session) asked cursor.0 (λ c. escrow_update asked c column amount) (λ c g. sum_built asked c column amount)) (λ b. tt)
step_built asked _ e f = impossible (sym f)

answer_takes : (asked : CallInputs) (request : Request) → is_built_request request ≡ true → AreOwnBuilt asked.session (entries_of_step (answer asked request).step)
answer_takes asked request e = elim (takes_no_step request) as (λ b. takes_no_step request ≡ b → TakesBuilt asked.session (answer asked request)) [
  | true ↦ λ f. without_step (TakesBuilt asked.session) (quiet_built asked.session) asked request f
  | false ↦ λ f. step_built asked request e f
] refl

-- an answer makes only what is built
pub answer_built : (asked : CallInputs) (request : Request) → is_built_request request ≡ true → AllMakeBuilt (entries_of_step (answer asked request).step)
answer_built asked request e = all_weaker (IsOwnBuilt asked.session) (λ made. makes_built made.kind ≡ true) (λ made own. own.0) (entries_of_step (answer asked request).step) (answer_takes asked request e)

-- and its entries are of its session
pub answer_own : (asked : CallInputs) (request : Request) → is_built_request request ≡ true → AllByRecursion (λ made. made.session.0 ≡ asked.session) (entries_of_step (answer asked request).step)
answer_own asked request e = all_weaker (IsOwnBuilt asked.session) (λ made. made.session.0 ≡ asked.session) (λ made own. own.1) (entries_of_step (answer asked request).step) (answer_takes asked request e)

-- and the amount of a sum is a number of 32 bits
pub built_amount : (request : Request) → is_built_request request ≡ true → HasItsAmount request
built_amount (call.EscrowUpdate cursor column amount) e = amount_fits amount e
built_amount _ e = tt
