-- What decides PrepareUpdate `replace` and `insertcopy`.
use Rattle.std.proofs.Common.{◌≡◌, ℕ, Bool, true, false, cond, List, [], ◌∷◌, ◌++◌, map, Option, Some, None, unwrap_or, refl, sym, ap, subst, ◌∙◌}
use Rattle.std.specs.Prelude.{ℤ, neg_ℤ, ◌==◌, option_map, is_none, is_some, IfSome, IsTrue}
use Rattle.std.specs.List.{list_all}
use Rattle.jet_base.specs.declared.ids.CursorId.{CursorId}
use Rattle.jet_base.specs.declared.replies.Jet.{Jet}
use Rattle.jet_base.specs.declared.replies.Jet.TheVariants as jet
use Rattle.jet_base.specs.declared.words.Prepare.{Prepare}
use Rattle.jet_base.specs.declared.words.Prepare.TheVariants as prepare
use Rattle.column_set.specs.declared.columns.Column.{Column}
use Rattle.column_set.specs.Record.{is_record}
use Rattle.column_set.specs.RecordValues.{RecordFields, column_of_id, record_fits, values_fit, stands_in}
use Rattle.index_derive.specs.declared.log.Step.{Step}
use Rattle.common_lemmas.proofs.Found.{all_found}
use Rattle.common_lemmas.proofs.Lists.{all_stronger}
use Rattle.common_lemmas.proofs.Booleans.{and_left, impossible}
use Rattle.column_set.specs.Refusals.{Refusals, first_refusal}
use Rattle.database_state.specs.State.{DatabaseState}
use Rattle.session_local.specs.declared.decision.Decision.{Decision}
use Rattle.session_local.specs.declared.prepared.Prepared.{Prepared}
use Rattle.session_local.specs.declared.reply.Value.TheVariants as value
use Rattle.session_local.specs.declared.request.Request.{Request}
use Rattle.session_local.specs.declared.request.Request.TheVariants as call
use Rattle.session_local.specs.Answer.{Nothing}
use Rattle.session_local.specs.Calls.{answer}
use Rattle.session_local.specs.Finishing.{with_update_on}
use Rattle.session_local.specs.Local.{LocalState, OpenCursor, PreparedUpdate, cursor_labelled, inserting, replacing, with_cursor}
use Rattle.session_local.specs.LocalCalls.{is_answered_locally}
use Rattle.session_local.specs.Outcome.{CallInputs, Outcome, done, number_refusals, on_cursor, span_refusals, step_of_change, unless}
use Rattle.session_local.specs.Preparing.{FitsCursor, update_of}
use Rattle.session_local.specs.RecordCalls.{bookmark_at, conflict_refusals, current, hold_at, own_refusals, prepare_copy, prepare_replace, prepared_refusals, record_at, with_prepared, with_sums_at_zero}
use Rattle.session_local.specs.Run.{flushes_step}
use Rattle.session_local.specs.SessionSide.{SessionSide, are_distinct}
use Rattle.session_local.specs.WellFormed.{IsWellFormed, is_well_formed_cursor, is_well_formed_schema, is_well_formed_update, number_of_column}
use Rattle.laws_engine.specs.InStep.{IsInStep}
use Rattle.laws_engine.specs.EngineState.{EngineState}
use Rattle.laws_engine.specs.HoldsState.{HoldsState}
use Rattle.engine_parts.specs.Deciding.{Decides, HoldsSession, IsDecision, IsLawfulStep}
use Rattle.engine_parts.specs.HeldLaws.{SeesRecords, SeesRows}
use Rattle.engine_parts.specs.SharedCalls.{at_if}
use Rattle.version_cleanup.specs.Cleaning.{reader_in}
use Rattle.laws_engine.specs.HeldSums.{unseen_sums}
use Rattle.laws_engine.specs.ViewedRecords.{without_sums}
use Rattle.record_decisions.specs.Changing.{TellsConflicts, TellsRoom, change_in, current_in, is_outside_in, own_in, step_by}
use Rattle.engine_parts.specs.Reading.{record_for, shown_for}
use Rattle.record_decisions.specs.Preparing.{HasFormedRecords, IsCopied, IsCopiedAs, copy_in, copy_of, replace_in, replace_of, values_seen}
use Rattle.engine_parts.specs.RefusalLaws.{unless-refused, unless-passed}
use Rattle.record_decisions.proofs.LocksAndDeletes.{change-told, changed_by, current-told, outside-told, step_of_change-told}
use Rattle.record_decisions.proofs.SeenRecords.{sums_formed}
use Rattle.laws_engine.proofs.EngineLemmas.Decisions.{answer-begun, answer-is, answer-refused, refused_with}
use Rattle.engine_parts.specs.DecisionLaws.{inputs_by}

-- ---- a record that is copied

field_named : (columns : List Column) (number : ℕ) (values : List (List ℕ)) → stands_in columns (number, values) ≡ true → is_some (column_of_id columns number) ≡ true
field_named columns number values stands = by (column_of_id columns number) stands
  where
    by : (found : Option Column) → elim found [ Some column ↦ values_fit column values | None ↦ false ] ≡ true → is_some found ≡ true
    by None h = impossible h
    by (Some column) h = refl

pub distinct_at : (local : LocalState) (label : ℕ) (c : OpenCursor) → IsWellFormed local → cursor_labelled local label ≡ Some c → are_distinct (map number_of_column c.schema.columns) ≡ true
distinct_at local label c formed found =
    and_left _ _ (and_left _ _ (and_left _ _
    (and_left (is_well_formed_schema c.schema) (is_well_formed_update c.schema.columns c.prepared) (all_found is_well_formed_cursor (λ (c : OpenCursor). c.label == label) local.cursors c formed found))))

copied : (columns : List Column) (values : RecordFields) → is_record values ≡ true → record_fits columns values ≡ true → are_distinct (map number_of_column columns) ≡ true → IsCopied columns values
copied columns values formed fits distinct =
    let stand : list_all (stands_in columns) values ≡ true = and_left _ _ fits in
    record {
      formed = formed;
      named = all_stronger (stands_in columns) (λ field. is_some (column_of_id columns field.0)) (λ field. field_named columns field.0 field.1) values stand;
      distinct = distinct;
    }

-- the record that is seen at a row
pub seen_at : (engine : EngineState) (session : ℕ) (c : OpenCursor) (row : RecordFields) → shown_for engine session c.cursor.table (bookmark_at c) ≡ Some row
    → (record_for engine session c.cursor.table (bookmark_at c) ≡ Some (values_seen engine session c)) × (is_record row ≡ true → is_record (values_seen engine session c) ≡ true)
seen_at engine session c row e = by (shown_for engine session c.cursor.table (bookmark_at c)) e
  where
    sums : List (ℕ × ℤ)
    sums = unseen_sums c.cursor.table (bookmark_at c) (reader_in session engine.sessions) engine.store.held

    same : (one other : RecordFields) → Some one ≡ Some other → one ≡ other
    same one other e = cc

    by : (o : Option RecordFields) → o ≡ Some row
        → (option_map (λ values. without_sums values sums) o ≡ Some (unwrap_or (option_map (λ values. without_sums values sums) o) []))
        × (is_record row ≡ true → is_record (unwrap_or (option_map (λ values. without_sums values sums) o) []) ≡ true)
    by None e = cc
    by (Some values) e = (refl, λ h. sums_formed values (map (λ (sum : ℕ × ℤ). (sum.0, neg_ℤ sum.1)) sums) (ap is_record (same values row e) ∙ h))

-- the row of the record under the cursor can be copied, and tells of the record that the session sees
pub copied-at : SeesRows → (engine : EngineState) (side : SessionSide) (label session : ℕ) (c : OpenCursor) → HoldsSession engine side → HasFormedRecords engine → cursor_labelled side.state label ≡ Some c → session ≡ side.session
    → IfSome (shown_for engine session c.cursor.table (bookmark_at c)) (IsCopiedAs engine session c)
copied-at rows engine side label session c beside formed found own =
    subst (λ s. IfSome (shown_for engine s c.cursor.table (bookmark_at c)) (IsCopiedAs engine s c)) (sym own)
    (by (shown_for engine side.session c.cursor.table (bookmark_at c)) refl (formed side.session c.cursor.table (bookmark_at c)))
  where
    by : (shown : Option RecordFields) → shown_for engine side.session c.cursor.table (bookmark_at c) ≡ shown → IfSome shown (λ fields. IsTrue (is_record fields)) → IfSome shown (IsCopiedAs engine side.session c)
    by None e h = tt
    by (Some row) e h =
        let held = beside.held in
        let seen = seen_at engine side.session c row e in
        let is = rows engine held.state side.session side.state label c held.holds held.in_step found (bookmark_at c) row (values_seen engine side.session c) e seen.0 in
        record {
          copied = copied c.schema.columns row h is.fits (distinct_at side.state label c beside.formed found);
          seen = is;
          formed = seen.1 h;
        }

-- ---- a call that prepares an update, or refuses it

-- what the session's answer comes to
abbrev pub prepared_by : CallInputs → Refusals → OpenCursor → PreparedUpdate → Option Step → Outcome
prepared_by asked refusals c update step = unless asked refusals (λ _. done (with_prepared asked c (Some update)) Nothing step)

-- in each state that the engine holds, the call is refused by these, or prepares the update
abbrev pub Prepares : EngineState → SessionSide → Request → Refusals → OpenCursor → PreparedUpdate → Option Step → Type 0
Prepares engine side request refusals c update step =
    (state : DatabaseState) → HoldsState engine state → IsInStep state side.session side.state → answer (inputs_by engine state side) request ≡ prepared_by (inputs_by engine state side) refusals c update step

abbrev pub prepared_with : Option Step → Prepared → Decision
prepared_with step prepared = record { step = step; reply = record { jet = jet.Success; value = value.Nothing }; table = None; copied = Some prepared; temp = None; buffers = None; flush = false }

pub prepare-refused : (engine : EngineState) (side : SessionSide) (request : Request) (refusals : Refusals) (c : OpenCursor) (update : PreparedUpdate) (step : Option Step) (reply : Jet) → Prepares engine side request refusals c update step → first_refusal refusals ≡ Some reply
    → Decides engine side request side (refused_with reply)
prepare-refused engine side request refusals c update step reply prepares is = λ state h in_step.
    answer-refused (inputs_by engine state side) request side reply refl (prepares state h in_step ∙ unless-refused (inputs_by engine state side) refusals _ reply is)

pub prepare-done : (engine : EngineState) (side : SessionSide) (cursor : CursorId) (how : Prepare) (refusals : Refusals) (c : OpenCursor) (update : PreparedUpdate) (step : Option Step) (prepared : Prepared)
    → Prepares engine side (call.PrepareUpdate cursor how) refusals c update step → first_refusal refusals ≡ None → cursor_labelled side.state cursor.0 ≡ Some c → update_of prepared ≡ update
    → Decides engine side (call.PrepareUpdate cursor how) side (prepared_with step prepared)
prepare-done engine side cursor how refusals c update step prepared prepares is found same = λ state h in_step.
    answer-is (inputs_by engine state side) (call.PrepareUpdate cursor how) side (prepared_with step prepared) _
    (prepares state h in_step ∙ unless-passed (inputs_by engine state side) refusals _ is) refl refl
    (ap (λ (o : Option OpenCursor). with_update_on side.state o (Some (update_of prepared))) found ∙ ap (λ (u : PreparedUpdate). with_cursor side.state (record c { prepared = Some u })) same)

-- what is said of such a decision
pub prepare-decided : (engine : EngineState) (side : SessionSide) (cursor : CursorId) (how : Prepare) (c : OpenCursor) (step : Option Step) (prepared : Prepared) → cursor_labelled side.state cursor.0 ≡ Some c → prepared.buffer.columns ≡ c.schema.columns
    → false ≡ flushes_step (call.PrepareUpdate cursor how) step → IsLawfulStep engine side (prepared_with step prepared) → IsDecision engine side (call.PrepareUpdate cursor how) side (prepared_with step prepared)
prepare-decided engine side cursor how c step prepared found columns still lawful = record {
  session = refl;
  still = λ _. refl;
  named = refl;
  fits = subst (λ (o : Option OpenCursor). FitsCursor o (Some prepared)) (sym found) columns;
  flush = still;
  lawful = lawful;
}

-- ---- `replace`

prepare-shared : (side : SessionSide) (cursor : CursorId) → elim side.state.begun [ true ↦ is_none (cursor_labelled side.state cursor.0) | false ↦ true ] ≡ false → side.state.begun ≡ true
prepare-shared side cursor shared = (at_if side.state.begun (cursor_labelled side.state cursor.0) shared).0

-- what the definitions copy is what the session sees
pub values-told : SeesRecords → (engine : EngineState) (state : DatabaseState) (side : SessionSide) (label : ℕ) (c : OpenCursor) → HoldsState engine state → IsInStep state side.session side.state → cursor_labelled side.state label ≡ Some c
    → record_at (inputs_by engine state side) c ≡ values_seen engine side.session c
values-told sees engine state side label c h step found =
    ap (λ (o : Option RecordFields). unwrap_or o []) (sym (sees engine state side.session side.state label c h step found (bookmark_at c)))

-- the step that locks the record
abbrev pub lock_step : EngineState → ℕ → OpenCursor → Option Step
lock_step engine session c = Some (step_by (is_outside_in engine session) (changed_by session (hold_at c)))

pub replace-prepares : SeesRecords → TellsConflicts → TellsRoom → (engine : EngineState) (side : SessionSide) (cursor : CursorId) (c : OpenCursor) → is_answered_locally side.state (call.PrepareUpdate cursor prepare.Replace) ≡ false
    → cursor_labelled side.state cursor.0 ≡ Some c
    → Prepares engine side (call.PrepareUpdate cursor prepare.Replace) (replace_in engine side.session side.state c) c (replace_of engine side.session c) (lock_step engine side.session c)
replace-prepares sees conflicts rooms engine side cursor c shared found = λ state h step.
    let asked = inputs_by engine state side in
    let by : Refusals → RecordFields → Option Step → Outcome = λ refusals values step. prepared_by asked refusals c (record { for = replacing (bookmark_at c); values = values }) step in
    let values = record_at asked c in
    let made = step_of_change asked (hold_at c) in
    answer-begun asked (call.PrepareUpdate cursor prepare.Replace) (prepare-shared side cursor shared)
    ∙ ap (λ o. on_cursor asked o (prepare_replace asked)) found
    ∙ ap (λ b. by (prepared_refusals c ++ (b, jet.NotInTransaction) ∷ current asked c ++ own_refusals asked c ++ conflict_refusals asked (hold_at c) ++ number_refusals asked ++ span_refusals asked (hold_at c)) values made) (outside-told engine state side h)
    ∙ ap (λ (l : Refusals). by (prepared_refusals c ++ (is_outside_in engine side.session, jet.NotInTransaction) ∷ l ++ own_refusals asked c ++ conflict_refusals asked (hold_at c) ++ number_refusals asked ++ span_refusals asked (hold_at c)) values made)
    (current-told sees engine state side cursor.0 c h step found)
    ∙ ap (λ (l : Refusals). by (prepared_refusals c ++ (is_outside_in engine side.session, jet.NotInTransaction) ∷ current_in engine side.session c ++ own_in side.state c ++ l) values made) (change-told conflicts rooms engine state side (hold_at c) h)
    ∙ ap (λ (v : RecordFields). by (replace_in engine side.session side.state c) v made) (values-told sees engine state side cursor.0 c h step found)
    ∙ ap (λ (s : Option Step). by (replace_in engine side.session side.state c) (values_seen engine side.session c) s) (step_of_change-told engine state side (hold_at c) (is_outside_in engine side.session) h refl)

-- what is not refused is inside a transaction
pub replace-inside : (engine : EngineState) (side : SessionSide) (c : OpenCursor) → first_refusal (replace_in engine side.session side.state c) ≡ None → is_outside_in engine side.session ≡ false
replace-inside engine side c is = by (is_some c.prepared) (is_outside_in engine side.session) is
  where
    by : (a b : Bool) → cond a (Some jet.AlreadyPrepared) (cond b (Some jet.NotInTransaction) (first_refusal (current_in engine side.session c ++ own_in side.state c ++ change_in engine side.session (hold_at c)))) ≡ None → b ≡ false
    by true b e = cc
    by false true e = cc
    by false false e = refl

-- so its step is one entry
pub replace-step : (engine : EngineState) (side : SessionSide) (c : OpenCursor) → first_refusal (replace_in engine side.session side.state c) ≡ None → lock_step engine side.session c ≡ Some (step_by false (changed_by side.session (hold_at c)))
replace-step engine side c is = ap (λ b. Some (step_by b (changed_by side.session (hold_at c)))) (replace-inside engine side c is)

-- ---- `insertcopy`

pub copy-prepares : SeesRecords → (engine : EngineState) (side : SessionSide) (cursor : CursorId) (c : OpenCursor) → is_answered_locally side.state (call.PrepareUpdate cursor prepare.InsertCopy) ≡ false → cursor_labelled side.state cursor.0 ≡ Some c
    → Prepares engine side (call.PrepareUpdate cursor prepare.InsertCopy) (copy_in engine side.session c) c (copy_of engine side.session c) None
copy-prepares sees engine side cursor c shared found = λ state h step.
    let asked = inputs_by engine state side in
    let by : Refusals → RecordFields → Outcome = λ refusals values. prepared_by asked refusals c (record { for = inserting (Some (bookmark_at c)); values = values }) None in
    answer-begun asked (call.PrepareUpdate cursor prepare.InsertCopy) (prepare-shared side cursor shared)
    ∙ ap (λ o. on_cursor asked o (prepare_copy asked)) found
    ∙ ap (λ (l : Refusals). by (prepared_refusals c ++ l) (with_sums_at_zero c.schema.columns (record_at asked c))) (current-told sees engine state side cursor.0 c h step found)
    ∙ ap (λ (v : RecordFields). by (copy_in engine side.session c) (with_sums_at_zero c.schema.columns v)) (values-told sees engine state side cursor.0 c h step found)
