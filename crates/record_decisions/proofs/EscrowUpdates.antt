-- What decides EscrowUpdate.
use Rattle.std.proofs.Common.{◌≡◌, ℕ, Bool, true, false, cond, not, ◌||◌, List, [], ◌∷◌, ◌++◌, map, Option, Some, None, unwrap_or, refl, sym, ap, subst, ◌∙◌}
use Rattle.std.specs.Prelude.{ℤ, ◌==◌, bytes_eq, find, is_none, option_map, IfSome}
use Rattle.std.specs.List.{list_any}
use Rattle.std.proofs.lemmas.Bool.{eqb-true}
use Rattle.common_lemmas.proofs.Booleans.{and_left, and_right, impossible}
use Rattle.common_lemmas.proofs.Numbers.{self_equal}
use Rattle.jet_base.specs.declared.ids.CursorId.{CursorId}
use Rattle.jet_base.specs.declared.replies.Jet.{Jet}
use Rattle.jet_base.specs.declared.replies.Jet.TheVariants as jet
use Rattle.jet_base.specs.declared.words.ColType.TheVariants.{Long}
use Rattle.jet_base.specs.ColumnType.{number_of}
use Rattle.column_set.specs.declared.changes.Change.{Change}
use Rattle.column_set.specs.declared.columns.Column.{Column}
use Rattle.column_set.specs.RecordValues.{RecordFields, column_named}
use Rattle.database_state.specs.Changes.{escrow_bytes}
use Rattle.column_set.specs.Refusals.{Refusals, first_refusal}
use Rattle.database_state.specs.State.{DatabaseState}
use Rattle.index_derive.specs.declared.log.Step.{Step}
use Rattle.index_derive.specs.Entries.{is_escrow_column}
use Rattle.session_local.specs.declared.decision.Decision.{Decision}
use Rattle.session_local.specs.declared.request.Request.{Request}
use Rattle.session_local.specs.declared.request.Request.TheVariants as call
use Rattle.session_local.specs.declared.reply.Value.TheVariants as value
use Rattle.session_local.specs.Answer.{Number}
use Rattle.session_local.specs.Calls.{answer}
use Rattle.session_local.specs.Local.{LocalState, OpenCursor, cursor_labelled}
use Rattle.session_local.specs.LocalCalls.{is_answered_locally}
use Rattle.session_local.specs.Outcome.{Outcome, done, on_cursor, step_of_change, unless}
use Rattle.session_local.specs.RecordCalls.{bookmark_at, current, escrow_update, on_column, record_at, sum_in as sum_asked}
use Rattle.session_local.specs.SessionSide.{SessionSide, are_distinct}
use Rattle.session_local.specs.WellFormed.{number_of_column}
use Rattle.laws_versions.specs.EscrowSums.{escrow_value}
use Rattle.laws_versions.proofs.SumLemmas.VeryRecords.{read_as_long}
use Rattle.version_cleanup.specs.Cleaning.{reader_in}
use Rattle.laws_engine.specs.HeldSums.{unseen_sums}
use Rattle.laws_engine.specs.ViewedRecords.{without_sums}
use Rattle.laws_engine.specs.InStep.{IsInStep}
use Rattle.laws_engine.specs.EngineState.{EngineState}
use Rattle.laws_engine.specs.HoldsState.{HoldsState}
use Rattle.engine_parts.specs.Deciding.{Decides, HoldsSession, IsDecision}
use Rattle.engine_parts.specs.HeldLaws.{SeesRecords, SeesRows}
use Rattle.engine_parts.specs.Reading.{IsRowAt, shown_for}
use Rattle.engine_parts.specs.SharedCalls.{at_if}
use Rattle.record_decisions.specs.Changing.{TellsConflicts, TellsRoom, change_in, current_in, is_outside_in, own_in, step_by}
use Rattle.record_decisions.specs.EscrowUpdates.{place_in, sum_at, sum_in}
use Rattle.record_decisions.specs.Preparing.{values_seen}
use Rattle.engine_parts.specs.RefusalLaws.{unless-passed, unless-refused}
use Rattle.record_decisions.proofs.LocksAndDeletes.{change-told, changed_by, current-told, outside-told, step_of_change-told}
use Rattle.record_decisions.proofs.PreparedCopies.{seen_at, values-told}
use Rattle.laws_engine.proofs.EngineLemmas.Decisions.{answer-begun, answer-is, answer-refused, copied_none, refused_with}
use Rattle.engine_parts.specs.DecisionLaws.{AnswersLawfully, inputs_by, lawful-step}

-- ---- the answer

escrow-shared : (side : SessionSide) (cursor : CursorId) → elim side.state.begun [ true ↦ is_none (cursor_labelled side.state cursor.0) | false ↦ true ] ≡ false → side.state.begun ≡ true
escrow-shared side cursor shared = (at_if side.state.begun (cursor_labelled side.state cursor.0) shared).0

-- the laws that it rests on, and the call
pub record IsAsked (engine : EngineState) (side : SessionSide) (cursor : CursorId) (name : List ℕ) (amount : ℤ) (c : OpenCursor) : Type 0 where
  pub sees : SeesRecords
  pub conflicts : TellsConflicts
  pub rooms : TellsRoom
  pub shared : is_answered_locally side.state (call.EscrowUpdate cursor name amount) ≡ false
  pub found : cursor_labelled side.state cursor.0 ≡ Some c

answer-at : (engine : EngineState) (side : SessionSide) (cursor : CursorId) (name : List ℕ) (amount : ℤ) (c : OpenCursor) → IsAsked engine side cursor name amount c → (state : DatabaseState) → HoldsState engine state → IsInStep state side.session side.state
    → answer (inputs_by engine state side) (call.EscrowUpdate cursor name amount)
    ≡ unless (inputs_by engine state side) (place_in engine side.session c) (λ _. on_column (inputs_by engine state side) (column_named c.schema.columns name) (sum_asked (inputs_by engine state side) c amount))
answer-at engine side cursor name amount c is state h step =
    let asked = inputs_by engine state side in
    let next : Unit {0} → Outcome = λ _. on_column asked (column_named c.schema.columns name) (sum_asked asked c amount) in
    answer-begun asked (call.EscrowUpdate cursor name amount) (escrow-shared side cursor is.shared)
    ∙ ap (λ o. on_cursor asked o (λ c. escrow_update asked c name amount)) is.found
    ∙ ap (λ b. unless asked ((b, jet.NotInTransaction) ∷ current asked c) next) (outside-told engine state side h)
    ∙ ap (λ (l : Refusals). unless asked ((is_outside_in engine side.session, jet.NotInTransaction) ∷ l) next) (current-told is.sees engine state side cursor.0 c h step is.found)

sum-told : (engine : EngineState) (side : SessionSide) (cursor : CursorId) (name : List ℕ) (amount : ℤ) (c : OpenCursor) (column : Column) → IsAsked engine side cursor name amount c → (state : DatabaseState) → HoldsState engine state → IsInStep state side.session side.state
    → sum_asked (inputs_by engine state side) c amount column
    ≡ unless (inputs_by engine state side) (sum_in engine side.session side.state c column (sum_at c column.id amount))
    (λ _. done side.state (Number (number_of Long (escrow_bytes (record_at (inputs_by engine state side) c) column.id.0))) (step_of_change (inputs_by engine state side) (sum_at c column.id amount)))
sum-told engine side cursor name amount c column is state h step =
    let asked = inputs_by engine state side in
    let next : Unit {0} → Outcome = λ _. done side.state (Number (number_of Long (escrow_bytes (record_at asked c) column.id.0))) (step_of_change asked (sum_at c column.id amount)) in
    ap (λ (l : Refusals). unless asked ((not column.escrow, jet.InvalidColumnType) ∷ own_in side.state c ++ l) next) (change-told is.conflicts is.rooms engine state side (sum_at c column.id amount) h)

-- ---- refusals

pub escrow-refused : (engine : EngineState) (side : SessionSide) (cursor : CursorId) (name : List ℕ) (amount : ℤ) (c : OpenCursor) (reply : Jet) → IsAsked engine side cursor name amount c → first_refusal (place_in engine side.session c) ≡ Some reply
    → Decides engine side (call.EscrowUpdate cursor name amount) side (refused_with reply)
escrow-refused engine side cursor name amount c reply is refusal = λ state h step.
    let asked = inputs_by engine state side in
    answer-refused asked (call.EscrowUpdate cursor name amount) side reply refl (answer-at engine side cursor name amount c is state h step ∙ unless-refused asked (place_in engine side.session c) _ reply refusal)

pub escrow-no_column : (engine : EngineState) (side : SessionSide) (cursor : CursorId) (name : List ℕ) (amount : ℤ) (c : OpenCursor) → IsAsked engine side cursor name amount c → first_refusal (place_in engine side.session c) ≡ None
    → column_named c.schema.columns name ≡ None → Decides engine side (call.EscrowUpdate cursor name amount) side (refused_with jet.ColumnNotFound)
escrow-no_column engine side cursor name amount c is passed named = λ state h step.
    let asked = inputs_by engine state side in
    answer-refused asked (call.EscrowUpdate cursor name amount) side jet.ColumnNotFound refl
    (answer-at engine side cursor name amount c is state h step ∙ unless-passed asked (place_in engine side.session c) _ passed
    ∙ ap (λ (o : Option Column). on_column asked o (sum_asked asked c amount)) named)

pub escrow-sum_refused : (engine : EngineState) (side : SessionSide) (cursor : CursorId) (name : List ℕ) (amount : ℤ) (c : OpenCursor) (column : Column) (reply : Jet) → IsAsked engine side cursor name amount c → first_refusal (place_in engine side.session c) ≡ None
    → column_named c.schema.columns name ≡ Some column → first_refusal (sum_in engine side.session side.state c column (sum_at c column.id amount)) ≡ Some reply
    → Decides engine side (call.EscrowUpdate cursor name amount) side (refused_with reply)
escrow-sum_refused engine side cursor name amount c column reply is passed named refusal = λ state h step.
    let asked = inputs_by engine state side in
    answer-refused asked (call.EscrowUpdate cursor name amount) side reply refl
    (answer-at engine side cursor name amount c is state h step ∙ unless-passed asked (place_in engine side.session c) _ passed
    ∙ ap (λ (o : Option Column). on_column asked o (sum_asked asked c amount)) named
    ∙ sum-told engine side cursor name amount c column is state h step
    ∙ unless-refused asked (sum_in engine side.session side.state c column (sum_at c column.id amount)) _ reply refusal)

-- ---- the sum

abbrev pub summed_with : Step → ℤ → Decision
summed_with step number = record { step = Some step; reply = record { jet = jet.Success; value = value.Number number }; table = None; copied = None; temp = None; buffers = None; flush = false }

-- what is not refused is inside a transaction
place-inside : (engine : EngineState) (session : ℕ) (c : OpenCursor) → first_refusal (place_in engine session c) ≡ None → is_outside_in engine session ≡ false
place-inside engine session c is = by (is_outside_in engine session) is
  where
    by : (b : Bool) → cond b (Some jet.NotInTransaction) (first_refusal (current_in engine session c)) ≡ None → b ≡ false
    by true e = cc
    by false e = refl

-- nor is a column that is no sum
pub sum-escrow : (engine : EngineState) (session : ℕ) (local : LocalState) (c : OpenCursor) (column : Column) (made : Change) → first_refusal (sum_in engine session local c column made) ≡ None → column.escrow ≡ true
sum-escrow engine session local c column made is = by column.escrow is
  where
    by : (b : Bool) → cond (not b) (Some jet.InvalidColumnType) (first_refusal (own_in local c ++ change_in engine session made)) ≡ None → b ≡ true
    by true e = refl
    by false e = cc

-- the number that the session saw is that of its record
pub number-told : SeesRecords → (engine : EngineState) (state : DatabaseState) (side : SessionSide) (label : ℕ) (c : OpenCursor) (column : ℕ) → HoldsState engine state → IsInStep state side.session side.state → cursor_labelled side.state label ≡ Some c
    → number_of Long (escrow_bytes (values_seen engine side.session c) column) ≡ escrow_value (values_seen engine side.session c) column
    → number_of Long (escrow_bytes (record_at (inputs_by engine state side) c) column) ≡ escrow_value (values_seen engine side.session c) column
number-told sees engine state side label c column h step found read =
    ap (λ (values : RecordFields). number_of Long (escrow_bytes values column)) (values-told sees engine state side label c h step found) ∙ read

pub escrow-done : (engine : EngineState) (side : SessionSide) (cursor : CursorId) (name : List ℕ) (amount : ℤ) (c : OpenCursor) (column : Column) → IsAsked engine side cursor name amount c → first_refusal (place_in engine side.session c) ≡ None
    → column_named c.schema.columns name ≡ Some column → first_refusal (sum_in engine side.session side.state c column (sum_at c column.id amount)) ≡ None
    → number_of Long (escrow_bytes (values_seen engine side.session c) column.id.0) ≡ escrow_value (values_seen engine side.session c) column.id.0
    → Decides engine side (call.EscrowUpdate cursor name amount) side (summed_with (step_by false (changed_by side.session (sum_at c column.id amount))) (escrow_value (values_seen engine side.session c) column.id.0))
escrow-done engine side cursor name amount c column is passed named none read = λ state h step.
    let asked = inputs_by engine state side in
    let made = sum_at c column.id amount in
    let number = escrow_value (values_seen engine side.session c) column.id.0 in
    answer-is asked (call.EscrowUpdate cursor name amount) side (summed_with (step_by false (changed_by side.session made)) number) (done side.state (Number number) (Some (step_by false (changed_by side.session made))))
    (answer-at engine side cursor name amount c is state h step ∙ unless-passed asked (place_in engine side.session c) _ passed
    ∙ ap (λ (o : Option Column). on_column asked o (sum_asked asked c amount)) named
    ∙ sum-told engine side cursor name amount c column is state h step
    ∙ unless-passed asked (sum_in engine side.session side.state c column made) _ none
    ∙ ap (λ (n : ℤ). done side.state (Number n) (step_of_change asked made)) (number-told is.sees engine state side cursor.0 c column.id.0 h step is.found read)
    ∙ ap (λ (s : Option Step). done side.state (Number number) s) (step_of_change-told engine state side made false h (place-inside engine side.session c passed)))
    refl refl refl

-- what is said of such a decision
pub escrow-decided : (engine : EngineState) (side : SessionSide) (request : Request) (made : Change) (number : ℤ) → Decides engine side request side (summed_with (step_by false (changed_by side.session made)) number)
    → AnswersLawfully engine side request → IsDecision engine side request side (summed_with (step_by false (changed_by side.session made)) number)
escrow-decided engine side request made number decides lawful = record {
  session = refl;
  still = λ _. refl;
  named = refl;
  fits = copied_none side.state request;
  flush = refl;
  lawful = lawful-step engine side side request (summed_with (step_by false (changed_by side.session made)) number) decides lawful;
}

-- ---- the row

-- the row under the cursor tells of the record that the session sees
pub row-at : SeesRows → (engine : EngineState) (side : SessionSide) (label session : ℕ) (c : OpenCursor) → HoldsSession engine side → cursor_labelled side.state label ≡ Some c → session ≡ side.session
    → IfSome (shown_for engine session c.cursor.table (bookmark_at c)) (IsRowAt engine session c)
row-at rows engine side label session c beside found own =
    subst (λ s. IfSome (shown_for engine s c.cursor.table (bookmark_at c)) (IsRowAt engine s c)) (sym own) (by (shown_for engine side.session c.cursor.table (bookmark_at c)) refl)
  where
    by : (shown : Option RecordFields) → shown_for engine side.session c.cursor.table (bookmark_at c) ≡ shown → IfSome shown (IsRowAt engine side.session c)
    by None e = tt
    by (Some row) e =
        let held = beside.held in
        rows engine held.state side.session side.state label c held.holds held.in_step found (bookmark_at c) row (values_seen engine side.session c) e (seen_at engine side.session c row e).0

-- the record that the session sees holds a number in the column
pub read-at : (engine : EngineState) (session : ℕ) (c : OpenCursor) (column : ℕ) → first_refusal (place_in engine session c) ≡ None → IfSome (shown_for engine session c.cursor.table (bookmark_at c)) (IsRowAt engine session c) → is_escrow_column c.schema column ≡ true
    → number_of Long (escrow_bytes (values_seen engine session c) column) ≡ escrow_value (values_seen engine session c) column
read-at engine session c column passed row sum = by (shown_for engine session c.cursor.table (bookmark_at c)) refl row
  where
    without : RecordFields → RecordFields
    without values = without_sums values (unseen_sums c.cursor.table (bookmark_at c) (reader_in session engine.sessions) engine.store.held)

    zero : number_of Long (escrow_bytes [] column) ≡ escrow_value [] column
    zero = refl

    by : (shown : Option RecordFields) → shown_for engine session c.cursor.table (bookmark_at c) ≡ shown → IfSome shown (IsRowAt engine session c)
        → number_of Long (escrow_bytes (values_seen engine session c) column) ≡ escrow_value (values_seen engine session c) column
    by None e h =
        let none : values_seen engine session c ≡ [] = ap (λ (o : Option RecordFields). unwrap_or (option_map without o) []) e in
        ap (λ (values : RecordFields). number_of Long (escrow_bytes values column)) none ∙ zero ∙ sym (ap (λ (values : RecordFields). escrow_value values column) none)
    by (Some fields) e h = read_as_long (values_seen engine session c) column (h.held column sum)

-- ---- columns

named_among : (columns : List Column) (name : List ℕ) (column : Column) → column_named columns name ≡ Some column → list_any (λ number. number == column.id.0) (map number_of_column columns) ≡ true
named_among [] name column e = cc
named_among (x ∷ columns) name column e = by (bytes_eq x.name name) e (named_among columns name column)
  where
    by : (b : Bool) → cond b (Some x) (column_named columns name) ≡ Some column → (column_named columns name ≡ Some column → list_any (λ number. number == column.id.0) (map number_of_column columns) ≡ true)
        → ((x.id.0 == column.id.0) || list_any (λ number. number == column.id.0) (map number_of_column columns)) ≡ true
    by true e rest = ap (λ b. b || list_any (λ number. number == column.id.0) (map number_of_column columns)) (ap (λ (o : Option Column). x.id.0 == (unwrap_or o x).id.0) (sym e) ∙ self_equal x.id.0)
    by false e rest = either (x.id.0 == column.id.0) _ (rest e)
      where
        either : (a b : Bool) → b ≡ true → (a || b) ≡ true
        either true b e = refl
        either false b e = e

-- the column that the name finds is the one of its number
pub escrow_named : (columns : List Column) (name : List ℕ) (column : Column) → are_distinct (map number_of_column columns) ≡ true → column_named columns name ≡ Some column
    → elim (find (λ (c : Column). c.id.0 == column.id.0) columns) [ Some c ↦ c.escrow | None ↦ false ] ≡ column.escrow
escrow_named [] name column distinct e = cc
escrow_named (x ∷ columns) name column distinct e = by (bytes_eq x.name name) e (escrow_named columns name column (and_right _ _ distinct))
  where
    at : Option Column → Bool
    at o = elim o [ Some c ↦ c.escrow | None ↦ false ]

    never : true ≡ false → ⊥
    never e = cc

    denied : (b : Bool) → not b ≡ true → b ≡ false
    denied false e = refl
    denied true e = impossible e

    other : column_named columns name ≡ Some column → (b : Bool) → (x.id.0 == column.id.0) ≡ b → b ≡ false
    other f false g = refl
    other f true g = absurd (never (sym (named_among columns name column f) ∙ ap (λ n. list_any (λ number. number == n) (map number_of_column columns)) (sym (eqb-true x.id.0 column.id.0 g))
        ∙ denied (list_any (λ number. number == x.id.0) (map number_of_column columns)) (and_left _ _ distinct)))

    by : (b : Bool) → cond b (Some x) (column_named columns name) ≡ Some column → (column_named columns name ≡ Some column → at (find (λ (c : Column). c.id.0 == column.id.0) columns) ≡ column.escrow) → at (cond (x.id.0 == column.id.0) (Some x) (find (λ (c : Column). c.id.0 == column.id.0) columns)) ≡ column.escrow
    by true f rest =
        ap (λ b. at (cond b (Some x) (find (λ (c : Column). c.id.0 == column.id.0) columns))) (ap (λ (o : Option Column). x.id.0 == (unwrap_or o x).id.0) (sym f) ∙ self_equal x.id.0)
        ∙ ap (λ (o : Option Column). (unwrap_or o x).escrow) f
    by false f rest =
        ap (λ b. at (cond b (Some x) (find (λ (c : Column). c.id.0 == column.id.0) columns))) (other f (x.id.0 == column.id.0) refl)
        ∙ rest f
