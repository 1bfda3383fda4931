-- What decides the schema calls.
use Rattle.std.proofs.Common.{◌≡◌, ℕ, Bool, true, false, List, [], ◌∷◌, Option, Some, None, Ok, Err, refl, sym, ap, ◌∙◌}
use Rattle.std.specs.Prelude.{nat_le, not}
use Rattle.jet_base.specs.declared.replies.Jet.{Jet}
use Rattle.jet_base.specs.declared.replies.Jet.TheVariants as jet
use Rattle.jet_base.specs.declared.words.ColType.{ColType}
use Rattle.jet_base.specs.declared.words.ColumnFlags.{ColumnFlags}
use Rattle.index_derive.specs.declared.log.EntryKind.TheVariants as entry
use Rattle.index_derive.specs.declared.schema_calls.SchemaCall.{SchemaCall}
use Rattle.index_derive.specs.declared.schema_calls.SchemaCall.TheVariants as schema
use Rattle.index_derive.specs.declared.schema_calls.SchemaStep.{SchemaStep}
use Rattle.database_state.specs.State.{DatabaseState}
use Rattle.database_state.specs.Lawful.{is_name, log_limit}
use Rattle.database_state.specs.SchemaChanges.{schema_refusal}
use Rattle.database_state.specs.SchemaSteps.{step_of_call}
use Rattle.laws_versions.specs.TableOrder.{HasTablesInOrder}
use Rattle.jet_catalog.specs.Decisions.{decided, refused_or}
use Rattle.session_local.specs.declared.request.Request.{Request}
use Rattle.session_local.specs.declared.request.Request.TheVariants as call
use Rattle.session_local.specs.SessionSide.{SessionSide}
use Rattle.session_local.specs.Local.{LocalState}
use Rattle.session_local.specs.Agreement.{Agrees}
use Rattle.session_local.specs.Answer.{Nothing}
use Rattle.session_local.specs.Outcome.{CallInputs, Outcome, done, unless, unless_refused, one}
use Rattle.session_local.specs.SchemaCalls.{schema_changed}
use Rattle.session_local.specs.Calls.{answer}
use Rattle.session_local.specs.Finishing.{finished}
use Rattle.session_local.specs.Deciding.{decided_in as decided_by_decision}
use Rattle.session_local.specs.Run.{is_lazy}
use Rattle.laws_engine.specs.LawfulSteps.{HasLawfulStep}
use Rattle.session_local.specs.BuiltCalls.{makes_named, is_built_request}
use Rattle.session_local.specs.SchemaRequests.{schema_call_of}
use Rattle.laws_engine.specs.EngineState.{EngineState}
use Rattle.laws_engine.specs.HoldsState.{HoldsState}
use Rattle.engine_parts.specs.Deciding.{Decides, IsDecision}
use Rattle.engine_parts.specs.SchemaRequests.{is_schema_request, IsDecided, has_built_keys}
use Rattle.laws_engine.proofs.EngineLemmas.Decisions.{refused_with, stepped_with, one_by, answer-begun, answer-is, answer-refused}
use Rattle.engine_parts.specs.DecisionLaws.{AnswersLawfully, inputs_by, decision-stepped}
use Rattle.common_lemmas.proofs.Booleans.{and_right}
use Rattle.index_derive.specs.declared.schema_calls.SchemaStep.TheVariants as step
use Rattle.engine_parts.specs.CreatingIndexes.{makes_index}

-- ---- the request

schema-answered : (asked : CallInputs) (request : Request) (called : SchemaCall) → asked.local.begun ≡ true → Some called ≡ schema_call_of request → answer asked request ≡ schema_changed asked (step_of_call asked.state called)
schema-answered asked (call.CreateTable table) called begun same =
    let e : schema.CreateTable table ≡ called = cc in answer-begun asked (call.CreateTable table) begun ∙ ap (λ called. schema_changed asked (step_of_call asked.state called)) e
schema-answered asked (call.DeleteTable table) called begun same =
    let e : schema.DeleteTable table ≡ called = cc in answer-begun asked (call.DeleteTable table) begun ∙ ap (λ called. schema_changed asked (step_of_call asked.state called)) e
schema-answered asked (call.AddColumn table column kind flags) called begun same =
    let e : schema.AddColumn table column kind flags ≡ called = cc in answer-begun asked (call.AddColumn table column kind flags) begun ∙ ap (λ called. schema_changed asked (step_of_call asked.state called)) e
schema-answered asked (call.DeleteColumn table column) called begun same =
    let e : schema.DeleteColumn table column ≡ called = cc in answer-begun asked (call.DeleteColumn table column) begun ∙ ap (λ called. schema_changed asked (step_of_call asked.state called)) e
schema-answered asked (call.CreateIndex table index flags key_most segments conditions) called begun same =
    let e : schema.CreateIndex table index flags key_most segments conditions ≡ called = cc in
    answer-begun asked (call.CreateIndex table index flags key_most segments conditions) begun ∙ ap (λ called. schema_changed asked (step_of_call asked.state called)) e
schema-answered asked (call.DeleteIndex table index) called begun same =
    let e : schema.DeleteIndex table index ≡ called = cc in answer-begun asked (call.DeleteIndex table index) begun ∙ ap (λ called. schema_changed asked (step_of_call asked.state called)) e
schema-answered asked _ called begun same = cc

finished-schema : (local : LocalState) (request : Request) (called : SchemaCall) (session : ℕ) (made : SchemaStep) → Some called ≡ schema_call_of request
    → finished local request (decided_by_decision (stepped_with (one_by session (entry.Schema made)) None true)) ≡ local
finished-schema local (call.CreateTable table) called session made same = refl
finished-schema local (call.DeleteTable table) called session made same = refl
finished-schema local (call.AddColumn table column kind flags) called session made same = refl
finished-schema local (call.DeleteColumn table column) called session made same = refl
finished-schema local (call.CreateIndex table index flags key_most segments conditions) called session made same = refl
finished-schema local (call.DeleteIndex table index) called session made same = refl
finished-schema local _ called session made same = cc

not_lazy : (request : Request) (called : SchemaCall) → Some called ≡ schema_call_of request → is_lazy request ≡ false
not_lazy (call.CommitTransaction lazy) called same = cc
not_lazy _ called same = refl

-- ---- decisions

-- the outcome by what refuses it, and whether the log is full
abbrev schema_by : CallInputs → Option Jet → Bool → SchemaStep → Outcome
schema_by asked refusal full made = unless_refused asked refusal (λ _. unless asked ((full, jet.LogSequenceEnd) ∷ []) (λ _. done asked.local Nothing (one asked (entry.Schema made))))

-- what is known of a call that is asked
pub record IsAsked (side : SessionSide) (request : Request) (called : SchemaCall) : Type 0 where
  pub begun : side.state.begun ≡ true
  pub same : Some called ≡ schema_call_of request

refusal_of : (refusal : Option Jet) (asked : SchemaStep) (reply : Jet) → Err reply ≡ refused_or refusal asked → refusal ≡ Some reply
refusal_of None asked reply e = cc
refusal_of (Some other) asked reply e = cc

step_of : (refusal : Option Jet) (asked made : SchemaStep) → Ok made ≡ refused_or refusal asked → (refusal ≡ None) × (asked ≡ made)
step_of None asked made e = (refl, cc)
step_of (Some reply) asked made e = cc

pub schema-refused : (engine : EngineState) (side : SessionSide) (request : Request) (called : SchemaCall) (reply : Jet) → IsAsked side request called → IsDecided engine side.session called (Err reply) → Decides engine side request side (refused_with reply)
schema-refused engine side request called reply asked decided = λ state h in_step.
    answer-refused (inputs_by engine state side) request side reply refl
    (schema-answered (inputs_by engine state side) request called asked.begun asked.same
    ∙ ap (λ refusal. schema_by (inputs_by engine state side) refusal (nat_le log_limit state.number) (step_of_call state called))
    (refusal_of (schema_refusal state side.session (step_of_call state called)) (step_of_call state called) reply (decided state h)))

-- the outcome of a call that nothing refuses, by whether the log is full
outcome-told : (engine : EngineState) (side : SessionSide) (request : Request) (called : SchemaCall) (made : SchemaStep) (full : Bool) (state : DatabaseState) → HoldsState engine state → IsAsked side request called
    → IsDecided engine side.session called (Ok made) → nat_le log_limit engine.number ≡ full
    → answer (inputs_by engine state side) request ≡ schema_by (inputs_by engine state side) None full made
outcome-told engine side request called made full state h asked decided is_full =
    let asks : (schema_refusal state side.session (step_of_call state called) ≡ None) × (step_of_call state called ≡ made) =
    step_of (schema_refusal state side.session (step_of_call state called)) (step_of_call state called) made (decided state h) in
    schema-answered (inputs_by engine state side) request called asked.begun asked.same
    ∙ ap (λ refusal. schema_by (inputs_by engine state side) refusal (nat_le log_limit state.number) (step_of_call state called)) asks.0
    ∙ ap (λ b. schema_by (inputs_by engine state side) None b (step_of_call state called)) (ap (nat_le log_limit) h.number ∙ is_full)
    ∙ ap (schema_by (inputs_by engine state side) None full) asks.1

pub schema-full : (engine : EngineState) (side : SessionSide) (request : Request) (called : SchemaCall) (made : SchemaStep) → IsAsked side request called → IsDecided engine side.session called (Ok made) → nat_le log_limit engine.number ≡ true
    → Decides engine side request side (refused_with jet.LogSequenceEnd)
schema-full engine side request called made asked decided full = λ state h in_step.
    answer-refused (inputs_by engine state side) request side jet.LogSequenceEnd refl (outcome-told engine side request called made true state h asked decided full)

pub schema-done : (engine : EngineState) (side : SessionSide) (request : Request) (called : SchemaCall) (made : SchemaStep) → IsAsked side request called → IsDecided engine side.session called (Ok made) → nat_le log_limit engine.number ≡ false
    → Decides engine side request side (stepped_with (one_by side.session (entry.Schema made)) None true)
schema-done engine side request called made asked decided room = λ state h in_step.
    answer-is (inputs_by engine state side) request side _ _ (outcome-told engine side request called made false state h asked decided room) refl refl
    (finished-schema side.state request called side.session made asked.same)

-- ---- lawful steps

pub record StepLaws : Type 0 where
  pub create_table : (asked : CallInputs) (table : List ℕ) → Agrees asked.state asked.session asked.local → is_name table ≡ true → HasLawfulStep asked.state (answer asked (call.CreateTable table))
  pub delete_table : (asked : CallInputs) (table : List ℕ) → Agrees asked.state asked.session asked.local → HasLawfulStep asked.state (answer asked (call.DeleteTable table))
  pub add_column : (asked : CallInputs) (table column : List ℕ) (kind : ColType) (flags : ColumnFlags) → Agrees asked.state asked.session asked.local → HasTablesInOrder asked.state → is_name column ≡ true
      → HasLawfulStep asked.state (answer asked (call.AddColumn table column kind flags))
  pub delete_column : (asked : CallInputs) (table column : List ℕ) → Agrees asked.state asked.session asked.local → HasLawfulStep asked.state (answer asked (call.DeleteColumn table column))
  pub delete_index : (asked : CallInputs) (table index : List ℕ) → Agrees asked.state asked.session asked.local → HasLawfulStep asked.state (answer asked (call.DeleteIndex table index))

pub answers-lawfully : StepLaws → (engine : EngineState) (side : SessionSide) (request : Request) → is_schema_request request ≡ true → makes_named request ≡ true → AnswersLawfully engine side request
answers-lawfully laws engine side (call.CreateTable table) changes named = λ state h step. laws.create_table (inputs_by engine state side) table step.agrees named
answers-lawfully laws engine side (call.DeleteTable table) changes named = λ state h step. laws.delete_table (inputs_by engine state side) table step.agrees
answers-lawfully laws engine side (call.AddColumn table column kind flags) changes named = λ state h step. laws.add_column (inputs_by engine state side) table column kind flags step.agrees h.reached.order named
answers-lawfully laws engine side (call.DeleteColumn table column) changes named = λ state h step. laws.delete_column (inputs_by engine state side) table column step.agrees
answers-lawfully laws engine side (call.DeleteIndex table index) changes named = λ state h step. laws.delete_index (inputs_by engine state side) table index step.agrees
answers-lawfully laws engine side _ changes named = absurd (cc)

pub schema-decision : (engine : EngineState) (side : SessionSide) (request : Request) (called : SchemaCall) (made : SchemaStep) → AnswersLawfully engine side request → IsAsked side request called
    → IsDecided engine side.session called (Ok made) → nat_le log_limit engine.number ≡ false
    → IsDecision engine side request side (stepped_with (one_by side.session (entry.Schema made)) None true)
schema-decision engine side request called made lawful asked decided room =
    decision-stepped engine side request (one_by side.session (entry.Schema made)) None true (schema-done engine side request called made asked decided room)
    lawful (ap not (sym (not_lazy request called asked.same)))

-- ---- the calls of a request

pub schema-keys : (request : Request) (called : SchemaCall) → is_schema_request request ≡ true → Some called ≡ schema_call_of request → has_built_keys called ≡ true
schema-keys (call.CreateTable table) called changes same = let e : schema.CreateTable table ≡ called = cc in ap has_built_keys (sym e)
schema-keys (call.DeleteTable table) called changes same = let e : schema.DeleteTable table ≡ called = cc in ap has_built_keys (sym e)
schema-keys (call.AddColumn table column kind flags) called changes same = let e : schema.AddColumn table column kind flags ≡ called = cc in ap has_built_keys (sym e)
schema-keys (call.DeleteColumn table column) called changes same = let e : schema.DeleteColumn table column ≡ called = cc in ap has_built_keys (sym e)
schema-keys (call.CreateIndex table index flags key_most segments conditions) called changes same = cc
schema-keys (call.DeleteIndex table index) called changes same = let e : schema.DeleteIndex table index ≡ called = cc in ap has_built_keys (sym e)
schema-keys _ called changes same = cc

pub index-keys : (request : Request) (called : SchemaCall) → makes_index request ≡ true → is_built_request request ≡ true → Some called ≡ schema_call_of request → has_built_keys called ≡ true
index-keys (call.CreateIndex table index flags key_most segments conditions) called makes built same =
    let e : schema.CreateIndex table index flags key_most segments conditions ≡ called = cc in
    ap has_built_keys (sym e) ∙ and_right (is_name index) (nat_le key_most 255) built
index-keys _ called makes built same = absurd (cc)
