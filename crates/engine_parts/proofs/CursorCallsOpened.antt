-- What OpenTable decides.
use Rattle.std.proofs.Common.{◌≡◌, ℕ, ◌≤◌, ◌<◌, Bool, true, false, List, [], ◌∷◌, length, Option, Some, None, refl, sym, ap, subst, ◌∙◌, is_some, arith}
use Rattle.std.specs.Prelude.{nat_le, option_map}
use Rattle.std.proofs.lemmas.Bool.Decides.{nat_tests}
use Rattle.jet_base.specs.declared.ids.CursorId.{CursorId}
use Rattle.jet_base.specs.declared.ids.TableId.{TableId}
use Rattle.jet_base.specs.declared.ids.Session.{Session}
use Rattle.jet_base.specs.declared.replies.Jet.TheVariants as jet
use Rattle.index_derive.specs.declared.log.EntryKind.TheVariants as entry
use Rattle.index_derive.specs.declared.log.Step.{Step}
use Rattle.index_derive.specs.declared.log.Step.TheVariants.{One}
use Rattle.index_derive.specs.declared.rules.Schema.{Schema}
use Rattle.database_state.specs.Table.{Table, schema_of, table_named}
use Rattle.database_state.specs.State.{DatabaseState}
use Rattle.database_state.specs.Lawful.{log_limit}
use Rattle.jet_catalog.specs.Catalog.{without_rows}
use Rattle.session_local.specs.declared.decision.Decision.{Decision}
use Rattle.session_local.specs.declared.request.Request.TheVariants as call
use Rattle.session_local.specs.declared.reply.Value.TheVariants as value
use Rattle.session_local.specs.SessionSide.{SessionSide}
use Rattle.session_local.specs.Answer.{Nothing}
use Rattle.session_local.specs.Local.{LocalState, cursor_labelled, with_new_cursor}
use Rattle.session_local.specs.Agreement.{Agrees}
use Rattle.session_local.specs.Outcome.{CallInputs, Outcome, refused, done, unless, one}
use Rattle.session_local.specs.Calls.{answer}
use Rattle.session_local.specs.CursorCalls.{opened}
use Rattle.session_local.specs.LocalCalls.{is_answered_locally}
use Rattle.session_local.specs.Finishing.{opened_cursor, finished}
use Rattle.session_local.specs.Deciding.{decided_in}
use Rattle.laws_engine.specs.LawfulSteps.{HasLawfulStep}
use Rattle.laws_engine.specs.EngineState.{EngineState}
use Rattle.laws_engine.specs.HoldsState.{HoldsState, inputs_of}
use Rattle.laws_engine.proofs.EngineLemmas.SameTables.{named_alike}
use Rattle.engine_parts.specs.Deciding.{Decides, IsDecision}
use Rattle.laws_engine.proofs.EngineLemmas.Decisions.{refused_with, answer-is, copied_none}

-- ---- what is asked of the session's own state

open_if : (b taken : Bool) → elim b [ true ↦ taken | false ↦ true ] ≡ false → (b ≡ true) × (taken ≡ false)
open_if true taken e = (refl, e)
open_if false taken e = absurd (cc)

-- the session was begun, and the label is free
opens_freely : (local : LocalState) (cursor : CursorId) (name : List ℕ) → is_answered_locally local (call.OpenTable cursor name) ≡ false → (local.begun ≡ true) × (is_some (cursor_labelled local cursor.0) ≡ false)
opens_freely local cursor name shared = open_if local.begun (is_some (cursor_labelled local cursor.0)) shared

open_table-is : (asked : CallInputs) (cursor : CursorId) (name : List ℕ) (full : Bool) → is_answered_locally asked.local (call.OpenTable cursor name) ≡ false → nat_le 16 (length asked.local.cursors) ≡ full
    → answer asked (call.OpenTable cursor name) ≡ unless asked ((full, jet.OutOfCursors) ∷ []) (λ _. opened asked cursor.0 (table_named asked.state.tables name))
unfolding answer
open_table-is asked cursor name full shared is =
    let free = opens_freely asked.local cursor name shared in
    let begun = free.0 in
    let label = free.1 in
    rw (begun, label, is) refl

-- ---- the table

named : (engine : EngineState) (state : DatabaseState) (name : List ℕ) → HoldsState engine state → option_map without_rows (table_named engine.store.tables name) ≡ option_map without_rows (table_named state.tables name)
named engine state name h = named_alike engine.store.tables state.tables h.holds.defined name

unnamed : (found : Option Table) → None ≡ option_map without_rows found → found ≡ None
unnamed None e = refl
unnamed (Some t) e = cc

-- what opening a table comes to, whether the log has ended or not
abbrev opens_at : CallInputs → ℕ → Table → Bool → Outcome
opens_at asked label t late =
    unless asked ((late, jet.LogSequenceEnd) ∷ [])
    (λ _. done (with_new_cursor asked.local (opened_cursor label (t.id, schema_of t))) Nothing (one asked (entry.Open (record { 0 = t.id }))))

opened-is : (asked : CallInputs) (label : ℕ) (found : Option Table) (t : Table) (late : Bool) → Some t ≡ option_map without_rows found → nat_le log_limit asked.state.number ≡ late → opened asked label found ≡ opens_at asked label t late
opened-is asked label None t late e is = cc
opened-is asked label (Some u) t late e is =
    let same : t ≡ without_rows u = cc in
    ap (λ b. opens_at asked label u b) is ∙ ap (λ t. opens_at asked label t late) (sym same)

-- ---- refusals

too_many : (n : ℕ) → 16 ≤ n → nat_le 16 n ≡ true
too_many n h = grind (arith, nat_tests)

few : (n : ℕ) → n < 16 → nat_le 16 n ≡ false
few n h = grind (arith, nat_tests)

pub open_table-full : (engine : EngineState) (side : SessionSide) (cursor : CursorId) (name : List ℕ) → is_answered_locally side.state (call.OpenTable cursor name) ≡ false → 16 ≤ length side.state.cursors
    → Decides engine side (call.OpenTable cursor name) side (refused_with jet.OutOfCursors)
open_table-full engine side cursor name shared many = λ state h step.
    let asked = inputs_of engine state side.session side.state in
    answer-is asked (call.OpenTable cursor name) side (refused_with jet.OutOfCursors) (refused asked jet.OutOfCursors)
    (open_table-is asked cursor name true shared (too_many (length side.state.cursors) many)) refl refl refl

pub open_table-unknown : (engine : EngineState) (side : SessionSide) (cursor : CursorId) (name : List ℕ) → is_answered_locally side.state (call.OpenTable cursor name) ≡ false → length side.state.cursors < 16
    → None ≡ option_map without_rows (table_named engine.store.tables name) → Decides engine side (call.OpenTable cursor name) side (refused_with jet.ObjectNotFound)
open_table-unknown engine side cursor name shared room missing = λ state h step.
    let asked = inputs_of engine state side.session side.state in
    answer-is asked (call.OpenTable cursor name) side (refused_with jet.ObjectNotFound) (refused asked jet.ObjectNotFound)
    (open_table-is asked cursor name false shared (few (length side.state.cursors) room)
    ∙ ap (opened asked cursor.0) (unnamed (table_named state.tables name) (missing ∙ named engine state name h))) refl refl refl

opened-told : (engine : EngineState) (state : DatabaseState) (side : SessionSide) (cursor : CursorId) (name : List ℕ) (t : Table) (late : Bool) → HoldsState engine state → is_answered_locally side.state (call.OpenTable cursor name) ≡ false
    → length side.state.cursors < 16 → Some t ≡ option_map without_rows (table_named engine.store.tables name) → nat_le log_limit engine.number ≡ late
    → answer (inputs_of engine state side.session side.state) (call.OpenTable cursor name) ≡ opens_at (inputs_of engine state side.session side.state) cursor.0 t late
opened-told engine state side cursor name t late h shared room found is =
    let asked = inputs_of engine state side.session side.state in
    open_table-is asked cursor name false shared (few (length side.state.cursors) room)
    ∙ opened-is asked cursor.0 (table_named state.tables name) t late (found ∙ named engine state name h) (ap (λ n. nat_le log_limit n) h.number ∙ is)

ended : (n : ℕ) → 17179869184 ≤ n → nat_le log_limit n ≡ true
ended n h = grind (arith, nat_tests)

going_on : (n : ℕ) → n < 17179869184 → nat_le log_limit n ≡ false
going_on n h = grind (arith, nat_tests)

pub open_table-late : (engine : EngineState) (side : SessionSide) (cursor : CursorId) (name : List ℕ) (t : Table) → is_answered_locally side.state (call.OpenTable cursor name) ≡ false → length side.state.cursors < 16
    → Some t ≡ option_map without_rows (table_named engine.store.tables name) → 17179869184 ≤ engine.number → Decides engine side (call.OpenTable cursor name) side (refused_with jet.LogSequenceEnd)
open_table-late engine side cursor name t shared room found late = λ state h step.
    let asked = inputs_of engine state side.session side.state in
    answer-is asked (call.OpenTable cursor name) side (refused_with jet.LogSequenceEnd) (refused asked jet.LogSequenceEnd)
    (opened-told engine state side cursor name t true h shared room found (ended engine.number late)) refl refl refl

-- ---- a cursor is opened

abbrev pub opened_with : ℕ → ℕ → Schema → Decision
opened_with session table schema = record {
  step = Some (One (record { session = record { 0 = session }; kind = entry.Open (record { 0 = table }) }));
  reply = record { jet = jet.Success; value = value.Nothing };
  table = Some (record { 0 = table }, schema);
  copied = None;
  temp = None;
  buffers = None;
  flush = false;
}

finished-opened : (local : LocalState) (cursor : CursorId) (name : List ℕ) (session table : ℕ) (schema : Schema) → is_answered_locally local (call.OpenTable cursor name) ≡ false → nat_le 16 (length local.cursors) ≡ false
    → finished local (call.OpenTable cursor name) (decided_in (opened_with session table schema)) ≡ with_new_cursor local (opened_cursor cursor.0 (table, schema))
finished-opened local cursor name session table schema shared room =
    let free = opens_freely local cursor name shared in
    let begun = free.0 in
    let label = free.1 in
    rw (begun, label, room) refl

pub open_table-done : (engine : EngineState) (side : SessionSide) (cursor : CursorId) (name : List ℕ) (t : Table) → is_answered_locally side.state (call.OpenTable cursor name) ≡ false → length side.state.cursors < 16
    → Some t ≡ option_map without_rows (table_named engine.store.tables name) → engine.number < 17179869184 → Decides engine side (call.OpenTable cursor name) side (opened_with side.session t.id (schema_of t))
open_table-done engine side cursor name t shared room found early = λ state h step.
    let asked = inputs_of engine state side.session side.state in
    answer-is asked (call.OpenTable cursor name) side (opened_with side.session t.id (schema_of t)) (opens_at asked cursor.0 t false)
    (opened-told engine state side cursor name t false h shared room found (going_on engine.number early)) refl refl
    (finished-opened side.state cursor name side.session t.id (schema_of t) shared (few (length side.state.cursors) room))

-- the law that the step is lawful
abbrev pub OpensLawfully : Type 0
OpensLawfully = (asked : CallInputs) (cursor : CursorId) (table : List ℕ) → Agrees asked.state asked.session asked.local → HasLawfulStep asked.state (answer asked (call.OpenTable cursor table))

pub open_table-lawful : OpensLawfully → (engine : EngineState) (side : SessionSide) (cursor : CursorId) (name : List ℕ) (t : Table) → is_answered_locally side.state (call.OpenTable cursor name) ≡ false → length side.state.cursors < 16
    → Some t ≡ option_map without_rows (table_named engine.store.tables name) → engine.number < 17179869184 → IsDecision engine side (call.OpenTable cursor name) side (opened_with side.session t.id (schema_of t))
open_table-lawful opens engine side cursor name t shared room found early = record {
  session = refl;
  still = λ _. refl;
  named = refl;
  fits = copied_none side.state (call.OpenTable cursor name);
  flush = refl;
  lawful =
      λ state h step.
      let asked = inputs_of engine state side.session side.state in
      subst (λ (o : Outcome). HasLawfulStep state o) (opened-told engine state side cursor name t false h shared room found (going_on engine.number early)) (opens asked cursor name step.agrees);
}

abbrev pub opened_by : Step → TableId → Schema → Decision
opened_by step table schema = record {
  step = Some step;
  reply = record { jet = jet.Success; value = value.Nothing };
  table = Some (table, schema);
  copied = None;
  temp = None;
  buffers = None;
  flush = false;
}

-- the decision that the code makes, by what its parts are
pub opened-as : (decision : Decision) (session : Session) (id : TableId) (schema : Schema) (label : ℕ) (t : Table)
    → decision ≡ record { step = Some (One (record { session = session; kind = entry.Open id })); reply = record { jet = jet.Success; value = value.Nothing }; table = Some (id, schema); copied = None; temp = None; buffers = None; flush = false }
    → session.0 ≡ label → id.0 ≡ t.id → schema ≡ schema_of t
    → decision ≡ opened_with label t.id (schema_of t)
opened-as decision session id schema label t is by number shown =
    let by_label : ℕ → Session = λ n. record { 0 = n } in
    let by_number : ℕ → TableId = λ n. record { 0 = n } in
    let made : Session → TableId → Step = λ s i. One (record { session = s; kind = entry.Open i }) in
    is ∙ ap (λ n. opened_by (made (by_label n) id) id schema) by
    ∙ ap (λ n. opened_by (made (by_label label) (by_number n)) (by_number n) schema) number
    ∙ ap (λ s. opened_by (made (by_label label) (by_number t.id)) (by_number t.id) s) shown
