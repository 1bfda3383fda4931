-- A call that moves a cursor over what the session sees decides as the database state answers.
use Rattle.std.proofs.Common.{◌≡◌, ℕ, true, false, Option, Some, None, refl, ap, ◌∙◌}
use Rattle.std.specs.Prelude.{option_map}
use Rattle.jet_base.specs.declared.replies.Jet.{Jet}
use Rattle.cursor_nav.specs.Navigation.{Navigated}
use Rattle.database_state.specs.State.{DatabaseState}
use Rattle.session_local.specs.declared.request.Request.{Request}
use Rattle.session_local.specs.declared.request.Request.TheVariants as call
use Rattle.session_local.specs.SessionSide.{SessionSide}
use Rattle.session_local.specs.Answer.{Answered, Nothing}
use Rattle.session_local.specs.Local.{LocalState, OpenCursor, cursor_labelled}
use Rattle.session_local.specs.Outcome.{navigated}
use Rattle.session_local.specs.LocalCalls.{is_answered_locally}
use Rattle.session_local.specs.Finishing.{Decided, finished}
use Rattle.session_local.specs.Navigating.{navigated_by, navigated_on}
use Rattle.laws_engine.specs.InStep.{IsInStep}
use Rattle.stored_variants.specs.StoredVersions.{seen_entries}
use Rattle.version_store.specs.declared.calls.Reader.{Reader}
use Rattle.laws_engine.specs.VersionedTables.{VersionedTables}
use Rattle.version_cleanup.specs.Cleaning.{reader_in}
use Rattle.laws_engine.specs.EngineState.{EngineState}
use Rattle.laws_engine.specs.HoldsState.{HoldsState, inputs_of}
use Rattle.engine_parts.specs.Deciding.{Decides, is_navigation}
use Rattle.engine_parts.specs.HeldLaws.{SeesEntries, SeesRecords}
use Rattle.engine_parts.specs.Reading.{entries_for, has_shown, records_for}
use Rattle.engine_parts.specs.SharedCalls.{at_if}
use Rattle.laws_engine.proofs.EngineLemmas.Decisions.{refused_with, answer-is}
use Rattle.engine_parts.proofs.CursorCallsShown.{has_read}
use Rattle.engine_parts.proofs.CursorNavigates.{Sees, with_cursor-found, navigates}

-- ---- what a session reads is its view

pub record ReadsView : Type 0 where
  pub entries : SeesEntries
  pub records : SeesRecords

pub sees : ReadsView → (engine : EngineState) (state : DatabaseState) (side : SessionSide) (label : ℕ) (c : OpenCursor) → HoldsState engine state → IsInStep state side.session side.state → cursor_labelled side.state label ≡ Some c
    → Sees (entries_for engine side.session) (records_for engine side.session) (inputs_of engine state side.session side.state) c
sees reads engine state side label c h step found = record {
  each_index = reads.entries engine state side.session side.state label c h step found;
  each_record = has_read reads.records engine state side label c h step found;
}

-- ---- the calls

begun_navigation : (local : LocalState) (label : ℕ) (request : Request) → is_navigation label request ≡ true → is_answered_locally local request ≡ false → local.begun ≡ true
begun_navigation local label (call.Move cursor way) same shared = (at_if local.begun (cursor_labelled local cursor.0) shared).0
begun_navigation local label (call.Seek cursor by) same shared = (at_if local.begun (cursor_labelled local cursor.0) shared).0
begun_navigation local label (call.SetIndexRange cursor upper inclusive) same shared = (at_if local.begun (cursor_labelled local cursor.0) shared).0
begun_navigation local label (call.SetCurrentIndex cursor index) same shared = (at_if local.begun (cursor_labelled local cursor.0) shared).0
begun_navigation local label (call.GotoBookmark cursor bookmark) same shared = (at_if local.begun (cursor_labelled local cursor.0) shared).0
begun_navigation local label _ same shared = cc

finished-navigation : (local : LocalState) (label : ℕ) (request : Request) (decided : Decided) → is_navigation label request ≡ true → finished local request decided ≡ local
finished-navigation local label (call.Move cursor way) decided same = refl
finished-navigation local label (call.Seek cursor by) decided same = refl
finished-navigation local label (call.SetIndexRange cursor upper inclusive) decided same = refl
finished-navigation local label (call.SetCurrentIndex cursor index) decided same = refl
finished-navigation local label (call.GotoBookmark cursor bookmark) decided same = refl
finished-navigation local label _ decided same = cc

decides_found : ReadsView → (engine : EngineState) (side new : SessionSide) (label : ℕ) (request : Request) (reply : Jet) (found : Option OpenCursor) → is_navigation label request ≡ true → side.state.begun ≡ true
    → cursor_labelled side.state label ≡ found
    → Some reply ≡ option_map (λ c. (navigated_by (entries_for engine side.session) (records_for engine side.session) c request).jet) found
    → new.state ≡ navigated_on side.state found (λ c. navigated_by (entries_for engine side.session) (records_for engine side.session) c request)
    → Decides engine side request new (refused_with reply)
decides_found reads engine side new label request reply None same begun is told left = absurd (cc)
decides_found reads engine side new label request reply (Some c) same begun is told left = λ state h step.
    let asked = inputs_of engine state side.session side.state in
    let entries = entries_for engine side.session in
    let records = records_for engine side.session in
    let n = navigated_by entries records c request in
    let same_reply : reply ≡ n.jet = cc in
    let P : Jet → Answered = λ jet. record { jet = jet; shown = Nothing } in
    answer-is asked request new (refused_with reply) (navigated asked c n)
    (navigates asked c entries records label request same begun is (with_cursor-found side.state label c step.labels is) (sees reads engine state side label c h step is))
    (ap P same_reply) refl (finished-navigation new.state label request _ same ∙ left)

-- over the tables that a view has
pub navigate-decides : ReadsView → (engine : EngineState) (store : VersionedTables) (reader : Reader) (side new : SessionSide) (label : ℕ) (request : Request) (reply : Jet) → is_navigation label request ≡ true
    → is_answered_locally side.state request ≡ false → store ≡ engine.store → reader ≡ reader_in side.session engine.sessions
    → Some reply ≡ option_map (λ c. (navigated_by (seen_entries reader store) (has_shown reader store) c request).jet) (cursor_labelled side.state label)
    → new ≡ record side { state = navigated_on side.state (cursor_labelled side.state label) (λ c. navigated_by (seen_entries reader store) (has_shown reader store) c request) }
    → Decides engine side request new (refused_with reply)
navigate-decides reads engine store reader side new label request reply same shared held by told left =
    let found = cursor_labelled side.state label in
    let Seen : Reader → VersionedTables → OpenCursor → Navigated = λ r s c. navigated_by (seen_entries r s) (has_shown r s) c request in
    let own = reader_in side.session engine.sessions in
    decides_found reads engine side new label request reply found same (begun_navigation side.state label request same shared) refl
    (told ∙ ap (λ r. option_map (λ c. (Seen r store c).jet) found) by ∙ ap (λ s. option_map (λ c. (Seen own s c).jet) found) held)
    (ap (λ (s : SessionSide). s.state) left ∙ ap (λ r. navigated_on side.state found (Seen r store)) by ∙ ap (λ s. navigated_on side.state found (Seen own s)) held)
