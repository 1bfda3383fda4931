-- What decides the calls of sessions and transactions.
use Rattle.std.proofs.Common.{◌≡◌, ℕ, ◌<◌, ◌≤◌, Bool, true, false, cond, List, [], ◌∷◌, length, Some, None, refl, ap, ◌∙◌, arith}
use Rattle.std.proofs.lemmas.Bool.Decides.{nat_tests}
use Rattle.std.specs.Prelude.{◌==◌, nat_le, nat_lt, not}
use Rattle.jet_base.specs.declared.replies.Jet.TheVariants as jet
use Rattle.index_derive.specs.declared.log.EntryKind.TheVariants as entry
use Rattle.database_state.specs.State.{DatabaseState, levels}
use Rattle.database_state.specs.Lawful.{log_limit}
use Rattle.session_local.specs.declared.request.Request.TheVariants as call
use Rattle.session_local.specs.SessionSide.{SessionSide}
use Rattle.session_local.specs.Answer.{Nothing}
use Rattle.session_local.specs.Local.{without_prepared, new_session}
use Rattle.session_local.specs.Outcome.{CallInputs, Outcome, done, unless, one}
use Rattle.session_local.specs.Calls.{answer}
use Rattle.version_cleanup.specs.LiveSessions.{levels_in}
use Rattle.laws_engine.specs.EngineState.{EngineState}
use Rattle.laws_engine.specs.HoldsState.{HoldsState}
use Rattle.engine_parts.specs.Deciding.{Decides}
use Rattle.laws_engine.proofs.EngineLemmas.Decisions.{refused_with, stepped_with, one_by, answer-begun, answer-not_begun, answer-is, answer-refused}
use Rattle.engine_parts.specs.DecisionLaws.{inputs_by}
use Rattle.engine_parts.specs.SessionLaws.{levels-told, sessions-told}

-- ---- BeginSession

abbrev begun_session : CallInputs → Bool → Bool → Bool → Outcome
begun_session asked begun many is_full =
    unless asked ((begun, jet.SessionInUse) ∷ (many, jet.OutOfSessions) ∷ (is_full, jet.LogSequenceEnd) ∷ [])
    (λ _. done new_session Nothing (one asked entry.Enter))

begin_session-is : (engine : EngineState) (state : DatabaseState) (side : SessionSide) (many is_full : Bool) → HoldsState engine state → side.state.begun ≡ false
    → nat_le 64 (length engine.sessions) ≡ many → nat_le log_limit engine.number ≡ is_full
    → answer (inputs_by engine state side) call.BeginSession ≡ begun_session (inputs_by engine state side) false many is_full
begin_session-is engine state side many is_full h fresh is_many is =
    answer-not_begun (inputs_by engine state side) call.BeginSession fresh
    ∙ ap (λ b. begun_session (inputs_by engine state side) b (nat_le 64 (length state.sessions)) (nat_le log_limit state.number)) fresh
    ∙ ap (λ b. begun_session (inputs_by engine state side) false b (nat_le log_limit state.number)) (ap (nat_le 64) (sessions-told engine state h) ∙ is_many)
    ∙ ap (begun_session (inputs_by engine state side) false many) (ap (nat_le log_limit) h.number ∙ is)

pub begin_session-many : (engine : EngineState) (side : SessionSide) → side.state.begun ≡ false → nat_le 64 (length engine.sessions) ≡ true → Decides engine side call.BeginSession side (refused_with jet.OutOfSessions)
begin_session-many engine side fresh many = λ state h in_step.
    answer-refused (inputs_by engine state side) call.BeginSession side jet.OutOfSessions refl (begin_session-is engine state side true _ h fresh many refl)

pub begin_session-full : (engine : EngineState) (side : SessionSide) → side.state.begun ≡ false → nat_le 64 (length engine.sessions) ≡ false → nat_le log_limit engine.number ≡ true
    → Decides engine side call.BeginSession side (refused_with jet.LogSequenceEnd)
begin_session-full engine side fresh few full = λ state h in_step.
    answer-refused (inputs_by engine state side) call.BeginSession side jet.LogSequenceEnd refl (begin_session-is engine state side false true h fresh few full)

pub begin_session-done : (engine : EngineState) (side : SessionSide) (bytes : List ℕ) → side.state.begun ≡ false → nat_le 64 (length engine.sessions) ≡ false → nat_le log_limit engine.number ≡ false
    → Decides engine side call.BeginSession side (stepped_with (one_by side.session entry.Enter) (Some bytes) false)
begin_session-done engine side bytes fresh few free = λ state h in_step.
    answer-is (inputs_by engine state side) call.BeginSession side _ _ (begin_session-is engine state side false false h fresh few free) refl refl refl

-- ---- EndSession

pub end_session-done : (engine : EngineState) (side : SessionSide) → side.state.begun ≡ true → Decides engine side call.EndSession side (stepped_with (one_by side.session entry.Leave) None false)
end_session-done engine side begun = λ state h in_step.
    answer-is (inputs_by engine state side) call.EndSession side _ _ (answer-begun (inputs_by engine state side) call.EndSession begun) refl refl refl

-- ---- BeginTransaction

abbrev begun_by : CallInputs → Bool → Bool → Bool → Outcome
begun_by asked deep is_full outside =
    unless asked ((deep, jet.TransTooDeep) ∷ (is_full, jet.LogSequenceEnd) ∷ [])
    (λ _. done asked.local Nothing (one asked (cond outside entry.Begin entry.Save)))

begin_transaction-is : (engine : EngineState) (state : DatabaseState) (side : SessionSide) (deep is_full outside : Bool) → HoldsState engine state → side.state.begun ≡ true
    → nat_le 7 (levels_in side.session engine.sessions) ≡ deep → nat_le log_limit engine.number ≡ is_full → (levels_in side.session engine.sessions == 0) ≡ outside
    → answer (inputs_by engine state side) call.BeginTransaction ≡ begun_by (inputs_by engine state side) deep is_full outside
begin_transaction-is engine state side deep is_full outside h begun is_deep full_is is_outside =
    let told = levels-told engine state side.session h in
    answer-begun (inputs_by engine state side) call.BeginTransaction begun
    ∙ ap (λ b. begun_by (inputs_by engine state side) b (nat_le log_limit state.number) (levels state side.session == 0)) (ap (nat_le 7) told ∙ is_deep)
    ∙ ap (λ b. begun_by (inputs_by engine state side) deep b (levels state side.session == 0)) (ap (nat_le log_limit) h.number ∙ full_is)
    ∙ ap (begun_by (inputs_by engine state side) deep is_full) (ap (λ n. n == 0) told ∙ is_outside)

pub begin_transaction-deep : (engine : EngineState) (side : SessionSide) → side.state.begun ≡ true → nat_le 7 (levels_in side.session engine.sessions) ≡ true
    → Decides engine side call.BeginTransaction side (refused_with jet.TransTooDeep)
begin_transaction-deep engine side begun deep = λ state h in_step.
    answer-refused (inputs_by engine state side) call.BeginTransaction side jet.TransTooDeep refl (begin_transaction-is engine state side true _ _ h begun deep refl refl)

pub begin_transaction-full : (engine : EngineState) (side : SessionSide) → side.state.begun ≡ true → nat_le 7 (levels_in side.session engine.sessions) ≡ false → nat_le log_limit engine.number ≡ true
    → Decides engine side call.BeginTransaction side (refused_with jet.LogSequenceEnd)
begin_transaction-full engine side begun deep full = λ state h in_step.
    answer-refused (inputs_by engine state side) call.BeginTransaction side jet.LogSequenceEnd refl (begin_transaction-is engine state side false true _ h begun deep full refl)

pub begin_transaction-done : (engine : EngineState) (side : SessionSide) (outside : Bool) → side.state.begun ≡ true → nat_le 7 (levels_in side.session engine.sessions) ≡ false → nat_le log_limit engine.number ≡ false
    → (levels_in side.session engine.sessions == 0) ≡ outside
    → Decides engine side call.BeginTransaction side (stepped_with (one_by side.session (cond outside entry.Begin entry.Save)) None false)
begin_transaction-done engine side outside begun deep full is = λ state h in_step.
    answer-is (inputs_by engine state side) call.BeginTransaction side _ _ (begin_transaction-is engine state side false false outside h begun deep full is) refl refl refl

-- ---- CommitTransaction

-- the outcome by whether the session is outside a transaction, and whether at an inner level
abbrev committed_by : CallInputs → Bool → Bool → Outcome
committed_by asked outside inner =
    unless asked
    ((outside, jet.NotInTransaction) ∷ [])
    (λ _. cond inner (done asked.local Nothing (one asked entry.Release)) (done (without_prepared asked.local) Nothing (one asked entry.Commit)))

commit_transaction-is : (engine : EngineState) (state : DatabaseState) (side : SessionSide) (lazy outside inner : Bool) → HoldsState engine state → side.state.begun ≡ true
    → (levels_in side.session engine.sessions == 0) ≡ outside → nat_lt 1 (levels_in side.session engine.sessions) ≡ inner
    → answer (inputs_by engine state side) (call.CommitTransaction lazy) ≡ committed_by (inputs_by engine state side) outside inner
commit_transaction-is engine state side lazy outside inner h begun is_outside is_inner =
    let told = levels-told engine state side.session h in
    answer-begun (inputs_by engine state side) (call.CommitTransaction lazy) begun
    ∙ ap (λ b. committed_by (inputs_by engine state side) b (nat_lt 1 (levels state side.session))) (ap (λ n. n == 0) told ∙ is_outside)
    ∙ ap (committed_by (inputs_by engine state side) outside) (ap (nat_lt 1) told ∙ is_inner)

pub commit_transaction-outside : (engine : EngineState) (side : SessionSide) (lazy : Bool) → side.state.begun ≡ true → (levels_in side.session engine.sessions == 0) ≡ true
    → Decides engine side (call.CommitTransaction lazy) side (refused_with jet.NotInTransaction)
commit_transaction-outside engine side lazy begun is = λ state h in_step.
    answer-refused (inputs_by engine state side) (call.CommitTransaction lazy) side jet.NotInTransaction refl
    (commit_transaction-is engine state side lazy true _ h begun is refl)

pub commit_transaction-outer : (engine : EngineState) (side : SessionSide) (lazy : Bool) → side.state.begun ≡ true → (levels_in side.session engine.sessions == 0) ≡ false → nat_lt 1 (levels_in side.session engine.sessions) ≡ false
    → Decides engine side (call.CommitTransaction lazy) side (stepped_with (one_by side.session entry.Commit) None (not lazy))
commit_transaction-outer engine side lazy begun some is = λ state h in_step.
    answer-is (inputs_by engine state side) (call.CommitTransaction lazy) side _ _ (commit_transaction-is engine state side lazy false false h begun some is) refl refl refl

pub commit_transaction-inner : (engine : EngineState) (side : SessionSide) (lazy : Bool) → side.state.begun ≡ true → (levels_in side.session engine.sessions == 0) ≡ false → nat_lt 1 (levels_in side.session engine.sessions) ≡ true
    → Decides engine side (call.CommitTransaction lazy) side (stepped_with (one_by side.session entry.Release) None false)
commit_transaction-inner engine side lazy begun some is = λ state h in_step.
    answer-is (inputs_by engine state side) (call.CommitTransaction lazy) side _ _ (commit_transaction-is engine state side lazy false true h begun some is) refl refl refl

-- ---- Rollback

abbrev rolled_back : CallInputs → Bool → Bool → Outcome
rolled_back asked outside all =
    unless asked ((outside, jet.NotInTransaction) ∷ []) (λ _. done (without_prepared asked.local) Nothing (one asked (cond all entry.UndoAll entry.Undo)))

rollback-is : (engine : EngineState) (state : DatabaseState) (side : SessionSide) (all outside : Bool) → HoldsState engine state → side.state.begun ≡ true → (levels_in side.session engine.sessions == 0) ≡ outside
    → answer (inputs_by engine state side) (call.Rollback all) ≡ rolled_back (inputs_by engine state side) outside all
rollback-is engine state side all outside h begun is_outside =
    answer-begun (inputs_by engine state side) (call.Rollback all) begun
    ∙ ap (λ b. rolled_back (inputs_by engine state side) b all) (ap (λ n. n == 0) (levels-told engine state side.session h) ∙ is_outside)

pub rollback-outside : (engine : EngineState) (side : SessionSide) (all : Bool) → side.state.begun ≡ true → (levels_in side.session engine.sessions == 0) ≡ true → Decides engine side (call.Rollback all) side (refused_with jet.NotInTransaction)
rollback-outside engine side all begun is = λ state h in_step.
    answer-refused (inputs_by engine state side) (call.Rollback all) side jet.NotInTransaction refl (rollback-is engine state side all true h begun is)

pub rollback-done : (engine : EngineState) (side : SessionSide) (all : Bool) → side.state.begun ≡ true → (levels_in side.session engine.sessions == 0) ≡ false
    → Decides engine side (call.Rollback all) side (stepped_with (one_by side.session (cond all entry.UndoAll entry.Undo)) None false)
rollback-done engine side all begun is = λ state h in_step.
    answer-is (inputs_by engine state side) (call.Rollback all) side _ _ (rollback-is engine state side all false h begun is) refl refl refl

-- ---- tests of numbers

pub full : (n limit : ℕ) → limit ≤ n → nat_le limit n ≡ true
full n limit h = grind (arith, nat_tests)

pub room : (n limit : ℕ) → n < limit → nat_le limit n ≡ false
room n limit h = grind (arith, nat_tests)

pub no_levels : (n : ℕ) → n ≡ 0 → (n == 0) ≡ true
no_levels n h = grind (arith, nat_tests)

pub some_levels : (n : ℕ) → (n ≡ 0 → ⊥) → (n == 0) ≡ false
some_levels n h = grind (arith, nat_tests)

pub above_one : (n : ℕ) → 1 < n → nat_lt 1 n ≡ true
above_one n h = grind (arith, nat_tests)

pub at_most_one : (n : ℕ) → n ≤ 1 → nat_lt 1 n ≡ false
at_most_one n h = grind (arith, nat_tests)
