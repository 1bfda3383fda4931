-- The step of a call that ends something takes no memory.
use Rattle.std.proofs.Common.{◌≡◌, Bool, true, false, [], ◌∷◌, Option, Some, None, refl, sym, ap, ◌∙◌, if◌then◌else◌}
use Rattle.std.specs.Prelude.{nat_lt}
use Rattle.jet_base.specs.declared.ids.CursorId.{CursorId}
use Rattle.jet_base.specs.declared.replies.Jet.{Jet}
use Rattle.jet_base.specs.declared.replies.Jet.TheVariants as jet
use Rattle.index_derive.specs.declared.log.EntryKind.TheVariants as entry
use Rattle.index_derive.specs.declared.log.Step.{Step}
use Rattle.column_set.specs.Refusals.{first_refusal}
use Rattle.database_state.specs.State.{levels}
use Rattle.session_local.specs.declared.request.Request.{Request}
use Rattle.session_local.specs.declared.request.Request.TheVariants as call
use Rattle.session_local.specs.Answer.{Nothing}
use Rattle.session_local.specs.Local.{OpenCursor, cursor_labelled, without_prepared}
use Rattle.session_local.specs.Calls.{answer, answer_begun, answer_not_begun}
use Rattle.session_local.specs.CursorCalls.{close_table}
use Rattle.session_local.specs.Outcome.{CallInputs, Outcome, done, is_outside, on_cursor, one, unless_refused}
use Rattle.session_local.specs.SessionCalls.{commit_transaction, rollback}
use Rattle.engine_core.specs.EndingCalls.{TakesNoMemory}
use Rattle.engine_core.specs.LoggedState.{logged_step_may_lack_memory}

-- whether a step, where there is one, may lack memory
abbrev takes_memory : Option Step → Bool
takes_memory None = false
takes_memory (Some step) = logged_step_may_lack_memory step

abbrev TakesNone : Outcome → Type 0
TakesNone outcome = takes_memory outcome.step ≡ false

unless-none : (asked : CallInputs) (refusal : Option Jet) (next : Unit {0} → Outcome) → TakesNone (next tt) → TakesNone (unless_refused asked refusal next)
unless-none asked None next rest = rest
unless-none asked (Some reply) next rest = refl

committed-none : (asked : CallInputs) → TakesNone (commit_transaction asked)
committed-none asked =
    unless-none asked (first_refusal ((is_outside asked, jet.NotInTransaction) ∷ []))
    (λ _. if nat_lt 1 (levels asked.state asked.session) then done asked.local Nothing (one asked entry.Release)
    else done (without_prepared asked.local) Nothing (one asked entry.Commit))
    (elim (nat_lt 1 (levels asked.state asked.session)) as (λ b. TakesNone (if b then done asked.local Nothing (one asked entry.Release) else done (without_prepared asked.local) Nothing (one asked entry.Commit))) [
      | true ↦ refl
      | false ↦ refl
    ])

rolled_back-none : (asked : CallInputs) (all : Bool) → TakesNone (rollback asked all)
rolled_back-none asked all =
    unless-none asked (first_refusal ((is_outside asked, jet.NotInTransaction) ∷ []))
    (λ _. done (without_prepared asked.local) Nothing (one asked (if all then entry.UndoAll else entry.Undo)))
    (elim all as (λ b. TakesNone (done (without_prepared asked.local) Nothing (one asked (if b then entry.UndoAll else entry.Undo)))) [
      | true ↦ refl
      | false ↦ refl
    ])

closed-none : (asked : CallInputs) (found : Option OpenCursor) → TakesNone (on_cursor asked found (close_table asked))
closed-none asked None = refl
closed-none asked (Some c) = refl

answer-none : (asked : CallInputs) (request : Request) → TakesNone (answer_begun asked request) → TakesNone (answer_not_begun asked request) → TakesNone (answer asked request)
unfolding answer
answer-none asked request begun not_begun =
    elim asked.local.begun as (λ b. TakesNone (elim b [ true ↦ answer_begun asked request | false ↦ answer_not_begun asked request ])) [
      | true ↦ begun
      | false ↦ not_begun
    ]

step-none : (asked : CallInputs) (request : Request) (step : Step) → TakesNone (answer asked request) → (answer asked request).step ≡ Some step → logged_step_may_lack_memory step ≡ false
step-none asked request step none is = sym (ap takes_memory is) ∙ none

pub commit-takes_none : (lazy : Bool) → TakesNoMemory (call.CommitTransaction lazy)
commit-takes_none lazy = record {
  decided = refl;
  step = λ asked step is. step-none asked (call.CommitTransaction lazy) step (answer-none asked (call.CommitTransaction lazy) (committed-none asked) refl) is;
}

pub rollback-takes_none : (all : Bool) → TakesNoMemory (call.Rollback all)
rollback-takes_none all = record {
  decided = refl;
  step = λ asked step is. step-none asked (call.Rollback all) step (answer-none asked (call.Rollback all) (rolled_back-none asked all) refl) is;
}

pub end-takes_none : TakesNoMemory call.EndSession
end-takes_none = record {
  decided = refl;
  step = λ asked step is. step-none asked call.EndSession step (answer-none asked call.EndSession refl refl) is;
}

pub close-takes_none : (cursor : CursorId) → TakesNoMemory (call.CloseTable cursor)
close-takes_none cursor = record {
  decided = refl;
  step = λ asked step is. step-none asked (call.CloseTable cursor) step (answer-none asked (call.CloseTable cursor) (closed-none asked (cursor_labelled asked.local cursor.0)) refl) is;
}
