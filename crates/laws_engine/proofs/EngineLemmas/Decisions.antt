-- How a decision answers a call: refusals, steps, and the answer by whether the session was begun.
use Rattle.std.proofs.Common.{◌≡◌, ℕ, Bool, true, false, List, Option, Some, None, refl, sym, ap, ◌∙◌}
use Rattle.jet_base.specs.declared.replies.Jet.{Jet}
use Rattle.jet_base.specs.declared.replies.Jet.TheVariants as jet
use Rattle.jet_base.specs.declared.ids.Session.{Session}
use Rattle.index_derive.specs.declared.log.EntryKind.{EntryKind}
use Rattle.index_derive.specs.declared.log.Step.{Step}
use Rattle.index_derive.specs.declared.log.Step.TheVariants.{One}
use Rattle.session_local.specs.declared.decision.Decision.{Decision}
use Rattle.session_local.specs.declared.request.Request.{Request}
use Rattle.session_local.specs.declared.request.Request.TheVariants as call
use Rattle.session_local.specs.declared.reply.Value.TheVariants as value
use Rattle.session_local.specs.SessionSide.{SessionSide}
use Rattle.session_local.specs.Answer.{answered_by}
use Rattle.session_local.specs.Local.{LocalState, OpenCursor, cursor_labelled}
use Rattle.session_local.specs.Outcome.{CallInputs, Outcome, refused}
use Rattle.session_local.specs.Preparing.{FitsCursor}
use Rattle.session_local.specs.Calls.{answer, answer_begun, answer_not_begun}
use Rattle.session_local.specs.Finishing.{finished}
use Rattle.session_local.specs.Deciding.{decided_in, CopiedFits}
use Rattle.laws_engine.specs.Answers.{IsAnswer}

-- ---- decisions

abbrev pub refused_with : Jet → Decision
refused_with reply = record { step = None; reply = record { jet = reply; value = value.Nothing }; table = None; copied = None; temp = None; buffers = None; flush = false }

abbrev pub stepped_with : Step → Option (List ℕ) → Bool → Decision
stepped_with step buffers flush = record { step = Some step; reply = record { jet = jet.Success; value = value.Nothing }; table = None; copied = None; temp = None; buffers = buffers; flush = flush }

abbrev pub session_of : ℕ → Session
session_of label = record { 0 = label }

abbrev pub one_by : ℕ → EntryKind → Step
one_by session kind = One (record { session = record { 0 = session }; kind = kind })

-- ---- the answer by whether the session was begun

pub answer-begun : (asked : CallInputs) (request : Request) → asked.local.begun ≡ true → answer asked request ≡ answer_begun asked request
unfolding answer
answer-begun asked request begun = ap (λ b. elim b [ true ↦ answer_begun asked request | false ↦ answer_not_begun asked request ]) begun

pub answer-not_begun : (asked : CallInputs) (request : Request) → asked.local.begun ≡ false → answer asked request ≡ answer_not_begun asked request
unfolding answer
answer-not_begun asked request fresh = ap (λ b. elim b [ true ↦ answer_begun asked request | false ↦ answer_not_begun asked request ]) fresh

-- ---- what they decide

pub answer-is : (asked : CallInputs) (request : Request) (new : SessionSide) (decision : Decision) (outcome : Outcome) → answer asked request ≡ outcome
    → answered_by decision.reply new.reply ≡ outcome.answered → decision.step ≡ outcome.step → finished new.state request (decided_in decision) ≡ outcome.local
    → IsAnswer asked request new decision
answer-is asked request new decision outcome is reply step local = record {
  reply = reply ∙ ap (λ (o : Outcome). o.answered) (sym is);
  step = step ∙ ap (λ (o : Outcome). o.step) (sym is);
  local = local ∙ ap (λ (o : Outcome). o.local) (sym is);
}

pub finished-refused : (local : LocalState) (request : Request) (reply : Jet) → finished local request (decided_in (refused_with reply)) ≡ local
finished-refused local call.BeginSession reply = refl
finished-refused local call.EndSession reply = refl
finished-refused local (call.CommitTransaction lazy) reply = refl
finished-refused local (call.Rollback all) reply = refl
finished-refused local (call.OpenTable cursor table) reply = refl
finished-refused local (call.CloseTable cursor) reply = refl
finished-refused local (call.PrepareUpdate cursor how) reply = refl
finished-refused local (call.Update cursor) reply = refl
finished-refused local _ reply = refl

pub answer-refused : (asked : CallInputs) (request : Request) (new : SessionSide) (reply : Jet) → new.state ≡ asked.local → answer asked request ≡ refused asked reply → IsAnswer asked request new (refused_with reply)
answer-refused asked request new reply same is =
    answer-is asked request new (refused_with reply) (refused asked reply) is refl refl (finished-refused new.state request reply ∙ same)

fits_none : (found : Option OpenCursor) → FitsCursor found None
fits_none None = tt
fits_none (Some c) = tt

pub copied_none : (local : LocalState) (request : Request) → CopiedFits local request None
copied_none local (call.PrepareUpdate cursor how) = fits_none (cursor_labelled local cursor.0)
copied_none local _ = tt
