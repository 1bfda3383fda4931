-- Answers that were refused leave all as it was, and what follows where none is refused.
use Rattle.std.proofs.Common.{◌≡◌, ℕ, true, false, Option, Some, None, refl}
use Rattle.std.specs.Prelude.{is_none}
use Rattle.std.specs.List.{AllByRecursion}
use Rattle.jet_base.specs.declared.replies.Jet.{Jet}
use Rattle.column_set.specs.Refusals.{Refusals, first_refusal}
use Rattle.laws_versions.proofs.KeyLemmas.SchemaKeys.{unrefused}
use Rattle.session_local.specs.declared.request.Request.{Request}
use Rattle.session_local.specs.Calls.{answer, answer_begun, answer_not_begun}
use Rattle.session_local.specs.Local.{OpenCursor, cursor_labelled}
use Rattle.session_local.specs.Outcome.{CallInputs, Outcome, at_cursor, on_cursor, unless, unless_refused}
use Rattle.laws_engine.specs.InStep.{IsInStep, StaysInStep}

abbrev pub InStep : CallInputs → Type 0
InStep asked = IsInStep asked.state asked.session asked.local

pub unrefused_in_step : (asked : CallInputs) → IsInStep asked.state asked.session asked.local → (refusal : Option Jet) (next : Unit {0} → Outcome) → (is_none refusal ≡ true → StaysInStep asked (next tt)) → StaysInStep asked (unless_refused asked refusal next)
unrefused_in_step asked step None next f = f refl
unrefused_in_step asked step (Some reply) next f = step

pub past : (asked : CallInputs) → IsInStep asked.state asked.session asked.local → (refusals : Refusals) (next : Unit {0} → Outcome) → (AllByRecursion (λ refusal. refusal.0 ≡ false) refusals → StaysInStep asked (next tt)) → StaysInStep asked (unless asked refusals next)
past asked step refusals next f = unrefused_in_step asked step (first_refusal refusals) next (λ e. f (unrefused refusals e))

pub at_found : (asked : CallInputs) → IsInStep asked.state asked.session asked.local → (label : ℕ) (next : OpenCursor → Outcome) → ((c : OpenCursor) → cursor_labelled asked.local label ≡ Some c → StaysInStep asked (next c)) → StaysInStep asked (at_cursor asked label next)
at_found asked step label next f =
    elim (cursor_labelled asked.local label) as (λ o. cursor_labelled asked.local label ≡ o → StaysInStep asked (on_cursor asked o next)) [
      | Some c ↦ λ e. f c e
      | None ↦ λ e. step
    ] refl

pub when_begun : (asked : CallInputs) (request : Request) → (asked.local.begun ≡ true → StaysInStep asked (answer_begun asked request)) → (asked.local.begun ≡ false → StaysInStep asked (answer_not_begun asked request)) → StaysInStep asked (answer asked request)
unfolding answer
when_begun asked request f g =
    elim (asked.local.begun) as (λ b. asked.local.begun ≡ b → StaysInStep asked (elim b [ true ↦ answer_begun asked request | false ↦ answer_not_begun asked request ])) [ true ↦ f | false ↦ g ] refl
