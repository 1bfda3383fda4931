-- What follows where nothing was refused.
use Rattle.std.proofs.Common.{◌≡◌, ℕ, true, false, Some, None, refl, ap}
use Rattle.std.specs.Prelude.{is_none}
use Rattle.std.specs.List.{AllByRecursion}
use Rattle.column_set.specs.Refusals.{Refusals, first_refusal}
use Rattle.laws_versions.proofs.KeyLemmas.SchemaKeys.{unrefused}
use Rattle.session_local.specs.declared.request.Request.{Request}
use Rattle.session_local.specs.Calls.{answer, answer_begun, answer_not_begun}
use Rattle.session_local.specs.Local.{OpenCursor, cursor_labelled}
use Rattle.session_local.specs.Outcome.{CallInputs, Outcome, at_cursor, on_cursor, unless, unless_refused}
use Rattle.laws_engine.specs.LawfulSteps.{HasLawfulStep}

pub past : (asked : CallInputs) (refusals : Refusals) (next : Unit {0} → Outcome) → (AllByRecursion (λ refusal. refusal.0 ≡ false) refusals → HasLawfulStep asked.state (next tt)) → HasLawfulStep asked.state (unless asked refusals next)
past asked refusals next f =
    elim (first_refusal refusals) as (λ o. first_refusal refusals ≡ o → HasLawfulStep asked.state (unless_refused asked o next)) [
      | Some reply ↦ λ e. tt
      | None ↦ λ e. f (unrefused refusals (ap is_none e))
    ] refl

pub at_found : (asked : CallInputs) (label : ℕ) (next : OpenCursor → Outcome) → ((c : OpenCursor) → cursor_labelled asked.local label ≡ Some c → HasLawfulStep asked.state (next c)) → HasLawfulStep asked.state (at_cursor asked label next)
at_found asked label next f =
    elim (cursor_labelled asked.local label) as (λ o. cursor_labelled asked.local label ≡ o → HasLawfulStep asked.state (on_cursor asked o next)) [
      | Some c ↦ λ e. f c e
      | None ↦ λ e. tt
    ] refl

pub when_begun : (asked : CallInputs) (request : Request) → (asked.local.begun ≡ true → HasLawfulStep asked.state (answer_begun asked request)) → (asked.local.begun ≡ false → HasLawfulStep asked.state (answer_not_begun asked request))
    → HasLawfulStep asked.state (answer asked request)
unfolding answer
when_begun asked request f g =
    elim (asked.local.begun) as (λ b. asked.local.begun ≡ b → HasLawfulStep asked.state (elim b [ true ↦ answer_begun asked request | false ↦ answer_not_begun asked request ])) [ true ↦ f | false ↦ g ] refl
