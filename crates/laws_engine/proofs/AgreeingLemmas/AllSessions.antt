-- All sessions, after an answer that one of them was given.
use Rattle.std.proofs.Common.{◌≡◌, ℕ, true, false, refl, sym, ap, subst, ◌∙◌}
use Rattle.std.specs.Prelude.{◌==◌, if◌then◌else◌}
use Rattle.std.specs.List.{AllByRecursion}
use Rattle.std.proofs.lemmas.Bool.{eqb-true}
use Rattle.common_lemmas.proofs.Lists.{all_weaker}
use Rattle.index_derive.specs.Steps.{entries_of_step}
use Rattle.database_state.specs.Step.{state_after_all}
use Rattle.laws_versions.specs.History.{HasHistory}
use Rattle.session_local.specs.Local.{LocalState}
use Rattle.session_local.specs.Outcome.{CallInputs, Outcome}
use Rattle.laws_engine.specs.LawfulSteps.{HasLawfulStep}
use Rattle.laws_engine.specs.InStep.{IsInStep, StaysInStep}
use Rattle.laws_engine.proofs.AgreeingLemmas.OtherEntries.{others_keep_all}

pub all_in_step : (asked : CallInputs) (outcome : Outcome) → HasHistory asked.state → HasLawfulStep asked.state outcome → AllByRecursion (λ made. made.session.0 ≡ asked.session) (entries_of_step outcome.step) → StaysInStep asked outcome
    → (locals : ℕ → LocalState) → ((session : ℕ) → IsInStep asked.state session (locals session)) → (session : ℕ)
    → IsInStep (state_after_all asked.state (entries_of_step outcome.step)) session (if session == asked.session then outcome.local else locals session)
all_in_step asked outcome h lawful own step locals each session =
    elim (session == asked.session) as (λ b. (session == asked.session) ≡ b → IsInStep (state_after_all asked.state (entries_of_step outcome.step)) session (if b then outcome.local else locals session)) [
      | true ↦ λ e. subst (λ (k : ℕ). IsInStep (state_after_all asked.state (entries_of_step outcome.step)) k outcome.local) (sym (eqb-true session asked.session e)) step
      | false ↦ λ e. record {
        agrees = others_keep_all asked.state session (locals session) (entries_of_step outcome.step) h lawful
            (all_weaker (λ made. made.session.0 ≡ asked.session) (λ made. (session == made.session.0) ≡ false) (λ made same. ap (λ k. session == k) same ∙ e) (entries_of_step outcome.step) own) (each session).agrees;
        labels = (each session).labels;
        updates = (each session).updates;
      }
    ] refl
