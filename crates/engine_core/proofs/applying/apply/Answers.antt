use Rattle.std.proofs.Common.{◌≡◌, Bool, sym, ap, subst, ◌∙◌}
use Rattle.index_derive.specs.declared.log.Step.{Step}
use Rattle.laws_engine.specs.EngineState.{EngineState}
use Rattle.laws_engine.specs.EngineSteps.{cleaned_for, step_cleans}
use Rattle.engine_core.specs.Steps.{IsSettledForStep}
use Rattle.engine_core.proofs.applying.apply.Goals as goal
use Rattle.engine_core.proofs.applying.apply.Goals.{then-cleans, else-cleans}

-- what holds of the engine after the clean holds of the one at hand
cleaned_is : (engine new : EngineState) (step : Step) → new ≡ cleaned_for (step_cleans step) engine → IsSettledForStep step (cleaned_for (step_cleans step) engine).store.held → IsSettledForStep step new.store.held
cleaned_is engine new step is settled = subst (λ (e : EngineState). IsSettledForStep step e.store.held) (sym is) settled

pub apply_entries-requires-clause-settled : goal.apply_entries-requires-clause-settled
apply_entries-requires-clause-settled c =
    let engine = c.args.engine.now in
    cleaned_is engine c.if-cleans.engine c.args.step.now
    (elim c.if-cleans.branch [
      | then-cleans w ↦ w.engine-is ∙ w.clean_all.ensures ∙ ap (λ (b : Bool). cleaned_for b engine) w.if-cleans.ensures
      | else-cleans w ↦ w.engine-is ∙ ap (λ (b : Bool). cleaned_for b engine) w.if-cleans.ensures
    ])
    (c.a_step_may_come_after_its_clean.ensures.settled engine c.args.step.now c.requires.lawful)
