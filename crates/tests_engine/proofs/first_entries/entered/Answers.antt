use Rattle.std.proofs.Common.{◌≡◌, Result, Ok, Err, refl, sym, subst}
use Rattle.std.specs.Prelude.{OnOk}
use Rattle.index_derive.specs.declared.log.Step.{Step}
use Rattle.index_derive.specs.declared.log.Step.TheVariants.{One}
use Rattle.database_state.specs.State.{empty_state}
use Rattle.laws_engine.specs.EngineState.{EngineState, HasRoomForEnds, empty_engine}
use Rattle.engine_core.specs.Steps.{MayTake}
use Rattle.tests_engine.proofs.Entering.{first, first_is_lawful, holds_next, may_enter}
use Rattle.tests_engine.proofs.first_entries.entered.Goals as goal

-- what a success says
on_ok : {T E : Type 0} (r : Result T E) (x : T) (P : Type 0) → r ≡ Ok x → OnOk r P → P
on_ok (Ok y) x P e p = p
on_ok (Err y) x P e p = cc

pub apply-requires-clause-lawful : goal.apply-requires-clause-lawful
apply-requires-clause-lawful g c =
    subst (λ (e : EngineState). MayTake e c.enter-step.result) (sym c.empty-engine.ensures)
    (subst (λ (s : Step). MayTake (empty_engine 1000000) s) (sym c.enter-step.ensures) (may_enter 1000000 (c.an_empty_engine_holds_the_empty_state.ensures.holds 1000000)))

pub apply-requires-clause-room : goal.apply-requires-clause-room
apply-requires-clause-room g c = subst HasRoomForEnds (sym c.empty-engine.ensures) (c.an_empty_engine_holds_the_empty_state.ensures.room 1000000)

pub returns : goal.returns
returns g c =
    let next = c.a_lawful_step_makes_the_next_state.ensures (empty_engine 1000000) empty_state (One first) (c.an_empty_engine_holds_the_empty_state.ensures.holds 1000000) (first_is_lawful, tt) (refl, tt) (tt, tt) in
    holds_next 1000000 c.empty-engine.result.engine c.apply.new.self.engine c.enter-step.result next c.empty-engine.ensures c.enter-step.ensures (on_ok c.apply.result c.expect.result _ c.expect.ensures c.apply.ensures.engine)
