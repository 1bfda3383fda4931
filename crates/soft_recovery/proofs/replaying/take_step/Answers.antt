use Rattle.std.proofs.Common.{sym, ap, subst, ◌∙◌}
use Rattle.database_state.specs.State.{DatabaseState}
use Rattle.index_derive.specs.declared.log.Step.{Step}
use Rattle.engine_core.specs.Steps.{MayTake}
use Rattle.laws_engine.specs.EngineSteps.{engine_after_step}
use Rattle.laws_engine.specs.HoldsState.{HoldsState}
use Rattle.loggable_steps.specs.Loggable.{made_by}
use Rattle.soft_recovery.proofs.Making.{MakingLaws, has_room, is_made, may_take}
use Rattle.soft_recovery.proofs.replaying.take_step.Goals as goal

pub is_lawful-requires-clause-may : goal.is_lawful-requires-clause-may
is_lawful-requires-clause-may c = c.requires.may

pub is_lawful-requires-clause-spelled : goal.is_lawful-requires-clause-spelled
is_lawful-requires-clause-spelled c = c.requires.spelled

pub apply-requires-clause-lawful : goal.apply-requires-clause-lawful
apply-requires-clause-lawful c =
    let laws : MakingLaws = record { built = c.spelled_entries_make_what_is_built.ensures.built; typed = c.spelled_entries_make_what_is_built.ensures.typed; sound = c.lawful_entries_keep_states_sound.ensures.kept; next = c.a_lawful_step_makes_the_next_state.ensures; room = c.ends_always_find_room.ensures.step; fresh = c.ends_always_find_room.ensures.none_live } in
    let made = made_by c.args.step.now in
    subst (λ (s : Step). MayTake c.args.engine.now s) (sym c.requires.single)
    (may_take laws c.args.engine.now made c.requires.may c.requires.spelled (sym (c.in-Ok-true.ensures c.requires.may.state c.requires.may.holds) ∙ c.in-Ok-true.field-0-test))

pub apply-requires-clause-room : goal.apply-requires-clause-room
apply-requires-clause-room c =
    let laws : MakingLaws = record { built = c.spelled_entries_make_what_is_built.ensures.built; typed = c.spelled_entries_make_what_is_built.ensures.typed; sound = c.lawful_entries_keep_states_sound.ensures.kept; next = c.a_lawful_step_makes_the_next_state.ensures; room = c.ends_always_find_room.ensures.step; fresh = c.ends_always_find_room.ensures.none_live } in
    has_room laws c.args.engine.now (made_by c.args.step.now) c.requires.may (sym (c.in-Ok-true.ensures c.requires.may.state c.requires.may.holds) ∙ c.in-Ok-true.field-0-test)

pub returns-in-Ok : goal.returns-in-Ok
returns-in-Ok c =
    let laws : MakingLaws = record { built = c.spelled_entries_make_what_is_built.ensures.built; typed = c.spelled_entries_make_what_is_built.ensures.typed; sound = c.lawful_entries_keep_states_sound.ensures.kept; next = c.a_lawful_step_makes_the_next_state.ensures; room = c.ends_always_find_room.ensures.step; fresh = c.ends_always_find_room.ensures.none_live } in
    is_made laws c.args.engine.now c.apply.new.engine (made_by c.args.step.now) c.requires.may c.requires.spelled
    (λ (state : DatabaseState) (holds : HoldsState c.args.engine.now state). sym (c.in-Ok-true.ensures state holds) ∙ c.in-Ok-true.field-0-test)
    (c.in-Ok.ensures.done ∙ ap (λ (s : Step). engine_after_step c.args.engine.now s) c.requires.single) c.args.size

pub returns-in-Ok-false : goal.returns-in-Ok-false
returns-in-Ok-false c state holds = sym (c.in-Ok-false.ensures state holds) ∙ c.in-Ok-false.field-0-test
