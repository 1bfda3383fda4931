use Rattle.std.proofs.Common.{ℕ, ◌+◌, sym, subst, arith}
use Rattle.laws_engine.specs.EngineState.{EngineState}
use Rattle.engine_core.specs.Closing.{IsGivenUpTo}
use Rattle.engine_core.proofs.SessionsGivenUp.{first_given_up, last_label, next_given_up, one_further}
use Rattle.engine_core.proofs.closing.give_up_sessions.Goals as goal

pub loop-label-init : goal.loop-label-init
loop-label-init c = record { given_up = first_given_up c.args.engine.now c.requires.labels; within = omega arith }

pub give_up-requires : goal.give_up-requires
give_up-requires c = (c.requires.held.0, c.loop-label.invariant.given_up.holds c.requires.held.0 c.requires.held.1)

pub loop-label-preserved : goal.loop-label-preserved
loop-label-preserved c = record {
  given_up = subst (IsGivenUpTo (c.loop-label.label + 1) c.args.engine.now) (sym c.give_up.ensures) (next_given_up c.a_lawful_entry_makes_the_next_state.ensures.one c.loop-label.label c.args.engine.now c.loop-label.engine c.loop-label.invariant.given_up);
  within = one_further c.loop-label.label c.loop-label-test.true;
}

pub returns : goal.returns
returns c = subst (λ (n : ℕ). IsGivenUpTo n c.args.engine.now c.loop-label.engine) (last_label c.loop-label.label c.loop-label-test.false c.loop-label.invariant.within) c.loop-label.invariant.given_up
