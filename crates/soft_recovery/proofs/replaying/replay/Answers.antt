use Rattle.std.proofs.Common.{[], Some, None, drop, refl, sym, ◌∙◌, ap, subst, arith, length-drop}
use Rattle.std.proofs.lemmas.List.{drop_all}
use Rattle.database_state.specs.Step.{state_after_all}
use Rattle.laws_engine.specs.EngineState.{EngineState}
use Rattle.soft_recovery.specs.declared.fault.ReplayFault.TheVariants.{LogFileCorrupt}
use Rattle.soft_recovery.specs.Replaying.{IsReplayed}
use Rattle.soft_recovery.proofs.Reading.{cut_at_end, fault_told, front_told, made_more, no_log, parts, replayed_all}
use Rattle.soft_recovery.proofs.replaying.replay.Goals as goal

pub loop-at-init : goal.loop-at-init
loop-at-init c = record {
  within = omega arith;
  on = record { may = c.requires; limit = refl };
  made = λ state holds. record { done = []; is = refl; come = record { lawful = tt; spelled = refl }; holds = holds };
}

pub take_entry-requires : goal.take_entry-requires
take_entry-requires c = c.loop-at.invariant.on.may

pub loop-at-preserved : goal.loop-at-preserved
loop-at-preserved c =
    let told = front_told c.loop-at.engine c.take_entry.new.engine c.args.bytes.now c.loop-at.at c.in-Ok-Some.field-0 (Some c.in-Ok-Some.size) c.in-Ok-Some.field-0-is c.in-Ok-Some.ensures in
    record {
      within = omega (arith, told.1, length-drop c.loop-at.at c.args.bytes.now, c.loop-at.invariant.within);
      on = record { may = told.2.may; limit = told.2.limit ∙ c.loop-at.invariant.on.limit };
      made = λ state held. made_more c.loop-at.engine c.take_entry.new.engine c.args.bytes.now c.loop-at.at c.in-Ok-Some.size state c.loop-at.invariant.within (c.loop-at.invariant.made state held) told.3;
    }

pub returns-in-Ok-None-clause-replayed : goal.returns-in-Ok-None-clause-replayed
returns-in-Ok-None-clause-replayed c state held =
    let told = front_told c.loop-at.engine c.take_entry.new.engine c.args.bytes.now c.loop-at.at c.in-Ok-None.field-0 None c.in-Ok-None.field-0-is c.in-Ok-None.ensures in
    subst (λ (e : EngineState). IsReplayed e c.args.bytes.now state) (sym told.1)
    (replayed_all c.lawful_entries_keep_states_sound.ensures.kept c.loop-at.engine c.args.bytes.now c.loop-at.at state (c.loop-at.invariant.made state held) told.0)

pub returns-in-Ok-None-clause-limit : goal.returns-in-Ok-None-clause-limit
returns-in-Ok-None-clause-limit c =
    let told = front_told c.loop-at.engine c.take_entry.new.engine c.args.bytes.now c.loop-at.at c.in-Ok-None.field-0 None c.in-Ok-None.field-0-is c.in-Ok-None.ensures in
    ap (λ (e : EngineState). e.limit) told.1 ∙ c.loop-at.invariant.on.limit

pub returns-in-Err-LogFileCorrupt-clause-refused : goal.returns-in-Err-LogFileCorrupt-clause-refused
returns-in-Err-LogFileCorrupt-clause-refused c is state held =
    let told = fault_told c.loop-at.engine c.take_entry.new.engine c.args.bytes.now c.loop-at.at c.in-Err-LogFileCorrupt.field-0 LogFileCorrupt c.in-Err-LogFileCorrupt.field-0-is c.in-Err-LogFileCorrupt.ensures in
    let made = c.loop-at.invariant.made state held in
    no_log made.done (drop c.loop-at.at c.args.bytes.now) c.args.bytes.now state (parts c.loop-at.at c.args.bytes.now made.done made.is) made.come.spelled (told (state_after_all state made.done) made.holds)

pub returns-clause-replayed : goal.returns-clause-replayed
returns-clause-replayed c state held =
    replayed_all c.lawful_entries_keep_states_sound.ensures.kept c.loop-at.engine c.args.bytes.now c.loop-at.at state (c.loop-at.invariant.made state held)
    (cut_at_end (drop c.loop-at.at c.args.bytes.now) (drop_all c.loop-at.at c.args.bytes.now (omega (arith, c.loop-at-test.false))))

pub returns-clause-limit : goal.returns-clause-limit
returns-clause-limit c = c.loop-at.invariant.on.limit
