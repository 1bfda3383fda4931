use Rattle.std.proofs.Common.{List, ℕ, Some, None, ◌+◌, drop, sym, subst, arith, length-drop}
use Rattle.std.proofs.lemmas.List.{drop_all}
use Rattle.tool_dump.specs.LogSteps.{AppendsLog}
use Rattle.tool_dump.proofs.LogReading.{appended_all, appended_more, front_told, none_at_end, nothing_appended}
use Rattle.tool_dump.proofs.entries.append_log.Goals as goal

pub loop-at-init : goal.loop-at-init
loop-at-init c = record {
  within = omega arith;
  few = omega arith;
  on = nothing_appended c.args.number c.args.bytes.now c.args.text.now.items;
}

pub loop-at-preserved : goal.loop-at-preserved
loop-at-preserved c =
    let told = front_told (c.loop-at.last + 1) c.args.bytes.now c.loop-at.text.items c.append_front.new.text.items c.loop-at.at c.in-Ok-Some.field-0 (Some c.in-Ok-Some.size) c.in-Ok-Some.field-0-is c.in-Ok-Some.ensures in
    record {
      within = omega (arith, told.1, length-drop c.loop-at.at c.args.bytes.now, c.loop-at.invariant.within);
      few = omega (arith, told.0, c.loop-at.invariant.few);
      on = appended_more c.args.number c.args.bytes.now c.args.text.now.items c.loop-at.text.items c.append_front.new.text.items c.loop-at.at c.loop-at.last c.in-Ok-Some.size c.loop-at.invariant.within c.loop-at.invariant.on told.2;
    }

pub returns-in-Ok-None : goal.returns-in-Ok-None
returns-in-Ok-None c =
    let told = front_told (c.loop-at.last + 1) c.args.bytes.now c.loop-at.text.items c.append_front.new.text.items c.loop-at.at c.in-Ok-None.field-0 None c.in-Ok-None.field-0-is c.in-Ok-None.ensures in
    subst (λ (t : List ℕ). AppendsLog c.args.number c.args.bytes.now c.args.text.now.items t) (sym told.1)
    (appended_all c.args.number c.args.bytes.now c.args.text.now.items c.loop-at.text.items c.loop-at.at c.loop-at.last c.loop-at.invariant.on told.0)

pub returns : goal.returns
returns c =
    appended_all c.args.number c.args.bytes.now c.args.text.now.items c.loop-at.text.items c.loop-at.at c.loop-at.last c.loop-at.invariant.on
    (none_at_end (drop c.loop-at.at c.args.bytes.now) (drop_all c.loop-at.at c.args.bytes.now (omega (arith, c.loop-at-test.false))))
