use Rattle.std.proofs.Common.{◌≡◌, ◌++◌, ◌∷◌, [], ap, ◌∙◌}
use Rattle.column_set.specs.RowReading.{values_at}
use Rattle.column_set.specs.RowSeen.{seen}
use Rattle.column_set.proofs.Loop.{goes_on, ends, is_done}
use Rattle.column_set.proofs.decoding.values_of.Goals as goal

pub returns-in_default : goal.returns-in_default
returns-in_default c = ends c.loop.values.items c.loop.least c.args.count c.loop.counter c.loop.rest.now (values_at 0 c.args.count c.args.bytes.now) c.loop-test.true c.in_default.ensures c.loop.invariant

pub loop-preserved : goal.loop-preserved
loop-preserved c =
    let pushed : c.push.new.self.items ≡ c.loop.values.items ++ (c.in-Some.column, seen c.in-Some.value) ∷ [] = c.in_ok-push.ensures.items ∙ ap (λ v. c.loop.values.items ++ (c.in-Some.column, v) ∷ []) c.in_ok-copied.ensures.ok in
    rw pushed (goes_on c.loop.values.items c.loop.least c.args.count c.loop.counter c.loop.rest.now (c.in-Some.column, seen c.in-Some.value) c.in-Some.after.now (values_at 0 c.args.count c.args.bytes.now) c.loop-test.true c.in-Some.ensures c.loop.invariant)

pub returns : goal.returns
returns c = is_done c.loop.values.items c.loop.least c.args.count c.loop.counter c.loop.rest.now (values_at 0 c.args.count c.args.bytes.now) c.loop-test.false c.loop.invariant
