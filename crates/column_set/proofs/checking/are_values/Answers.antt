use Rattle.std.proofs.Common.{sym, ◌∙◌}
use Rattle.column_set.specs.RowReading.{takes_all, values_at}
use Rattle.column_set.specs.RowSeen.{seen}
use Rattle.column_set.proofs.Checked.{goes_on, ends, is_done}
use Rattle.column_set.proofs.checking.are_values.Goals as goal

pub returns-in_default : goal.returns-in_default
returns-in_default c = sym (ends c.loop.least c.args.count c.loop.counter c.loop.rest.now (takes_all (values_at 0 c.args.count c.args.bytes.now)) c.loop-test.true c.in_default.ensures c.loop.invariant)

pub loop-preserved : goal.loop-preserved
loop-preserved c = goes_on c.loop.least c.args.count c.loop.counter c.loop.rest.now (c.in-Some.column, seen c.in-Some.field-0-0-1) c.in-Some.after.now (takes_all (values_at 0 c.args.count c.args.bytes.now)) c.loop-test.true c.in-Some.ensures c.loop.invariant

pub returns : goal.returns
returns c =
    let done = is_done c.loop.least c.args.count c.loop.counter c.loop.rest.now (takes_all (values_at 0 c.args.count c.args.bytes.now)) c.loop-test.false c.loop.invariant in
    c.is_empty.ensures ∙ sym done
