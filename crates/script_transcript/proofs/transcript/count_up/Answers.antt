use Rattle.std.proofs.Common.{arith}
use Rattle.script_transcript.proofs.Counting.{counts, digit_read, digit_raised}
use Rattle.script_transcript.proofs.transcript.count_up.Goals as goal

pub overflow_sub-place : goal.overflow_sub-place
overflow_sub-place c =
    let is = counts c.args.bytes.now.items c.args.number c.args.session.0 c.requires.head (omega (arith, c.requires.next)) (omega (arith, c.if-session-gt9.false)) in
    omega (arith, is.long, c.len-place.ensures)

pub overflow_add-digit : goal.overflow_add-digit
overflow_add-digit c =
    let is = counts c.args.bytes.now.items c.args.number c.args.session.0 c.requires.head (omega (arith, c.requires.next)) (omega (arith, c.if-session-gt9.false)) in
    omega (arith, digit_read c.args.bytes.now.items c.args.number c.args.session.0 c.len-place.result c.index-digit.result.now is (omega (arith, c.len-place.ensures)) c.index-digit.ensures)

pub returns-clause-items : goal.returns-clause-items
returns-clause-items c =
    let is = counts c.args.bytes.now.items c.args.number c.args.session.0 c.requires.head (omega (arith, c.requires.next)) (omega (arith, c.if-session-gt9.false)) in
    digit_raised c.args.bytes.now.items c.args.number c.args.session.0 c.len-place.result c.index-digit.result.now is (omega (arith, c.len-place.ensures)) c.index-digit.ensures c.if-digit-eq57.false c.requires.next
