use Rattle.std.proofs.Common.{arith}
use Rattle.script_text.proofs.EqualFronts.{front_and_last}
use Rattle.script_text.proofs.leading.have_same_few.Goals as goal

pub returns-then-have_same_four : goal.returns-then-have_same_four
returns-then-have_same_four c = λ t.
    front_and_last 4 c.args.end c.args.text.now c.args.word.now (omega arith) (omega arith) (omega arith) (c.have_same_front-then-have_same_four.ensures t) (c.have_same_four.ensures c.if-have_same_four.true)
