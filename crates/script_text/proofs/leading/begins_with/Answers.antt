use Rattle.std.proofs.Common.{length, arith}
use Rattle.script_text.proofs.EqualFronts.{front_and_last, word_of_front}
use Rattle.script_text.proofs.leading.begins_with.Goals as goal

pub returns-then-end-le8 : goal.returns-then-end-le8
returns-then-end-le8 c = λ t. word_of_front c.args.text.now c.args.word.now (c.have_same_few.ensures t)

pub returns-then-have_same_eight : goal.returns-then-have_same_eight
returns-then-have_same_eight c = λ t.
    word_of_front c.args.text.now c.args.word.now
    (front_and_last 8 (length c.args.word.now) c.args.text.now c.args.word.now (omega arith) (omega arith) (omega arith) (c.have_same_few-then-have_same_eight.ensures t) (c.have_same_eight.ensures c.if-have_same_eight.true))
