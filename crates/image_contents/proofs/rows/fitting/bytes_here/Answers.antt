use Rattle.image_contents.proofs.ValuesStand.{apart_is, here_is}
use Rattle.image_contents.proofs.rows.fitting.bytes_here.Goals as goal

pub returns-then-value-eq-HERE : goal.returns-then-value-eq-HERE
returns-then-value-eq-HERE c x may is = here_is c.args.value.now x is c.if-value-eq-HERE.true

pub returns-else-value-eq-HERE : goal.returns-else-value-eq-HERE
returns-else-value-eq-HERE c x may is = apart_is c.args.value.now x is c.if-value-eq-HERE.false
