use Rattle.std.proofs.Common.{arith}
use Rattle.session_local.proofs.Distinct.{drop_one_more}
use Rattle.session_local.proofs.begun.drop_each.Goals as goal

pub loop-cursor-preserved : goal.loop-cursor-preserved
loop-cursor-preserved c = drop_one_more _ c.loop-cursor.cursors c.loop-cursor.cursor-index c.cursor-item.result c.prepare.new.self c.loop-cursor.invariant (omega arith) c.prepare.ensures
