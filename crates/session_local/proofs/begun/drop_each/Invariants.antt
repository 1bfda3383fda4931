use Rattle.std.proofs.Common.{◌≡◌}
use Rattle.session_local.proofs.Distinct.{partly}
use Rattle.session_local.proofs.begun.drop_each.Given as goal

abbrev pub invariant-loop-cursor : goal.invariant-loop-cursor
invariant-loop-cursor l = l.cursors ≡ partly l.cursor-index l.initial.cursors
