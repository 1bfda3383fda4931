use Rattle.std.proofs.Common.{◌≡◌, ◌+◌, ◌-◌, ◌≤◌, length}
use Rattle.esentutl.proofs.ScriptText.{IsReadTo}
use Rattle.esentutl.proofs.reading.read_script.Given as goal

abbrev pub invariant-loop-taken : goal.invariant-loop-taken
invariant-loop-taken g l = record {
  read : IsReadTo (g.S.Source.left l.fn.script) (g.S.Source.left l.script) l.parser l.unparsed l.taken;
  number : l.parser.number + length l.unparsed ≤ l.taken;
  most : l.taken ≤ 16777217;
  faults : g.S.Source.faults l.script ≡ g.S.Source.faults l.fn.script;
}

abbrev pub decreases-loop-taken : goal.decreases-loop-taken
decreases-loop-taken g l = 16777217 - l.taken
