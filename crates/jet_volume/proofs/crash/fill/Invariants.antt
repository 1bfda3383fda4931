use Rattle.std.proofs.Common.{◌≡◌, take, drop}
use Rattle.jet_volume.proofs.crash.fill.Given as goal

-- only bytes of the range have changed
abbrev pub invariant-loop-i : goal.invariant-loop-i
invariant-loop-i l = record {
  front : take l.low l.bytes ≡ take l.low l.fn.bytes;
  back : drop l.high l.bytes ≡ drop l.high l.fn.bytes;
}
