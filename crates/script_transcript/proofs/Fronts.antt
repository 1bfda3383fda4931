-- The front of two lists that reaches into the second.
use Rattle.std.proofs.Math.Seq.{take-append-add}

pub ruleset fronts = take-append-add
