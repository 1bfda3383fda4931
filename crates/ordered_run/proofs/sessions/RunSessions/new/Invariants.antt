use Rattle.std.proofs.Common.{◌≡◌, length}
use Rattle.ordered_run.specs.Sessions.{AreFresh}
use Rattle.ordered_run.proofs.sessions.RunSessions.new.Given as goal

-- the places so far are of the labels so far
abbrev pub invariant-loop-label : goal.invariant-loop-label
invariant-loop-label l = record {
  count : length l.sessions.items ≡ l.label;
  fresh : AreFresh l.sessions.items;
}
