use Rattle.std.proofs.Common.{◌≡◌}
use Rattle.index_derive.specs.Walks.{candidates_left}
use Rattle.index_derive.proofs.Rows.{steps_left}
use Rattle.index_derive.proofs.walk.Walk.next.Given as goal

-- what was passed over was left out
abbrev pub invariant-loop-self : goal.invariant-loop-self
invariant-loop-self g l =
    candidates_left l.rule l.parts (g.R.Values.fields l.«record») l.self ≡ candidates_left l.rule l.parts (g.R.Values.fields l.«record») l.initial.self

abbrev pub decreases-loop-self : goal.decreases-loop-self
decreases-loop-self g l = steps_left l.rule l.parts (g.R.Values.fields l.«record») l.self
