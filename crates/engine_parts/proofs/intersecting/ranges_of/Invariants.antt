use Rattle.std.proofs.Common.{◌≡◌, [], drop}
use Rattle.engine_parts.specs.Intersecting.{ranges_behind}
use Rattle.engine_parts.specs.Reading.{has_shown}
use Rattle.engine_parts.proofs.intersecting.ranges_of.Given as goal

-- the ranges of the cursors that are left come behind those that are there
abbrev pub invariant-loop-label : goal.invariant-loop-label
invariant-loop-label l =
    ranges_behind (has_shown l.view.reader l.view.tables.now.store) l.local.state l.ranges (drop l.label-index l.cursors) ≡ ranges_behind (has_shown l.view.reader l.view.tables.now.store) l.local.state [] l.cursors
