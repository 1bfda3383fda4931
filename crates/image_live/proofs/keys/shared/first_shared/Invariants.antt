use Rattle.std.proofs.Common.{◌≡◌, ◌-◌, ◌≤◌, drop, length}
use Rattle.image_live.specs.KeySpans.{first_shared}
use Rattle.image_live.proofs.keys.shared.first_shared.Given as goal

-- The first shared key of the spans from the one before on is that of all.
abbrev pub invariant-loop-next : goal.invariant-loop-next
invariant-loop-next l = (1 ≤ l.next) × (first_shared l.sessions l.versions (drop (l.next - 1) l.spans) ≡ first_shared l.sessions l.versions l.spans)

abbrev pub decreases-loop-next : goal.decreases-loop-next
decreases-loop-next l = length l.spans - l.next
