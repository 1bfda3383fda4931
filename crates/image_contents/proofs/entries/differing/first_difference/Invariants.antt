use Rattle.std.proofs.Common.{◌≡◌, ℕ, ◌-◌, ◌≤◌, drop, length}
use Rattle.cursor_nav.specs.Places.{Pair}
use Rattle.image_findings.specs.EntryFindings.{differing}
use Rattle.image_findings.specs.Images.{Finding}
use Rattle.image_contents.proofs.entries.differing.first_difference.Given as goal

-- What is left of the two lists differs where they do.
abbrev pub invariant-loop-at : goal.invariant-loop-at
invariant-loop-at l = (l.at ≤ length l.have) × (l.at ≤ length l.want) × ((found : Pair → ℕ → ℕ → Finding) → differing found (drop l.at l.have) (drop l.at l.want) ≡ differing found l.have l.want)

abbrev pub decreases-loop-at : goal.decreases-loop-at
decreases-loop-at l = length l.have - l.at
