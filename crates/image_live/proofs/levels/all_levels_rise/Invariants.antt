-- The levels so far rise, and the highest of each session is known.
use Rattle.std.proofs.Common.{◌≡◌, ℕ, ◌<◌, true, get_or, length, take}
use Rattle.image_findings.specs.LiveFindings.{levels_rise}
use Rattle.image_live.specs.Orders.{all_pairs}
use Rattle.image_live.proofs.Highest.{highest}
use Rattle.image_live.proofs.levels.all_levels_rise.Given as goal

abbrev pub invariant-loop-place : goal.invariant-loop-place
invariant-loop-place l = record {
  rise : all_pairs levels_rise (take l.place l.changes) ≡ true;
  count : length l.levels ≡ 100;
  known : (session : ℕ) → session < 100 → get_or l.levels session 0 ≡ highest session (take l.place l.changes);
}
