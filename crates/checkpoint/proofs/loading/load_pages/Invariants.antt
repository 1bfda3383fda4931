use Rattle.std.proofs.Common.{◌≡◌, ℕ, ◌<◌, None, get_or, length}
use Rattle.checkpoint.specs.Parts.{BearsNumber, LooksOnly, SaysOnly}
use Rattle.checkpoint.proofs.loading.load_pages.Given as goal

abbrev pub invariant-loop-number : goal.invariant-loop-number
invariant-loop-number g l = record {
  count : length l.pages.items ≡ l.number;
  own : (p : ℕ) → p < l.number → BearsNumber p (get_or l.pages.items p None);
  says : g.V.Volume.tells_contents → (p : ℕ) → p < l.number → SaysOnly (g.V.Volume.seen l.fn.volume).database p (get_or l.slots p 2) (get_or l.pages.items p None);
  seen : g.V.Volume.seen l.volume ≡ g.V.Volume.seen l.fn.volume;
  quiet : LooksOnly g.V.Volume.moment g.V.Volume.left_at l.fn.volume l.volume;
  faults : g.V.Volume.faults l.volume ≡ g.V.Volume.faults l.fn.volume;
  identity : g.V.Volume.identity l.volume ≡ g.V.Volume.identity l.fn.volume;
}
