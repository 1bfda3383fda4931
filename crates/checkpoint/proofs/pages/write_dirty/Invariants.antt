use Rattle.std.proofs.Common.{◌≡◌, ℕ, ◌<◌, ◌≤◌, None, get_or}
use Rattle.checkpoint.specs.Opening.{SlotSays}
use Rattle.checkpoint.specs.Steps.{EachFollows, IsDirty, SparesClean, SparesSlots, TakesSlot}
use Rattle.checkpoint.proofs.pages.write_dirty.Given as goal

abbrev pub invariant-loop-number : goal.invariant-loop-number
invariant-loop-number g l = record {
  slots : (p : ℕ) → p < l.number → TakesSlot (get_or l.standing.pages.items p None) (get_or l.standing.slots.items p 2) (get_or l.pages p None) (get_or l.slots p 2);
  rest : (p : ℕ) → l.number ≤ p → get_or l.slots p 2 ≡ get_or l.fn.slots p 2;
  clean : EachFollows g.V.Volume.moment g.V.Volume.left_at (SparesClean (λ p. IsDirty (get_or l.standing.pages.items p None) (get_or l.standing.slots.items p 2) (get_or l.pages p None))) l.fn.volume l.volume;
  held : g.V.Volume.tells_contents → ((p : ℕ) → SlotSays (g.V.Volume.seen l.fn.volume).database p (get_or l.standing.slots.items p 2) (get_or l.standing.pages.items p None))
      → (p : ℕ) → p < l.number → SlotSays (g.V.Volume.seen l.volume).database p (get_or l.slots p 2) (get_or l.pages p None);
  spares : g.V.Volume.tells_contents → SparesSlots l.standing.slots.items (g.V.Volume.seen l.fn.volume) (g.V.Volume.seen l.volume);
  each : EachFollows g.V.Volume.moment g.V.Volume.left_at (SparesSlots l.standing.slots.items) l.fn.volume l.volume;
  faults : g.V.Volume.faults l.volume ≡ g.V.Volume.faults l.fn.volume;
  identity : g.V.Volume.identity l.volume ≡ g.V.Volume.identity l.fn.volume;
}
