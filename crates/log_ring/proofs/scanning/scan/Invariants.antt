use Rattle.std.proofs.Common.{◌≡◌, ◌+◌, ◌-◌, ◌*◌, List}
use Rattle.log_ring.specs.Blocks.{Leads, payloads, EndsNear}
use Rattle.log_ring.specs.Writes.{LooksOnly}
use Rattle.log_ring.proofs.Paths.{Block}
use Rattle.log_ring.proofs.scanning.scan.Given as goal

abbrev pub invariant-walk : goal.invariant-walk
invariant-walk g l = record {
  seen : g.V.Volume.seen l.volume ≡ g.V.Volume.seen l.fn.volume;
  faults : g.V.Volume.faults l.volume ≡ g.V.Volume.faults l.fn.volume;
  identity : g.V.Volume.identity l.volume ≡ g.V.Volume.identity l.fn.volume;
  looks : LooksOnly g.V.Volume.moment g.V.Volume.left_at l.fn.volume l.volume;
  near : EndsNear l.from l.bytes.items l.place;
  found : g.V.Volume.tells_contents → (blocks : List Block) × Leads l.from.generation (g.V.Volume.seen l.fn.volume).log l.from blocks l.place × (l.bytes.items ≡ payloads blocks);
}

abbrev pub decreases-walk : goal.decreases-walk
decreases-walk g l = 4294967296 * (l.from.generation + 9) - (4294967296 * l.place.generation + l.place.offset)
