use Rattle.std.proofs.Common.{◌∙◌, ap, arith}
use Rattle.jet_volume.specs.Image.{Image}
use Rattle.log_ring.proofs.Steps.{looks_on}
use Rattle.log_ring.proofs.Reading.{found_more, near_more}
use Rattle.log_ring.proofs.scanning.scan.Goals as goal

pub read_next-requires-clause-position : goal.read_next-requires-clause-position
read_next-requires-clause-position g c = omega (arith, c.walk.invariant.near.position, c.walk.invariant.near.few, c.requires.position)

pub read_next-requires-clause-room : goal.read_next-requires-clause-room
read_next-requires-clause-room g c = omega (arith, c.walk.invariant.near.few)

pub walk-preserved : goal.walk-preserved
walk-preserved g c = record {
  seen = c.read_next.ensures.seen ∙ c.walk.invariant.seen;
  faults = c.in-Ok-Some.ensures.faults ∙ c.walk.invariant.faults;
  identity = c.read_next.ensures.identity ∙ c.walk.invariant.identity;
  looks = looks_on g.V.Volume.seen g.V.Volume.moment g.V.Volume.left_at c.args.volume.now c.walk.volume c.read_next.new.volume c.walk.invariant.looks c.read_next.ensures.any_moment;
  near = near_more c.args.from c.walk.place c.in-Ok-Some.next c.walk.bytes.items c.read_next.new.into.items c.walk.invariant.near (rw c.in-Ok-Some.field-0-is at c.in-Ok-Some.ensures.within);
  found = λ tells.
      found_more (g.V.Volume.seen c.args.volume.now).log (g.V.Volume.seen c.walk.volume).log c.args.from c.walk.place c.in-Ok-Some.next c.walk.bytes.items c.read_next.new.into.items
      (ap (λ (i : Image). i.log) c.walk.invariant.seen) (c.walk.invariant.found tells) (rw c.in-Ok-Some.field-0-is at (c.in-Ok-Some.ensures.found tells));
}

pub returns-in-Ok-None-clause-any_moment : goal.returns-in-Ok-None-clause-any_moment
returns-in-Ok-None-clause-any_moment g c =
    looks_on g.V.Volume.seen g.V.Volume.moment g.V.Volume.left_at c.args.volume.now c.walk.volume c.read_next.new.volume c.walk.invariant.looks c.read_next.ensures.any_moment

pub returns-in-Err-clause-any_moment : goal.returns-in-Err-clause-any_moment
returns-in-Err-clause-any_moment g c =
    looks_on g.V.Volume.seen g.V.Volume.moment g.V.Volume.left_at c.args.volume.now c.walk.volume c.read_next.new.volume c.walk.invariant.looks c.read_next.ensures.any_moment
