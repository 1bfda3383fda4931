use Rattle.std.proofs.Common.{sym, ap, subst}
use Rattle.jet_volume.specs.Image.{Image}
use Rattle.jet_volume.specs.Memory.{mem_seen, mem_moment, mem_left_at}
use Rattle.jet_volume.specs.Moments.{leaves_now}
use Rattle.jet_volume.specs.declared.files.LogStart.{LogStart}
use Rattle.log_ring.specs.Blocks.{Scans}
use Rattle.tests_ring.proofs.reopening.open.Goals as goal

pub returns-in-Ok-seal-clause-ready : goal.returns-in-Ok-seal-clause-ready
returns-in-Ok-seal-clause-ready c settled =
    let log = (mem_seen c.args.volume.now).log in
    c.in-Ok-seal.ensures.ready tt log c.args.from c.in-Ok.stream.items c.requires.first c.in-Ok-at.ensures.standing
    (record {
      read = ap (λ (i : Image). i.log) c.scan.ensures.seen;
      left = λ image left.
          ap (λ (i : Image). i.log)
          (settled image (leaves_now mem_moment mem_left_at c.args.volume.now c.scan.new.volume (mem_left_at c.args.volume.now (mem_moment c.args.volume.now)) c.scan.ensures.any_moment image left));
    })
    (subst (λ (e : LogStart). Scans log c.args.from c.in-Ok.stream.items e) (sym c.in-Ok-at.ensures.end) (c.in-Ok.ensures.found tt))
