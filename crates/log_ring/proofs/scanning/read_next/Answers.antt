use Rattle.std.proofs.Common.{◌≡◌, None, ap}
use Rattle.std.proofs.lemmas.Result.{IfOk-weaker}
use Rattle.jet_volume.specs.Image.{Image}
use Rattle.log_ring.specs.Blocks.{open_payload}
use Rattle.log_ring.proofs.Steps.{looks_on}
use Rattle.log_ring.proofs.Reading.{turned_found}
use Rattle.log_ring.proofs.scanning.read_next.Goals as goal

pub returns-then-place-first-clause-found : goal.returns-then-place-first-clause-found
returns-then-place-first-clause-found g c tells =
    let log = (g.V.Volume.seen c.args.volume.now).log in
    let none : open_payload log c.args.place ≡ None = rw c.in-Ok-None.field-0-is at (c.in-Ok-None.ensures.block tells) in
    let kept : c.read_block.new.into.items ≡ c.args.into.now.items = rw c.in-Ok-None.field-0-is at c.in-Ok-None.ensures.within in
    let same : (g.V.Volume.seen c.read_block.new.volume).log ≡ log = ap (λ (i : Image). i.log) c.read_block.ensures.seen in
    IfOk-weaker c.read_first.result _ _ (λ next found.
    turned_found c.args.first log c.args.place c.next_generation_of.result c.args.into.now.items c.read_block.new.into.items c.read_first.new.into.items none c.if-place-first.true c.next_generation_of.ensures kept next (rw same at found))
    (c.read_first.ensures.found tells)

pub returns-then-place-first-clause-any_moment : goal.returns-then-place-first-clause-any_moment
returns-then-place-first-clause-any_moment g c =
    looks_on g.V.Volume.seen g.V.Volume.moment g.V.Volume.left_at c.args.volume.now c.read_block.new.volume c.read_first.new.volume c.read_block.ensures.any_moment c.read_first.ensures.any_moment
