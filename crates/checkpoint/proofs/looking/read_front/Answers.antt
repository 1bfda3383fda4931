use Rattle.std.proofs.Common.{◌∙◌, ap}
use Rattle.jet_volume.specs.Image.{file_bytes}
use Rattle.checkpoint.specs.Opening.{shown_number}
use Rattle.checkpoint.proofs.Fronts.{front_is, shown_front}
use Rattle.checkpoint.proofs.looking.read_front.Goals as goal

pub returns-clause-number : goal.returns-clause-number
returns-clause-number g c tells =
    let bytes = file_bytes c.args.file (g.V.Volume.seen c.args.volume.now) in
    c.front_of.ensures.number
    ∙ ap shown_number (front_is 18 c.in_ok-count.count c.read.new.into bytes (c.in_ok-count.ensures.count tells) (c.in_ok-count.ensures.bytes tells))
    ∙ shown_front bytes
