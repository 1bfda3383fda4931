use Rattle.jet_volume.specs.Image.{file_bytes}
use Rattle.checkpoint.proofs.FileParts.{slots_found}
use Rattle.checkpoint.proofs.file.read_slots.Goals as goal

pub returns-in-Ok-Some-clause-slots : goal.returns-in-Ok-Some-clause-slots
returns-in-Ok-Some-clause-slots g c tells is =
    slots_found c.slots_in.result (file_bytes c.args.file (g.V.Volume.seen c.args.volume.now)) c.in-Ok-Some.piece.items c.args.count is
    (rw c.in-Ok-Some.field-0-is at (c.in-Ok-Some.ensures.piece tells)) c.slots_in.ensures.slots
