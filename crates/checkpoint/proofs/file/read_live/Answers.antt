use Rattle.std.proofs.Common.{◌∙◌}
use Rattle.jet_volume.specs.Image.{file_bytes}
use Rattle.checkpoint.proofs.FileParts.{told_is_file, told_says}
use Rattle.checkpoint.proofs.file.read_live.Goals as goal

pub returns-in-Ok-Some-clause-told : goal.returns-in-Ok-Some-clause-told
returns-in-Ok-Some-clause-told g c tells fixed slots =
    let bytes = file_bytes c.args.file (g.V.Volume.seen c.args.volume.now) in
    let read = rw c.in-Ok-Some.field-0-is at (c.in-Ok-Some.ensures.piece tells) in
    record {
      is_file = told_is_file c.args.file bytes c.args.fixed.count c.args.slots.live_length fixed.head slots.has fixed.count slots.live_length read.0;
      says = fixed.says c.args.slots.items.items c.in-Ok-Some.live.items
          ∙ told_says bytes c.args.slots.items.items c.in-Ok-Some.live.items c.args.fixed.count c.args.slots.live_length slots.items fixed.count slots.live_length read.1;
    }
