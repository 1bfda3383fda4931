use Rattle.image_contents.proofs.FoundFaults.{place_read}
use Rattle.image_contents.proofs.values.fault.place_of.Goals as goal

pub returns : goal.returns
returns c = place_read c.args.id.now c.min.result c.first_u32.result c.min.ensures c.first_u32.ensures
