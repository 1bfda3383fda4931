-- Zeros with a number and a kind are the body of an empty page.
use Rattle.page_image.proofs.Spelled.{zeros_with_head}
use Rattle.page_image.proofs.page.write_head.Goals as goal

pub returns : goal.returns
returns c = zeros_with_head c.args.number c.args.kind c.args.bytes.now c.write_u32.new.buf c.requires c.write_u32.ensures
