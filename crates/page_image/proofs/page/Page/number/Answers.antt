-- The number is in the four bytes from 8 on.
use Rattle.std.proofs.Common.{ap, ◌∙◌, arith}
use Rattle.std.proofs.lemmas.Slice.{between_to_end}
use Rattle.byteorder.specs.Endian.{little_number}
use Rattle.page_image.specs.Page.{PageContents}
use Rattle.page_image.specs.Reading.{contents_of}
use Rattle.page_image.proofs.page.Page.number.Goals as goal

pub returns : goal.returns
unfolding contents_of
returns c = c.read_u32.ensures ∙ ap (little_number 4) (between_to_end c.self.inside.bytes 8 4096 (omega arith)) ∙ ap (λ (p : PageContents). p.number) c.self.view_is
