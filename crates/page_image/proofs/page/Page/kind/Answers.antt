-- The kind is the byte at 12.
use Rattle.std.proofs.Common.{ap}
use Rattle.page_image.specs.Page.{PageContents}
use Rattle.page_image.specs.Reading.{contents_of}
use Rattle.page_image.proofs.page.Page.kind.Goals as goal

pub returns-clause-value : goal.returns-clause-value
unfolding contents_of
returns-clause-value c = ap (λ (p : PageContents). p.kind) c.self.view_is

pub returns-clause-one_of_two : goal.returns-clause-one_of_two
unfolding contents_of
returns-clause-one_of_two c = c.self.invariant.page.kind
