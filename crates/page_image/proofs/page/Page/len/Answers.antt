-- The fields show a page.
use Rattle.std.proofs.Common.{subst}
use Rattle.page_image.specs.Page.{IsPage}
use Rattle.page_image.proofs.page.Page.len.Goals as goal

pub returns-clause-page : goal.returns-clause-page
returns-clause-page c = subst IsPage c.self.view_is c.self.invariant.page
