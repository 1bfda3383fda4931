-- The bytes spell the page but for the checksum, which is put before them.
use Rattle.std.proofs.Common.{ap, ◌∙◌}
use Rattle.page_image.specs.Page.{page_bytes}
use Rattle.page_image.proofs.Spelled.{with_checksum}
use Rattle.page_image.proofs.page.Page.bytes.Goals as goal

pub returns : goal.returns
returns c = with_checksum _ c.self.inside.bytes c.sealed.result c.self.invariant.spelled c.sealed.ensures ∙ ap page_bytes c.self.view_is
