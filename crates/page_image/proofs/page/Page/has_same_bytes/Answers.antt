-- The bytes of both pages are those of their pages behind the checksum.
use Rattle.std.proofs.Common.{ap, ◌∙◌}
use Rattle.page_image.specs.Page.{page_body}
use Rattle.page_image.proofs.Spelled.{same_pages}
use Rattle.page_image.proofs.page.Page.has_same_bytes.Goals as goal

pub returns : goal.returns
returns c =
    same_pages c.args.self.now c.args.other.now c.self.inside.bytes c.other.inside.bytes c.has_same_words.result
    (c.self.invariant.spelled ∙ ap page_body c.self.view_is) (c.other.invariant.spelled ∙ ap page_body c.other.view_is) c.has_same_words.ensures
