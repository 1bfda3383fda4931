-- The extent stands behind the lengths of the key and the data.
use Rattle.std.proofs.Common.{arith, ◌∙◌}
use Rattle.page_image.proofs.Kept.{node_here}
use Rattle.page_image.proofs.page.Page.extent.Goals as goal

pub number_at-requires : goal.number_at-requires
number_at-requires c = omega (arith, (node_here _ _ _ _ _ _ _ c.self.view_is c.self.invariant c.requires c.offset.ensures.value).within)

pub returns : goal.returns
returns c = c.number_at.ensures.value ∙ (node_here _ _ _ _ _ _ _ c.self.view_is c.self.invariant c.requires c.offset.ensures.value).extent
