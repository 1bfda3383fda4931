-- The data stands behind the key.
use Rattle.std.proofs.Common.{arith}
use Rattle.page_image.proofs.Kept.{data_read, node_here}
use Rattle.page_image.proofs.page.Page.data.Goals as goal

pub number_at-requires : goal.number_at-requires
number_at-requires c = omega (arith, (node_here _ _ _ _ _ _ _ c.self.view_is c.self.invariant c.requires c.offset-at.ensures.value).within)

pub number_at-requires-2 : goal.number_at-requires-2
number_at-requires-2 c = omega (arith, (node_here _ _ _ _ _ _ _ c.self.view_is c.self.invariant c.requires c.offset-at.ensures.value).within)

pub slice_bounds-result-end : goal.slice_bounds-result-end
slice_bounds-result-end c = omega (arith, (node_here _ _ _ _ _ _ _ c.self.view_is c.self.invariant c.requires c.offset-at.ensures.value).within, (node_here _ _ _ _ _ _ _ c.self.view_is c.self.invariant c.requires c.offset-at.ensures.value).fits, (node_here _ _ _ _ _ _ _ c.self.view_is c.self.invariant c.requires c.offset-at.ensures.value).key_length, (node_here _ _ _ _ _ _ _ c.self.view_is c.self.invariant c.requires c.offset-at.ensures.value).data_length, c.number_at.ensures.value, c.number_at-2.ensures.value)

pub returns : goal.returns
returns c = data_read _ _ _ _ _ (node_here _ _ _ _ _ _ _ c.self.view_is c.self.invariant c.requires c.offset-at.ensures.value) c.number_at.ensures.value c.number_at-2.ensures.value
