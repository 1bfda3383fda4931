-- The key stands behind the three lengths of its node.
use Rattle.std.proofs.Common.{arith, ap, ◌∙◌, ◌+◌, ◌-◌, ◌≡◌, length, take, drop}
use Rattle.page_image.specs.Page.{node_at}
use Rattle.page_image.proofs.Kept.{node_here}
use Rattle.page_image.proofs.page.Page.key.Goals as goal

pub number_at-requires : goal.number_at-requires
number_at-requires c = omega (arith, (node_here _ _ _ _ _ _ _ c.self.view_is c.self.invariant c.requires c.offset-at.ensures.value).within)

pub slice_bounds-result-end : goal.slice_bounds-result-end
slice_bounds-result-end c = omega (arith, (node_here _ _ _ _ _ _ _ c.self.view_is c.self.invariant c.requires c.offset-at.ensures.value).within, (node_here _ _ _ _ _ _ _ c.self.view_is c.self.invariant c.requires c.offset-at.ensures.value).key_length, c.number_at.ensures.value)

pub returns : goal.returns
returns c =
    let count : c.offset-at.result + 6 + c.number_at.result - (c.offset-at.result + 6) ≡ length (node_at c.args.self.now.nodes c.args.i).key = omega (arith, (node_here _ _ _ _ _ _ _ c.self.view_is c.self.invariant c.requires c.offset-at.ensures.value).key_length, c.number_at.ensures.value) in
    ap (λ k. take k (drop (c.offset-at.result + 6) c.self.inside.bytes)) count ∙ (node_here _ _ _ _ _ _ _ c.self.view_is c.self.invariant c.requires c.offset-at.ensures.value).key
