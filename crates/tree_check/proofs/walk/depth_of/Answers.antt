-- Each inner page on the way down is one more.
use Rattle.std.proofs.Common.{◌≡◌, suc, ◌+◌, ◌-◌, sym, ap, ◌∙◌, arith}
use Rattle.byteorder.specs.Endian.{little_number}
use Rattle.page_image.specs.Page.{PageContents, node_at}
use Rattle.btree_inplace.specs.Shape.{child_of, page_in}
use Rattle.tree_check.specs.Walks.{depth_within}
use Rattle.tree_check.proofs.Walking.{depth_ends, depth_more, depth_none, page_is}
use Rattle.tree_check.proofs.walk.depth_of.Goals as goal

pub returns-then-not-is_inner_page : goal.returns-then-not-is_inner_page
returns-then-not-is_inner_page c =
    omega (arith, c.loop-level.invariant, depth_ends (64 - c.loop-level.level) c.args.space.now c.loop-level.page (sym c.is_inner_page.ensures ∙ c.if-not-is_inner_page.true))

pub loop-level-preserved : goal.loop-level-preserved
loop-level-preserved c =
    let frames = c.args.space.now in
    let page = c.loop-level.page in
    let level = c.loop-level.level in
    let is : page_in frames page ≡ c.page.result.now = page_is frames page c.page.result.now c.page.ensures in
    let next : child_of (node_at (page_in frames page).nodes 0) ≡ c.read_u32-page.result = ap (λ (q : PageContents). child_of (node_at q.nodes 0)) is ∙ sym (c.read_u32-page.ensures ∙ ap (little_number 4) c.data.ensures) in
    let here : 64 - level ≡ suc (64 - (level + 1)) = omega (arith, c.loop-level-test.true) in
    let more : depth_within (64 - level) frames page ≡ suc (depth_within (64 - (level + 1)) frames c.read_u32-page.result) =
    ap (λ n. depth_within n frames page) here ∙ depth_more (64 - (level + 1)) frames page (sym c.is_inner_page.ensures ∙ c.if-not-is_inner_page.false)
    ∙ ap (λ q. suc (depth_within (64 - (level + 1)) frames q)) next in
    omega (arith, c.loop-level.invariant, more)

pub returns : goal.returns
returns c =
    let end : 64 - c.loop-level.level ≡ 0 = omega (arith, c.loop-level-test.false) in
    let none : depth_within (64 - c.loop-level.level) c.args.space.now c.loop-level.page ≡ 0 = ap (λ n. depth_within n c.args.space.now c.loop-level.page) end ∙ depth_none c.args.space.now c.loop-level.page in
    omega (arith, c.loop-level.invariant, none, c.loop-level-test.false, c.loop-level.auto.level-end)
