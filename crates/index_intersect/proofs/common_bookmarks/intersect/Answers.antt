use Rattle.std.proofs.Common.{◌≡◌, ◌<◌, length, ◌∙◌, arith}
use Rattle.index_intersect.specs.Intersection.{intersection}
use Rattle.index_intersect.proofs.Sets.{is_common, no_range}
use Rattle.index_intersect.proofs.Turns.{empty, if_ok, some}
use Rattle.index_intersect.proofs.common_bookmarks.intersect.Goals as goal

pub returns-then-is_empty : goal.returns-then-is_empty
returns-then-is_empty g c =
    let none : c.in_ok-all.all.len ≡ 0 = empty _ _ c.is_empty.ensures c.if-is_empty.true in
    c.new.ensures.items ∙ no_range (g.W.View.entries c.args.view.now) c.args.ranges.now (omega (arith, none, c.in_ok-all.all.ok.0, c.in_ok-all.ensures.length))

pub returns : goal.returns
returns g c =
    let es = g.W.View.entries c.args.view.now in
    let ranges = c.args.ranges.now in
    let common = c.in_ok-common_with.field-0 in
    let some_part : 0 < c.in_ok-all.all.len = some _ _ c.is_empty.ensures c.if-is_empty.false in
    let some_range : 0 < length ranges = omega (arith, some_part, c.in_ok-all.all.ok.0, c.in_ok-all.ensures.length) in
    if_ok c.in_order.result (λ list. list.items ≡ common.keys) (λ list. list.items ≡ intersection es ranges)
    (λ list e. e ∙ is_common es ranges common some_range c.in_order.ensures.rising (λ b. c.in_ok-common_with.ensures b ∙ c.in_ok-smallest.ensures b ∙ c.in_ok-all.ensures.all b))
    c.in_order.ensures.items
