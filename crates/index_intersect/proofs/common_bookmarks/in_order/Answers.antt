use Rattle.std.proofs.Common.{◌++◌, ap, ◌∙◌}
use Rattle.index_intersect.proofs.Turns.{all_taken, one_taken}
use Rattle.index_intersect.proofs.common_bookmarks.in_order.Goals as goal

pub loop-bookmark-init : goal.loop-bookmark-init
loop-bookmark-init c =
    ap (λ xs. xs ++ c.into_iter-bookmark-iterator.result) c.in_ok-list.ensures.items ∙ c.into_iter-bookmark-iterator.ensures.into_iter_gives.0

pub loop-bookmark-preserved : goal.loop-bookmark-preserved
loop-bookmark-preserved c =
    one_taken c.loop-bookmark.list.items c.push.new.self.items c.loop-bookmark.bookmark-iterator c.next.new.self c.args.bookmarks.keys c.in-Some.bookmark
    c.loop-bookmark.invariant (rw c.in-Some.is at c.next.ensures.steps) c.in_ok-push.ensures.items

pub returns-clause-items : goal.returns-clause-items
returns-clause-items c =
    all_taken c.loop-bookmark.list.items c.loop-bookmark.bookmark-iterator c.args.bookmarks.keys c.loop-bookmark.invariant (rw c.in-None.is at c.next.ensures.steps).0
