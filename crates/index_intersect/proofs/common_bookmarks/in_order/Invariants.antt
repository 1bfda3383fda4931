use Rattle.std.proofs.Common.{◌≡◌, ◌++◌}
use Rattle.index_intersect.proofs.common_bookmarks.in_order.Given as goal

-- those that were taken and those that are left are all
abbrev pub invariant-loop-bookmark : goal.invariant-loop-bookmark
invariant-loop-bookmark l = l.list.items ++ l.bookmark-iterator ≡ l.fn.bookmarks.keys
