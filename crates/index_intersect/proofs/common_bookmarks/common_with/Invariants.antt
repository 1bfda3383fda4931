use Rattle.std.proofs.Common.{◌≡◌, ◌&&◌, ℕ, List, length}
use Rattle.index_intersect.specs.Walks.{has, will_all_read}
use Rattle.index_intersect.proofs.common_bookmarks.common_with.Given as goal

-- what the others have in common with those that went
abbrev pub invariant-loop-other : goal.invariant-loop-other
invariant-loop-other g l =
    (bookmark : List ℕ) → (has l.common bookmark && will_all_read (g.W.View.entries l.view) bookmark l.others.items)
    ≡ (has l.fn.bookmarks bookmark && will_all_read (g.W.View.entries l.view) bookmark l.fn.others.items)

abbrev pub decreases-loop-other : goal.decreases-loop-other
decreases-loop-other g l = length l.others.items
