use Rattle.std.proofs.Common.{◌≡◌, ℕ, List, length}
use Rattle.index_intersect.specs.Walks.{bookmarks_ahead, will_have_among}
use Rattle.index_intersect.proofs.range_bookmarks.RangeBookmarks.read_among.Given as goal

-- what was read, and what will be
abbrev pub invariant-loop-self : goal.invariant-loop-self
invariant-loop-self g l =
    (bookmark : List ℕ) → will_have_among (g.W.View.entries l.view) l.others bookmark l.self ≡ will_have_among (g.W.View.entries l.view) l.others bookmark l.fn.self

abbrev pub decreases-loop-self : goal.decreases-loop-self
decreases-loop-self g l = length (bookmarks_ahead (g.W.View.entries l.view) l.self.walk)
