use Rattle.std.proofs.Common.{◌≡◌, ◌<◌, ℕ, List, length}
use Rattle.std.specs.Prelude.{sum_by}
use Rattle.index_intersect.specs.Walks.{bookmarks_ahead, will_all_read}
use Rattle.index_intersect.proofs.common_bookmarks.take_smallest.Given as goal

-- the ranges have what they had
abbrev pub invariant-loop-all : goal.invariant-loop-all
invariant-loop-all g l = record {
  bound : l.turn < length l.all.items;
  told : (bookmark : List ℕ) → will_all_read (g.W.View.entries l.view) bookmark l.all.items ≡ will_all_read (g.W.View.entries l.view) bookmark l.fn.all.items;
}

abbrev pub decreases-loop-all : goal.decreases-loop-all
decreases-loop-all g l = sum_by (λ part. length (bookmarks_ahead (g.W.View.entries l.view) part.walk)) l.all.items
