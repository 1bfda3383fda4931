use Rattle.std.proofs.Common.{◌≡◌, ℕ, List, length, take}
use Rattle.index_intersect.specs.Intersection.{lies_in_all}
use Rattle.index_intersect.specs.Walks.{will_all_read}
use Rattle.index_intersect.proofs.common_bookmarks.unread.Given as goal

-- the first ranges are there, none of them read
abbrev pub invariant-loop-range : goal.invariant-loop-range
invariant-loop-range g l = record {
  counted : length l.all.items ≡ l.range-index;
  told : (bookmark : List ℕ) → will_all_read (g.W.View.entries l.view) bookmark l.all.items ≡ lies_in_all (g.W.View.entries l.view) bookmark (take l.range-index l.ranges);
}
