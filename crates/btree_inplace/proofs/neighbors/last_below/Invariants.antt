use Rattle.std.proofs.Common.{◌≡◌, ◌-◌}
use Rattle.btree_inplace.specs.Order.{last_in}
use Rattle.btree_inplace.specs.Shape.{IsSubtree, entries}
use Rattle.btree_inplace.proofs.neighbors.last_below.Given as goal

abbrev pub invariant-loop : goal.invariant-loop
invariant-loop l = record {
  shape : IsSubtree (l.depth - l.counter) l.space l.page;
  last : last_in (entries (l.depth - l.counter) l.space l.page) ≡ last_in (entries l.depth l.space l.fn.page);
}
