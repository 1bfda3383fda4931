use Rattle.std.proofs.Common.{◌≡◌, ◌-◌, None, Bool}
use Rattle.std.specs.Prelude.{find}
use Rattle.page_image.specs.Page.{Node}
use Rattle.btree_inplace.specs.Order.{PassesAbove, has_key}
use Rattle.btree_inplace.specs.Shape.{IsSubtree, entries}
use Rattle.btree_inplace.specs.Neighbors.{IsNeighbor, found_right}
use Rattle.btree_inplace.proofs.Tree.right_path.Given as goal

abbrev pub invariant-loop-level : goal.invariant-loop-level
invariant-loop-level l = record {
  shape : IsSubtree (l.self.depth - l.level) l.space l.page;
  beside : IsNeighbor l.space l.next;
  found : (test : Node → Bool) → PassesAbove test l.key → found_right l.space (l.self.depth - l.level) l.page l.next test ≡ found_right l.space l.self.depth l.self.root None test;
  same : find (has_key l.key) (entries (l.self.depth - l.level) l.space l.page) ≡ find (has_key l.key) (entries l.self.depth l.space l.self.root);
}
