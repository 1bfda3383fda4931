use Rattle.std.proofs.Common.{◌≡◌, ◌≢◌, ◌-◌, ℕ, List}
use Rattle.std.specs.Prelude.{find, AllPairs, Contains}
use Rattle.page_image.specs.Page.{Node}
use Rattle.page_space.specs.Frames.{Frames}
use Rattle.btree_inplace.specs.Changes.{Changed, IsLocal, StayBut}
use Rattle.btree_inplace.specs.Order.{has_key}
use Rattle.btree_inplace.specs.Shape.{IsSubtree, entries, pages}
use Rattle.btree_inplace.specs.Trees.{nodes_of, pages_of}
use Rattle.btree_inplace.proofs.Tree.leaf.Given as goal

abbrev pub invariant-loop-level : goal.invariant-loop-level
invariant-loop-level l = record {
  shape : IsSubtree (l.self.depth - l.level) l.space l.page;
  found : find (has_key l.key) (entries (l.self.depth - l.level) l.space l.page) ≡ find (has_key l.key) (nodes_of l.space l.self);
  once : AllPairs (λ p q. p ≢ q) (pages (l.self.depth - l.level) l.space l.page);
  own : (leaf : ℕ) → Contains (pages (l.self.depth - l.level) l.space l.page) leaf → Contains (pages_of l.space l.self) leaf;
  lifts : (change : List Node → List Node) (new : Frames) (leaf : ℕ) → IsLocal change l.key → Contains (pages (l.self.depth - l.level) l.space l.page) leaf → StayBut l.space new leaf → Changed change l.key (l.self.depth - l.level) l.space new l.page → Changed change l.key l.self.depth l.space new l.self.root;
}
