-- A page of a tree is taken, as it is after no change at all, and the tree has it once.
use Rattle.std.proofs.Common.{inl, inr, refl, arith}
use Rattle.btree_inplace.specs.Trees.{pages_of}
use Rattle.table_trees.proofs.Pages.{contained, none_or_some, once, taken_once}
use Rattle.table_trees.specs.Pages.{copies}
use Rattle.table_trees.proofs.nodes.tree_pages_are_own.Goals as goal

pub returns : goal.returns
returns c frames tree is p =
    let pages = pages_of frames tree in
    elim (none_or_some (copies p pages)) [
      | inl none ↦ omega (arith, none)
      | inr some ↦
          let taken = c.taken_pages.ensures.all frames frames pages tree is
          (record { taken = λ q there. inl there; given_back = λ q there not. absurd (not there); others = λ q not none. refl })
          p (inl (contained pages p some)) in
          omega (arith, taken_once frames p taken, once pages is.once p)
    ]
