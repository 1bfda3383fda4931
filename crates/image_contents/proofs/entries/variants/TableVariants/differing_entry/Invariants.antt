use Rattle.std.proofs.Common.{◌≡◌, length, map}
use Rattle.std.specs.List.{All}
use Rattle.btree_inplace.specs.Trees.{IsTree}
use Rattle.image_contents.specs.FoundEntries.{opened_finding}
use Rattle.image_findings.specs.Images.{first_of}
use Rattle.image_opening.specs.declared.opened.OpenedIndex.{OpenedIndex}
use Rattle.image_contents.proofs.entries.variants.TableVariants.differing_entry.Given as goal

-- Nothing was found of the indexes so far, and those that are left have trees.
abbrev pub invariant-loop-index : goal.invariant-loop-index
invariant-loop-index l =
    (first_of (map (opened_finding l.self) l.rest) ≡ first_of (map (opened_finding l.self) l.self.opened.now.indexes.items))
    × All (λ (x : OpenedIndex). IsTree l.self.space.now x.tree) l.rest

abbrev pub decreases-loop-index : goal.decreases-loop-index
decreases-loop-index l = length l.rest
