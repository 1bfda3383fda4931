use Rattle.std.proofs.Common.{◌≤◌, length}
use Rattle.std.specs.Option.{option_map}
use Rattle.btree_inplace.specs.Trees.{nodes_of}
use Rattle.image_contents.proofs.Least.{LeastFrom}
use Rattle.image_contents.proofs.rows.pass.missing.Given as goal

-- the least of the bookmarks from the place on is known
abbrev pub invariant-loop-place : goal.invariant-loop-place
invariant-loop-place l = (l.place ≤ length l.versions) × LeastFrom l.table.0 (nodes_of l.fn.space l.fn.nodes) l.fn.versions l.place (option_map (λ key. key.now) l.least)

abbrev pub decreases-loop-place : goal.decreases-loop-place
decreases-loop-place l = l.place
