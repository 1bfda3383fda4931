use Rattle.std.proofs.Common.{length}
use Rattle.std.specs.Prelude.{All}
use Rattle.std.specs.List.{flat_map}
use Rattle.table_trees.specs.Pages.{Rearranges}
use Rattle.table_trees.specs.TableParts.{IsIndex, index_pages, table_pages}
use Rattle.table_trees.proofs.Members.{AreBounded}
use Rattle.table_trees.proofs.table.Table.give_back.Given as goal

-- The pages of the nodes, of the long values and of the indexes that are gone went back, and the others are in order.
abbrev pub invariant-loop-last : goal.invariant-loop-last
invariant-loop-last l =
    All (IsIndex l.space) l.indexes.items × AreBounded index_pages l.space l.indexes.items
    × Rearranges l.fn.space l.space (table_pages l.fn.space l.fn.self) (flat_map (index_pages l.space) l.indexes.items)

abbrev pub decreases-loop-last : goal.decreases-loop-last
decreases-loop-last l = length l.indexes.items
