-- The root is that of the first index of this number, or there is none.
use Rattle.std.proofs.Common.{◌∙◌, arith}
use Rattle.table_trees.proofs.IndexChanges.{is_numbered}
use Rattle.table_trees.proofs.KeptSteps.{index_found, index_missing}
use Rattle.table_trees.proofs.Places.{within_of}
use Rattle.table_trees.proofs.table.Table.index_root.Goals as goal

pub index-requires : goal.index-requires
index-requires c = omega (arith, c.args.self.now.indexes.ok.0, within_of (is_numbered c.args.index.0) c.args.self.now.indexes.items c.as_slice.result.now c.in-Some.i c.as_slice.ensures.value c.in-Some.ensures)

pub returns-in-Some : goal.returns-in-Some
returns-in-Some c = c.root.ensures ∙ index_found c.args.self.now.indexes.items c.as_slice.result.now c.args.index.0 c.in-Some.i c.index.result.now c.as_slice.ensures.value c.in-Some.ensures c.index.ensures

pub returns-in-None : goal.returns-in-None
returns-in-None c = index_missing c.args.self.now.indexes.items c.as_slice.result.now c.args.index.0 c.as_slice.ensures.value c.in-None.ensures
