use Rattle.std.proofs.Common.{ap, ◌∙◌}
use Rattle.std.specs.Prelude.{is_some}
use Rattle.table_trees.specs.StoredTables.{is_index}
use Rattle.table_trees.specs.TableParts.{stored_index}
use Rattle.table_trees.proofs.Places.{has_shown}
use Rattle.table_trees.proofs.table.Table.has_index.Goals as goal

pub returns : goal.returns
returns c frames = c.is_some.ensures ∙ ap is_some c.index_place.ensures ∙ has_shown (stored_index frames) (is_index c.args.index.0) c.args.self.now.indexes.items c.as_slice.result.now c.as_slice.ensures.value
