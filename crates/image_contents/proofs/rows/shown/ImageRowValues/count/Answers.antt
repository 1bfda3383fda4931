use Rattle.std.proofs.Common.{sym}
use Rattle.btree_inplace.specs.Trees.{nodes_of}
use Rattle.image_contents.proofs.ReadRows.{count_seen}
use Rattle.image_contents.proofs.rows.shown.ImageRowValues.count.Goals as goal
use Rattle.long_value.specs.Shown.{shown_values}

pub returns : goal.returns
returns c = count_seen (shown_values (nodes_of c.self.inside.space.now c.self.inside.long_values.now)) c.self.inside.row c.args.self.now c.args.column.0 c.count.result (sym c.self.view_is) c.count.ensures
