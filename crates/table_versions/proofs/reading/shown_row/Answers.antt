use Rattle.std.proofs.Common.{ap, ◌∙◌}
use Rattle.stored_variants.specs.RecordRows.{row_under}
use Rattle.table_trees.specs.StoredTables.{table_nodes}
use Rattle.table_versions.specs.SeenRows.{row_seen}
use Rattle.table_versions.proofs.reading.shown_row.Goals as goal

pub returns-in-Current : goal.returns-in-Current
returns-in-Current c =
    c.newest_row.ensures
    ∙ ap (row_seen (row_under (table_nodes c.args.trees.now.tables c.args.table.0) c.args.bookmark.now)) c.in-Current.ensures

pub returns-in-Before : goal.returns-in-Before
returns-in-Before c = ap (row_seen (row_under (table_nodes c.args.trees.now.tables c.args.table.0) c.args.bookmark.now)) c.in-Before.ensures

pub returns-in-Absent : goal.returns-in-Absent
returns-in-Absent c = ap (row_seen (row_under (table_nodes c.args.trees.now.tables c.args.table.0) c.args.bookmark.now)) c.in-Absent.ensures
