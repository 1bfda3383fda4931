use Rattle.std.proofs.Common.{ℕ, List}
use Rattle.btree_inplace.specs.Trees.{nodes_of}
use Rattle.image_contents.specs.ReferringRows.{counted, referring_rows}
use Rattle.image_contents.proofs.CountedRows.{all_counted, none_yet, row_counted}
use Rattle.image_contents.proofs.RowsReferring.{smaller}
use Rattle.image_contents.proofs.values.counts.ReferenceCounts.of_rows.Goals as goal

pub new-rows-requires : goal.new-rows-requires
new-rows-requires c = c.requires

pub loop-row-init : goal.loop-row-init
loop-row-init c = none_yet c.new-counts.result c.new-rows.result (referring_rows c.args.table.now.table.0 (nodes_of c.args.space.now c.args.table.now.nodes) c.args.versions.now) c.new-counts.ensures c.new-rows.ensures

pub loop-row-smaller : goal.loop-row-smaller
loop-row-smaller c =
    let found = c.in-Some.ensures in
    smaller c.loop-row.rows c.next.new.self (found.0, c.in-Some.row.is_undone) found.2

pub loop-row-preserved : goal.loop-row-preserved
loop-row-preserved c =
    let found = c.in-Some.ensures in
    row_counted c.loop-row.counts c.add_row.new.self c.loop-row.rows c.next.new.self (found.0, c.in-Some.row.is_undone) (λ (id : List ℕ). counted id (referring_rows c.args.table.now.table.0 (nodes_of c.args.space.now c.args.table.now.nodes) c.args.versions.now))
    found.2 (c.in_ok-add_row.ensures found.0 found.1) c.loop-row.invariant

pub returns : goal.returns
returns c = all_counted c.loop-row.counts c.loop-row.rows (λ (id : List ℕ). counted id (referring_rows c.args.table.now.table.0 (nodes_of c.args.space.now c.args.table.now.nodes) c.args.versions.now)) c.in_default.ensures c.loop-row.invariant
