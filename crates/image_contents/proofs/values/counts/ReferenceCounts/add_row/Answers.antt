use Rattle.common_lemmas.proofs.Results.{OnOk-then}
use Rattle.image_contents.proofs.CountedRows.{other_row, undone_row}
use Rattle.image_contents.proofs.values.counts.ReferenceCounts.add_row.Goals as goal

pub returns-then-row : goal.returns-then-row
returns-then-row c xs stand = undone_row c.args.self.now xs c.args.row.is_undone c.if-row.true

pub returns : goal.returns
returns c xs stand = OnOk-then c.add_values.result (other_row c.args.self.now c.add_values.new.self xs c.args.row.is_undone c.if-row.false) (c.add_values.ensures xs stand)
