use Rattle.record_decisions.proofs.CopiedValues.{all-copied, column-more}
use Rattle.record_decisions.proofs.preparing.record_of_row.Goals as goal

pub loop-column-preserved : goal.loop-column-preserved
loop-column-preserved c =
    column-more c.args.columns.now c.loop-column.column-index c.column-item.result c.loop-column.made c.copy_values.new.made c.args.row.now c.requires.distinct c.loop-column-test.true c.column-item.is c.loop-column.invariant c.in-Ok.ensures

pub returns : goal.returns
returns c = all-copied c.args.columns.now c.loop-column.column-index c.loop-column.made c.args.row.now c.requires c.loop-column-test.false c.fields-fields.ensures.formed c.loop-column.invariant
