use Rattle.image_contents.proofs.CountedRows.{nothing_in}
use Rattle.image_contents.proofs.values.counts.ReferenceCounts.new.Goals as goal

pub returns : goal.returns
returns c = nothing_in (record { counts = c.new-counts.result }) c.new-counts.ensures.empty
