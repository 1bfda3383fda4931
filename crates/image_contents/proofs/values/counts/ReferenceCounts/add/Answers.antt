use Rattle.image_contents.proofs.CountedRows.{one_added}
use Rattle.image_contents.proofs.values.counts.ReferenceCounts.add.Goals as goal

pub returns-in_ok-insert-in-Some : goal.returns-in_ok-insert-in-Some
returns-in_ok-insert-in-Some c = one_added c.args.self.now (record { counts = c.insert.new.self }) c.args.id c.of.result c.in-Some.more c.of.ensures c.in-Some.ensures.1 c.in_ok-insert-in-Some.ensures.updates
