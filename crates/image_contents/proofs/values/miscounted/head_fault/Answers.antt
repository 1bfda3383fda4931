use Rattle.std.proofs.Common.{sym, ap, ◌∙◌}
use Rattle.image_findings.specs.ValueFindings.{entry_in, place_in}
use Rattle.image_contents.specs.NodesLeft.{node_in}
use Rattle.image_contents.specs.ValueCounts.{count_in}
use Rattle.image_contents.proofs.HeadsRead.{no_count, other_count, own_count}
use Rattle.image_contents.proofs.values.miscounted.head_fault.Goals as goal

pub returns-then-is_miscounted : goal.returns-then-is_miscounted
returns-then-is_miscounted c =
    other_count (count_in c.args.counts.now) (node_in c.args.node) c.in-Some.id c.head_count-have.result c.of-wanted.result c.new.result.entry c.new.result.place c.new.result.have c.new.result.wanted c.is_miscounted.result
    (sym c.in-Some.is ∙ c.head_id.ensures) c.head_count-have.ensures c.of-wanted.ensures c.is_miscounted.ensures c.if-is_miscounted.true
    (c.new.ensures.entry ∙ ap entry_in c.as_slice.ensures) (c.new.ensures.place ∙ ap place_in c.as_slice.ensures) c.new.ensures.have c.new.ensures.wanted

pub returns-else-is_miscounted : goal.returns-else-is_miscounted
returns-else-is_miscounted c =
    own_count (count_in c.args.counts.now) (node_in c.args.node) c.in-Some.id c.head_count-have.result c.of-wanted.result c.is_miscounted.result
    (sym c.in-Some.is ∙ c.head_id.ensures) c.head_count-have.ensures c.of-wanted.ensures c.is_miscounted.ensures c.if-is_miscounted.false

pub returns-in-None : goal.returns-in-None
returns-in-None c = no_count (count_in c.args.counts.now) (node_in c.args.node) (sym c.in-None.is ∙ c.head_id.ensures)
