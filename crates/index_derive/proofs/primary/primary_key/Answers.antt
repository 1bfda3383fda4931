use Rattle.std.proofs.lemmas.List.{get_or_default}
use Rattle.index_derive.proofs.FirstValues.{column_more, key_made}
use Rattle.index_derive.proofs.primary.primary_key.Goals as goal

pub loop-segment-preserved : goal.loop-segment-preserved
loop-segment-preserved g c =
    let segments = c.as_slice-segment-items.result.now in
    column_more c.args.schema.now (g.R.Values.fields c.args.record.now) c.args.rule.now.flags.sortnullshigh c.args.rule.now.key_most segments c.loop-segment.segment-index _ _ _ c.loop-segment.maker c.add.new.self
    c.loop-segment-test.true (get_or_default segments c.loop-segment.segment-index _ _ c.loop-segment-test.true) c.kind_of.ensures c.value_at.ensures c.loop-segment.invariant c.add.ensures

pub returns : goal.returns
returns g c = key_made c.args.rule.now c.args.schema.now (g.R.Values.fields c.args.record.now) _ c.loop-segment.segment-index c.loop-segment.maker _ c.as_slice-segment-items.ensures c.loop-segment-test.false c.loop-segment.invariant c.finish.ensures
