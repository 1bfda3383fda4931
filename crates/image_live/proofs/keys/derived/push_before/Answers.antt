use Rattle.std.proofs.Common.{◌+◌, arith}
use Rattle.image_contents.specs.ReadVariants.{contents_of}
use Rattle.image_live.proofs.Loops.{none_more, one_more}
use Rattle.image_live.proofs.Places.{At, nothing_left, stands_at}
use Rattle.image_live.proofs.keys.derived.push_before.Goals as goal

pub loop-place-preserved : goal.loop-place-preserved
loop-place-preserved c =
    let variants = c.args.variants.now in
    let at : At variants.versions.now c.loop-place.place = stands_at variants.versions.now c.loop-place.place (omega (arith, c.loop-place-test.true, c.len.ensures)) in (
      omega (arith, c.loop-place-test.true, c.len.ensures),
      one_more c.args.rule.now (contents_of variants) variants.versions.now c.loop-place.place (c.loop-place.place + 1) at.item _ c.loop-place.spans.items _ at.is_at (omega arith) (c.in-Ok.ensures at.item at.is_at) c.loop-place.invariant.1,
    )

pub returns : goal.returns
returns c =
    let variants = c.args.variants.now in
    none_more c.args.rule.now (contents_of variants) variants.versions.now c.loop-place.place c.loop-place.spans.items _ (nothing_left variants.versions.now c.loop-place.place (omega (arith, c.loop-place-test.false, c.len.ensures))) c.loop-place.invariant.1
