use Rattle.std.proofs.Common.{◌-◌, ◌+◌, length, refl, sym, ◌∙◌, arith}
use Rattle.std.proofs.lemmas.Option.{slice_get_read}
use Rattle.image_live.proofs.SharedPairs.{ends, goes}
use Rattle.image_live.proofs.keys.shared.first_shared.Goals as goal

pub loop-next-preserved : goal.loop-next-preserved
loop-next-preserved c =
    let spans = c.args.spans.now in
    let next = c.loop-next.next in (
      omega arith,
      goes c.args.sessions.now c.args.versions.now spans next (next + 1) c.index-spans-next-in-loop-next.result c.index-spans-next.result _ c.loop-next.invariant.0 refl
          (slice_get_read spans (length spans) (next - 1) c.index-spans-next-in-loop-next.result refl (omega (arith, c.loop-next.invariant.0, c.loop-next-test.true)) c.index-spans-next-in-loop-next.is)
          (slice_get_read spans (length spans) next c.index-spans-next.result refl c.loop-next-test.true c.index-spans-next.is) (sym c.is_shared.ensures ∙ c.if-is_shared.false) c.loop-next.invariant.1,
    )

pub returns : goal.returns
returns c = ends c.args.sessions.now c.args.versions.now c.args.spans.now c.loop-next.next _ c.loop-next.invariant.0 (omega (arith, c.loop-next-test.false)) c.loop-next.invariant.1
