use Rattle.std.proofs.Common.{◌+◌, length, refl, sym, ◌∙◌, arith}
use Rattle.std.proofs.lemmas.Option.{slice_get_past, slice_get_read}
use Rattle.image_contents.specs.FoundEntries.{lesser}
use Rattle.image_contents.proofs.Differing.{ends_first, ends_second, passes, stops}
use Rattle.image_contents.proofs.entries.differing.first_difference.Goals as goal
use Rattle.image_contents.proofs.entries.differing.first_difference.Goals.{then-loop-at-test+then-at-want+else-eq, then-loop-at-test+else-at-want, else-loop-at-test}

pub loop-at-preserved : goal.loop-at-preserved
loop-at-preserved c =
    let have = c.args.have.now in
    let want = c.args.want.now in
    let at = c.loop-at.at in (
      omega (arith, c.loop-at-test.true),
      omega (arith, c.if-at-want.true),
      λ found.
          passes found at (at + 1) have want c.index-have-at.result c.index-want-at.result
          (slice_get_read have (length have) at c.index-have-at.result refl c.loop-at-test.true c.index-have-at.is)
          (slice_get_read want (length want) at c.index-want-at.result refl c.if-at-want.true c.index-want-at.is)
          (sym c.eq.ensures ∙ c.if-eq.true) (omega arith)
          ∙ c.loop-at.invariant.2 found,
    )

pub returns : goal.returns
returns c found =
    let have = c.args.have.now in
    let want = c.args.want.now in
    let at = c.loop-at.at in
    c.lesser.ensures found
    ∙ (λ i. lesser found (c.entry_at.ensures i) (c.entry_at-2.ensures i))
    ∙ sym (elim c.loop-at-test.branch [
      | then-loop-at-test+then-at-want+else-eq w ↦
          stops found at have want w.index-have-at.result w.index-want-at.result
          (slice_get_read have (length have) at w.index-have-at.result refl w.loop-at-test.true w.index-have-at.is)
          (slice_get_read want (length want) at w.index-want-at.result refl w.if-at-want.true w.index-want-at.is)
          (sym w.eq.ensures ∙ w.if-eq.false)
      | then-loop-at-test+else-at-want w ↦ ends_second found at have want (slice_get_past want at w.if-at-want.false)
      | else-loop-at-test w ↦ ends_first found at have want (slice_get_past have at w.loop-at-test.false)
    ])
    ∙ c.loop-at.invariant.2 found
