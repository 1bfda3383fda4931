use Rattle.std.proofs.Common.{◌≡◌, take, ap, ◌∙◌, arith}
use Rattle.std.proofs.lemmas.List.{take_all, take_min}
use Rattle.jet_base.specs.Given.{as_stored}
use Rattle.record_edit.proofs.values.front_of_bytes.Goals as goal

pub returns : goal.returns
returns c =
    let bytes = c.args.bytes.now in
    let whole : take c.loop-byte.byte-index c.split_at.result.0.now ≡ c.split_at.result.0.now = take_all _ _ c.loop-byte-test.false in
    c.loop-byte.invariant.stored ∙ ap (as_stored c.args.kind) (whole ∙ c.split_at.ensures.front ∙ ap (λ n. take n bytes) c.min.ensures ∙ take_min 255 bytes)
