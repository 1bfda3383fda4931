use Rattle.std.proofs.Common.{◌+◌, ℕ, List, ◌++◌, length, take, drop, ◌∙◌, ap, arith}
use Rattle.jet_volume.proofs.Bytes.{lent_whole, overwrites}
use Rattle.jet_volume.proofs.file_bytes.overwrite.Goals as goal

pub returns : goal.returns
returns c =
    let end = c.args.at + length c.args.piece.now in
    let lent = c.deref_mut.ensures.value ∙ c.grow.ensures in
    lent_whole c.put.new.bytes c.grow.new.bytes.items c.grow.new.bytes.len (omega (arith, ap length c.deref_mut.ensures.value)) (omega arith)
    ∙ c.put.ensures ∙ ap (λ (l : List ℕ). take c.args.at l ++ c.args.piece.now ++ drop end l) lent
    ∙ overwrites c.args.at c.args.piece.now c.args.bytes.now.items
