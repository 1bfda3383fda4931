use Rattle.std.proofs.Common.{sym, ◌∙◌, refl, arith}
use Rattle.image_contents.specs.NodesLeft.{node_of}
use Rattle.image_contents.proofs.StoredForms.{formed, longer}
use Rattle.image_contents.proofs.entries.stored.split_entry.Goals as goal

pub returns-then-size-key : goal.returns-then-size-key
returns-then-size-key c =
    (λ i. (c.split_at.ensures.front i, c.split_at.ensures.back i))
    ∙ sym (formed (node_of c.args.key.now 2 c.args.told.now) _ refl c.requires (λ i. omega (arith, c.type_inv.told i)) c.read_u16-size.ensures (omega (arith, c.if-size-key.true)))

pub returns-else-size-key : goal.returns-else-size-key
returns-else-size-key c = sym (longer (node_of c.args.key.now 2 c.args.told.now) _ c.read_u16-size.ensures c.if-size-key.false)
