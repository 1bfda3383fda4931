use Rattle.std.proofs.Common.{◌&&◌, sym, ap, ◌∙◌}
use Rattle.std.specs.Prelude.{nat_le}
use Rattle.image_contents.specs.NodesLeft.{node_in}
use Rattle.image_contents.proofs.Heads.{length_in, made, unformed, unmade}
use Rattle.image_contents.proofs.values.whole.is_sound_head.Goals as goal

pub returns-then-not-has_head_form-clause-value : goal.returns-then-not-has_head_form-clause-value
returns-then-not-has_head_form-clause-value c = unformed c.args.number (node_in c.args.node) (sym c.has_head_form.ensures.value ∙ c.if-not-has_head_form.true)

pub returns-then-not-is_made-clause-value : goal.returns-then-not-is_made-clause-value
returns-then-not-is_made-clause-value c =
    unmade c.args.number (node_in c.args.node) (sym c.has_head_form.ensures.value ∙ c.if-not-has_head_form.false)
    (ap (λ e. nat_le 1 e && nat_le e c.args.number) (sym c.read_u64-entry.ensures) ∙ sym c.is_made.ensures ∙ c.if-not-is_made.true)

pub returns-clause-value : goal.returns-clause-value
returns-clause-value c =
    c.is_long.ensures
    ∙ made c.args.number (node_in c.args.node) c.read_u32-length.result (sym c.has_head_form.ensures.value ∙ c.if-not-has_head_form.false)
    (ap (λ e. nat_le 1 e && nat_le e c.args.number) (sym c.read_u64-entry.ensures) ∙ sym c.is_made.ensures ∙ c.if-not-is_made.false)
    (c.read_u32-length.ensures ∙ length_in c.args.node.bytes.now (c.has_head_form.ensures.lengths c.if-not-has_head_form.false).1)
