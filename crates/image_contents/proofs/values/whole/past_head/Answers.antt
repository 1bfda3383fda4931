use Rattle.std.proofs.Common.{cond, sym, ap, ◌∙◌, arith}
use Rattle.image_contents.specs.NodesLeft.{node_in}
use Rattle.image_contents.specs.ValuePass.{broken, lacks, size_in}
use Rattle.long_value.specs.Shown.{id_of}
use Rattle.image_contents.proofs.Heads.{length_in, size_within}
use Rattle.image_contents.proofs.values.whole.past_head.Goals as goal

pub returns-then-not-is_sound_head-clause-pass : goal.returns-then-not-is_sound_head-clause-pass
returns-then-not-is_sound_head-clause-pass c =
    let n = node_in c.args.node in
    ap broken c.id_of-id.ensures ∙ sym (ap (λ b. cond b (lacks (id_of n) 1 (size_in n)) (broken (id_of n))) (sym c.is_sound_head.ensures.value ∙ c.if-not-is_sound_head.true))

pub returns-clause-pass : goal.returns-clause-pass
returns-clause-pass c =
    let n = node_in c.args.node in
    ap (λ i. lacks i 1 c.read_u32-left.result) c.id_of-id.ensures
    ∙ ap (lacks (id_of n) 1) (c.read_u32-left.ensures ∙ length_in c.args.node.bytes.now (c.is_sound_head.ensures.lengths c.if-not-is_sound_head.false))
    ∙ sym (ap (λ b. cond b (lacks (id_of n) 1 (size_in n)) (broken (id_of n))) (sym c.is_sound_head.ensures.value ∙ c.if-not-is_sound_head.false))

pub returns-clause-within : goal.returns-clause-within
returns-clause-within c =
    let n = node_in c.args.node in
    omega (arith, c.read_u32-left.ensures ∙ length_in c.args.node.bytes.now (c.is_sound_head.ensures.lengths c.if-not-is_sound_head.false), size_within c.args.number n (sym c.is_sound_head.ensures.value ∙ c.if-not-is_sound_head.false))
