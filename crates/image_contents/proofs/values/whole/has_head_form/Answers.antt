use Rattle.std.proofs.Common.{◌&&◌, sym, ap, ◌∙◌, arith}
use Rattle.std.specs.Prelude.{◌==◌, bytes_eq, length}
use Rattle.image_contents.specs.NodesLeft.{node_of}
use Rattle.long_value.specs.Values.{chunk_key}
use Rattle.image_contents.proofs.Heads.{form_of, has_form}
use Rattle.image_contents.proofs.values.whole.has_head_form.Goals as goal

pub returns-then-not-is_chunk_key-clause-value : goal.returns-then-not-is_chunk_key-clause-value
returns-then-not-is_chunk_key-clause-value c =
    let n = node_of c.args.key.now c.args.extent c.args.bytes.now in
    ap (λ b. b && ((c.args.extent == 8) && (length c.args.bytes.now == 8))) (sym c.if-not-is_chunk_key.true ∙ c.is_chunk_key.ensures ∙ ap (λ i. bytes_eq c.args.key.now (chunk_key i 0)) c.id_of.ensures)
    ∙ has_form n (λ i. omega (arith, c.type_inv.bytes i))

pub returns-clause-value : goal.returns-clause-value
returns-clause-value c =
    let n = node_of c.args.key.now c.args.extent c.args.bytes.now in
    c.has_head_sizes.ensures
    ∙ ap (λ b. b && ((c.args.extent == 8) && (length c.args.bytes.now == 8))) (sym c.if-not-is_chunk_key.false ∙ c.is_chunk_key.ensures ∙ ap (λ i. bytes_eq c.args.key.now (chunk_key i 0)) c.id_of.ensures)
    ∙ has_form n (λ i. omega (arith, c.type_inv.bytes i))

pub returns-clause-lengths : goal.returns-clause-lengths
returns-clause-lengths c t =
    let n = node_of c.args.key.now c.args.extent c.args.bytes.now in
    let f = form_of n (sym (c.has_head_sizes.ensures
    ∙ ap (λ b. b && ((c.args.extent == 8) && (length c.args.bytes.now == 8))) (sym c.if-not-is_chunk_key.false ∙ c.is_chunk_key.ensures ∙ ap (λ i. bytes_eq c.args.key.now (chunk_key i 0)) c.id_of.ensures)
    ∙ has_form n (λ i. omega (arith, c.type_inv.bytes i))) ∙ t) in
    (f.key, f.bytes)
