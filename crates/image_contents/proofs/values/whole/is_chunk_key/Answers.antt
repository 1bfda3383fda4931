use Rattle.std.proofs.Common.{length, drop, sym, ap, ◌∙◌, arith}
use Rattle.std.specs.Prelude.{bytes_eq}
use Rattle.byteorder.specs.Endian.{big_bytes}
use Rattle.image_contents.proofs.Fronts.{other_front, same_front, shorter}
use Rattle.image_contents.proofs.values.whole.is_chunk_key.Goals as goal

pub returns-then-key-id : goal.returns-then-key-id
returns-then-key-id c = shorter c.args.key.now c.args.id.now (big_bytes 4 c.args.chunk) c.if-key-id.true

pub returns-else-eq : goal.returns-else-eq
returns-else-eq c =
    c.if-eq.false ∙ other_front c.args.key.now c.args.id.now (big_bytes 4 c.args.chunk) (omega (arith, c.if-key-id.false))
    (ap (λ l. bytes_eq l c.args.id.now) (sym c.split_at.ensures.front) ∙ sym c.eq.ensures ∙ c.if-eq.false)

pub returns-then-eq : goal.returns-then-eq
returns-then-eq c =
    c.eq-then-eq.ensures
    ∙ ap (λ l. bytes_eq l c.as_slice.result.now) c.split_at.ensures.back
    ∙ ap (bytes_eq (drop (length c.args.id.now) c.args.key.now)) (c.as_slice.ensures ∙ c.write_u32.ensures)
    ∙ same_front c.args.key.now c.args.id.now (big_bytes 4 c.args.chunk) (ap (λ l. bytes_eq l c.args.id.now) (sym c.split_at.ensures.front) ∙ sym c.eq.ensures ∙ c.if-eq.true)
