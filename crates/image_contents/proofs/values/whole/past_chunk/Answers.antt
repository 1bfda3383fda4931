use Rattle.std.proofs.Common.{suc, ◌-◌, cond, sym, ap, ◌∙◌, arith}
use Rattle.std.proofs.lemmas.Bool.{le-leb}
use Rattle.image_contents.specs.ValuePass.{behind_chunk, broken, lacks, whole}
use Rattle.image_contents.proofs.Heads.{above_chunk, one_more}
use Rattle.image_contents.proofs.values.whole.past_chunk.Goals as goal

pub returns-then-not-is_chunk-clause-pass : goal.returns-then-not-is_chunk-clause-pass
returns-then-not-is_chunk-clause-pass c =
    sym (ap (λ b. cond b (behind_chunk c.args.id.now c.args.chunk c.args.left) (broken c.args.id.now)) (sym c.is_chunk.ensures ∙ c.if-not-is_chunk.true))

pub returns-then-left-le-CHUNK_BYTES-clause-pass : goal.returns-then-left-le-CHUNK_BYTES-clause-pass
returns-then-left-le-CHUNK_BYTES-clause-pass c =
    sym (ap (λ b. cond b (behind_chunk c.args.id.now c.args.chunk c.args.left) (broken c.args.id.now)) (sym c.is_chunk.ensures ∙ c.if-not-is_chunk.false)
    ∙ ap (λ b. cond b whole (lacks c.args.id.now (suc c.args.chunk) (c.args.left - 1024))) (le-leb c.args.left 1024 c.if-left-le-CHUNK_BYTES.true))

pub returns-clause-pass : goal.returns-clause-pass
returns-clause-pass c =
    ap (λ k. lacks c.args.id.now k (c.args.left - 1024)) (one_more c.args.chunk)
    ∙ sym (ap (λ b. cond b (behind_chunk c.args.id.now c.args.chunk c.args.left) (broken c.args.id.now)) (sym c.is_chunk.ensures ∙ c.if-not-is_chunk.false)
    ∙ ap (λ b. cond b whole (lacks c.args.id.now (suc c.args.chunk) (c.args.left - 1024))) (above_chunk c.args.left (omega (arith, c.if-left-le-CHUNK_BYTES.false))))
