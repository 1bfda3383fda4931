use Rattle.std.proofs.Common.{◌≡◌, ap, ◌∙◌, ◌*◌, ◌-◌, take, drop, arith}
use Rattle.long_value.proofs.Reading.{last_chunk}
use Rattle.long_value.proofs.chunks.chunk_of.Goals.{then-bytes-start-gt-CHUNK_BYTES, else-bytes-start-gt-CHUNK_BYTES}
use Rattle.long_value.proofs.chunks.chunk_of.Goals as goal

pub returns-clause-chunk : goal.returns-clause-chunk
returns-clause-chunk c =
    let bytes = c.args.bytes.now in
    let start = 1024 * c.args.k in
    let end = c.if-bytes-start-gt-CHUNK_BYTES.end in
    elim c.if-bytes-start-gt-CHUNK_BYTES.branch [
      | then-bytes-start-gt-CHUNK_BYTES w ↦
          let whole : end - start ≡ 1024 = omega (arith, w.end-is) in
          ap (λ n. take n (drop start bytes)) whole
      | else-bytes-start-gt-CHUNK_BYTES w ↦ ap (λ n. take (n - start) (drop start bytes)) w.end-is ∙ last_chunk bytes start (omega (arith, w.if-bytes-start-gt-CHUNK_BYTES))
    ]
