use Rattle.std.proofs.Common.{◌≡◌, ◌≤◌, ◌<◌, ◌+◌, ◌-◌, ◌*◌, ◌⊎◌, inl, inr, ap, subst, length, arith}
use Rattle.long_value.specs.Values.{chunk_count, chunk_of}
use Rattle.long_value.proofs.Held.{held_long, within_chunk}
use Rattle.long_value.proofs.Reading.{end_done, enough, read_on}
use Rattle.long_value.proofs.values.LongValues.read.Goals.{then-into-size, else-into-size, then-wanted-start-lt-CHUNK_BYTES, else-wanted-start-lt-CHUNK_BYTES}
use Rattle.long_value.proofs.values.LongValues.read.Goals as goal

pub chunk_count-k-end-requires : goal.chunk_count-k-end-requires
chunk_count-k-end-requires c =
    let long = held_long c.args.space.now c.args.self.now c.args.id c.requires.0 c.requires.1 in
    let size : c.length-size.result ≡ length c.requires.0.bytes = c.length-size.ensures c.requires.0 c.requires.1 in
    elim c.if-into-size.branch [
      | then-into-size w ↦ omega (arith, long.short, size, w.wanted-is, w.if-into-size)
      | else-into-size w ↦ omega (arith, long.short, size, w.wanted-is)
    ]

pub copy_chunk-requires-clause-enough : goal.copy_chunk-requires-clause-enough
copy_chunk-requires-clause-enough c =
    let value = c.requires.0 in
    let k = c.loop-k.k in
    let wanted = c.if-into-size.wanted in
    let end = c.if-wanted-start-lt-CHUNK_BYTES.end in
    let size : c.length-size.result ≡ length value.bytes = c.length-size.ensures value c.requires.1 in
    let low : wanted ≤ length value.bytes = elim c.if-into-size.branch [
      | then-into-size w ↦ omega (arith, size, w.wanted-is, w.if-into-size)
      | else-into-size w ↦ omega (arith, size, w.wanted-is)
    ] in
    let counted : k < chunk_count wanted = subst (λ n. k < n) c.chunk_count-k-end.ensures.count c.loop-k-test.true in
    let before = within_chunk wanted k counted in
    let ended : ((wanted < k * 1024 + 1024) × (end ≡ wanted)) ⊎ ((k * 1024 + 1024 ≤ wanted) × (end ≡ k * 1024 + 1024)) = elim c.if-wanted-start-lt-CHUNK_BYTES.branch [
      | then-wanted-start-lt-CHUNK_BYTES w ↦ inl (omega (arith, before, w.if-wanted-start-lt-CHUNK_BYTES), w.end-is)
      | else-wanted-start-lt-CHUNK_BYTES w ↦ inr (omega (arith, before, w.if-wanted-start-lt-CHUNK_BYTES), w.end-is)
    ] in
    let done = end_done k end wanted ended in
    let part : c.chunk-chunk.result.now ≡ chunk_of value.bytes k = c.chunk-chunk.ensures value c.requires.1 in
    let room = enough value.bytes k (end - k * 1024) (omega (arith, done)) (omega (arith, done, before, low)) in
    omega (arith, room, ap length part)

pub loop-k-preserved : goal.loop-k-preserved
loop-k-preserved c = record {
  read = λ value holds.
      let k = c.loop-k.k in
      let wanted = c.if-into-size.wanted in
      let end = c.if-wanted-start-lt-CHUNK_BYTES.end in
      let size : c.length-size.result ≡ length value.bytes = c.length-size.ensures value holds in
      let low : wanted ≤ length value.bytes = elim c.if-into-size.branch [
        | then-into-size w ↦ omega (arith, size, w.wanted-is, w.if-into-size)
        | else-into-size w ↦ omega (arith, size, w.wanted-is)
      ] in
      let room : wanted ≤ length c.args.into.now = elim c.if-into-size.branch [
        | then-into-size w ↦ omega (arith, w.wanted-is)
        | else-into-size w ↦ omega (arith, w.wanted-is, w.if-into-size)
      ] in
      let counted : k < chunk_count wanted = subst (λ n. k < n) c.chunk_count-k-end.ensures.count c.loop-k-test.true in
      let before = within_chunk wanted k counted in
      let ended : ((wanted < k * 1024 + 1024) × (end ≡ wanted)) ⊎ ((k * 1024 + 1024 ≤ wanted) × (end ≡ k * 1024 + 1024)) = elim c.if-wanted-start-lt-CHUNK_BYTES.branch [
        | then-wanted-start-lt-CHUNK_BYTES w ↦ inl (omega (arith, before, w.if-wanted-start-lt-CHUNK_BYTES), w.end-is)
        | else-wanted-start-lt-CHUNK_BYTES w ↦ inr (omega (arith, before, w.if-wanted-start-lt-CHUNK_BYTES), w.end-is)
      ] in
      read_on value.bytes c.args.into.now c.loop-k.into c.chunk-chunk.result.now c.copy_chunk.new.into k end wanted
      (c.loop-k.invariant.read value holds) (c.chunk-chunk.ensures value holds) before low room (end_done k end wanted ended) c.copy_chunk.ensures;
}
