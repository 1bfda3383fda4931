use Rattle.std.proofs.Common.{◌≡◌, ◌≤◌, ◌<◌, subst, length, arith, sym, ◌∙◌}
use Rattle.std.specs.Prelude.{bytes_eq}
use Rattle.std.proofs.lemmas.Slice.Eq.{bytes_eq-Decides}
use Rattle.std.proofs.lemmas.Bool.{not-false}
use Rattle.long_value.specs.Values.{chunk_count}
use Rattle.long_value.proofs.Comparing.{all_same, more_same, past_all}
use Rattle.long_value.proofs.Held.{held_long, within_chunk}
use Rattle.long_value.proofs.values.LongValues.equals.Goals as goal

pub chunk_count-k-end-requires : goal.chunk_count-k-end-requires
chunk_count-k-end-requires c =
    let long = held_long c.args.space.now c.args.self.now c.args.id c.requires.0 c.requires.1 in
    let size : c.length.result ≡ length c.requires.0.bytes = c.length.ensures c.requires.0 c.requires.1 in
    omega (arith, long.short, size)

pub chunk-requires : goal.chunk-requires
chunk-requires c =
    let size : c.length.result ≡ length c.requires.0.bytes = c.length.ensures c.requires.0 c.requires.1 in
    let counted : c.loop-k.k < chunk_count (length c.args.bytes.now) = subst (λ n. c.loop-k.k < n) c.chunk_count-k-end.ensures.count c.loop-k-test.true in
    let before = within_chunk (length c.args.bytes.now) c.loop-k.k counted in
    (c.requires.0, c.requires.1, omega (arith, before, size))

pub chunk_of-requires : goal.chunk_of-requires
chunk_of-requires c =
    within_chunk (length c.args.bytes.now) c.loop-k.k (subst (λ n. c.loop-k.k < n) c.chunk_count-k-end.ensures.count c.loop-k-test.true)

pub loop-k-preserved : goal.loop-k-preserved
loop-k-preserved c = record {
  same = λ value holds.
      more_same value.bytes c.args.bytes.now c.chunk.result.now c.chunk_of.result.now c.loop-k.k (c.loop-k.invariant.same value holds) (c.chunk.ensures value holds) c.chunk_of.ensures.chunk
      ((bytes_eq-Decides c.chunk.result.now c.chunk_of.result.now).0 (not-false (bytes_eq c.chunk.result.now c.chunk_of.result.now) (sym c.ne.ensures ∙ c.if-ne.false)));
}

pub returns : goal.returns
returns c value holds =
    let size : c.length.result ≡ length value.bytes = c.length.ensures value holds in
    sym (all_same value.bytes c.args.bytes.now c.loop-k.k (c.loop-k.invariant.same value holds) (sym size ∙ c.if-length-bytes.false)
    (past_all (length c.args.bytes.now) c.loop-k.k (subst (λ n. n ≤ c.loop-k.k) c.chunk_count-k-end.ensures.count c.loop-k-test.false)))
