use Rattle.std.proofs.Common.{◌≡◌, ◌-◌, ◌∙◌, ℕ, List, length, take, drop, ap, arith}
use Rattle.std.proofs.lemmas.List.{length-drop, take_all}
use Rattle.version_store.specs.Hashes.{mixed, with_words}
use Rattle.version_store.proofs.HashLemmas.{with_words_more}
use Rattle.version_store.proofs.hash.with_words.Goals as goal

pub loop-rest-preserved : goal.loop-rest-preserved
loop-rest-preserved c =
    let hash : ℕ = c.mix-hash.result in
    let rest : List ℕ = c.loop-rest.rest.now in
    let behind : take (length rest - 8) (drop 8 rest) ≡ drop 8 rest = take_all (length rest - 8) (drop 8 rest) (omega (arith, length-drop 8 rest)) in
    let word = c.mix-hash.ensures ∙ ap (mixed c.loop-rest.hash) c.from_le_bytes.ensures in
    ap (with_words hash) behind ∙ ap (λ (h : ℕ). with_words h (drop 8 rest)) word ∙ with_words_more c.loop-rest.hash rest c.in-len8-up.len_at_least ∙ c.loop-rest.invariant
