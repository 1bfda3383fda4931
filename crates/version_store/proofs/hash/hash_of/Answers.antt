use Rattle.std.proofs.Common.{◌≡◌, ◌-◌, ◌∙◌, ℕ, List, drop, length, ap, arith}
use Rattle.std.specs.Int.{w32, w64, from_le_bytes}
use Rattle.version_store.specs.Hashes.{mixed, with_bytes}
use Rattle.version_store.proofs.HashLemmas.{with_each, with_halves, with_more}
use Rattle.version_store.proofs.hash.hash_of.Goals as goal

pub returns-in-0-to-3 : goal.returns-in-0-to-3
returns-in-0-to-3 c =
    let begun : c.mix-hash.result ≡ mixed 0 c.args.table.0 = cc in
    c.with_each.ensures ∙ with_each c.mix-hash.result c.args.bookmark.now (omega arith) ∙ ap (λ (n : ℕ). with_bytes n c.args.bookmark.now) begun

pub returns-in-4-to-7 : goal.returns-in-4-to-7
returns-in-4-to-7 c =
    let bytes : List ℕ = c.args.bookmark.now in
    let begun : c.mix-hash.result ≡ mixed 0 c.args.table.0 = cc in
    let front = c.mix-front.ensures ∙ ap (mixed c.mix-hash.result) c.four_at.ensures in
    let last : c.four_at-in-4-to-7.result ≡ from_le_bytes w32 (drop (length bytes - 4) bytes) = c.four_at-in-4-to-7.ensures in
    c.mix.ensures ∙ (λ i. mixed (front i) (last i)) ∙ with_halves c.mix-hash.result bytes (omega arith) (omega arith) ∙ ap (λ (n : ℕ). with_bytes n bytes) begun

pub returns-in_default : goal.returns-in_default
returns-in_default c =
    let bytes : List ℕ = c.args.bookmark.now in
    let begun : c.mix-hash.result ≡ mixed 0 c.args.table.0 = cc in
    let last : c.eight_at.result ≡ from_le_bytes w64 (drop (length bytes - 8) bytes) = c.eight_at.ensures in
    c.mix-in_default.ensures ∙ (λ i. mixed (c.with_words-words.ensures i) (last i)) ∙ with_more c.mix-hash.result bytes (omega arith) ∙ ap (λ (n : ℕ). with_bytes n bytes) begun
