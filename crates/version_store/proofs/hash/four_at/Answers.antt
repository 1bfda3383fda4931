use Rattle.std.proofs.Common.{◌≡◌, ℕ, ◌+◌, drop, get_or, add-zero, ap, ◌∙◌}
use Rattle.std.proofs.lemmas.List.{get_or-drop}
use Rattle.version_store.proofs.hash.four_at.Goals as goal

pub returns : goal.returns
returns c =
    let bytes = c.args.bytes.now in
    let at = c.args.at in
    let read : (k : ℕ) → get_or (drop at bytes) k 0 ≡ get_or bytes (at + k) 0 = λ k. get_or-drop at bytes k 0 in
    let first : get_or (drop at bytes) 0 0 ≡ get_or bytes at 0 = read 0 ∙ ap (λ (n : ℕ). get_or bytes n 0) (add-zero at) in
    rw (first, read 1, read 2, read 3) (c.from.ensures ∙ c.from_le_bytes.ensures)
