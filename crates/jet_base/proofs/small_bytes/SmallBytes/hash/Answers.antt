use Rattle.std.proofs.Common.{◌≡◌, ℕ, ◌-◌, Vec, Global, length, take, vec_len, ap, sym, subst, ◌∙◌}
use Rattle.jet_base.specs.SmallBytes.{IsInPlace, IsKept, kept_bytes}
use Rattle.jet_base.specs.ByteHash.{bytes_hash}
use Rattle.jet_base.proofs.ByteWords.{hash_apart, hash_in_place}
use Rattle.jet_base.proofs.small_bytes.SmallBytes.hash.Goals as goal

pub returns-in-InPlace : goal.returns-in-InPlace
returns-in-InPlace c =
    let value : take c.in-InPlace.count c.in-InPlace.bytes ≡ c.args.self.now = sym (ap kept_bytes c.in-InPlace.is) ∙ c.self.view_is in
    let kept : IsInPlace c.in-InPlace.count c.in-InPlace.bytes = subst IsKept c.in-InPlace.is c.self.invariant in
    c.hash_of.ensures ∙ hash_in_place c.in-InPlace.count c.saturating_sub.result c.in-InPlace.bytes kept c.saturating_sub.ensures ∙ ap bytes_hash value

pub returns-in-Apart : goal.returns-in-Apart
returns-in-Apart c =
    let bytes = c.as_slice.result.now in
    let value : bytes ≡ c.args.self.now = c.as_slice.ensures.value ∙ ap (λ (v : Vec ℕ Global). v.items) c.deref.ensures ∙ sym (ap kept_bytes c.in-Apart.is) ∙ c.self.view_is in
    let size : c.len.result ≡ length bytes = c.len.ensures ∙ ap vec_len (c.deref-in-Apart.ensures ∙ sym c.deref.ensures) ∙ sym c.as_slice.ensures.len in
    c.hash_of-in-Apart.ensures ∙ hash_apart (c.len.result - 8) bytes (ap (λ (n : ℕ). n - 8) size) ∙ ap bytes_hash value
