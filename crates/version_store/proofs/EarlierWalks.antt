-- The walk back from a change goes on from its own hash, which is that of its record.
use Rattle.std.proofs.Common.{◌≡◌, ℕ, ◌+◌, ◌-◌, ◌<◌, List, map, length, get_or, take, sym, ap, ◌∙◌, arith}
use Rattle.std.proofs.lemmas.List.{get_or-map, length-map}
use Rattle.version_store.specs.declared.item.Item.{Item}
use Rattle.version_store.specs.Chained.{Walk, latest}
use Rattle.version_store.specs.Items.{item_hash}

-- a walk that stands behind the item at the place
pub record Behind (hashes : List ℕ) (place : ℕ) (x : Item) (from : ℕ) : Type 0 where
  pub walk : Walk (item_hash x) hashes (place + 1)
  pub next : from ≡ latest (get_or hashes (place + 1 - 1) 0) (take (place + 1 - 1) hashes)

pub behind : (items : List Item) (hashes : List ℕ) (place from : ℕ) (x : Item) → hashes ≡ map item_hash items → place < length items → x ≡ get_or items place x → from ≡ latest (get_or hashes place 0) (take place hashes) → Behind hashes place x from
behind items hashes place from x are within is next =
    let same : place + 1 - 1 ≡ place = omega arith in
    let count : length hashes ≡ length items = ap (length {A = ℕ}) are ∙ length-map items item_hash in
    let hash : get_or hashes place 0 ≡ item_hash x = ap (λ (l : List ℕ). get_or l place 0) are ∙ get_or-map item_hash items place x 0 within ∙ ap item_hash (sym is) in
    record {
      walk = record { within = omega (arith, count, within); at_last = λ (h : 0 < place + 1). ap (λ (n : ℕ). get_or hashes n 0) same ∙ hash };
      next = next ∙ sym (ap (λ (n : ℕ). latest (get_or hashes n 0) (take n hashes)) same);
    }
