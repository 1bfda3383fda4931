-- Chains through a queue of hashes: from each item to the one before it that has the same hash.
use Rattle.std.specs.Prelude.{◌≡◌, ℕ, zero, suc, ◌+◌, ◌-◌, ◌*◌, ◌/◌, ◌^◌, ◌<◌, ◌≤◌, ◌==◌, Bool, List, [], ◌∷◌, length, map, take, slice_index, if◌then◌else◌}
use Rattle.version_store.specs.declared.chains.Link.{Link}
use Rattle.version_store.specs.declared.chains.Chains.TheInside.{Inside}

abbrev pub one_later : Bool → ℕ → ℕ
one_later is_here zero = if is_here then 1 else 0
one_later is_here (suc n) = suc (suc n)

-- how many items there are up to the last one that is x, 0 where none is
abbrev pub latest : ℕ → List ℕ → ℕ
latest x [] = 0
latest x (y ∷ ys) = one_later (y == x) (latest x ys)

-- The walk stands behind an item that is x, or at the start.
pub record Walk (x : ℕ) (items : List ℕ) (end : ℕ) : Type 0 where
  pub within : end ≤ length items
  pub at_last : 0 < end → slice_index items (end - 1) ≡ x

abbrev pub hashes_of : List Link → List ℕ
hashes_of links = map (λ link. link.hash) links

-- the place of a hash's head: its highest bits, without the lowest `shift`
abbrev pub slot_of : ℕ → ℕ → ℕ
slot_of shift hash = hash / 2 ^ shift

abbrev pub slots_of : ℕ → List Link → List ℕ
slots_of shift links = map (λ link. slot_of shift link.hash) links

abbrev pub befores_of : List Link → List ℕ
befores_of links = map (λ link. link.before) links

-- A number in a link counts all items ever pushed, up to the last one before it with the same slot. Where that item has gone, or is none, it is at most `first`.
abbrev pub AreLinked : ℕ → ℕ → List Link → Type 0
AreLinked first shift links = (i : ℕ) → i < length links → slice_index (befores_of links) i - first ≡ latest (slice_index (slots_of shift links) i) (take i (slots_of shift links))

-- The same of the heads, up to the last item with the slot.
pub record Chains (first shift : ℕ) (links : List Link) (heads : List ℕ) : Type 0 where
  pub are_heads : (slot : ℕ) → slice_index heads slot - first ≡ latest slot (slots_of shift links)
  pub are_links : AreLinked first shift links
  -- a head for each slot, from the first push on
  pub begun : 0 < length heads → length heads * 2 ^ shift ≡ 2 ^ 64
  pub shifts : shift < 64
  pub fits : first + length links < 2 ^ 64

-- A chain of the hash's slot, of which `end` items are left.
pub record ChainOf (hash first : ℕ) (links : List Link) (end : ℕ) : Type 0 where
  pub shift : ℕ
  pub are_links : AreLinked first shift links
  pub walk : Walk (slot_of shift hash) (slots_of shift links) end

abbrev pub chained : Inside → List ℕ
chained a = hashes_of a.links.items

abbrev pub IsChained : Inside → Type 0
IsChained a = Chains a.first a.shift a.links.items a.heads.items
