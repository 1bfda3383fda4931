-- What the fields of `Versions` show, and what they keep.
use Rattle.std.specs.Prelude.{◌≡◌, ℕ, ◌+◌, List, [], ◌∷◌, length, map, sum_by}
use Rattle.version_store.specs.declared.item.Item.{Item}
use Rattle.version_store.specs.HeldChanges.{HeldChange, cost_of}
use Rattle.version_store.specs.Items.{held_changes, item_hash}
use Rattle.version_store.specs.OpenChanges.{OpenChanges}
use Rattle.version_store.specs.declared.versions.Versions.TheInside.{Inside}

abbrev pub spents_of : List Item → List ℕ
spents_of items = map (λ item. item.spent) items

abbrev pub hashes_of : List Item → List ℕ
hashes_of items = map item_hash items

-- From each change on, what was spent before it and the costs from it on are the total.
abbrev pub AreSpent : ℕ → List ℕ → List HeldChange → Type 0
AreSpent total [] [] = Unit {0}
AreSpent total [] (held ∷ changes) = ⊥
AreSpent total (spent ∷ spents) [] = ⊥
AreSpent total (spent ∷ spents) (held ∷ changes) = (spent + sum_by cost_of (held ∷ changes) ≡ total) × AreSpent total spents changes

-- A row, a hash and a sum for each item.
pub record Keeps (items : List Item) (rows : List (List ℕ)) (hashes : List ℕ) (total : ℕ) : Type 0 where
  pub are_rows : length rows ≡ length items
  pub are_hashes : hashes ≡ hashes_of items
  pub are_spent : AreSpent total (spents_of items) (held_changes items rows)

abbrev pub held : Inside → List HeldChange
held a = held_changes a.items.items a.rows.pieces

pub record Holds (items : List Item) (rows : List (List ℕ)) (hashes : List ℕ) (total first : ℕ) (newest : List ℕ) : Type 0 where
  pub keeps : Keeps items rows hashes total
  pub opens : OpenChanges first items newest

abbrev pub IsKept : Inside → Type 0
IsKept a = Holds a.items.items a.rows.pieces a.chains a.total a.rows.first a.newest.items
