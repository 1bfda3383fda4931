-- From each session's newest open change a way back to its oldest one.
use Rattle.std.specs.Prelude.{◌≡◌, ℕ, suc, ◌-◌, ◌≤◌, ◌<◌, Bool, true, false, List, [], length, Some, slice_get, slice_index}
use Rattle.version_store.specs.declared.item.Item.{Item}
use Rattle.version_store.specs.HeldChanges.{is_open_of}
use Rattle.version_store.specs.Items.{held_change}

abbrev pub is_open_item : ℕ → Item → Bool
is_open_item session item = is_open_of session (held_change item [])

-- A walk that stands behind an item of the session, or at the start, and has passed over no open change of it before `bound`.
pub record Reach (session : ℕ) (items : List Item) (end bound : ℕ) : Type 0 where
  pub within : end ≤ bound
  pub own : (place : ℕ) (x : Item) → end ≡ suc place → slice_get items place ≡ Some x → x.session.0 ≡ session
  pub none_open : (k : ℕ) (x : Item) → end ≤ k → k < bound → slice_get items k ≡ Some x → is_open_item session x ≡ false

-- From each item the number of one before it. No open change of its session stands between.
abbrev pub AreLinked : ℕ → List Item → Type 0
AreLinked first items = (i : ℕ) (x : Item) → slice_get items i ≡ Some x → Reach x.session.0 items (x.own_before - first) i

-- No open change of an item's session, up to the item, is of a higher level than the item says.
abbrev pub AreBelow : List Item → Type 0
AreBelow items = (i k : ℕ) (x y : Item) → slice_get items i ≡ Some x → k ≤ i → slice_get items k ≡ Some y → is_open_item x.session.0 y ≡ true → y.level ≤ x.highest

-- Numbers count all items ever held from 1, and `first` items have gone. A number of one that has gone, and 0, are none.
pub record OpenChanges (first : ℕ) (items : List Item) (newest : List ℕ) : Type 0 where
  pub heads : (session : ℕ) → Reach session items (slice_index newest session - first) (length items)
  pub links : AreLinked first items
  pub levels : AreBelow items
