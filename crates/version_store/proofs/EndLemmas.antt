-- Committed and released items as held changes.
use Rattle.std.proofs.Common.{◌≡◌, ℕ, ◌-◌, Bool, true, false, List, [], refl}
use Rattle.std.specs.Prelude.{if◌then◌else◌}
use Rattle.database_state.specs.State.{committed}
use Rattle.version_store.specs.declared.item.Item.{Item}
use Rattle.version_store.specs.declared.item.Status.TheVariants as status
use Rattle.version_store.specs.HeldChanges.{HeldChange, committed_change, cost_of, is_open_at, is_open_of, released_change, with_status}
use Rattle.version_store.specs.Items.{committed_item, held_change, item_hash, lowered, released_item}

pub commit-held : (session number : ℕ) (item : Item) (row : List ℕ) → held_change (committed_item session number item) row ≡ committed_change session number (held_change item row)
commit-held session number x row = at (is_open_of session (held_change x []))
  where
    at : (b : Bool) → held_change (if b then record x { status = status.Committed number } else x) row ≡ (if b then with_status (committed number) (held_change x row) else held_change x row)
    at true = refl
    at false = refl

pub commit-hash : (session number : ℕ) (item : Item) → item_hash (committed_item session number item) ≡ item_hash item
commit-hash session number x = at (is_open_of session (held_change x []))
  where
    at : (b : Bool) → item_hash (if b then record x { status = status.Committed number } else x) ≡ item_hash x
    at true = refl
    at false = refl

pub commit-spent : (session number : ℕ) (item : Item) → (committed_item session number item).spent ≡ item.spent
commit-spent session number x = at (is_open_of session (held_change x []))
  where
    at : (b : Bool) → (if b then record x { status = status.Committed number } else x).spent ≡ x.spent
    at true = refl
    at false = refl

pub commit-cost : (session number : ℕ) (held : HeldChange) → cost_of (committed_change session number held) ≡ cost_of held
commit-cost session number h = at (is_open_of session h)
  where
    at : (b : Bool) → cost_of (if b then with_status (committed number) h else h) ≡ cost_of h
    at true = refl
    at false = refl

pub release-held : (session level : ℕ) (item : Item) (row : List ℕ) → held_change (released_item session level item) row ≡ released_change session level (held_change item row)
release-held session level x row = at (is_open_at session level (held_change x []))
  where
    at : (b : Bool) → held_change (if b then record x { level = level - 1; highest = lowered level x.highest } else x) row ≡ (if b then record (held_change x row) { level = level - 1 } else held_change x row)
    at true = refl
    at false = refl

pub release-hash : (session level : ℕ) (item : Item) → item_hash (released_item session level item) ≡ item_hash item
release-hash session level x = at (is_open_at session level (held_change x []))
  where
    at : (b : Bool) → item_hash (if b then record x { level = level - 1; highest = lowered level x.highest } else x) ≡ item_hash x
    at true = refl
    at false = refl

pub release-spent : (session level : ℕ) (item : Item) → (released_item session level item).spent ≡ item.spent
release-spent session level x = at (is_open_at session level (held_change x []))
  where
    at : (b : Bool) → (if b then record x { level = level - 1; highest = lowered level x.highest } else x).spent ≡ x.spent
    at true = refl
    at false = refl

pub release-cost : (session level : ℕ) (held : HeldChange) → cost_of (released_change session level held) ≡ cost_of held
release-cost session level h = at (is_open_at session level h)
  where
    at : (b : Bool) → cost_of (if b then record h { level = level - 1 } else h) ≡ cost_of h
    at true = refl
    at false = refl
