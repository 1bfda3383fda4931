-- The rule of the word: what it counts, and how all views fit the one log.
use Rattle.std.specs.Prelude.{◌≡◌, ℕ, ◌+◌, ◌*◌, ◌≤◌, true, List, [], ◌∷◌, length}
use mathlib.Core.Option.{some}
use mathlib.Core.List.{IsPrefix}
use lib.ListN.{get_elem?}
use Rattle.index_derive.specs.declared.log.Entry.{Entry}
use Rattle.history_word.specs.declared.views.Part.{Part}
use Rattle.history_word.specs.declared.views.View.{View}
use Rattle.history_word.specs.Parts.{has_right, own_entries}

-- What nobody sees whole. A part lies at a place: that of the seat n of the table at 2 * n, and its guest at 2 * n + 1
pub record Truth : Type 0 where
  pub log : List Entry
  -- the place of the `Turn`'s part
  pub turn_place : ℕ
  -- the place of each session's right
  pub right_place : ℕ → ℕ
  -- the place of the store's right
  pub store_place : ℕ
  pub given : ℕ
  pub faults : ℕ

-- Each right lies at one place, so two parts with one right are one part, and no pair of parts is ever compared
pub record Fits (t : Truth) (place : ℕ) (p : Part) : Type 0 where
  pub begins : IsPrefix p.log t.log
  pub turn : p.turn ≡ true → (t.turn_place ≡ place) × (p.log ≡ t.log) × (p.trimmed ≤ t.given)
  pub rights : (s : ℕ) → has_right s p.rights ≡ true → t.right_place s ≡ place
  pub own : own_entries p.rights p.log ≡ own_entries p.rights t.log
  pub store : p.store ≡ true → (t.store_place ≡ place) × (p.given ≡ t.given) × (p.faults ≡ t.faults)
  pub flushed : p.flushed ≤ t.given
  pub faults : p.faults ≤ t.faults

abbrev pub FitsView : Truth → ℕ → View → Type 0
FitsView t n v = Fits t (2 * n) v.mine × Fits t (2 * n + 1) v.guest

abbrev pub AllFit : Truth → List View → Type 0
AllFit t views = (n : ℕ) (v : View) → get_elem? views n ≡ some v → FitsView t n v

abbrev pub IsKept : List ℕ → List View → Type 0
IsKept words views = (t : Truth) × (words ≡ length t.log ∷ []) × AllFit t views
