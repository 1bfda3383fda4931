-- The free pages of a space, by the marks of those that are taken.
use Rattle.std.specs.Prelude.{◌≡◌, ◌≢◌, ℕ, suc, Bool, true, false, List, [], ◌∷◌, length, slice_index_or, All, AllPairs}

-- how many are free
abbrev pub free_in : List Bool → ℕ
free_in [] = 0
free_in (true ∷ taken) = free_in taken
free_in (false ∷ taken) = suc (free_in taken)

-- A list of the free pages has each of them once.
pub record HasFree (taken : List Bool) (free : List ℕ) : Type 0 where
  pub are_free : All (λ page. slice_index_or taken page true ≡ false) free
  pub once : AllPairs (λ p q. p ≢ q) free
  pub all : length free ≡ free_in taken
