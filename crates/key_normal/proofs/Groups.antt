-- How groups of eight bytes come off the front of a value.
use Rattle.std.proofs.Common.{◌≡◌, ℕ, ◌-◌, ◌<◌, ◌≤◌, List, [], ◌∷◌, ◌++◌, length, take, drop, replicate, refl, arith}
use Rattle.key_normal.specs.KeyBytes.{in_groups}

pub in_groups-long : (xs : List ℕ) → 8 < length xs → in_groups xs ≡ take 8 xs ++ 9 ∷ in_groups (drop 8 xs)
in_groups-long (a ∷ b ∷ c ∷ d ∷ e ∷ f ∷ g ∷ h ∷ next ∷ rest) long = refl
in_groups-long last long = absurd (omega arith)

pub in_groups-short : (xs : List ℕ) → length xs ≤ 8 → in_groups xs ≡ xs ++ replicate (8 - length xs) 0 ++ length xs ∷ []
in_groups-short (a ∷ b ∷ c ∷ d ∷ e ∷ f ∷ g ∷ h ∷ next ∷ rest) short = absurd (omega arith)
in_groups-short last short = refl
