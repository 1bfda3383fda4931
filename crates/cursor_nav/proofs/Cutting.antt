-- Two byte strings together, cut.
use Rattle.std.proofs.Common.{◌≡◌, ◌≤◌, ℕ, zero, suc, List, [], ◌∷◌, ◌++◌, take, true, Some, nat_le, refl, ap, arith}
use Rattle.key_normal.specs.KeyBytes.{cut_key}
use Rattle.index_derive.specs.declared.rules.IndexRule.{IndexRule}
use Rattle.cursor_nav.specs.MakingKeys.{has_short_keys}

take_twice : (m n : ℕ) (xs : List ℕ) → m ≤ n → take m (take n xs) ≡ take m xs
take_twice zero n xs h = refl
take_twice (suc m) zero xs h = absurd (omega arith)
take_twice (suc m) (suc n) [] h = refl
take_twice (suc m) (suc n) (x ∷ xs) h = ap (λ r. x ∷ r) (take_twice m n xs (omega arith))

front_cut : (m n : ℕ) (front more : List ℕ) → m ≤ n → take m (front ++ take n more) ≡ take m (front ++ more)
front_cut m n [] more h = take_twice m n more h
front_cut zero n (x ∷ front) more h = refl
front_cut (suc m) n (x ∷ front) more h = ap (λ r. x ∷ r) (front_cut m n front more (omega arith))

-- what is cut before it is put behind the front is cut there too
pub take_front : (m : ℕ) (front more : List ℕ) → cut_key m (front ++ cut_key m more) ≡ cut_key m (front ++ more)
take_front m front more = front_cut m m front more (omega arith)

at_most_255 : (n : ℕ) → nat_le n 255 ≡ true → n ≤ 255
at_most_255 n h = grind arith

pub short_keys : (rule : IndexRule) → has_short_keys (Some rule) ≡ true → rule.key_most ≤ 255
short_keys rule h = at_most_255 rule.key_most h
