-- Sums of costs.
use Rattle.std.proofs.Common.{◌≡◌, ℕ, zero, suc, ◌+◌, ◌<◌, ◌≤◌, Bool, true, false, List, [], ◌∷◌, ◌++◌, Option, Some, map, length, get_or, drop, refl, sym, ap, ◌∙◌, arith, add-one, drop-cons}
use Rattle.std.specs.Prelude.{sum_by, if◌then◌else◌}
use Rattle.std.proofs.lemmas.List.Sums.{sum_by-cons, sum_by_push}
use Rattle.version_store.specs.HeldChanges.{HeldChange, cost_of, from_oldest_kept, is_kept, undone_at}
use Rattle.version_store.specs.Kept.{AreSpent}

pub spent-push : (total : ℕ) (spents : List ℕ) (changes : List HeldChange) (held : HeldChange) → AreSpent total spents changes → AreSpent (total + cost_of held) (spents ++ total ∷ []) (changes ++ held ∷ [])
spent-push total [] [] held are = (omega (arith, sum_by-cons cost_of held []), tt)
spent-push total [] (h ∷ changes) held are = absurd are
spent-push total (s ∷ spents) [] held are = absurd are
spent-push total (s ∷ spents) (h ∷ changes) held are =
    (omega (arith, sum_by_push cost_of (h ∷ changes) held, are.0), spent-push total spents changes held are.1)

pub spent-drop : (total : ℕ) (spents : List ℕ) (changes : List HeldChange) → AreSpent total spents changes → AreSpent total (drop 1 spents) (drop 1 changes)
spent-drop total [] [] are = tt
spent-drop total [] (h ∷ changes) are = absurd are
spent-drop total (s ∷ spents) [] are = absurd are
spent-drop total (s ∷ spents) (h ∷ changes) are = are.1

pub spent-at : (total : ℕ) (spents : List ℕ) (changes : List HeldChange) (at : ℕ) → AreSpent total spents changes → at < length changes → get_or spents at 0 + sum_by cost_of (drop at changes) ≡ total
spent-at total [] [] at are within = absurd (omega arith)
spent-at total [] (h ∷ changes) at are within = absurd are
spent-at total (s ∷ spents) [] at are within = absurd are
spent-at total (s ∷ spents) (h ∷ changes) zero are within = are.0
spent-at total (s ∷ spents) (h ∷ changes) (suc at) are within = spent-at total spents changes at are.1 (omega arith)

sum-map : (f : HeldChange → HeldChange) (changes : List HeldChange) → ((held : HeldChange) → cost_of (f held) ≡ cost_of held) → sum_by cost_of (map f changes) ≡ sum_by cost_of changes
sum-map f [] same = refl
sum-map f (h ∷ changes) same = omega (arith, sum_by-cons cost_of h changes, sum_by-cons cost_of (f h) (map f changes), same h, sum-map f changes same)

pub spent-map : (total : ℕ) (spents : List ℕ) (f : HeldChange → HeldChange) (changes : List HeldChange) → ((held : HeldChange) → cost_of (f held) ≡ cost_of held) → AreSpent total spents changes → AreSpent total spents (map f changes)
spent-map total [] f [] same are = tt
spent-map total [] f (h ∷ changes) same are = absurd are
spent-map total (s ∷ spents) f [] same are = absurd are
spent-map total (s ∷ spents) f (h ∷ changes) same are = (omega (arith, sum-map f (h ∷ changes) same, are.0), spent-map total spents f changes same are.1)

sum-undone : (at : ℕ) (changes : List HeldChange) → sum_by cost_of (undone_at (Some at) changes) ≡ sum_by cost_of changes
sum-undone at [] = refl
sum-undone zero (h ∷ changes) = refl
sum-undone (suc at) (h ∷ changes) = omega (arith, sum_by-cons cost_of h changes, sum_by-cons cost_of h (undone_at (Some at) changes), sum-undone at changes)

pub spent-undone : (total : ℕ) (spents : List ℕ) (at : ℕ) (changes : List HeldChange) → AreSpent total spents changes → AreSpent total spents (undone_at (Some at) changes)
spent-undone total [] at [] are = tt
spent-undone total [] at (h ∷ changes) are = absurd are
spent-undone total (s ∷ spents) at [] are = absurd are
spent-undone total (s ∷ spents) zero (h ∷ changes) are = are
spent-undone total (s ∷ spents) (suc at) (h ∷ changes) are = (omega (arith, sum-undone (suc at) (h ∷ changes), are.0), spent-undone total spents at changes are.1)

from-kept : (oldest : Option ℕ) (held : HeldChange) (changes : List HeldChange) → is_kept oldest held ≡ true → from_oldest_kept oldest (held ∷ changes) ≡ held ∷ changes
from-kept oldest held changes is = ap (λ (b : Bool). if b then held ∷ changes else from_oldest_kept oldest changes) is

from-skipped : (oldest : Option ℕ) (held : HeldChange) (changes : List HeldChange) → is_kept oldest held ≡ false → from_oldest_kept oldest (held ∷ changes) ≡ from_oldest_kept oldest changes
from-skipped oldest held changes is = ap (λ (b : Bool). if b then held ∷ changes else from_oldest_kept oldest changes) is

pub oldest-skipped : (oldest : Option ℕ) (changes : List HeldChange) (at : ℕ) (d : HeldChange) → at < length changes → is_kept oldest (get_or changes at d) ≡ false → from_oldest_kept oldest (drop at changes) ≡ from_oldest_kept oldest (drop (at + 1) changes)
oldest-skipped oldest changes at d within is = ap (from_oldest_kept oldest) (drop-cons changes at d within) ∙ from-skipped oldest (get_or changes at d) (drop (suc at) changes) is ∙ ap (λ (n : ℕ). from_oldest_kept oldest (drop n changes)) (sym (add-one at))

pub oldest-kept : (oldest : Option ℕ) (changes : List HeldChange) (at : ℕ) (d : HeldChange) → at < length changes → is_kept oldest (get_or changes at d) ≡ true → from_oldest_kept oldest (drop at changes) ≡ drop at changes
oldest-kept oldest changes at d within is = ap (from_oldest_kept oldest) (drop-cons changes at d within) ∙ from-kept oldest (get_or changes at d) (drop (suc at) changes) is ∙ sym (drop-cons changes at d within)

either : (b : Bool) (total : ℕ) (all some : List HeldChange) → sum_by cost_of all ≤ total → sum_by cost_of some ≤ total → sum_by cost_of (if b then all else some) ≤ total
either true total all some whole part = whole
either false total all some whole part = part

-- from no change on the costs are more than those of all that were ever pushed
pub span-within : (total : ℕ) (spents : List ℕ) (oldest : Option ℕ) (changes : List HeldChange) → AreSpent total spents changes → sum_by cost_of (from_oldest_kept oldest changes) ≤ total
span-within total [] oldest [] are = omega arith
span-within total [] oldest (h ∷ changes) are = absurd are
span-within total (s ∷ spents) oldest [] are = omega arith
span-within total (s ∷ spents) oldest (h ∷ changes) are = either (is_kept oldest h) total (h ∷ changes) (from_oldest_kept oldest changes) (omega (arith, are.0)) (span-within total spents oldest changes are.1)
