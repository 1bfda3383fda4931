-- The blocks that bytes are given in, one after the other.
use Rattle.std.proofs.Common.{◌≡◌, ℕ, zero, suc, ◌-◌, ◌≤◌, min, Option, Some, None, refl, ◌∙◌, ap, arith}
use Rattle.jet_volume.specs.declared.files.LogStart.{LogStart}
use Rattle.log_ring.specs.Blocks.{behind}
use Rattle.log_ring.specs.Gates.{place_for}
use Rattle.log_keeper.specs.Blocks.{Given, given_at, given_in_blocks, given_in}
use Rattle.log_keeper.proofs.Parts.{block_rest}

-- what follows a block
abbrev following : ℕ → ℕ → ℕ → LogStart → Given
following blocks standing left place = given_in_blocks blocks standing (behind place (min 65500 left)) (left - 65500)

same_at : (place : Option LogStart) (end : LogStart) (left : ℕ) (f g : LogStart → Given) → ((at : LogStart) → f at ≡ g at) → given_at place end left f ≡ given_at place end left g
same_at None end left f g same = refl
same_at (Some at) end left f g same = same at

-- more blocks than bytes give no more
enough : (a b standing : ℕ) (end : LogStart) (left : ℕ) → left ≤ a → left ≤ b → given_in_blocks a standing end left ≡ given_in_blocks b standing end left
enough zero zero standing end left le_a le_b = refl
enough zero (suc b) standing end zero le_a le_b = refl
enough zero (suc b) standing end (suc n) le_a le_b = absurd (omega arith)
enough (suc a) zero standing end zero le_a le_b = refl
enough (suc a) zero standing end (suc n) le_a le_b = absurd (omega arith)
enough (suc a) (suc b) standing end zero le_a le_b = refl
enough (suc a) (suc b) standing end (suc n) le_a le_b =
    same_at (place_for standing end (min 65500 (suc n))) end (suc n) (following a standing (suc n)) (following b standing (suc n))
    (λ (at : LogStart). enough a b standing (behind at (min 65500 (suc n))) (suc n - 65500) (omega (arith, le_a)) (omega (arith, le_b)))

-- a block that has a place is given, and the rest behind it
pub given_block : (standing : ℕ) (end place : LogStart) (left : ℕ) → 1 ≤ left → place_for standing end (min 65500 left) ≡ Some place
    → given_in standing end left ≡ given_in standing (behind place (min 65500 left)) (left - min 65500 left)
given_block standing end place zero some is = absurd (omega arith)
given_block standing end place (suc n) some is =
    ap (λ (o : Option LogStart). given_at o end (suc n) (following n standing (suc n))) is
    ∙ enough n (suc n - 65500) standing (behind place (min 65500 (suc n))) (suc n - 65500) (omega arith) (omega arith)
    ∙ ap (λ (m : ℕ). given_in standing (behind place (min 65500 (suc n))) m) (block_rest (suc n))

-- where a block has no place all bytes are left
pub given_none : (standing : ℕ) (end : LogStart) (left : ℕ) → 1 ≤ left → place_for standing end (min 65500 left) ≡ None → given_in standing end left ≡ record { end = end; left = left }
given_none standing end zero some is = absurd (omega arith)
given_none standing end (suc n) some is = ap (λ (o : Option LogStart). given_at o end (suc n) (following n standing (suc n))) is
