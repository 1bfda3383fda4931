-- A pass over nodes, step by step.
use Rattle.std.proofs.Common.{◌≡◌, ℕ, suc, ◌<◌, List, [], ◌∷◌, length, sym, ap, ◌∙◌, arith}
use Rattle.page_image.specs.Page.{Node}
use Rattle.image_contents.specs.ValuePass.{Pass, all_passed, passed}

pub smaller : (walk rest : List Node) (n : Node) → walk ≡ n ∷ rest → length rest < length walk
smaller walk rest n is = omega (arith, ap (λ (l : List Node). length l) is)

pub goes : (number : ℕ) (p q : Pass) (walk rest : List Node) (n : Node) (total : Pass) → walk ≡ n ∷ rest → q ≡ passed number p n → all_passed number p walk ≡ total → all_passed number q rest ≡ total
goes number p q walk rest n total is next so_far = ap (λ (r : Pass). all_passed number r rest) next ∙ sym (ap (all_passed number p) is) ∙ so_far

pub ends : (number : ℕ) (p : Pass) (walk rest : List Node) (total : Pass) → (walk ≡ []) × (rest ≡ []) → all_passed number p walk ≡ total → p ≡ total
ends number p walk rest total none so_far = sym (ap (all_passed number p) none.0) ∙ so_far
