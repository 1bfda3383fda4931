-- Told bytes that are written in pieces.
use Rattle.std.proofs.Common.{◌≡◌, ℕ, List, [], ◌++◌, Option, Some, None, refl, ap, append_assoc}
use Rattle.std.proofs.lemmas.List.{append-nil}
use Rattle.std.specs.Io.KnownBytes.{append_known}

-- two pieces, one behind the other
pub append_twice : (known : Option (List ℕ)) (a b : List ℕ) → append_known (append_known known a) b ≡ append_known known (a ++ b)
append_twice None a b = refl
append_twice (Some so_far) a b = ap (λ (l : List ℕ). Some l) (append_assoc so_far a b)

-- no piece
pub append_nothing : (known : Option (List ℕ)) → append_known known [] ≡ known
append_nothing None = refl
append_nothing (Some so_far) = ap (λ (l : List ℕ). Some l) (append-nil so_far)
