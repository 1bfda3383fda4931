-- What the standard streams tell at first, and what a read leaves of it.
use Rattle.std.proofs.Common.{◌≡◌, ◌<◌, ◌≤◌, ◌↔◌, ℕ, List, [], ◌∷◌, ◌++◌, length, take, Option, Some, None, Result, Ok, Err, refl, sym, ap, ◌∙◌, arith}
use Rattle.std.specs.Prelude.{IfSome, IfOk}
use Rattle.std.proofs.lemmas.List.{length-take-le}
use Rattle.std.specs.Io.KnownBytes.{Consumes, IsAtEnd, ReadConsumes}
use Rattle.esentutl.specs.Streams.{still_told}

-- at first a stream tells what it tells
pub still_told-first : (told : Option (List ℕ)) → still_told told told ≡ told
still_told-first None = refl
still_told-first (Some bytes) = refl

-- a read gives no byte exactly where none is left
ends-told : (first old new : Option (List ℕ)) (n : ℕ) (into : List ℕ) → Consumes old new (take n into) → (n ≡ 0 → 0 < length into → IsAtEnd new)
    → n ≤ length into → 0 < length into → IfSome (still_told first old) (λ bytes. (n ≡ 0) ↔ (bytes ≡ []))
ends-told None old new n into read end within room = tt
ends-told (Some bytes) None new n into read end within room = tt
ends-told (Some bytes) (Some xs) None n into read end within room = absurd read
ends-told (Some bytes) (Some xs) (Some ys) n into read end within room = (
  λ none. read ∙ ap (λ (l : List ℕ). take n into ++ l) (end none room) ∙ ap (λ (k : ℕ). take k into ++ []) none,
  λ nothing. no_front (take n into) ys n (sym read ∙ nothing) (length-take-le n into within),
)
  where
    no_front : (front rest : List ℕ) (k : ℕ) → front ++ rest ≡ [] → length front ≡ k → k ≡ 0
    no_front [] rest k none long = sym long
    no_front (x ∷ front) rest k none long = let never : ⊥ = cc in absurd never

pub ends-read : {E : Type 0} (first old new : Option (List ℕ)) (read : Result ℕ E) (room into : List ℕ) → ReadConsumes old new read into → IfOk read (λ n. n ≤ length room)
    → length into ≡ length room → 0 < length room → IfOk read (λ n. IfSome (still_told first old) (λ bytes. (n ≡ 0) ↔ (bytes ≡ [])))
ends-read first old new (Ok n) room into gave within same some = ends-told first old new n into gave.0 gave.1 (omega (arith, within, same)) (omega (arith, some, same))
ends-read first old new (Err fault) room into gave within same some = tt
