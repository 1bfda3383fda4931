-- What is written one after the other, and the room that is left.
use Rattle.std.proofs.Common.{◌≡◌, ℕ, ◌+◌, ◌*◌, ◌<◌, ◌≤◌, List, [], ◌∷◌, ◌++◌, length, take, refl, ap, arith}
use Rattle.std.specs.List.{flat_map}
use Rattle.std.proofs.lemmas.List.{length-append, length-take}

-- parts of three bytes each
pub three_each : {X : Type 0} (f : X → List ℕ) → ((x : X) → length (f x) ≡ 3) → (xs : List X) → length (flat_map f xs) ≡ 3 * length xs
three_each f h [] = refl
three_each f h (x ∷ xs) = omega (arith, length-append (f x) (flat_map f xs), h x, three_each f h xs)

-- there is room for one part more
pub room_left : {X : Type 0} (f : X → List ℕ) → ((x : X) → length (f x) ≡ 3) → (old now : List ℕ) (xs : List X) (i : ℕ) → now ≡ old ++ (length xs ∷ flat_map f (take i xs)) → i < length xs → length old + 1 + 3 * length xs ≤ 1607 → length now + 3 ≤ 1607
room_left f h old now xs i e lt room =
    omega (arith, ap length e, length-append old (length xs ∷ flat_map f (take i xs)), three_each f h (take i xs), length-take i xs)

-- how much a list of parts behind its count takes
pub list_length : {X : Type 0} (f : X → List ℕ) → ((x : X) → length (f x) ≡ 3) → (old now : List ℕ) (xs : List X) → now ≡ old ++ (length xs ∷ flat_map f xs) → length now ≡ length old + 1 + 3 * length xs
list_length f h old now xs e = omega (arith, ap length e, length-append old (length xs ∷ flat_map f xs), three_each f h xs)

-- the head of an index
pub head_length : (a b c n0 n1 n2 n3 : List ℕ) → n0 ≡ [] → n1 ≡ n0 ++ a → n2 ≡ n1 ++ b → n3 ≡ n2 ++ c → length a ≡ 4 → length b ≡ 4 → length c ≡ 2 → length n3 ≡ 10
head_length a b c n0 n1 n2 n3 p0 p1 p2 p3 la lb lc =
    omega (arith, ap length p0, ap length p1, ap length p2, ap length p3, length-append n0 a, length-append n1 b, length-append n2 c, la, lb, lc)
