-- Elements of lists that are joined of pieces.
use Rattle.std.proofs.Common.{◌≡◌, ℕ, zero, suc, ◌+◌, ◌-◌, ◌<◌, ◌≤◌, List, [], ◌∷◌, ◌++◌, length, map, replicate, Some, None, refl, ap, sym, ◌∙◌, arith, append_assoc}
use Rattle.std.specs.Prelude.{slice_get}
use Rattle.std.specs.List.{flat_map, range_with_len, sum_by}
use Rattle.std.proofs.lemmas.List.{append-nil, length-append}
use Rattle.std.proofs.lemmas.List.FromFn.{length-map-range_with_len}
use Rattle.std.proofs.lemmas.List.Sums.{sum_by-cons}
use Rattle.std.proofs.lemmas.Option.{slice_get_past}

-- an element of the front
pub get_front : {X : Type 0} (xs ys : List X) (i : ℕ) → i < length xs → slice_get (xs ++ ys) i ≡ slice_get xs i
get_front [] ys i h = absurd (omega arith)
get_front (x ∷ xs) ys zero h = refl
get_front (x ∷ xs) ys (suc i) h = get_front xs ys i (omega arith)

-- an element behind the front
pub get_behind : {X : Type 0} (xs ys : List X) (n i : ℕ) → length xs ≡ n → n ≤ i → slice_get (xs ++ ys) i ≡ slice_get ys (i - n)
get_behind [] ys n i e h = ap (slice_get ys) (omega arith)
get_behind (x ∷ xs) ys n zero e h = absurd (omega arith)
get_behind (x ∷ xs) ys n (suc i) e h = get_behind xs ys (length xs) i refl (omega arith) ∙ ap (slice_get ys) (omega arith)

-- what is made of each of consecutive numbers
pub get_mapped : {X : Type 0} (f : ℕ → X) (a n i j : ℕ) → i < n → a + i ≡ j → slice_get (map f (range_with_len a n)) i ≡ Some (f j)
get_mapped f a zero i j h e = absurd (omega arith)
get_mapped f a (suc n) zero j h e = ap (λ k. Some (f k)) (omega arith)
get_mapped f a (suc n) (suc i) j h e = get_mapped f (a + 1) n i j (omega arith) (omega arith)

pub get_mapped_past : {X : Type 0} (f : ℕ → X) (a n i : ℕ) → n ≤ i → slice_get (map f (range_with_len a n)) i ≡ None
get_mapped_past f a n i h = slice_get_past (map f (range_with_len a n)) i (omega (arith, length-map-range_with_len f a n))

-- an element of the piece of number a + r
pub get_piece : {X : Type 0} (f : ℕ → List X) (a n r i start : ℕ) → r < n → length (flat_map f (range_with_len a r)) ≡ start → start ≤ i → i - start < length (f (a + r))
    → slice_get (flat_map f (range_with_len a n)) i ≡ slice_get (f (a + r)) (i - start)
get_piece f a zero r i start h e s w = absurd (omega arith)
get_piece f a (suc n) zero i start h e s w =
    let same : a + 0 ≡ a = omega arith in
    let least : i - start ≡ i = omega arith in
    let within : i < length (f a) = rw (← same, ← least) w in
    get_front (f a) (flat_map f (range_with_len (a + 1) n)) i within
    ∙ ap (slice_get (f a)) (sym least)
    ∙ ap (λ k. slice_get (f k) (i - start)) (sym same)
get_piece f a (suc n) (suc r) i start h e s w =
    let rest : ℕ = length (flat_map f (range_with_len (a + 1) r)) in
    let sum : length (f a) + rest ≡ start = sym (length-append (f a) (flat_map f (range_with_len (a + 1) r))) ∙ e in
    let same : a + 1 + r ≡ a + suc r = omega arith in
    let gone : i - length (f a) - rest ≡ i - start = omega arith in
    let within : i - length (f a) - rest < length (f (a + 1 + r)) = rw (gone, same) w in
    get_behind (f a) (flat_map f (range_with_len (a + 1) n)) (length (f a)) i refl (omega arith)
    ∙ get_piece f (a + 1) n r (i - length (f a)) rest (omega arith) refl (omega arith) within
    ∙ ap (λ k. slice_get (f k) (i - length (f a) - rest)) same
    ∙ ap (slice_get (f (a + suc r))) gone

-- one piece more
pub flat_map_more : {X : Type 0} (f : ℕ → List X) (a n : ℕ) → flat_map f (range_with_len a (suc n)) ≡ flat_map f (range_with_len a n) ++ f (a + n)
flat_map_more f a zero = append-nil (f a) ∙ ap f (omega arith)
flat_map_more f a (suc n) =
    ap (λ l. f a ++ l) (flat_map_more f (a + 1) n)
    ∙ sym (append_assoc (f a) (flat_map f (range_with_len (a + 1) n)) (f (a + 1 + n)))
    ∙ ap (λ k. (f a ++ flat_map f (range_with_len (a + 1) n)) ++ f k) (omega arith)

-- one number more
pub sum_more : (f : ℕ → ℕ) (a n : ℕ) → sum_by f (range_with_len a (suc n)) ≡ sum_by f (range_with_len a n) + f (a + n)
sum_more f a zero = ap (λ k. 0 + f k) (omega arith)
sum_more f a (suc n) =
    sum_by-cons f a (range_with_len (a + 1) (suc n))
    ∙ ap (λ s. f a + s) (sum_more f (a + 1) n)
    ∙ ap (λ k. f a + (sum_by f (range_with_len (a + 1) n) + f k)) (omega arith)
    ∙ (let t : f a + (sum_by f (range_with_len (a + 1) n) + f (a + suc n)) ≡ (f a + sum_by f (range_with_len (a + 1) n)) + f (a + suc n) = omega arith in t)
    ∙ ap (λ s. s + f (a + suc n)) (sym (sum_by-cons f a (range_with_len (a + 1) n)))

-- an element of equal ones
pub get_replicated : {X : Type 0} (n i : ℕ) (x : X) → i < n → slice_get (replicate n x) i ≡ Some x
get_replicated zero i x h = absurd (omega arith)
get_replicated (suc n) zero x h = refl
get_replicated (suc n) (suc i) x h = get_replicated n i x (omega arith)
