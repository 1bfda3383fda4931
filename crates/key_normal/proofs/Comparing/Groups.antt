-- Groups of eight bytes compare as the values that they stand for.
use Rattle.std.proofs.Common.{◌≡◌, ℕ, zero, suc, ◌+◌, ◌-◌, ◌<◌, ◌≤◌, List, [], ◌∷◌, ◌++◌, length, take, drop, replicate, Some, refl, sym, ap, ◌∙◌, arith, inl, inr, length-take, length-drop}
use Rattle.std.proofs.lemmas.Bool.{cases_lt}
use Rattle.std.proofs.lemmas.List.{take-append-drop}
use Rattle.std.specs.declared.cmp.Ordering.{Ordering}
use Rattle.std.specs.declared.cmp.Ordering.TheVariants.{Less, Equal, Greater}
use Rattle.std.specs.Ordering.{nat_cmp, ordering_then, ordering_reverse, partial_ordering_then}
use Rattle.std.specs.Option.{option_map}
use Rattle.std.proofs.lemmas.Cmp.{nat_list_cmp_total}
use Rattle.std.specs.Cmp.Lexicographic.{slice_cmp}
use Rattle.key_normal.specs.KeyBytes.{in_groups}
use Rattle.key_normal.proofs.Groups.{in_groups-long, in_groups-short}
use Rattle.key_normal.proofs.Comparing.Aligned.{aligned, cmp_less, cmp_equal, cmp_greater, aligned-fronts, aligned-flip, slice_cmp-fronts}

-- so many bytes, zeros behind those that are there
abbrev padded : ℕ → List ℕ → List ℕ
padded zero xs = []
padded (suc n) [] = 0 ∷ padded n []
padded (suc n) (x ∷ xs) = x ∷ padded n xs

padded-nil : (n : ℕ) → replicate n 0 ≡ padded n []
padded-nil zero = refl
padded-nil (suc n) = ap (λ r. 0 ∷ r) (padded-nil n)

padded-short : (n : ℕ) (xs : List ℕ) → length xs ≤ n → xs ++ replicate (n - length xs) 0 ≡ padded n xs
padded-short zero [] h = refl
padded-short zero (x ∷ xs) h = absurd (omega arith)
padded-short (suc n) [] h = let e : suc n - 0 ≡ suc n = omega arith in ap (λ k. replicate k 0) e ∙ padded-nil (suc n)
padded-short (suc n) (x ∷ xs) h =
    let e : suc n - suc (length xs) ≡ n - length xs = omega arith in
    let shorter : length xs ≤ n = omega arith in
    ap (λ k. x ∷ (xs ++ replicate k 0)) e ∙ ap (λ r. x ∷ r) (padded-short n xs shorter)

-- ---- two last groups

-- one is empty and has the smaller count
empty-below : (n p q : ℕ) (ys : List ℕ) → p < q → aligned (padded n [] ++ p ∷ []) (padded n ys ++ q ∷ []) ≡ Some Less
empty-below zero p q ys h = rw (cmp_less p q h)
empty-below (suc n) p q [] h = empty-below n p q [] h
empty-below (suc n) p q (zero ∷ ys) h = empty-below n p q ys h
empty-below (suc n) p q (suc y ∷ ys) h = let less : 0 < suc y = omega arith in rw (cmp_less 0 (suc y) less)

-- the counts differ as the lengths do
last_groups : (n p q : ℕ) (xs ys : List ℕ) → length xs ≤ n → length ys ≤ n → p + length ys ≡ q + length xs → aligned (padded n xs ++ p ∷ []) (padded n ys ++ q ∷ []) ≡ Some (slice_cmp nat_cmp xs ys)
last_groups zero p q [] [] a b e = let same : p ≡ q = omega arith in rw (cmp_equal p q same)
last_groups zero p q [] (y ∷ ys) a b e = absurd (omega arith)
last_groups zero p q (x ∷ xs) ys a b e = absurd (omega arith)
last_groups (suc n) p q [] [] a b e = last_groups n p q [] [] (omega arith) (omega arith) e
last_groups (suc n) p q [] (y ∷ ys) a b e = empty-below (suc n) p q (y ∷ ys) (omega arith)
last_groups (suc n) p q (x ∷ xs) [] a b e = aligned-flip (padded (suc n) [] ++ q ∷ []) (padded (suc n) (x ∷ xs) ++ p ∷ []) ∙ ap (option_map ordering_reverse) (empty-below (suc n) q p (x ∷ xs) (omega arith))
last_groups (suc n) p q (x ∷ xs) (y ∷ ys) a b e =
    let rest : aligned (padded n xs ++ p ∷ []) (padded n ys ++ q ∷ []) ≡ Some (slice_cmp nat_cmp xs ys) = last_groups n p q xs ys (omega arith) (omega arith) (omega arith) in
    elim (nat_cmp x y) as (λ o. partial_ordering_then (Some o) (aligned (padded n xs ++ p ∷ []) (padded n ys ++ q ∷ [])) ≡ Some (ordering_then o (slice_cmp nat_cmp xs ys))) [ Less ↦ refl | Equal ↦ rest | Greater ↦ refl ]

-- ---- a full group and a last one

full_and_last : (n p q : ℕ) (xs ys more : List ℕ) → n < length xs → length ys ≤ n → q < p → aligned (take n xs ++ p ∷ more) (padded n ys ++ q ∷ []) ≡ Some (slice_cmp nat_cmp xs ys)
full_and_last n p q [] ys more a b h = absurd (omega arith)
full_and_last zero p q (x ∷ xs) [] more a b h = rw (cmp_greater p q h)
full_and_last zero p q (x ∷ xs) (y ∷ ys) more a b h = absurd (omega arith)
full_and_last (suc n) p q (x ∷ []) ys more a b h = absurd (omega arith)
full_and_last (suc n) p q (zero ∷ x ∷ xs) [] more a b h = full_and_last n p q (x ∷ xs) [] more (omega arith) (omega arith) h
full_and_last (suc n) p q (suc k ∷ x ∷ xs) [] more a b h = let greater : 0 < suc k = omega arith in rw (cmp_greater (suc k) 0 greater)
full_and_last (suc n) p q (x ∷ x' ∷ xs) (y ∷ ys) more a b h =
    let rest : aligned (take n (x' ∷ xs) ++ p ∷ more) (padded n ys ++ q ∷ []) ≡ Some (slice_cmp nat_cmp (x' ∷ xs) ys) = full_and_last n p q (x' ∷ xs) ys more (omega arith) (omega arith) h in
    elim (nat_cmp x y) as (λ o. partial_ordering_then (Some o) (aligned (take n (x' ∷ xs) ++ p ∷ more) (padded n ys ++ q ∷ [])) ≡ Some (ordering_then o (slice_cmp nat_cmp (x' ∷ xs) ys))) [ Less ↦ refl | Equal ↦ rest | Greater ↦ refl ]

-- ---- whole values

last : (xs : List ℕ) → length xs ≤ 8 → in_groups xs ≡ padded 8 xs ++ length xs ∷ []
last xs h = in_groups-short xs h ∙ ap (λ r. r ++ length xs ∷ []) (padded-short 8 xs h)

long_and_short : (xs ys : List ℕ) → 8 < length xs → length ys ≤ 8 → aligned (in_groups xs) (in_groups ys) ≡ Some (slice_cmp nat_cmp xs ys)
long_and_short xs ys a b = rw (in_groups-long xs a, last ys b) (full_and_last 8 9 (length ys) xs ys (in_groups (drop 8 xs)) a b (omega arith))

two_short : (xs ys : List ℕ) → length xs ≤ 8 → length ys ≤ 8 → aligned (in_groups xs) (in_groups ys) ≡ Some (slice_cmp nat_cmp xs ys)
two_short xs ys a b = rw (last xs a, last ys b) (last_groups 8 (length xs) (length ys) xs ys a b (omega arith))

fronts : (xs ys : List ℕ) → 8 < length xs → 8 < length ys → length (take 8 xs) ≡ length (take 8 ys)
fronts xs ys a b = omega (arith, length-take 8 xs, length-take 8 ys)

joined : (o p : Ordering) → partial_ordering_then (Some o) (Some p) ≡ Some (ordering_then o p)
joined Less p = refl
joined Equal p = refl
joined Greater p = refl

two_long : (xs ys : List ℕ) → 8 < length xs → 8 < length ys → aligned (in_groups (drop 8 xs)) (in_groups (drop 8 ys)) ≡ Some (slice_cmp nat_cmp (drop 8 xs) (drop 8 ys))
    → aligned (in_groups xs) (in_groups ys) ≡ Some (slice_cmp nat_cmp xs ys)
two_long xs ys a b rest =
    let front = slice_cmp nat_cmp (take 8 xs) (take 8 ys) in
    let whole : slice_cmp nat_cmp (take 8 xs ++ drop 8 xs) (take 8 ys ++ drop 8 ys) ≡ ordering_then front (slice_cmp nat_cmp (drop 8 xs) (drop 8 ys)) =
    slice_cmp-fronts (take 8 xs) (take 8 ys) (drop 8 xs) (drop 8 ys) (fronts xs ys a b) in
    let same : slice_cmp nat_cmp xs ys ≡ ordering_then front (slice_cmp nat_cmp (drop 8 xs) (drop 8 ys)) =
    sym (λ i. slice_cmp nat_cmp (take-append-drop 8 xs i) (take-append-drop 8 ys i)) ∙ whole in
    rw (in_groups-long xs a, in_groups-long ys b, same)
    (aligned-fronts (take 8 xs) (take 8 ys) (9 ∷ in_groups (drop 8 xs)) (9 ∷ in_groups (drop 8 ys)) (fronts xs ys a b)
    ∙ ap (partial_ordering_then (Some front)) rest ∙ joined front (slice_cmp nat_cmp (drop 8 xs) (drop 8 ys)))

short_and_long : (xs ys : List ℕ) → length xs ≤ 8 → 8 < length ys → aligned (in_groups xs) (in_groups ys) ≡ Some (slice_cmp nat_cmp xs ys)
short_and_long xs ys a b =
    aligned-flip (in_groups ys) (in_groups xs) ∙ ap (option_map ordering_reverse) (long_and_short ys xs b a) ∙ ap Some (sym (nat_list_cmp_total.antisymm xs ys))

within : (fuel : ℕ) (xs ys : List ℕ) → length xs ≤ fuel → aligned (in_groups xs) (in_groups ys) ≡ Some (slice_cmp nat_cmp xs ys)
within zero [] ys h = elim (cases_lt 8 (length ys)) [ inl b ↦ short_and_long [] ys (omega arith) b | inr b ↦ two_short [] ys (omega arith) b ]
within zero (x ∷ xs) ys h = absurd (omega arith)
within (suc fuel) xs ys h =
    elim (cases_lt 8 (length xs)) [
      | inl a ↦ elim (cases_lt 8 (length ys)) [
        | inl b ↦ two_long xs ys a b (within fuel (drop 8 xs) (drop 8 ys) (omega (arith, length-drop 8 xs)))
        | inr b ↦ long_and_short xs ys a b
      ]
      | inr a ↦ elim (cases_lt 8 (length ys)) [
        | inl b ↦ short_and_long xs ys a b
        | inr b ↦ two_short xs ys a b
      ]
    ]

pub aligned-in_groups : (xs ys : List ℕ) → aligned (in_groups xs) (in_groups ys) ≡ Some (slice_cmp nat_cmp xs ys)
aligned-in_groups xs ys = within (length xs) xs ys (omega arith)
