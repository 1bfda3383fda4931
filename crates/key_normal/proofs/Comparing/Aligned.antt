-- Two byte strings that differ at a place which both have, or are equal: what follows them plays no part in the first case.
use Rattle.std.proofs.Common.{◌≡◌, ℕ, ◌-◌, ◌<◌, List, [], ◌∷◌, ◌++◌, length, map, Option, Some, None, refl, sym, ap, ◌∙◌, arith}
use Rattle.std.specs.declared.cmp.Ordering.{Ordering}
use Rattle.std.specs.declared.cmp.Ordering.TheVariants.{Less, Equal, Greater}
use Rattle.std.specs.Ordering.{nat_cmp, ordering_then, ordering_reverse, partial_ordering_then, MatchOrdering}
use Rattle.std.specs.Option.{option_map}
use Rattle.std.specs.Cmp.{nat_cmp_is, ranked, nat_cmp_total}
use Rattle.std.specs.Cmp.Lexicographic.{slice_cmp}

-- the first difference decides; one that goes on where the other ends leaves it open
abbrev pub aligned : List ℕ → List ℕ → Option Ordering
aligned [] [] = Some Equal
aligned [] (y ∷ ys) = None
aligned (x ∷ xs) [] = None
aligned (x ∷ xs) (y ∷ ys) = partial_ordering_then (Some (nat_cmp x y)) (aligned xs ys)

-- ---- comparisons of numbers

pub cmp_less : (x y : ℕ) → x < y → nat_cmp x y ≡ Less
cmp_less x y h = sym (nat_cmp_is x y Less h)

pub cmp_equal : (x y : ℕ) → x ≡ y → nat_cmp x y ≡ Equal
cmp_equal x y h = sym (nat_cmp_is x y Equal h)

pub cmp_greater : (x y : ℕ) → y < x → nat_cmp x y ≡ Greater
cmp_greater x y h = sym (nat_cmp_is x y Greater h)

-- a comparison that follows another
pub cmp_same : (x y a b : ℕ) → (x < y → a < b) → (x ≡ y → a ≡ b) → (y < x → b < a) → nat_cmp a b ≡ nat_cmp x y
cmp_same x y a b less equal greater = sym (nat_cmp_is a b (nat_cmp x y)
    (elim (nat_cmp x y) as (λ o. MatchOrdering o (x < y) (x ≡ y) (y < x) → MatchOrdering o (a < b) (a ≡ b) (b < a)) [ Less ↦ less | Equal ↦ equal | Greater ↦ greater ] (ranked x y (nat_cmp x y) refl)))

-- ---- what follows two aligned strings

inside : (p q : Ordering) → Some p ≡ Some q → p ≡ q
inside p q e = cc

pub slice_cmp-aligned : (xs ys r s : List ℕ) (o : Ordering) → aligned xs ys ≡ Some o → slice_cmp nat_cmp (xs ++ r) (ys ++ s) ≡ ordering_then o (slice_cmp nat_cmp r s)
slice_cmp-aligned [] [] r s o e = ap (λ p. ordering_then p (slice_cmp nat_cmp r s)) (inside Equal o e)
slice_cmp-aligned [] (y ∷ ys) r s o e = absurd cc
slice_cmp-aligned (x ∷ xs) [] r s o e = absurd cc
slice_cmp-aligned (x ∷ xs) (y ∷ ys) r s o e =
    elim (nat_cmp x y) as (λ q. partial_ordering_then (Some q) (aligned xs ys) ≡ Some o → ordering_then q (slice_cmp nat_cmp (xs ++ r) (ys ++ s)) ≡ ordering_then o (slice_cmp nat_cmp r s)) [
      | Less ↦ λ e. ap (λ p. ordering_then p (slice_cmp nat_cmp r s)) (inside Less o e)
      | Equal ↦ λ e. slice_cmp-aligned xs ys r s o e
      | Greater ↦ λ e. ap (λ p. ordering_then p (slice_cmp nat_cmp r s)) (inside Greater o e)
    ] e

pub aligned-append : (xs ys r s : List ℕ) (o : Ordering) → aligned xs ys ≡ Some o → aligned (xs ++ r) (ys ++ s) ≡ partial_ordering_then (Some o) (aligned r s)
aligned-append [] [] r s o e = ap (λ p. partial_ordering_then (Some p) (aligned r s)) (inside Equal o e)
aligned-append [] (y ∷ ys) r s o e = absurd cc
aligned-append (x ∷ xs) [] r s o e = absurd cc
aligned-append (x ∷ xs) (y ∷ ys) r s o e =
    elim (nat_cmp x y) as (λ q. partial_ordering_then (Some q) (aligned xs ys) ≡ Some o → partial_ordering_then (Some q) (aligned (xs ++ r) (ys ++ s)) ≡ partial_ordering_then (Some o) (aligned r s)) [
      | Less ↦ λ e. ap (λ p. partial_ordering_then (Some p) (aligned r s)) (inside Less o e)
      | Equal ↦ λ e. aligned-append xs ys r s o e
      | Greater ↦ λ e. ap (λ p. partial_ordering_then (Some p) (aligned r s)) (inside Greater o e)
    ] e

-- a string and one that it begins leave it open
pub aligned-longer : (xs ys : List ℕ) (y : ℕ) → aligned xs (xs ++ y ∷ ys) ≡ None
aligned-longer [] ys y = refl
aligned-longer (x ∷ xs) ys y = rw (cmp_equal x x refl) (aligned-longer xs ys y)

-- strings of one length
pub aligned-long : (xs ys : List ℕ) → length xs ≡ length ys → aligned xs ys ≡ Some (slice_cmp nat_cmp xs ys)
aligned-long [] [] e = refl
aligned-long [] (y ∷ ys) e = absurd (omega arith)
aligned-long (x ∷ xs) [] e = absurd (omega arith)
aligned-long (x ∷ xs) (y ∷ ys) e =
    let rest : aligned xs ys ≡ Some (slice_cmp nat_cmp xs ys) = aligned-long xs ys (omega arith) in
    elim (nat_cmp x y) as (λ q. partial_ordering_then (Some q) (aligned xs ys) ≡ Some (ordering_then q (slice_cmp nat_cmp xs ys))) [ Less ↦ refl | Equal ↦ rest | Greater ↦ refl ]

-- fronts of one length decide first
pub aligned-fronts : (xs ys r s : List ℕ) → length xs ≡ length ys → aligned (xs ++ r) (ys ++ s) ≡ partial_ordering_then (Some (slice_cmp nat_cmp xs ys)) (aligned r s)
aligned-fronts [] [] r s e = refl
aligned-fronts [] (y ∷ ys) r s e = absurd (omega arith)
aligned-fronts (x ∷ xs) [] r s e = absurd (omega arith)
aligned-fronts (x ∷ xs) (y ∷ ys) r s e =
    let rest : aligned (xs ++ r) (ys ++ s) ≡ partial_ordering_then (Some (slice_cmp nat_cmp xs ys)) (aligned r s) = aligned-fronts xs ys r s (omega arith) in
    elim (nat_cmp x y) as (λ q. partial_ordering_then (Some q) (aligned (xs ++ r) (ys ++ s)) ≡ partial_ordering_then (Some (ordering_then q (slice_cmp nat_cmp xs ys))) (aligned r s)) [ Less ↦ refl | Equal ↦ rest | Greater ↦ refl ]

pub slice_cmp-fronts : (xs ys r s : List ℕ) → length xs ≡ length ys → slice_cmp nat_cmp (xs ++ r) (ys ++ s) ≡ ordering_then (slice_cmp nat_cmp xs ys) (slice_cmp nat_cmp r s)
slice_cmp-fronts xs ys r s e = slice_cmp-aligned xs ys r s (slice_cmp nat_cmp xs ys) (aligned-long xs ys e)

-- the other way round
pub aligned-flip : (xs ys : List ℕ) → aligned ys xs ≡ option_map ordering_reverse (aligned xs ys)
aligned-flip [] [] = refl
aligned-flip [] (y ∷ ys) = refl
aligned-flip (x ∷ xs) [] = refl
aligned-flip (x ∷ xs) (y ∷ ys) =
    let rest = aligned-flip xs ys in
    rw (nat_cmp_total.antisymm y x) (
    elim (nat_cmp x y) as (λ q. partial_ordering_then (Some (ordering_reverse q)) (aligned ys xs) ≡ option_map ordering_reverse (partial_ordering_then (Some q) (aligned xs ys))) [ Less ↦ refl | Equal ↦ rest | Greater ↦ refl ])

-- ---- bytes with their bits turned

abbrev pub turned : List ℕ → List ℕ
turned xs = map (λ byte. 255 - byte) xs

cmp-turned : (x y : ℕ) → x < 256 → y < 256 → nat_cmp (255 - x) (255 - y) ≡ ordering_reverse (nat_cmp x y)
cmp-turned x y a b = cmp_same y x (255 - x) (255 - y) (λ h. omega arith) (λ h. omega arith) (λ h. omega arith) ∙ nat_cmp_total.antisymm y x

-- every element is a byte
abbrev pub AreBytes : List ℕ → Type 0
AreBytes [] = Unit {0}
AreBytes (x ∷ xs) = (x < 256) × AreBytes xs

pub aligned-turned : (xs ys : List ℕ) → AreBytes xs → AreBytes ys → aligned (turned xs) (turned ys) ≡ option_map ordering_reverse (aligned xs ys)
aligned-turned [] [] p q = refl
aligned-turned [] (y ∷ ys) p q = refl
aligned-turned (x ∷ xs) [] p q = refl
aligned-turned (x ∷ xs) (y ∷ ys) p q =
    let rest = aligned-turned xs ys p.1 q.1 in
    rw (cmp-turned x y p.0 q.0) (
    elim (nat_cmp x y) as (λ o. partial_ordering_then (Some (ordering_reverse o)) (aligned (turned xs) (turned ys)) ≡ option_map ordering_reverse (partial_ordering_then (Some o) (aligned xs ys))) [ Less ↦ refl | Equal ↦ rest | Greater ↦ refl ])
