-- Lists that a loop goes through.
use Rattle.std.proofs.Common.{◌≡◌, ℕ, zero, suc, ◌<◌, ◌≤◌, Bool, true, false, List, [], ◌∷◌, ◌++◌, get_or, length, map, take, refl, sym, ap, ◌∙◌, arith, append_assoc}
use Rattle.std.specs.Prelude.{◌&&◌, drop, filter, nat_lt, if◌then◌else◌}
use Rattle.std.specs.List.{flat_map}
use Rattle.std.proofs.lemmas.Bool.Decides.{nat_tests}
use Rattle.std.proofs.lemmas.List.{append-nil}
use Rattle.catalog_grammar.specs.Catalogs.{rise_above}

pub map_both : {X Y : Type 0} (f : X → Y) (xs ys : List X) → map f (xs ++ ys) ≡ map f xs ++ map f ys
map_both f [] ys = refl
map_both f (x ∷ xs) ys = ap (λ l. f x ∷ l) (map_both f xs ys)

-- one more
pub take_next : {X : Type 0} (xs : List X) (i : ℕ) (x : X) → i < length xs → x ≡ get_or xs i x → take (suc i) xs ≡ take i xs ++ x ∷ []
take_next [] i x within is = absurd (omega (arith, within))
take_next (y ∷ xs) zero x within is = ap (λ z. z ∷ []) (sym is)
take_next (y ∷ xs) (suc i) x within is = ap (λ l. y ∷ l) (take_next xs i x (omega (arith, within)) is)

pub flat_next : {X Y : Type 0} (f : X → List Y) (xs : List X) (i : ℕ) (x : X) → i < length xs → x ≡ get_or xs i x → flat_map f (take (suc i) xs) ≡ flat_map f (take i xs) ++ f x
flat_next f [] i x within is = absurd (omega (arith, within))
flat_next f (y ∷ xs) zero x within is = append-nil (f y) ∙ ap f (sym is)
flat_next f (y ∷ xs) (suc i) x within is = ap (λ l. f y ++ l) (flat_next f xs i x (omega (arith, within)) is) ∙ sym (append_assoc (f y) (flat_map f (take i xs)) (f x))

pub map_next : {X Y : Type 0} (f : X → Y) (xs : List X) (i : ℕ) (x : X) → i < length xs → x ≡ get_or xs i x → map f (take (suc i) xs) ≡ map f (take i xs) ++ f x ∷ []
map_next f xs i x within is = ap (map f) (take_next xs i x within is) ∙ map_both f (take i xs) (x ∷ [])

pub map_flat_next : {X Y Z : Type 0} (g : Y → Z) (f : X → List Y) (xs : List X) (i : ℕ) (x : X) → i < length xs → x ≡ get_or xs i x → map g (flat_map f (take (suc i) xs)) ≡ map g (flat_map f (take i xs)) ++ map g (f x)
map_flat_next g f xs i x within is = ap (map g) (flat_next f xs i x within is) ∙ map_both g (flat_map f (take i xs)) (f x)

pub map_map : {X Y Z : Type 0} (g : Y → Z) (f : X → Y) (xs : List X) → map (λ x. g (f x)) xs ≡ map g (map f xs)
map_map g f [] = refl
map_map g f (x ∷ xs) = ap (λ l. g (f x) ∷ l) (map_map g f xs)

pub drop_next : {X : Type 0} (xs : List X) (i : ℕ) (x : X) → i < length xs → x ≡ get_or xs i x → drop i xs ≡ x ∷ drop (suc i) xs
drop_next [] i x within is = absurd (omega (arith, within))
drop_next (y ∷ xs) zero x within is = ap (λ z. z ∷ xs) (sym is)
drop_next (y ∷ xs) (suc i) x within is = drop_next xs i x (omega (arith, within)) is

-- ---- numbers that rise

pub rise_next : {X : Type 0} (number : X → ℕ) (low : ℕ) (xs : List X) (i : ℕ) (x : X) → i < length xs → x ≡ get_or xs i x → low < number x → rise_above low (map number (drop i xs)) ≡ rise_above (number x) (map number (drop (suc i) xs))
rise_next number low xs i x within is lt =
    ap (λ l. rise_above low (map number l)) (drop_next xs i x within is) ∙ ap (λ b. b && rise_above (number x) (map number (drop (suc i) xs))) (lower low (number x) lt)
  where
    lower : (m n : ℕ) → m < n → nat_lt m n ≡ true
    lower m n lt = grind (arith, nat_tests, lt)

pub rise_stops : {X : Type 0} (number : X → ℕ) (low : ℕ) (xs : List X) (i : ℕ) (x : X) → i < length xs → x ≡ get_or xs i x → number x ≤ low → rise_above low (map number (drop i xs)) ≡ false
rise_stops number low xs i x within is ge =
    ap (λ l. rise_above low (map number l)) (drop_next xs i x within is) ∙ ap (λ b. b && rise_above (number x) (map number (drop (suc i) xs))) (not_lower low (number x) ge)
  where
    not_lower : (m n : ℕ) → n ≤ m → nat_lt m n ≡ false
    not_lower m n ge = grind (arith, nat_tests, ge)

pub rise_ends : {X : Type 0} (number : X → ℕ) (low : ℕ) (xs : List X) (i : ℕ) → length xs ≤ i → rise_above low (map number (drop i xs)) ≡ true
rise_ends number low [] zero h = refl
rise_ends number low [] (suc i) h = refl
rise_ends number low (x ∷ xs) zero h = absurd (omega (arith, h))
rise_ends number low (x ∷ xs) (suc i) h = rise_ends number low xs i (omega (arith, h))

-- ---- those that pass a test

pub filter_next : {X Y : Type 0} (f : X → Y) (p : X → Bool) (xs : List X) (i : ℕ) (x : X) → i < length xs → x ≡ get_or xs i x → map f (filter p (take (suc i) xs)) ≡ map f (filter p (take i xs)) ++ (if p x then f x ∷ [] else [])
filter_next {X = X} {Y = Y} f p xs i x within is = ap (λ l. map f (filter p l)) (take_next xs i x within is) ∙ behind (take i xs)
  where
    one : (b : Bool) → map f (if b then x ∷ [] else []) ≡ (if b then f x ∷ [] else [])
    one true = refl
    one false = refl

    put : (b : Bool) (y : X) (l : List X) (r : List Y) → map f l ≡ r → map f (if b then y ∷ l else l) ≡ (if b then f y ∷ r else r)
    put true y l r e = ap (λ z. f y ∷ z) e
    put false y l r e = e

    later : (b : Bool) (y : X) (l : List X) (r : List Y) → (if b then f y ∷ (map f l ++ r) else (map f l ++ r)) ≡ map f (if b then y ∷ l else l) ++ r
    later true y l r = refl
    later false y l r = refl

    behind : (l : List X) → map f (filter p (l ++ x ∷ [])) ≡ map f (filter p l) ++ (if p x then f x ∷ [] else [])
    behind [] = one (p x)
    behind (y ∷ l) = put (p y) y (filter p (l ++ x ∷ [])) (map f (filter p l) ++ (if p x then f x ∷ [] else [])) (behind l) ∙ later (p y) y (filter p l) (if p x then f x ∷ [] else [])
