-- Ranges that are read in turns: one of them changes, or is taken out.
use Rattle.std.proofs.Common.{◌≡◌, ℕ, zero, suc, ◌+◌, ◌<◌, ◌==◌, true≢false, Bool, true, false, ◌&&◌, List, [], ◌∷◌, ◌++◌, length, get_or, set, take, Ok, Err, refl, sym, ap, ◌∙◌, arith}
use Rattle.std.specs.Prelude.{Result, IfOk, remove, sum_by}
use Rattle.std.specs.List.{list_all}
use Rattle.std.proofs.lemmas.Bool.{eqb-true}
use Rattle.std.proofs.lemmas.List.{take_more}
use Rattle.common_lemmas.proofs.Edits.{sum-set}
use Rattle.std.proofs.Math.Seq.{take-length}

and_turned : (a b c : Bool) → (a && (b && c)) ≡ (b && (a && c))
and_turned true true c = refl
and_turned true false c = refl
and_turned false true c = refl
and_turned false false c = refl

-- one that is told as before
pub all_set : {X : Type 0} (p : X → Bool) (xs : List X) (i : ℕ) (y d : X) → i < length xs → p y ≡ p (get_or xs i d) → list_all p (set xs i y) ≡ list_all p xs
all_set p [] i y d h e = refl
all_set p (x ∷ xs) zero y d h e = ap (λ b. b && list_all p xs) e
all_set p (x ∷ xs) (suc i) y d h e = ap (λ b. p x && b) (all_set p xs i y d (omega (arith, h)) e)

-- one that is taken out, told in another way
pub all_removed : {X : Type 0} (p : X → Bool) (xs : List X) (i : ℕ) (y d : X) (b : Bool) → i < length xs → b ≡ p (get_or xs i d) → (b && list_all p (remove (set xs i y) i)) ≡ list_all p xs
all_removed p [] i y d b h e = absurd (omega (arith, h))
all_removed p (x ∷ xs) zero y d b h e = ap (λ t. t && list_all p xs) e
all_removed p (x ∷ xs) (suc i) y d b h e =
    and_turned b (p x) (list_all p (remove (set xs i y) i))
    ∙ ap (λ t. p x && t) (all_removed p xs i y d b (omega (arith, h)) e)

-- the last one
pub all_last : {X : Type 0} (p : X → Bool) (xs : List X) (x : X) → list_all p (xs ++ x ∷ []) ≡ (p x && list_all p xs)
all_last p [] x = refl
all_last p (y ∷ ys) x = ap (λ b. p y && b) (all_last p ys x) ∙ and_turned (p y) (p x) (list_all p ys)

and_joined : (a b c : Bool) → ((a && b) && c) ≡ (a && (b && c))
and_joined true b c = refl
and_joined false b c = refl

-- ---- ranges in turns

-- one range more is there
pub one_more : {X Y : Type 0} (p : X → Bool) (q : Y → Bool) (xs new : List X) (x : X) (ys : List Y) (i : ℕ) (d : Y) → i < length ys → new ≡ xs ++ x ∷ [] → p x ≡ q (get_or ys i d)
    → list_all p xs ≡ list_all q (take i ys) → list_all p new ≡ list_all q (take (i + 1) ys)
one_more p q xs new x ys i d h e here before =
    ap (list_all p) e
    ∙ all_last p xs x
    ∙ (λ j. here j && before j)
    ∙ sym (ap (list_all q) (take_more ys i d h) ∙ all_last q (take i ys) (get_or ys i d))

-- one range less is to come, and what was found is what it has of what was found before
pub one_less : {X : Type 0} (p : X → Bool) (old new : List X) (x : X) (before found : Bool) → old ≡ new ++ x ∷ [] → found ≡ (before && p x) → (found && list_all p new) ≡ (before && list_all p old)
one_less p old new x before found e f =
    ap (λ t. t && list_all p new) f
    ∙ and_joined before (p x) (list_all p new)
    ∙ ap (λ t. before && t) (sym (ap (list_all p) e ∙ all_last p new x))

pub none_left : {X : Type 0} (p : X → Bool) (xs : List X) (found : Bool) → length xs ≡ 0 → found ≡ (found && list_all p xs)
none_left p [] true e = refl
none_left p [] false e = refl
none_left p (x ∷ xs) found e = absurd (omega (arith, e))

-- fewer entries are to be read
pub fewer_left : {X : Type 0} (f : X → ℕ) (xs : List X) (i : ℕ) (y d : X) → i < length xs → suc (f y) ≡ f (get_or xs i d) → sum_by f (set xs i y) < sum_by f xs
fewer_left f xs i y d h e = let s : sum_by f (set xs i y) + f (get_or xs i d) ≡ sum_by f xs + f y = sum-set f xs i y d h in omega (arith, s, e)

-- what holds of an answer, where it is one
pub if_ok : {A E : Type 0} (r : Result A E) (P Q : A → Type 0) → ((x : A) → P x → Q x) → IfOk r P → IfOk r Q
if_ok (Ok x) P Q f h = f x h
if_ok (Err e) P Q f h = tt

-- ---- a list that is taken from another

joined : {X : Type 0} (xs : List X) (x : X) (left : List X) → (xs ++ x ∷ []) ++ left ≡ xs ++ x ∷ left
joined [] x left = refl
joined (y ∷ ys) x left = ap (λ zs. y ∷ zs) (joined ys x left)

pub one_taken : {X : Type 0} (xs new left after all : List X) (x : X) → xs ++ left ≡ all → left ≡ x ∷ after → new ≡ xs ++ x ∷ [] → new ++ after ≡ all
one_taken xs new left after all x h e n = ap (λ ys. ys ++ after) n ∙ joined xs x after ∙ ap (λ ys. xs ++ ys) (sym e) ∙ h

with_none : {X : Type 0} (xs : List X) → xs ++ [] ≡ xs
with_none [] = refl
with_none (x ∷ xs) = ap (λ ys. x ∷ ys) (with_none xs)

pub all_taken : {X : Type 0} (xs left all : List X) → xs ++ left ≡ all → left ≡ [] → xs ≡ all
all_taken xs left all h e = sym (ap (λ ys. xs ++ ys) e ∙ with_none xs) ∙ h

pub whole : {X : Type 0} (xs : List X) (i : ℕ) → i ≡ length xs → take i xs ≡ xs
whole xs i e = ap (λ n. take n xs) e ∙ take-length xs

-- ---- whether there is a range

pub empty : (n : ℕ) (b : Bool) → b ≡ (n == 0) → b ≡ true → n ≡ 0
empty n b e f = eqb-true n 0 (sym e ∙ f)

pub some : (n : ℕ) (b : Bool) → b ≡ (n == 0) → b ≡ false → 0 < n
some zero b e f = absurd (true≢false (sym e ∙ f))
some (suc n) b e f = omega arith
