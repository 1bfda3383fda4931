-- Tests that hold together, one or the other, or not at all.
use Rattle.std.proofs.Common.{◌≡◌, Bool, true, false, ◌&&◌, ◌||◌, T, refl, sym, true≢false}

pub impossible : {A : Type 0} → false ≡ true → A
impossible e = absurd (true≢false (sym e))

pub by_test : {P : Type 0} (b : Bool) → (b ≡ true → P) → (b ≡ false → P) → P
by_test true f g = f refl
by_test false f g = g refl

-- two tests that tell the same
pub same_tests : (a b : Bool) → (a ≡ true → b ≡ true) → (b ≡ true → a ≡ true) → a ≡ b
same_tests true b f g = sym (f refl)
same_tests false true f g = g refl
same_tests false false f g = refl

-- ---- both

pub and_left : (a b : Bool) → (a && b) ≡ true → a ≡ true
and_left true b h = refl
and_left false b h = h

pub and_right : (a b : Bool) → (a && b) ≡ true → b ≡ true
and_right true b h = h
and_right false b h = impossible h

pub and_false : (a : Bool) → (a && false) ≡ false
and_false true = refl
and_false false = refl

-- ---- one or the other

pub or_false : (a : Bool) → (a || false) ≡ a
or_false true = refl
or_false false = refl

pub or_swap : (a b c : Bool) → (a || (b || c)) ≡ (b || (a || c))
or_swap true true c = refl
or_swap true false c = refl
or_swap false b c = refl

-- ---- tests as facts

pub is_true : (b : Bool) → T b → b ≡ true
is_true true t = refl
is_true false t = absurd t

pub T_first : (a b : Bool) → T (a && b) → T a
T_first true b t = tt
T_first false b t = absurd t

pub T_second : (a b : Bool) → T (a && b) → T b
T_second true b t = t
T_second false b t = absurd t
