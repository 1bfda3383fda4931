-- The oldest held changes, given up one after the other.
use Rattle.std.proofs.Common.{◌≡◌, ℕ, zero, suc, ◌+◌, ◌-◌, ◌<◌, ◌≤◌, Bool, true, false, cond, List, [], ◌∷◌, length, Option, Some, None, refl, sym, ap, ◌∙◌, arith}
use Rattle.std.specs.Prelude.{drop, is_some, nat_lt}
use Rattle.std.proofs.lemmas.Bool.Decides.{nat_tests}
use Rattle.common_lemmas.proofs.Booleans.{impossible}
use Rattle.version_store.specs.HeldChanges.{is_kept_status}
use Rattle.laws_engine.specs.HeldRecords.{HeldRecord, from_oldest_kept}
use Rattle.stored_variants.specs.StoredVersions.{next_to_forget}
use Rattle.engine_core.specs.Cleans.{AreUnneeded}

pub drop_later : {X : Type 0} (n : ℕ) (xs : List X) → drop 1 (drop n xs) ≡ drop (suc n) xs
drop_later zero [] = refl
drop_later zero (x ∷ xs) = refl
drop_later (suc n) [] = refl
drop_later (suc n) (x ∷ xs) = drop_later n xs

pub one_more : (n : ℕ) → suc n ≡ n + 1
one_more n = omega arith

unneeded_first : (oldest : Option ℕ) (h : HeldRecord) (held : List HeldRecord) → is_some (next_to_forget oldest (h ∷ held)) ≡ true → is_kept_status oldest h.status ≡ false
unneeded_first oldest h held s = by (is_kept_status oldest h.status) s
  where
    by : (b : Bool) → is_some (cond b None (Some h.number)) ≡ true → b ≡ false
    by true s = impossible s
    by false s = refl

pub some_held : (oldest : Option ℕ) (held : List HeldRecord) → is_some (next_to_forget oldest held) ≡ true → 0 < length held
some_held oldest [] s = impossible s
some_held oldest (h ∷ held) s = above (length held)
  where
    above : (n : ℕ) → 0 < suc n
    above n = omega arith

pub fewer_held : (oldest : Option ℕ) (held : List HeldRecord) → is_some (next_to_forget oldest held) ≡ true → length (drop 1 held) < length held
fewer_held oldest [] s = impossible s
fewer_held oldest (h ∷ held) s = above (length held)
  where
    above : (n : ℕ) → n < suc n
    above n = omega arith

-- ---- so many

pub more_unneeded : (oldest : Option ℕ) (n : ℕ) (held : List HeldRecord) → AreUnneeded oldest n held → is_some (next_to_forget oldest (drop n held)) ≡ true → AreUnneeded oldest (suc n) held
more_unneeded oldest zero [] u s = impossible s
more_unneeded oldest zero (h ∷ held) u s = (unneeded_first oldest h held s, tt)
more_unneeded oldest (suc n) [] u s = impossible s
more_unneeded oldest (suc n) (h ∷ held) u s = (u.0, more_unneeded oldest n held u.1 s)

-- behind them begins what is needed
pub kept_is : (oldest : Option ℕ) (n : ℕ) (held : List HeldRecord) → AreUnneeded oldest n held → is_some (next_to_forget oldest (drop n held)) ≡ false → drop n held ≡ from_oldest_kept oldest held
kept_is oldest zero [] u s = refl
kept_is oldest zero (h ∷ held) u s = by (is_kept_status oldest h.status) s
  where
    by : (b : Bool) → is_some (cond b None (Some h.number)) ≡ false → h ∷ held ≡ cond b (h ∷ held) (from_oldest_kept oldest held)
    by true s = refl
    by false s = impossible (sym s)
kept_is oldest (suc n) [] u s = refl
kept_is oldest (suc n) (h ∷ held) u s = kept_is oldest n held u.1 s ∙ ap (λ b. cond b (h ∷ held) (from_oldest_kept oldest held)) (sym u.0)

-- ---- all

pub kept_later : (oldest : Option ℕ) (held : List HeldRecord) → is_some (next_to_forget oldest held) ≡ true → from_oldest_kept oldest (drop 1 held) ≡ from_oldest_kept oldest held
kept_later oldest [] s = impossible s
kept_later oldest (h ∷ held) s = ap (λ b. cond b (h ∷ held) (from_oldest_kept oldest held)) (sym (unneeded_first oldest h held s))

pub all_kept : (oldest : Option ℕ) (held : List HeldRecord) → is_some (next_to_forget oldest held) ≡ false → from_oldest_kept oldest held ≡ held
all_kept oldest held s = sym (kept_is oldest zero held tt s)

-- ---- counting them

pub none_yet : (n : ℕ) → 0 ≤ n
none_yet n = omega arith

pub minus_none : (n : ℕ) → n ≡ n - 0
minus_none n = omega arith

-- one more is within the most, and then fewer are left
pub one_within : (most count : ℕ) → nat_lt 0 (most - count) ≡ true → count + 1 ≤ most
one_within most count h = grind (arith, nat_tests)

pub fewer_left : (most count : ℕ) → nat_lt 0 (most - count) ≡ true → most - (count + 1) < most - count
fewer_left most count h = grind (arith, nat_tests)

pub some_left : (most count : ℕ) → count < most → nat_lt 0 (most - count) ≡ true
some_left most count h = grind (arith, nat_tests)
