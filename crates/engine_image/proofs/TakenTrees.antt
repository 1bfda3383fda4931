-- The first of some elements that passes, and what is left without it.
use Rattle.std.proofs.Common.{◌≡◌, ◌<◌, ◌+◌, ℕ, suc, Bool, true, false, List, [], ◌∷◌, ◌++◌, length, get_or, take, drop, cond, Some, None, refl, sym, ap, ◌∙◌, arith}
use Rattle.std.specs.Prelude.{find, remove, slice_index_or}
use Rattle.std.specs.List.{position_from}
use Rattle.common_lemmas.proofs.Options.{none_some, same_some, some_apart}
use Rattle.image_opening.specs.declared.opened.OpenedIndex.{OpenedIndex}
use Rattle.engine_image.specs.MadeTables.{IsTaken, has_number}

record IsFirst {X : Type 0} (p : X → Bool) (xs : List X) (n : ℕ) : Type 0 where
  x : X
  lt : n < length xs
  found : find p xs ≡ Some x
  read : (d : X) → get_or xs n d ≡ x
  parted : xs ≡ take n xs ++ x ∷ drop (suc n) xs

record IsPlace {X : Type 0} (p : X → Bool) (xs : List X) (base k : ℕ) : Type 0 where
  n : ℕ
  is : k ≡ base + n
  first : IsFirst p xs n

first_at : {X : Type 0} (p : X → Bool) (xs : List X) (base k : ℕ) → position_from p base xs ≡ Some k → IsPlace p xs base k
first_at p [] base k e = none_some k e
first_at {X} p (x ∷ xs) base k e = by (p x) refl (λ h. first_at p xs (base + 1) k h) e
  where
    by : (b : Bool) → p x ≡ b → (position_from p (base + 1) xs ≡ Some k → IsPlace p xs (base + 1) k) → cond b (Some base) (position_from p (base + 1) xs) ≡ Some k → IsPlace p (x ∷ xs) base k
    by true t behind e =
        let same : base ≡ k = same_some base k e in
        record { n = 0; is = omega (arith, same); first = record { x = x; lt = omega arith; found = ap (λ (b : Bool). cond b (Some x) (find p xs)) t; read = λ d. refl; parted = refl } }
    by false t behind e =
        let rest : IsPlace p xs (base + 1) k = behind e in
        record {
          n = suc rest.n;
          is = omega (arith, rest.is);
          first = record {
            x = rest.first.x;
            lt = omega (arith, rest.first.lt);
            found = ap (λ (b : Bool). cond b (Some x) (find p xs)) t ∙ rest.first.found;
            read = rest.first.read;
            parted = ap (λ (l : List X). x ∷ l) rest.first.parted;
          };
        }

pub within : {X : Type 0} (p : X → Bool) (xs : List X) (k : ℕ) → position_from p 0 xs ≡ Some k → k < length xs
within p xs k e = let f = first_at p xs 0 k e in omega (arith, f.is, f.first.lt)

pub not_there : {X : Type 0} (p : X → Bool) (xs : List X) (base : ℕ) → position_from p base xs ≡ None → find p xs ≡ None
not_there p [] base e = refl
not_there p (x ∷ xs) base e = by (p x) refl (λ h. not_there p xs (base + 1) h) e
  where
    by : (b : Bool) → p x ≡ b → (position_from p (base + 1) xs ≡ None → find p xs ≡ None) → cond b (Some base) (position_from p (base + 1) xs) ≡ None → find p (x ∷ xs) ≡ None
    by true t behind e = absurd (some_apart base e)
    by false t behind e = ap (λ (b : Bool). cond b (Some x) (find p xs)) t ∙ behind e

pub taken : (index : ℕ) (old new : List OpenedIndex) (k : ℕ) (y : OpenedIndex) → position_from (has_number index) 0 old ≡ Some k → y ≡ slice_index_or old k y → new ≡ remove old k → IsTaken index old y.tree new
taken index old new k y e value items =
    let f = first_at (has_number index) old 0 k e in
    let same : k ≡ f.n = omega (arith, f.is) in
    let is : y ≡ f.first.x = value ∙ ap (λ (m : ℕ). slice_index_or old m y) same ∙ f.first.read y in
    record {
      x = f.first.x;
      front = take f.n old;
      back = drop (suc f.n) old;
      old_is = f.first.parted;
      new_is = items ∙ ap (λ (m : ℕ). remove old m) same;
      found = f.first.found;
      tree_is = ap (λ (o : OpenedIndex). o.tree) (sym is);
    }
