-- What is read was written, and what was written is read again.
use Rattle.std.proofs.Common.{◌≡◌, ℕ, zero, suc, ◌+◌, ◌^◌, ◌≤◌, Bool, true, false, cond, ltb, eqb, ◌&&◌, List, [], ◌∷◌, ◌++◌, length, take, drop, Option, Some, None, refl, sym, ap, subst, ◌∙◌, append_assoc, arith}
use Rattle.std.specs.Int.{Width, w16, w32, to_le_bytes}
use Rattle.std.specs.List.{flat_map, list_all}
use Rattle.std.proofs.lemmas.Bool.{ltb-true, ltb-false, le-ltb, lt-ltb, and_parts, and_from, eqb-true, eq-eqb}
use Rattle.std.proofs.lemmas.List.{take_at, drop_at, take-append-drop, length-append, length-take}
use Rattle.std.proofs.lemmas.List.Concat.{flat_map-cons}
use Rattle.column_set.specs.NumberReading.{◌>>=◌, number_at, IsBytes, IsBytes-drop, bind_some, guard_some, passed_some, some_is, Takes, Takes-then, IsWide, wide16, wide32, number_takes, number_again}
use Rattle.log_grammar.specs.EntryReading.{both, changed, tested, many_at, byte_at, bytes_at}

-- the two laws of a reader, of what is written, and of which values are
pub record Laws {A : Type 0} (write : A → List ℕ) (fits : A → Bool) (read : List ℕ → Option (A × List ℕ)) : Type 0 where
  pub again : (x : A) (rest : List ℕ) → fits x ≡ true → read (write x ++ rest) ≡ Some (x, rest)
  pub takes : (bytes : List ℕ) (x : A × List ℕ) → IsBytes bytes → read bytes ≡ Some x → Takes bytes (write x.0) x.1 × (fits x.0 ≡ true)

-- ---- one behind the other

pub both_laws : {A B : Type 0} (wa : A → List ℕ) (fa : A → Bool) (ra : List ℕ → Option (A × List ℕ)) (wb : A → B → List ℕ) (fb : A → B → Bool) (rb : A → List ℕ → Option (B × List ℕ))
    → Laws wa fa ra → ((a : A) → Laws (wb a) (fb a) (rb a)) → Laws (λ (p : A × B). wa p.0 ++ wb p.0 p.1) (λ p. fa p.0 && fb p.0 p.1) (both ra rb)
both_laws {A = A} {B = B} wa fa ra wb fb rb la lb = record {
  again = λ x rest h.
      let p = and_parts (fa x.0) (fb x.0 x.1) h in
      let first = la.again x.0 (wb x.0 x.1 ++ rest) p.0 in
      let second = (lb x.0).again x.1 rest p.1 in
      ap (both ra rb) (append_assoc (wa x.0) (wb x.0 x.1) rest)
      ∙ ap (λ (o : Option (A × List ℕ)). o >>= λ a. rb a.0 a.1 >>= λ b. Some ((a.0, b.0), b.1)) first
      ∙ ap (λ (o : Option (B × List ℕ)). o >>= λ b. Some ((x.0, b.0), b.1)) second;
  takes = λ bytes x fits e.
      let a = bind_some (ra bytes) (λ a. rb a.0 a.1 >>= λ b. Some ((a.0, b.0), b.1)) x e in
      let b = bind_some (rb a.0.0 a.0.1) (λ b. Some ((a.0.0, b.0), b.1)) x a.2 in
      let first = la.takes bytes a.0 fits a.1 in
      let second = (lb a.0.0).takes a.0.1 b.0 first.0.rest_fits b.1 in
      let made : Takes bytes (wa a.0.0 ++ wb a.0.0 b.0.0) b.0.1 × ((fa a.0.0 && fb a.0.0 b.0.0) ≡ true) =
      (Takes-then bytes (wa a.0.0) a.0.1 (wb a.0.0 b.0.0) b.0.1 first.0 second.0, and_from (fa a.0.0) (fb a.0.0 b.0.0) first.1 second.1) in
      subst (λ (y : (A × B) × List ℕ). Takes bytes (wa y.0.0 ++ wb y.0.0 y.0.1) y.1 × ((fa y.0.0 && fb y.0.0 y.0.1) ≡ true)) (some_is ((a.0.0, b.0.0), b.0.1) x b.2) made;
}

-- ---- with another value made of what was read

-- how a value is made of another that is written alike, and back
pub record Remade {A B : Type 0} (wa : A → List ℕ) (fa : A → Bool) (wb : B → List ℕ) (fb : B → Bool) (to : A → B) (from : B → A) : Type 0 where
  pub back : (y : B) → fb y ≡ true → to (from y) ≡ y
  pub back_fits : (y : B) → fb y ≡ true → fa (from y) ≡ true
  pub back_writes : (y : B) → fb y ≡ true → wb y ≡ wa (from y)
  pub writes : (x : A) → fa x ≡ true → wb (to x) ≡ wa x
  pub fits : (x : A) → fa x ≡ true → fb (to x) ≡ true

pub changed_laws : {A B : Type 0} (wa : A → List ℕ) (fa : A → Bool) (ra : List ℕ → Option (A × List ℕ)) (wb : B → List ℕ) (fb : B → Bool) (to : A → B) (from : B → A)
    → Laws wa fa ra → Remade wa fa wb fb to from → Laws wb fb (changed to ra)
changed_laws {A = A} {B = B} wa fa ra wb fb to from la m = record {
  again = λ y rest h.
      ap (λ (bytes : List ℕ). changed to ra (bytes ++ rest)) (m.back_writes y h)
      ∙ ap (λ (o : Option (A × List ℕ)). o >>= λ a. Some (to a.0, a.1)) (la.again (from y) rest (m.back_fits y h))
      ∙ ap (λ (b : B). Some (b, rest)) (m.back y h);
  takes = λ bytes x fits e.
      let a = bind_some (ra bytes) (λ a. Some (to a.0, a.1)) x e in
      let t = la.takes bytes a.0 fits a.1 in
      let made : Takes bytes (wb (to a.0.0)) a.0.1 × (fb (to a.0.0) ≡ true) = (subst (λ (w : List ℕ). Takes bytes w a.0.1) (sym (m.writes a.0.0 t.1)) t.0, m.fits a.0.0 t.1) in
      subst (λ (y : B × List ℕ). Takes bytes (wb y.0) y.1 × (fb y.0 ≡ true)) (some_is (to a.0.0, a.0.1) x a.2) made;
}

-- ---- only what passes

pub tested_laws : {A : Type 0} (test : A → Bool) (wa : A → List ℕ) (fa : A → Bool) (ra : List ℕ → Option (A × List ℕ)) → Laws wa fa ra → Laws wa (λ x. fa x && test x) (tested test ra)
tested_laws {A = A} test wa fa ra la = record {
  again = λ x rest h.
      let p = and_parts (fa x) (test x) h in
      ap (λ (o : Option (A × List ℕ)). o >>= λ a. cond (test a.0) (Some a) None) (la.again x rest p.0)
      ∙ ap (λ (b : Bool). cond b (Some (x, rest)) None) p.1;
  takes = λ bytes x fits e.
      let a = bind_some (ra bytes) (λ a. cond (test a.0) (Some a) None) x e in
      let p = passed_some (test a.0.0) (Some a.0) x a.2 in
      let t = la.takes bytes a.0 fits a.1 in
      subst (λ (y : A × List ℕ). Takes bytes (wa y.0) y.1 × ((fa y.0 && test y.0) ≡ true)) (some_is a.0 x p.1) (t.0, and_from (fa a.0.0) (test a.0.0) t.1 p.0);
}

-- ---- so many

pub many_laws : {A : Type 0} (wa : A → List ℕ) (fa : A → Bool) (ra : List ℕ → Option (A × List ℕ)) → Laws wa fa ra → (n : ℕ) → Laws (flat_map wa) (λ xs. eqb (length xs) n && list_all fa xs) (many_at ra n)
many_laws {A = A} wa fa ra la n = record {
  again = λ xs rest h.
      let p = and_parts (eqb (length xs) n) (list_all fa xs) h in
      subst (λ k. many_at ra k (flat_map wa xs ++ rest) ≡ Some (xs, rest)) (eqb-true _ _ p.0) (many_again xs rest p.1);
  takes = λ bytes x fits e. let t = many_take n bytes x fits e in (t.0, and_from (eqb (length x.0) n) (list_all fa x.0) (eq-eqb _ _ t.1) t.2);
} where
  many_again : (xs : List A) (rest : List ℕ) → list_all fa xs ≡ true → many_at ra (length xs) (flat_map wa xs ++ rest) ≡ Some (xs, rest)
  many_again [] rest h = refl
  many_again (x ∷ xs) rest h =
      let p = and_parts (fa x) (list_all fa xs) h in
      let regrouped : flat_map wa (x ∷ xs) ++ rest ≡ wa x ++ (flat_map wa xs ++ rest) = ap (λ (t : List ℕ). t ++ rest) (flat_map-cons wa x xs) ∙ append_assoc (wa x) (flat_map wa xs) rest in
      ap (many_at ra (suc (length xs))) regrouped
      ∙ ap (λ (o : Option (A × List ℕ)). o >>= λ y. many_at ra (length xs) y.1 >>= λ ys. Some (y.0 ∷ ys.0, ys.1)) (la.again x (flat_map wa xs ++ rest) p.0)
      ∙ ap (λ (o : Option (List A × List ℕ)). o >>= λ ys. Some (x ∷ ys.0, ys.1)) (many_again xs rest p.1)

  many_take : (n : ℕ) (bytes : List ℕ) (x : List A × List ℕ) → IsBytes bytes → many_at ra n bytes ≡ Some x → Takes bytes (flat_map wa x.0) x.1 × (length x.0 ≡ n) × (list_all fa x.0 ≡ true)
  many_take zero bytes x fits e =
      subst (λ (y : List A × List ℕ). Takes bytes (flat_map wa y.0) y.1 × (length y.0 ≡ 0) × (list_all fa y.0 ≡ true)) (some_is ([], bytes) x e) (record { parts = refl; rest_fits = fits }, refl, refl)
  many_take (suc n) bytes x fits e =
      let a = bind_some (ra bytes) (λ y. many_at ra n y.1 >>= λ ys. Some (y.0 ∷ ys.0, ys.1)) x e in
      let b = bind_some (many_at ra n a.0.1) (λ ys. Some (a.0.0 ∷ ys.0, ys.1)) x a.2 in
      let first = la.takes bytes a.0 fits a.1 in
      let second = many_take n a.0.1 b.0 first.0.rest_fits b.1 in
      let taken = Takes-then bytes (wa a.0.0) a.0.1 (flat_map wa b.0.0) b.0.1 first.0 second.0 in
      subst (λ (y : List A × List ℕ). Takes bytes (flat_map wa y.0) y.1 × (length y.0 ≡ suc n) × (list_all fa y.0 ≡ true)) (some_is (a.0.0 ∷ b.0.0, b.0.1) x b.2) (rw flat_map-cons taken, ap suc second.1, and_from (fa a.0.0) (list_all fa b.0.0) first.1 second.2)

-- ---- numbers and bytes

number_laws : (w : Width) (limit : ℕ) → IsWide w limit → Laws (to_le_bytes w) (λ n. ltb n limit) (number_at w)
number_laws w limit wide = record {
  again = λ n rest h. number_again w limit wide n rest (ltb-true _ _ h);
  takes = λ bytes x fits e. let t = number_takes w limit wide bytes x.0 x.1 fits e in (t.0, lt-ltb _ _ t.1);
}

pub laws16 : Laws (to_le_bytes w16) (λ n. ltb n (2 ^ 16)) (number_at w16)
laws16 = number_laws w16 (2 ^ 16) wide16

pub laws32 : Laws (to_le_bytes w32) (λ n. ltb n (2 ^ 32)) (number_at w32)
laws32 = number_laws w32 (2 ^ 32) wide32

byte_takes : (bytes : List ℕ) (x : ℕ × List ℕ) → IsBytes bytes → byte_at bytes ≡ Some x → Takes bytes (x.0 ∷ []) x.1 × (ltb x.0 256 ≡ true)
byte_takes [] x fits e = absurd cc
byte_takes (b ∷ bytes) x fits e =
    subst (λ (y : ℕ × List ℕ). Takes (b ∷ bytes) (y.0 ∷ []) y.1 × (ltb y.0 256 ≡ true)) (some_is (b, bytes) x e) (record { parts = refl; rest_fits = λ i. fits (suc i) }, lt-ltb _ _ (fits 0))

pub byte_laws : Laws (λ n. n ∷ []) (λ n. ltb n 256) byte_at
byte_laws = record { again = λ n rest h. refl; takes = byte_takes }

pub bytes_laws : (n : ℕ) → Laws (λ text. text) (λ text. eqb (length text) n) (bytes_at n)
bytes_laws n = record {
  again = λ text rest h.
      let is : length text ≡ n = eqb-true _ _ h in
      let long : ltb (length (text ++ rest)) n ≡ false = le-ltb _ _ (omega (arith, length-append text rest)) in
      rw (long, take_at text rest n is, drop_at text rest n is) refl;
  takes = λ bytes x fits e.
      let g = guard_some (ltb (length bytes) n) (take n bytes, drop n bytes) x e in
      let long : n ≤ length bytes = ltb-false _ _ g.0 in
      subst (λ (y : List ℕ × List ℕ). Takes bytes y.0 y.1 × (eqb (length y.0) n ≡ true)) g.1 (record { parts = sym (take-append-drop n bytes); rest_fits = IsBytes-drop n bytes fits }, eq-eqb _ _ (omega (arith, length-take n bytes)));
}
