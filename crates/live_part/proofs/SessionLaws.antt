-- What is read of sessions was written, and what was written is read again.
use Rattle.std.proofs.Common.{◌≡◌, ℕ, zero, suc, ◌^◌, ◌≤◌, ◌<◌, Bool, true, false, cond, ltb, leb, eqb, ◌&&◌, List, [], ◌∷◌, ◌++◌, length, Option, Some, None, refl, ap, subst, ◌∙◌, append_assoc, arith}
use Rattle.std.specs.Int.{w32, w64, to_le_bytes}
use Rattle.std.specs.List.{flat_map, list_all}
use Rattle.std.proofs.lemmas.Bool.{lt-ltb, leb-true, ltb-true, and_parts, and_from, eqb-true, eq-eqb}
use Rattle.std.proofs.lemmas.Bool.Decides.{nat_tests}
use Rattle.std.proofs.lemmas.List.Concat.{flat_map-cons}
use Rattle.column_set.specs.NumberReading.{◌>>=◌, number_at, IsBytes, bind_some, some_is, Takes, Takes-then, wide64, number_takes, number_again}
use Rattle.log_grammar.specs.EntryReading.{both, byte_at, changed, many_at, tested}
use Rattle.log_grammar.proofs.Laws.{Laws, both_laws, byte_laws, changed_laws, laws32, many_laws, tested_laws}
use Rattle.version_cleanup.specs.LiveSessions.{LiveState}
use Rattle.version_cleanup.specs.declared.live.Transaction.{Transaction}
use Rattle.live_part.specs.LiveBytes.{label_of, rises, session_bytes, session_fits, transaction_bytes, transaction_fits}
use Rattle.live_part.specs.LiveReading.{rising_at, session_at, session_read, sessions_at, tables_at, transaction_after, transaction_at}

pub laws64 : Laws (to_le_bytes w64) (λ n. ltb n (2 ^ 64)) (number_at w64)
laws64 = record {
  again = λ n rest h. number_again w64 (2 ^ 64) wide64 n rest (ltb-true _ _ h);
  takes = λ bytes x fits e. let t = number_takes w64 (2 ^ 64) wide64 bytes x.0 x.1 fits e in (t.0, lt-ltb _ _ t.1);
}

-- the same with a test that tells the same
pub refit : {A : Type 0} (w : A → List ℕ) (f g : A → Bool) (r : List ℕ → Option (A × List ℕ)) → Laws w f r → ((x : A) → g x ≡ true → f x ≡ true) → ((x : A) → f x ≡ true → g x ≡ true) → Laws w g r
refit w f g r la to from = record {
  again = λ x rest h. la.again x rest (to x h);
  takes = λ bytes x fits e. let t = la.takes bytes x fits e in (t.0, from x.0 t.1);
}

-- a number of four bytes, and a byte, that are at most so much
at_most : (most limit : ℕ) → most < limit → (n : ℕ) → leb n most ≡ true → ltb n limit ≡ true
at_most most limit lt n h = lt-ltb n limit (omega (arith, leb-true n most h, lt))

pub small_laws : (most : ℕ) → most < 2 ^ 32 → Laws (to_le_bytes w32) (λ n. leb n most) (tested (λ n. leb n most) (number_at w32))
small_laws most lt =
    refit (to_le_bytes w32) (λ n. ltb n (2 ^ 32) && leb n most) (λ n. leb n most) (tested (λ n. leb n most) (number_at w32)) (tested_laws (λ n. leb n most) (to_le_bytes w32) (λ n. ltb n (2 ^ 32)) (number_at w32) laws32)
    (λ n h. and_from (ltb n (2 ^ 32)) (leb n most) (at_most most (2 ^ 32) lt n h) h) (λ n h. (and_parts (ltb n (2 ^ 32)) (leb n most) h).1)

levels_laws : Laws (λ n. n ∷ []) (λ n. leb n 7) (tested (λ n. leb n 7) byte_at)
levels_laws =
    refit (λ n. n ∷ []) (λ n. ltb n 256 && leb n 7) (λ n. leb n 7) (tested (λ n. leb n 7) byte_at) (tested_laws (λ n. leb n 7) (λ n. n ∷ []) (λ n. ltb n 256) byte_at byte_laws)
    (λ n h. and_from (ltb n 256) (leb n 7) (at_most 7 256 (omega arith) n h) h) (λ n h. (and_parts (ltb n 256) (leb n 7) h).1)

-- ---- so many by rising keys

pub rising_laws : {A : Type 0} (key : A → ℕ) (w : A → List ℕ) (f : A → Bool) (r : List ℕ → Option (A × List ℕ)) → Laws w f r → (low n : ℕ) → Laws (flat_map w) (λ xs. eqb (length xs) n && (rises key low xs && list_all f xs)) (rising_at key r low n)
rising_laws {A = A} key w f r la low n = record {
  again = λ xs rest h.
      let p = and_parts (eqb (length xs) n) (rises key low xs && list_all f xs) h in
      let q = and_parts (rises key low xs) (list_all f xs) p.1 in
      subst (λ k. rising_at key r low k (flat_map w xs ++ rest) ≡ Some (xs, rest)) (eqb-true _ _ p.0) (rising_again low xs rest q.0 q.1);
  takes = λ bytes x fits e.
      let t = rising_take low n bytes x fits e in
      (t.0, and_from (eqb (length x.0) n) (rises key low x.0 && list_all f x.0) (eq-eqb _ _ t.1) (and_from (rises key low x.0) (list_all f x.0) t.2 t.3));
} where
  one : (low : ℕ) → Laws w (λ x. f x && ltb low (key x)) (tested (λ x. ltb low (key x)) r)
  one low = tested_laws (λ x. ltb low (key x)) w f r la

  rising_again : (low : ℕ) (xs : List A) (rest : List ℕ) → rises key low xs ≡ true → list_all f xs ≡ true → rising_at key r low (length xs) (flat_map w xs ++ rest) ≡ Some (xs, rest)
  rising_again low [] rest up h = refl
  rising_again low (x ∷ xs) rest up h =
      let p = and_parts (f x) (list_all f xs) h in
      let q = and_parts (ltb low (key x)) (rises key (key x) xs) up in
      let regrouped : flat_map w (x ∷ xs) ++ rest ≡ w x ++ (flat_map w xs ++ rest) = ap (λ (t : List ℕ). t ++ rest) (flat_map-cons w x xs) ∙ append_assoc (w x) (flat_map w xs) rest in
      ap (rising_at key r low (suc (length xs))) regrouped
      ∙ ap (λ (o : Option (A × List ℕ)). o >>= λ y. rising_at key r (key y.0) (length xs) y.1 >>= λ ys. Some (y.0 ∷ ys.0, ys.1)) ((one low).again x (flat_map w xs ++ rest) (and_from (f x) (ltb low (key x)) p.0 q.0))
      ∙ ap (λ (o : Option (List A × List ℕ)). o >>= λ ys. Some (x ∷ ys.0, ys.1)) (rising_again (key x) xs rest q.1 p.1)

  rising_take : (low n : ℕ) (bytes : List ℕ) (x : List A × List ℕ) → IsBytes bytes → rising_at key r low n bytes ≡ Some x → Takes bytes (flat_map w x.0) x.1 × (length x.0 ≡ n) × (rises key low x.0 ≡ true) × (list_all f x.0 ≡ true)
  rising_take low zero bytes x fits e =
      subst (λ (y : List A × List ℕ). Takes bytes (flat_map w y.0) y.1 × (length y.0 ≡ 0) × (rises key low y.0 ≡ true) × (list_all f y.0 ≡ true)) (some_is ([], bytes) x e) (record { parts = refl; rest_fits = fits }, refl, refl, refl)
  rising_take low (suc n) bytes x fits e =
      let a = bind_some (tested (λ x. ltb low (key x)) r bytes) (λ y. rising_at key r (key y.0) n y.1 >>= λ ys. Some (y.0 ∷ ys.0, ys.1)) x e in
      let b = bind_some (rising_at key r (key a.0.0) n a.0.1) (λ ys. Some (a.0.0 ∷ ys.0, ys.1)) x a.2 in
      let first = (one low).takes bytes a.0 fits a.1 in
      let p = and_parts (f a.0.0) (ltb low (key a.0.0)) first.1 in
      let second = rising_take (key a.0.0) n a.0.1 b.0 first.0.rest_fits b.1 in
      let taken = Takes-then bytes (w a.0.0) a.0.1 (flat_map w b.0.0) b.0.1 first.0 second.0 in
      subst (λ (y : List A × List ℕ). Takes bytes (flat_map w y.0) y.1 × (length y.0 ≡ suc n) × (rises key low y.0 ≡ true) × (list_all f y.0 ≡ true)) (some_is (a.0.0 ∷ b.0.0, b.0.1) x b.2)
      (rw flat_map-cons taken, ap suc second.1, and_from (ltb low (key a.0.0)) (rises key (key a.0.0) b.0.0) p.1 second.2, and_from (f a.0.0) (list_all f b.0.0) p.0 second.3)

-- ---- a count, and so many

pub counted_laws : {A : Type 0} (w : A → List ℕ) (fc : ℕ → Bool) (rc : List ℕ → Option (ℕ × List ℕ)) (g : List A → Bool) (rs : ℕ → List ℕ → Option (List A × List ℕ))
    → Laws (to_le_bytes w32) fc rc → ((n : ℕ) → Laws (flat_map w) (λ xs. eqb (length xs) n && g xs) (rs n)) → Laws (λ xs. to_le_bytes w32 (length xs) ++ flat_map w xs) (λ xs. fc (length xs) && g xs) (changed (λ x. x.1) (both rc rs))
counted_laws {A = A} w fc rc g rs lc ls =
    changed_laws {A = ℕ × List A} {B = List A} (λ p. to_le_bytes w32 p.0 ++ flat_map w p.1) (λ p. fc p.0 && (eqb (length p.1) p.0 && g p.1)) (both rc rs)
    (λ xs. to_le_bytes w32 (length xs) ++ flat_map w xs) (λ xs. fc (length xs) && g xs) (λ p. p.1) (λ xs. (length xs, xs))
    (both_laws (to_le_bytes w32) fc rc (λ n. flat_map w) (λ n xs. eqb (length xs) n && g xs) rs lc ls)
    (record {
      back = λ xs h. refl;
      back_fits = λ xs h. let p = and_parts (fc (length xs)) (g xs) h in and_from _ _ p.0 (and_from _ _ (eq-eqb (length xs) (length xs) refl) p.1);
      back_writes = λ xs h. refl;
      writes = λ p h. ap (λ n. to_le_bytes w32 n ++ flat_map w p.1) (same p h);
      fits = λ p h. let a = and_parts (fc p.0) (eqb (length p.1) p.0 && g p.1) h in and_from _ _ (ap fc (same p h) ∙ a.0) (and_parts (eqb (length p.1) p.0) (g p.1) a.1).1;
    })
  where
    same : (p : ℕ × List A) → (fc p.0 && (eqb (length p.1) p.0 && g p.1)) ≡ true → length p.1 ≡ p.0
    same p h = eqb-true _ _ (and_parts (eqb (length p.1) p.0) (g p.1) (and_parts (fc p.0) (eqb (length p.1) p.0 && g p.1) h).1).0

-- ---- transactions

pub some_levels : (levels : ℕ) → leb 1 levels ≡ true → eqb levels 0 ≡ false
some_levels levels h = grind (arith, nat_tests)

pub from_levels : (levels : ℕ) → eqb levels 0 ≡ false → leb 1 levels ≡ true
from_levels levels h = grind (arith, nat_tests)

-- what stands behind the count of levels
after_again : (t : Option Transaction) (rest : List ℕ) → transaction_fits t ≡ true → transaction_at (transaction_bytes t ++ rest) ≡ Some (t, rest)
unfolding transaction_at
after_again None rest h = refl
after_again (Some t) rest h =
    let p = and_parts (leb 1 t.levels) (leb t.levels 7 && ltb t.begin (2 ^ 64)) h in
    let q = and_parts (leb t.levels 7) (ltb t.begin (2 ^ 64)) p.1 in
    let begun : transaction_after t.levels (to_le_bytes w64 t.begin ++ rest) ≡ Some (Some t, rest) =
    ap (λ b. cond b (Some (None, to_le_bytes w64 t.begin ++ rest)) (number_at w64 (to_le_bytes w64 t.begin ++ rest) >>= λ begin. Some (Some (record { levels = t.levels; begin = begin.0 }), begin.1))) (some_levels t.levels p.0)
    ∙ ap (λ (o : Option (ℕ × List ℕ)). o >>= λ begin. Some (Some (record { levels = t.levels; begin = begin.0 }), begin.1)) (laws64.again t.begin rest q.1) in
    ap (λ (o : Option (ℕ × List ℕ)). (o >>= (λ (a : ℕ × List ℕ). transaction_after a.0 a.1 >>= (λ (b : Option Transaction × List ℕ). Some ((a.0, b.0), b.1)))) >>= (λ (a : (ℕ × Option Transaction) × List ℕ). Some (a.0.1, a.1))) (levels_laws.again t.levels (to_le_bytes w64 t.begin ++ rest) q.0)
    ∙ ap (λ (o : Option (Option Transaction × List ℕ)). (o >>= (λ (b : Option Transaction × List ℕ). Some ((t.levels, b.0), b.1))) >>= (λ (a : (ℕ × Option Transaction) × List ℕ). Some (a.0.1, a.1))) begun

after_take : (levels : ℕ) (bytes after : List ℕ) (x : Option Transaction × List ℕ) (zero_levels : Bool) → eqb levels 0 ≡ zero_levels → Takes bytes (levels ∷ []) after → leb levels 7 ≡ true
    → cond zero_levels (Some (None, after)) (number_at w64 after >>= λ begin. Some (Some (record { levels = levels; begin = begin.0 }), begin.1)) ≡ Some x → Takes bytes (transaction_bytes x.0) x.1 × (transaction_fits x.0 ≡ true)
after_take levels bytes after x true is t small e =
    subst (λ (y : Option Transaction × List ℕ). Takes bytes (transaction_bytes y.0) y.1 × (transaction_fits y.0 ≡ true)) (some_is (None, after) x e) (subst (λ n. Takes bytes (n ∷ []) after) (eqb-true levels 0 is) t, refl)
after_take levels bytes after x false is t small e =
    let b = bind_some (number_at w64 after) (λ begin. Some (Some (record { levels = levels; begin = begin.0 }), begin.1)) x e in
    let s = laws64.takes after b.0 t.rest_fits b.1 in
    let taken = Takes-then bytes (levels ∷ []) after (to_le_bytes w64 b.0.0) b.0.1 t s.0 in
    let one : Transaction = record { levels = levels; begin = b.0.0 } in
    subst (λ (y : Option Transaction × List ℕ). Takes bytes (transaction_bytes y.0) y.1 × (transaction_fits y.0 ≡ true)) (some_is (Some one, b.0.1) x b.2)
    (taken, and_from (leb 1 levels) (leb levels 7 && ltb b.0.0 (2 ^ 64)) (from_levels levels is) (and_from (leb levels 7) (ltb b.0.0 (2 ^ 64)) small s.1))

pub transaction_laws : Laws transaction_bytes transaction_fits transaction_at
unfolding transaction_at
transaction_laws = record {
  again = after_again;
  takes = λ bytes x fits e.
      let z = bind_some (both (tested (λ n. leb n 7) byte_at) transaction_after bytes) (λ (a : (ℕ × Option Transaction) × List ℕ). Some (a.0.1, a.1)) x e in
      let a = bind_some (tested (λ n. leb n 7) byte_at bytes) (λ (a : ℕ × List ℕ). transaction_after a.0 a.1 >>= λ (b : Option Transaction × List ℕ). Some ((a.0, b.0), b.1)) z.0 z.1 in
      let b = bind_some (transaction_after a.0.0 a.0.1) (λ (b : Option Transaction × List ℕ). Some ((a.0.0, b.0), b.1)) z.0 a.2 in
      let t = levels_laws.takes bytes a.0 fits a.1 in
      let made = after_take a.0.0 bytes a.0.1 b.0 (eqb a.0.0 0) refl t.0 t.1 b.1 in
      let same : ((a.0.0, b.0.0), b.0.1) ≡ z.0 = some_is ((a.0.0, b.0.0), b.0.1) z.0 b.2 in
      let is : b.0 ≡ x = ap (λ (y : (ℕ × Option Transaction) × List ℕ). (y.0.1, y.1)) same ∙ some_is (z.0.0.1, z.0.1) x z.2 in
      subst (λ (y : Option Transaction × List ℕ). Takes bytes (transaction_bytes y.0) y.1 × (transaction_fits y.0 ≡ true)) is made;
}

-- ---- sessions

abbrev Parts : Type 0
Parts = ℕ × (List ℕ × Option Transaction)

abbrev tables_bytes : List ℕ → List ℕ
tables_bytes xs = to_le_bytes w32 (length xs) ++ flat_map (to_le_bytes w32) xs

abbrev tables_fit : List ℕ → Bool
tables_fit xs = ltb (length xs) (2 ^ 32) && list_all (λ n. ltb n (2 ^ 32)) xs

tables_laws : Laws tables_bytes tables_fit tables_at
unfolding tables_at
tables_laws = counted_laws (to_le_bytes w32) (λ n. ltb n (2 ^ 32)) (number_at w32) (list_all (λ n. ltb n (2 ^ 32))) (many_at (number_at w32)) laws32 (many_laws (to_le_bytes w32) (λ n. ltb n (2 ^ 32)) (number_at w32) laws32)

pub session_laws : Laws session_bytes session_fits session_at
unfolding session_at
session_laws =
    changed_laws {A = Parts} {B = LiveState} (λ x. to_le_bytes w32 x.0 ++ (tables_bytes x.1.0 ++ transaction_bytes x.1.1))
    (λ x. leb x.0 99 && (tables_fit x.1.0 && transaction_fits x.1.1))
    (both (tested (λ n. leb n 99) (number_at w32)) (λ label. both tables_at (λ tables. transaction_at)))
    session_bytes session_fits session_read (λ s. (s.label, (s.open_tables, s.transaction)))
    (both_laws (to_le_bytes w32) (λ n. leb n 99) (tested (λ n. leb n 99) (number_at w32)) (λ label (p : List ℕ × Option Transaction). tables_bytes p.0 ++ transaction_bytes p.1)
    (λ label p. tables_fit p.0 && transaction_fits p.1) (λ label. both tables_at (λ tables. transaction_at)) (small_laws 99 (omega arith))
    (λ label. both_laws tables_bytes tables_fit tables_at (λ tables. transaction_bytes) (λ tables. transaction_fits) (λ tables. transaction_at) tables_laws (λ tables. transaction_laws)))
    (record { back = λ s h. refl; back_fits = λ s h. h; back_writes = λ s h. refl; writes = λ x h. refl; fits = λ x h. h })

pub sessions_laws : Laws (λ xs. to_le_bytes w32 (length xs) ++ flat_map session_bytes xs) (λ xs. leb (length xs) 64 && (rises label_of 0 xs && list_all session_fits xs)) sessions_at
unfolding sessions_at
sessions_laws =
    counted_laws session_bytes (λ n. leb n 64) (tested (λ n. leb n 64) (number_at w32)) (λ xs. rises label_of 0 xs && list_all session_fits xs) (rising_at label_of session_at 0)
    (small_laws 64 (omega arith)) (rising_laws label_of session_bytes session_fits session_at session_laws 0)
