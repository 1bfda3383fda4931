-- A test of what bytes may become, field by field.
use Rattle.std.proofs.Common.{◌≡◌, ℕ, zero, suc, ◌+◌, ◌-◌, ◌^◌, ◌<◌, ◌≤◌, Bool, true, ltb, leb, eqb, ◌&&◌, cond, List, [], ◌∷◌, ◌++◌, length, take, drop, replicate, Option, Some, None, refl, sym, ap, ◌∙◌, arith, inl, inr}
use Rattle.std.specs.Int.{w16, w32, to_le_bytes, from_le_bytes}
use Rattle.std.proofs.lemmas.Bool.{cases_Bool, and_parts, and_from, eqb-true, eq-eqb, leb-true, le-leb, ltb-true, lt-ltb}
use Rattle.std.proofs.lemmas.List.{length-append, length-replicate}
use Rattle.std.proofs.lemmas.Nat.{le_bytes_2, le_bytes_4}
use Rattle.column_set.specs.NumberReading.{number_at, IsBytes}
use Rattle.log_record.specs.EntryCuts.{after, end_cut, filled, bytes_cut, number_cut}
use Rattle.log_grammar.specs.EntryReading.{bytes_at}
use Rattle.log_record.proofs.CutLaws.{Completed, Ends, Then, cut_ends, ends_cut, ends_read, read_ends}
use Rattle.log_grammar.proofs.Laws.{Laws, bytes_laws, laws16, laws32}

-- as many bytes as an entry may miss
abbrev pub IsFew : ℕ → Type 0
IsFew missing = missing < 2 ^ 32

-- the test holds exactly where so many more bytes make a spelling of the front
pub record Decides (test : List ℕ → ℕ → Bool) (Spelling : List ℕ → Type 0) : Type 0 where
  pub sound : (bytes : List ℕ) (missing : ℕ) → IsBytes bytes → IsFew missing → test bytes missing ≡ true → Ends Spelling bytes missing
  pub complete : (bytes : List ℕ) (missing : ℕ) → IsBytes bytes → IsFew missing → Ends Spelling bytes missing → test bytes missing ≡ true

pub no_bytes : IsBytes []
no_bytes zero = omega arith
no_bytes (suc i) = omega arith

-- ---- the same spellings

pub Ends-map : (S T : List ℕ → Type 0) → ((bytes : List ℕ) → S bytes → T bytes) → (bytes : List ℕ) (missing : ℕ) → Ends S bytes missing → Ends T bytes missing
Ends-map S T f bytes missing e = record { more = e.more; many = e.many; whole = f (bytes ++ e.more) e.whole }

pub decides_same : (test : List ℕ → ℕ → Bool) (S T : List ℕ → Type 0) → Decides test S → ((bytes : List ℕ) → S bytes → T bytes) → ((bytes : List ℕ) → T bytes → S bytes) → Decides test T
decides_same test S T d to from = record {
  sound = λ bytes missing b few h. Ends-map S T to bytes missing (d.sound bytes missing b few h);
  complete = λ bytes missing b few e. d.complete bytes missing b few (Ends-map T S from bytes missing e);
}

-- ---- only where a test holds

pub record Where (holds : Bool) (Rest : List ℕ → Type 0) (bytes : List ℕ) : Type 0 where
  pub holds_true : holds ≡ true
  pub rest : Rest bytes

pub decides_where : (holds : Bool) (test : List ℕ → ℕ → Bool) (Rest : List ℕ → Type 0) → (holds ≡ true → Decides test Rest) → Decides (λ bytes missing. holds && test bytes missing) (Where holds Rest)
decides_where holds test Rest d = record {
  sound = λ bytes missing b few h.
      let p = and_parts holds (test bytes missing) h in
      Ends-map Rest (Where holds Rest) (λ bs r. record { holds_true = p.0; rest = r }) bytes missing ((d p.0).sound bytes missing b few p.1);
  complete = λ bytes missing b few e.
      and_from holds (test bytes missing) e.whole.holds_true ((d e.whole.holds_true).complete bytes missing b few (record { more = e.more; many = e.many; whole = e.whole.rest }));
}

-- ---- a field

pub decides_field : {A : Type 0} (write : A → List ℕ) (fits : A → Bool) (read : List ℕ → Option (A × List ℕ)) (Rest : A → List ℕ → Type 0) (test : A → List ℕ → ℕ → Bool) (part : List ℕ → ℕ → Bool) → Laws write fits read
    → ((x : A) → fits x ≡ true → Decides (test x) (Rest x))
    → ((front : List ℕ) (missing : ℕ) → IsBytes front → IsFew missing → read front ≡ None → part front missing ≡ true → Completed write fits Rest front missing)
    → ((front : List ℕ) (missing : ℕ) → IsBytes front → IsFew missing → read front ≡ None → Completed write fits Rest front missing → part front missing ≡ true)
    → Decides (λ bytes missing. after (read bytes) test missing (part bytes missing)) (Then write fits Rest)
decides_field {A = A} write fits read Rest test part laws each part_sound part_complete = record {
  sound = λ bytes missing b few h. sound_at bytes missing b few (read bytes) refl h;
  complete = λ bytes missing b few e. complete_at bytes missing b few (read bytes) refl e;
} where
  sound_at : (bytes : List ℕ) (missing : ℕ) → IsBytes bytes → IsFew missing → (o : Option (A × List ℕ)) → read bytes ≡ o → after o test missing (part bytes missing) ≡ true → Ends (Then write fits Rest) bytes missing
  sound_at bytes missing b few (Some x) is h =
      let t = laws.takes bytes x b is in
      read_ends write fits read Rest laws bytes x.0 x.1 missing b is ((each x.0 t.1).sound x.1 missing t.0.rest_fits few h)
  sound_at bytes missing b few None is h = cut_ends write fits Rest bytes missing (part_sound bytes missing b few is h)

  complete_at : (bytes : List ℕ) (missing : ℕ) → IsBytes bytes → IsFew missing → (o : Option (A × List ℕ)) → read bytes ≡ o → Ends (Then write fits Rest) bytes missing → after o test missing (part bytes missing) ≡ true
  complete_at bytes missing b few (Some x) is e =
      let t = laws.takes bytes x b is in
      (each x.0 t.1).complete x.1 missing t.0.rest_fits few (ends_read write fits read Rest laws bytes x.0 x.1 missing b is e)
  complete_at bytes missing b few None is e = part_complete bytes missing b few is (ends_cut write fits read Rest laws bytes missing is e)

-- ---- the end

pub decides_end : Decides end_cut (λ bytes. bytes ≡ [])
decides_end = record { sound = sound_end; complete = complete_end } where
  sound_end : (bytes : List ℕ) (missing : ℕ) → IsBytes bytes → IsFew missing → end_cut bytes missing ≡ true → Ends (λ bytes. bytes ≡ []) bytes missing
  sound_end [] missing b few h = record { more = []; many = sym (eqb-true _ _ h); whole = refl }
  sound_end (x ∷ bytes) missing b few h = absurd (omega (arith, eqb-true _ _ (and_parts (eqb (length (x ∷ bytes)) 0) (eqb missing 0) h).0))

  complete_end : (bytes : List ℕ) (missing : ℕ) → IsBytes bytes → IsFew missing → Ends (λ bytes. bytes ≡ []) bytes missing → end_cut bytes missing ≡ true
  complete_end [] missing b few e = eq-eqb _ _ (sym e.many ∙ ap length e.whole)
  complete_end (x ∷ bytes) missing b few e = absurd (omega (arith, ap length e.whole))

-- ---- what is filled

pub filled_from : (n : ℕ) (test : List ℕ → ℕ → Bool) (missing left : ℕ) → missing ≡ n + left → test [] left ≡ true → filled n test missing ≡ true
filled_from n test missing left is h =
    let same : missing - n ≡ left = omega arith in
    and_from (leb n missing) (test [] (missing - n)) (le-leb _ _ (omega arith)) (ap (test []) same ∙ h)

pub record FilledParts (n : ℕ) (test : List ℕ → ℕ → Bool) (missing : ℕ) : Type 0 where
  pub counted : missing ≡ n + (missing - n)
  pub goes_on : test [] (missing - n) ≡ true

pub filled_parts : (n : ℕ) (test : List ℕ → ℕ → Bool) (missing : ℕ) → filled n test missing ≡ true → FilledParts n test missing
filled_parts n test missing h =
    let p = and_parts (leb n missing) (test [] (missing - n)) h in
    let le : n ≤ missing = leb-true _ _ p.0 in
    record { counted = omega arith; goes_on = p.1 }

-- a field of which so many bytes are missing, whatever it has
pub decides_filled : {A : Type 0} (write : A → List ℕ) (fits : A → Bool) (read : List ℕ → Option (A × List ℕ)) (size : ℕ) (test : List ℕ → ℕ → Bool) (Rest : List ℕ → Type 0) → Laws write fits read
    → ((x : A) → fits x ≡ true → length (write x) ≡ size)
    → ((front : List ℕ) → IsBytes front → read front ≡ None → (value : A) × (more : List ℕ) × (fits value ≡ true) × (write value ≡ front ++ more))
    → Decides test Rest
    → Decides (λ bytes missing. after (read bytes) (λ x. test) missing (filled (size - length bytes) test missing)) (Then write fits (λ x. Rest))
decides_filled {A = A} write fits read size test Rest laws sized fill d =
    decides_field write fits read (λ x. Rest) (λ x. test) (λ bytes missing. filled (size - length bytes) test missing) laws (λ x h. d) part_sound part_complete where
      needs : (front : List ℕ) (value : A) (more : List ℕ) → fits value ≡ true → write value ≡ front ++ more → length more ≡ size - length front
      needs front value more h written =
          let s : size ≡ length front + length more = sym (sized value h) ∙ ap length written ∙ length-append front more in
          omega arith

      part_sound : (front : List ℕ) (missing : ℕ) → IsBytes front → IsFew missing → read front ≡ None → filled (size - length front) test missing ≡ true → Completed write fits (λ x. Rest) front missing
      part_sound front missing b few none h =
          let p = filled_parts (size - length front) test missing h in
          let f = fill front b none in
          let many = needs front f.0 f.1 f.2 f.3 in
          record {
            value = f.0;
            missing = f.1;
            value_fits = f.2;
            written = f.3;
            left = missing - (size - length front);
            counted = p.counted ∙ ap (λ n. n + (missing - (size - length front))) (sym many);
            goes_on = d.sound [] (missing - (size - length front)) no_bytes (omega (arith, few)) p.goes_on;
          }

      part_complete : (front : List ℕ) (missing : ℕ) → IsBytes front → IsFew missing → read front ≡ None → Completed write fits (λ x. Rest) front missing → filled (size - length front) test missing ≡ true
      part_complete front missing b few none c =
          let many = needs front c.value c.missing c.value_fits c.written in
          filled_from (size - length front) test missing c.left (c.counted ∙ ap (λ n. n + c.left) many) (d.complete [] c.left no_bytes (omega (arith, few, c.counted)) c.goes_on)

-- ---- bytes and numbers

IsBytes_zeros : (front : List ℕ) (n : ℕ) → IsBytes front → IsBytes (front ++ replicate n 0)
IsBytes_zeros [] zero h i = h i
IsBytes_zeros [] (suc n) h zero = omega arith
IsBytes_zeros [] (suc n) h (suc i) = IsBytes_zeros [] n h i
IsBytes_zeros (x ∷ front) n h zero = h 0
IsBytes_zeros (x ∷ front) n h (suc i) = IsBytes_zeros front n (λ j. h (suc j)) i

zeros_fill : (front : List ℕ) (size : ℕ) → length front ≤ size → length (front ++ replicate (size - length front) 0) ≡ size
zeros_fill front size le = omega (arith, length-append front (replicate (size - length front) 0), length-replicate {A = ℕ} (size - length front) 0)

-- what was not read is too short
pub too_short : {A : Type 0} (n size : ℕ) (x : A) → cond (ltb n size) None (Some x) ≡ None → n < size
too_short {A = A} n size x e =
    elim (cases_Bool (ltb n size)) [
      | inl lt ↦ ltb-true _ _ lt
      | inr le ↦ absurd (some_none (sym (ap (λ b. cond b None (Some x)) le) ∙ e))
    ] where
      some_none : Some x ≡ None → ⊥
      some_none e = absurd cc

pub decides_bytes : (n : ℕ) (test : List ℕ → ℕ → Bool) (Rest : List ℕ → Type 0) → Decides test Rest → Decides (bytes_cut n test) (Then (λ text. text) (λ text. eqb (length text) n) (λ text. Rest))
decides_bytes n test Rest = decides_filled (λ text. text) (λ text. eqb (length text) n) (bytes_at n) n test Rest (bytes_laws n) (λ text h. eqb-true _ _ h) (λ front b none.
    let lt = too_short (length front) n (take n front, drop n front) none in
    (front ++ replicate (n - length front) 0, replicate (n - length front) 0, eq-eqb _ _ (zeros_fill front n (omega (arith, lt))), refl))

pub decides_number32 : (test : List ℕ → ℕ → Bool) (Rest : List ℕ → Type 0) → Decides test Rest → Decides (number_cut w32 test) (Then (to_le_bytes w32) (λ n. ltb n (2 ^ 32)) (λ n. Rest))
decides_number32 test Rest = decides_filled (to_le_bytes w32) (λ n. ltb n (2 ^ 32)) (number_at w32) 4 test Rest laws32 (λ n h. refl) (λ front b none.
    let lt = too_short (length front) 4 (from_le_bytes w32 (take 4 front), drop 4 front) none in
    let zeros : List ℕ = replicate (4 - length front) 0 in
    let bytes : IsBytes (front ++ zeros) = IsBytes_zeros front (4 - length front) b in
    (from_le_bytes w32 (front ++ zeros), zeros, lt-ltb _ _ (omega (arith, bytes 0, bytes 1, bytes 2, bytes 3)), le_bytes_4 (front ++ zeros) _ (zeros_fill front 4 (omega (arith, lt))) bytes refl))

pub decides_number16 : (test : List ℕ → ℕ → Bool) (Rest : List ℕ → Type 0) → Decides test Rest → Decides (number_cut w16 test) (Then (to_le_bytes w16) (λ n. ltb n (2 ^ 16)) (λ n. Rest))
decides_number16 test Rest = decides_filled (to_le_bytes w16) (λ n. ltb n (2 ^ 16)) (number_at w16) 2 test Rest laws16 (λ n h. refl) (λ front b none.
    let lt = too_short (length front) 2 (from_le_bytes w16 (take 2 front), drop 2 front) none in
    let zeros : List ℕ = replicate (2 - length front) 0 in
    let bytes : IsBytes (front ++ zeros) = IsBytes_zeros front (2 - length front) b in
    (from_le_bytes w16 (front ++ zeros), zeros, lt-ltb _ _ (omega (arith, bytes 0, bytes 1)), le_bytes_2 (front ++ zeros) _ (zeros_fill front 2 (omega (arith, lt))) bytes refl))
