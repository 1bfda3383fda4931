-- What is read of keys was written, and what was written is read again.
use Rattle.std.proofs.Common.{◌≡◌, ℕ, ◌^◌, ◌<◌, ◌≤◌, Bool, false, ltb, ◌&&◌, List, [], ◌∷◌, ◌++◌, length, take, drop, Some, refl, sym, ap, arith}
use Rattle.std.specs.Int.{Width, w16, w32, byte_len, from_be_bytes, to_be_bytes}
use Rattle.std.proofs.lemmas.Bool.{ltb-true, ltb-false, le-ltb, lt-ltb}
use Rattle.std.proofs.lemmas.List.{take_at, drop_at, take-append-drop, length-append, length-take}
use Rattle.std.proofs.lemmas.Nat.{be_bytes_2, be_bytes_4, from_be_bytes-to_be_bytes_2, from_be_bytes-to_be_bytes_4}
use Rattle.column_set.specs.NumberReading.{IsBytes, IsBytes-drop, IsBytes-take, guard_some, Takes}
use Rattle.log_grammar.specs.EntryReading.{both, byte_at}
use Rattle.log_grammar.proofs.Laws.{Laws, both_laws, byte_laws}
use Rattle.catalog_grammar.specs.CatalogReading.{high_number_at, key_at}

record IsHigh (w : Width) (limit : ℕ) : Type 0 where
  len : (n : ℕ) → length (to_be_bytes w n) ≡ byte_len w
  back : (bytes : List ℕ) → length bytes ≡ byte_len w → IsBytes bytes → to_be_bytes w (from_be_bytes w bytes) ≡ bytes
  again : (n : ℕ) → n < limit → from_be_bytes w (to_be_bytes w n) ≡ n
  below : (bytes : List ℕ) → IsBytes bytes → from_be_bytes w bytes < limit

high16 : IsHigh w16 (2 ^ 16)
high16 = record {
  len = λ n. refl;
  back = λ bytes len fits. be_bytes_2 bytes _ len fits refl;
  again = λ n lt. from_be_bytes-to_be_bytes_2 n lt;
  below = λ bytes fits. omega (arith, fits 0, fits 1);
}

high32 : IsHigh w32 (2 ^ 32)
high32 = record {
  len = λ n. refl;
  back = λ bytes len fits. be_bytes_4 bytes _ len fits refl;
  again = λ n lt. from_be_bytes-to_be_bytes_4 n lt;
  below = λ bytes fits. omega (arith, fits 0, fits 1, fits 2, fits 3);
}

high_takes : (w : Width) (limit : ℕ) (high : IsHigh w limit) (bytes : List ℕ) (n : ℕ) (rest : List ℕ) → IsBytes bytes → high_number_at w bytes ≡ Some (n, rest) → Takes bytes (to_be_bytes w n) rest × (n < limit)
high_takes w limit high bytes n rest fits e =
    let g = guard_some (ltb (length bytes) (byte_len w)) (from_be_bytes w (take (byte_len w) bytes), drop (byte_len w) bytes) (n, rest) e in
    let long : byte_len w ≤ length bytes = ltb-false _ _ g.0 in
    let n-is : from_be_bytes w (take (byte_len w) bytes) ≡ n = ap (λ (p : ℕ × List ℕ). p.0) g.1 in
    let rest-is : drop (byte_len w) bytes ≡ rest = ap (λ (p : ℕ × List ℕ). p.1) g.1 in
    let front : to_be_bytes w n ≡ take (byte_len w) bytes = rw (← n-is) (high.back (take (byte_len w) bytes) (omega (arith, length-take (byte_len w) bytes)) (IsBytes-take (byte_len w) bytes fits)) in
    (record { parts = rw (front, ← rest-is) (sym (take-append-drop (byte_len w) bytes)); rest_fits = rw (← rest-is) (IsBytes-drop (byte_len w) bytes fits) }, rw (← n-is) (high.below (take (byte_len w) bytes) (IsBytes-take (byte_len w) bytes fits)))

high_again : (w : Width) (limit : ℕ) (high : IsHigh w limit) (n : ℕ) (rest : List ℕ) → n < limit → high_number_at w (to_be_bytes w n ++ rest) ≡ Some (n, rest)
high_again w limit high n rest lt =
    let len = high.len n in
    let long : ltb (length (to_be_bytes w n ++ rest)) (byte_len w) ≡ false = le-ltb _ _ (omega (arith, length-append (to_be_bytes w n) rest)) in
    rw (long, take_at (to_be_bytes w n) rest (byte_len w) len, drop_at (to_be_bytes w n) rest (byte_len w) len, high.again n lt) refl

high_laws : (w : Width) (limit : ℕ) → IsHigh w limit → Laws (to_be_bytes w) (λ n. ltb n limit) (high_number_at w)
high_laws w limit high = record {
  again = λ n rest h. high_again w limit high n rest (ltb-true _ _ h);
  takes = λ bytes x fits e. let t = high_takes w limit high bytes x.0 x.1 fits e in (t.0, lt-ltb _ _ t.1);
}

-- a kind, a table and a number, each with the bytes for it
abbrev pub key_fits : ℕ × (ℕ × ℕ) → Bool
key_fits x = ltb x.0 256 && (ltb x.1.0 (2 ^ 32) && ltb x.1.1 (2 ^ 16))

pub key_laws : Laws (λ (x : ℕ × (ℕ × ℕ)). (x.0 ∷ []) ++ (to_be_bytes w32 x.1.0 ++ to_be_bytes w16 x.1.1)) key_fits key_at
unfolding key_at
key_laws =
    both_laws (λ n. n ∷ []) (λ n. ltb n 256) byte_at (λ kind (p : ℕ × ℕ). to_be_bytes w32 p.0 ++ to_be_bytes w16 p.1) (λ kind p. ltb p.0 (2 ^ 32) && ltb p.1 (2 ^ 16)) (λ kind. both (high_number_at w32) (λ table. high_number_at w16)) byte_laws
    (λ kind. both_laws (to_be_bytes w32) (λ n. ltb n (2 ^ 32)) (high_number_at w32) (λ table. to_be_bytes w16) (λ table n. ltb n (2 ^ 16)) (λ table. high_number_at w16) (high_laws w32 (2 ^ 32) high32) (λ table. high_laws w16 (2 ^ 16) high16))
