-- Fewer bytes than the length of an entry has are always the front of one.
use Rattle.std.proofs.Common.{◌≡◌, ℕ, zero, suc, ◌+◌, ◌-◌, ◌^◌, ◌<◌, ◌≤◌, true, ltb, ◌&&◌, List, [], ◌∷◌, ◌++◌, length, None, refl, ap, ◌∙◌, arith, replicate}
use Rattle.std.specs.Int.{w32, from_le_bytes, to_le_bytes}
use Rattle.std.proofs.lemmas.Bool.{lt-ltb}
use Rattle.std.proofs.lemmas.List.{length-append, length-replicate}
use Rattle.std.proofs.lemmas.Nat.{le_bytes_4}
use Rattle.jet_base.specs.Ids.{session_id, table_id}
use Rattle.column_set.specs.declared.changes.Change.TheVariants as change
use Rattle.column_set.specs.NumberReading.{IsBytes}
use Rattle.index_derive.specs.declared.log.Entry.{Entry}
use Rattle.index_derive.specs.declared.log.EntryKind.TheVariants as kind
use Rattle.log_grammar.specs.EntryBytes.{IsCut, entry_bytes, entry_rest, has_spelling}

-- a put of one value of so many bytes
unfoldable entry_of : ℕ → Entry
entry_of n = record { session = session_id 1; kind = kind.Change (change.Put (table_id 0) (0 ∷ []) None ((0, replicate n 0 ∷ []) ∷ [])) }

length-entry_of : (n : ℕ) → length (entry_rest (entry_of n)) ≡ 21 + n
unfolding entry_of
length-entry_of n = omega (arith, length-append {A = ℕ} (replicate n 0) [], length-replicate {A = ℕ} n 0)

entry_of_spelled : (n : ℕ) → 21 + n < 2 ^ 32 → has_spelling (entry_of n) ≡ true
unfolding entry_of has_spelling
entry_of_spelled n lt =
    let own : ltb (length (replicate n 0)) (2 ^ 32) ≡ true = lt-ltb _ _ (omega (arith, length-replicate {A = ℕ} n 0)) in
    let all : ltb (length (entry_rest (entry_of n))) (2 ^ 32) ≡ true = lt-ltb _ _ (omega (arith, length-entry_of n)) in
    λ k. (own k && true) && all k

quad_bytes : (a b c : ℕ) → a < 256 → b < 256 → c < 256 → IsBytes (a ∷ b ∷ c ∷ 1 ∷ [])
quad_bytes a b c la lb lc zero = la
quad_bytes a b c la lb lc (suc zero) = lb
quad_bytes a b c la lb lc (suc (suc zero)) = lc
quad_bytes a b c la lb lc (suc (suc (suc zero))) = omega arith
quad_bytes a b c la lb lc (suc (suc (suc (suc i)))) = omega arith

record Quad (a b c : ℕ) : Type 0 where
  pub entry : Entry
  pub spelled : has_spelling entry ≡ true
  pub bytes : entry_bytes entry ≡ a ∷ b ∷ c ∷ 1 ∷ entry_rest entry

-- any three bytes begin the length of an entry of 16 MB or more
quad : (a b c : ℕ) → a < 256 → b < 256 → c < 256 → Quad a b c
unfolding entry_bytes
quad a b c la lb lc =
    let low : 21 ≤ from_le_bytes w32 (a ∷ b ∷ c ∷ 1 ∷ []) = omega arith in
    let high : from_le_bytes w32 (a ∷ b ∷ c ∷ 1 ∷ []) < 2 ^ 32 = omega arith in
    let own : ℕ = from_le_bytes w32 (a ∷ b ∷ c ∷ 1 ∷ []) - 21 in
    let size : length (entry_rest (entry_of own)) ≡ from_le_bytes w32 (a ∷ b ∷ c ∷ 1 ∷ []) = length-entry_of own ∙ omega arith in
    record {
      entry = entry_of own;
      spelled = entry_of_spelled own (omega arith);
      bytes = (λ k. to_le_bytes w32 (size k) ++ entry_rest (entry_of own)) ∙ ap (λ (bs : List ℕ). bs ++ entry_rest (entry_of own)) (le_bytes_4 (a ∷ b ∷ c ∷ 1 ∷ []) (from_le_bytes w32 (a ∷ b ∷ c ∷ 1 ∷ [])) refl (quad_bytes a b c la lb lc) refl);
    }

pub short_is_cut : (bytes : List ℕ) → IsBytes bytes → length bytes < 4 → IsCut bytes
short_is_cut [] fits lt =
    let q = quad 0 0 0 (omega arith) (omega arith) (omega arith) in
    (q.entry, 0, 0 ∷ 0 ∷ 1 ∷ entry_rest q.entry, q.spelled, q.bytes)
short_is_cut (a ∷ []) fits lt =
    let q = quad a 0 0 (fits 0) (omega arith) (omega arith) in
    (q.entry, 0, 0 ∷ 1 ∷ entry_rest q.entry, q.spelled, q.bytes)
short_is_cut (a ∷ b ∷ []) fits lt =
    let q = quad a b 0 (fits 0) (fits 1) (omega arith) in
    (q.entry, 0, 1 ∷ entry_rest q.entry, q.spelled, q.bytes)
short_is_cut (a ∷ b ∷ c ∷ []) fits lt =
    let q = quad a b c (fits 0) (fits 1) (fits 2) in
    (q.entry, 1, entry_rest q.entry, q.spelled, q.bytes)
short_is_cut (a ∷ b ∷ c ∷ d ∷ more) fits lt = absurd (omega arith)
