-- The sum of the amounts that a reader does not see, taken away at once, leaves what taking them away one by one leaves.
use Rattle.std.proofs.Common.{◌≡◌, ℕ, ◌+◌, ◌-◌, ◌^◌, ◌%◌, ◌<◌, Bool, true, false, ◌&&◌, cond, List, [], ◌∷◌, ◌++◌, refl, sym, ap, ◌∙◌, arith}
use Rattle.std.specs.Prelude.{ℤ, ◌==◌, bytes_eq, filter, flat_map, fold, map, FitsSigned}
use Rattle.std.specs.Int.{w32, cast_signed, cast_unsigned, int_wrapping_sub}
use Rattle.std.proofs.lemmas.Int.{of_z-to_z, to_z-of_z}
use Rattle.std.proofs.Math.Facts.{Fits-of_z}
use Rattle.laws_versions.specs.Readers.{until}
use Rattle.laws_versions.specs.EscrowSums.{amounts_to, seen_value}
use Rattle.laws_versions.proofs.SumLemmas.StoredSums.{minus, signed_minus}
use Rattle.version_store.specs.declared.calls.ChangeKind.{ChangeKind}
use Rattle.version_store.specs.declared.calls.ChangeKind.TheVariants as kind
use Rattle.version_store.specs.declared.calls.Reader.{Reader}
use Rattle.version_store.specs.HeldChanges.{HeldChange, is_record, is_rewrite, is_unseen as is_unseen_row, is_unseen_status}
use Rattle.version_store.specs.Sums.{amount_on, unseen_sum}
use Rattle.laws_engine.specs.HeldRecords.{HeldRecord, hides, is_change_at, is_unseen}
use Rattle.laws_engine.specs.HeldSums.{IsSameChange, sums_by, unseen_sums}

small : (n : ℕ) → n % 4294967296 < 4294967296
small n = omega arith

nothing : 0 < 4294967296
nothing = omega arith

whole : (n : ℕ) → n < 4294967296 → n ≡ (n + (4294967296 - 0)) % 4294967296
whole n h = omega arith

plain : (n u : ℕ) → u < 4294967296 → (n + (4294967296 - u)) % 4294967296 ≡ (n + (4294967296 - (0 + u) % 4294967296)) % 4294967296
plain n u h = omega arith

together : (n c u : ℕ) → u < 4294967296 → ((n + (4294967296 - c % 4294967296)) % 4294967296 + (4294967296 - u)) % 4294967296 ≡ (n + (4294967296 - (c + u) % 4294967296)) % 4294967296
together n c u h = omega arith

-- ---- the sum is one of 32 bits

below : (table : ℕ) (bookmark : List ℕ) (column : ℕ) (reader : Reader) (held : List HeldChange) → unseen_sum table bookmark column reader held < 2 ^ 32
below table bookmark column reader [] = nothing
below table bookmark column reader (h ∷ held) =
    elim (is_record table bookmark h && is_unseen_row reader h) as (λ b. cond b (cond (is_rewrite h.kind) 0 ((amount_on column h.kind + unseen_sum table bookmark column reader held) % 2 ^ 32)) (unseen_sum table bookmark column reader held) < 2 ^ 32) [
      | true ↦ elim (is_rewrite h.kind) as (λ b. cond b 0 ((amount_on column h.kind + unseen_sum table bookmark column reader held) % 2 ^ 32) < 2 ^ 32) [
        | true ↦ nothing
        | false ↦ small (amount_on column h.kind + unseen_sum table bookmark column reader held)
      ]
      | false ↦ below table bookmark column reader held
    ]

-- ---- one change

-- its sum before others
with_one : (column : ℕ) (what : ChangeKind) (sums : List (ℕ × ℤ)) (u : ℕ) → u < 2 ^ 32 → ((n : ℕ) → n < 2 ^ 32 → fold minus n (amounts_to column sums) ≡ (n + (2 ^ 32 - u)) % 2 ^ 32)
    → (n : ℕ) → n < 2 ^ 32 → fold minus n (amounts_to column (sums_by what ++ sums)) ≡ (n + (2 ^ 32 - (amount_on column what + u) % 2 ^ 32)) % 2 ^ 32
with_one column kind.Put sums u fits rest n h = rest n h ∙ plain n u fits
with_one column kind.Drop sums u fits rest n h = rest n h ∙ plain n u fits
with_one column kind.Hold sums u fits rest n h = rest n h ∙ plain n u fits
with_one column (kind.Add other amount) sums u fits rest n h =
    elim (other.0 == column) as (λ b. fold minus n (map (λ (one : ℕ × ℤ). one.1) (cond b ((other.0, amount) ∷ filter (λ one. one.0 == column) sums) (filter (λ one. one.0 == column) sums)))
    ≡ (n + (2 ^ 32 - (cond b (cast_unsigned w32 amount) 0 + u) % 2 ^ 32)) % 2 ^ 32) [
      | true ↦ rest (minus n amount) (small (n + (2 ^ 32 - cast_unsigned w32 amount % 2 ^ 32))) ∙ together n (cast_unsigned w32 amount) u fits
      | false ↦ rest n h ∙ plain n u fits
    ]

-- the sums from it on
opened : (hidden : Bool) (mine : HeldRecord → Bool) (r : HeldRecord) (rest : List HeldRecord)
    → flat_map (λ x. sums_by x.kind) (filter mine (cond hidden [] (r ∷ rest))) ≡ cond hidden [] (cond (mine r) (sums_by r.kind ++ flat_map (λ x. sums_by x.kind) (filter mine rest)) (flat_map (λ x. sums_by x.kind) (filter mine rest)))
opened true mine r rest = refl
opened false mine r rest = elim (mine r) as (λ b. flat_map (λ x. sums_by x.kind) (cond b (r ∷ filter mine rest) (filter mine rest)) ≡ cond b (sums_by r.kind ++ flat_map (λ x. sums_by x.kind) (filter mine rest)) (flat_map (λ x. sums_by x.kind) (filter mine rest))) [ true ↦ refl | false ↦ refl ]

-- ---- all of them

abbrev TakesAll : (HeldChange → HeldRecord) → ℕ → List ℕ → ℕ → Reader → List HeldChange → Type 0
TakesAll made table bookmark column reader held =
    (n : ℕ) → n < 2 ^ 32 → fold minus n (amounts_to column (unseen_sums table bookmark reader (map made held))) ≡ (n + (2 ^ 32 - unseen_sum table bookmark column reader held)) % 2 ^ 32

with_first : (made : HeldChange → HeldRecord) → ((h : HeldChange) → IsSameChange h (made h)) → (table : ℕ) (bookmark : List ℕ) (column : ℕ) (reader : Reader) (h : HeldChange) (held : List HeldChange) → TakesAll made table bookmark column reader held
    → TakesAll made table bookmark column reader (h ∷ held)
with_first made same table bookmark column reader h held rest n fits =
    ap (λ sums. fold minus n (amounts_to column sums)) (opened (hides table bookmark reader (made h)) (λ x. is_unseen reader x && is_change_at table bookmark x) (made h) (until (hides table bookmark reader) (map made held)))
    ∙ ap (λ (what : ChangeKind). fold minus n (amounts_to column (cond ((at_made && is_rewrite what) && unseen_made) [] (cond (unseen_made && at_made) (sums_by what ++ sums) sums)))) m.kind
    ∙ (λ i. fold minus n (amounts_to column (cond ((same_at i && is_rewrite h.kind) && same_unseen i) [] (cond (same_unseen i && same_at i) (sums_by h.kind ++ sums) sums))))
    ∙ by (is_record table bookmark h) (is_unseen_row reader h) (is_rewrite h.kind)
  where
    m : IsSameChange h (made h)
    m = same h

    at_made : Bool
    at_made = is_change_at table bookmark (made h)

    unseen_made : Bool
    unseen_made = is_unseen reader (made h)

    sums : List (ℕ × ℤ)
    sums = unseen_sums table bookmark reader (map made held)

    same_at : at_made ≡ is_record table bookmark h
    same_at = λ i. (m.table i == table) && bytes_eq (m.bookmark i) bookmark

    same_unseen : unseen_made ≡ is_unseen_row reader h
    same_unseen = λ i. is_unseen_status reader (m.session i) (m.status i)

    behind : ℕ
    behind = unseen_sum table bookmark column reader held

    by : (here unseen rewrites : Bool) → fold minus n (amounts_to column (cond ((here && rewrites) && unseen) [] (cond (unseen && here) (sums_by h.kind ++ sums) sums)))
        ≡ (n + (2 ^ 32 - cond (here && unseen) (cond rewrites 0 ((amount_on column h.kind + behind) % 2 ^ 32)) behind)) % 2 ^ 32
    by true true true = whole n fits
    by true true false = with_one column h.kind sums behind (below table bookmark column reader held) rest n fits
    by true false true = rest n fits
    by true false false = rest n fits
    by false true true = rest n fits
    by false true false = rest n fits
    by false false true = rest n fits
    by false false false = rest n fits

all_taken : (made : HeldChange → HeldRecord) → ((h : HeldChange) → IsSameChange h (made h)) → (table : ℕ) (bookmark : List ℕ) (column : ℕ) (reader : Reader) (held : List HeldChange) → TakesAll made table bookmark column reader held
all_taken made same table bookmark column reader [] = whole
all_taken made same table bookmark column reader (h ∷ held) = with_first made same table bookmark column reader h held (all_taken made same table bookmark column reader held)

pub at_once : (made : HeldChange → HeldRecord) → ((h : HeldChange) → IsSameChange h (made h)) → (held : List HeldChange) (table : ℕ) (bookmark : List ℕ) (column : ℕ) (reader : Reader) (stored : ℤ) → FitsSigned w32 stored
    → seen_value stored (amounts_to column (unseen_sums table bookmark reader (map made held))) ≡ int_wrapping_sub w32 stored (cast_signed w32 (unseen_sum table bookmark column reader held))
at_once made same held table bookmark column reader stored fits =
    ap (λ x. seen_value x (amounts_to column (unseen_sums table bookmark reader (map made held)))) (sym (to_z-of_z w32 stored fits))
    ∙ signed_minus (cast_unsigned w32 stored) (amounts_to column (unseen_sums table bookmark reader (map made held))) (Fits-of_z fits).fits
    ∙ ap (cast_signed w32) (all_taken made same table bookmark column reader held (cast_unsigned w32 stored) (Fits-of_z fits).fits)
    ∙ ap (λ n. cast_signed w32 ((cast_unsigned w32 stored + (2 ^ 32 - n)) % 2 ^ 32)) (sym (of_z-to_z w32 (unseen_sum table bookmark column reader held) (below table bookmark column reader held)))
