-- What a search finds among the fields of a record.
use Rattle.std.proofs.Common.{◌≡◌, ℕ, suc, zero, ◌<◌, ◌≤◌, [], ◌∷◌, length, Result, Ok, Err, IfOk, IfErr, Bool, true, false, ◌&&◌, refl, sym, ap, ◌∙◌, ◌-◌, get_or, Some, None, inl, inr, List, arith}
use mathlib.Core.Bool.{false≢true}
use Rattle.std.specs.Prelude.{IsTrue, ltb, slice_get}
use Rattle.std.proofs.lemmas.Bool.{cases_lt}
use Rattle.std.proofs.lemmas.Option.{get_or_from_slice_get}
use Rattle.std.specs.List.{list_all}
use Rattle.std.specs.List.Sorted.{IsSearchInRange, IsBinarySearchResult, IsNonDecreasingBy}
use Rattle.std.specs.Ordering.{nat_cmp, is_lt, ordering_index}
use Rattle.std.specs.FinMap.Entries.{is_sorted, below_all}
use Rattle.std.proofs.lemmas.Cmp.{ranked}
use Rattle.std.proofs.lemmas.List.Sorted.{IsNonDecreasingBy-from_default}
use Rattle.std.proofs.lemmas.Bool.Decides.{nat_tests}
use Rattle.column_set.specs.Record.{is_record}
use Rattle.column_set.specs.RecordValues.{RecordFields}
use Rattle.column_set.specs.RecordPlaces.{column_at, IsPlaceOf, IsGapFor}

-- the columns strictly rise
abbrev pub Rises : RecordFields → Type 0
Rises fields = (i j : ℕ) → i < j → j < length fields → column_at fields i < column_at fields j

pub both : (a b : Bool) → IsTrue (a && b) → (IsTrue a × IsTrue b)
both true b h = (refl, h)
both false b h = absurd (false≢true h)

lt_from_cmp : (m n : ℕ) → IsTrue (is_lt (nat_cmp m n)) → m < n
lt_from_cmp m n h = grind (arith, nat_tests)

below_each : (column : ℕ) (fields : RecordFields) → IsTrue (below_all nat_cmp column fields) → (j : ℕ) → j < length fields → column < column_at fields j
below_each column [] below j lt = absurd (omega arith)
below_each column (field ∷ fields) below zero lt = lt_from_cmp column field.0 (both (is_lt (nat_cmp column field.0)) (below_all nat_cmp column fields) below).0
below_each column (field ∷ fields) below (suc j) lt = below_each column fields (both (is_lt (nat_cmp column field.0)) (below_all nat_cmp column fields) below).1 j (omega arith)

pub rises_from_sorted : (fields : RecordFields) → IsTrue (is_sorted nat_cmp fields) → Rises fields
rises_from_sorted [] sorted i j lt in_range = absurd (omega arith)
rises_from_sorted (field ∷ fields) sorted i zero lt in_range = absurd (omega arith)
rises_from_sorted (field ∷ fields) sorted zero (suc j) lt in_range = below_each field.0 fields (both (below_all nat_cmp field.0 fields) (is_sorted nat_cmp fields) sorted).0 j (omega arith)
rises_from_sorted (field ∷ fields) sorted (suc i) (suc j) lt in_range = rises_from_sorted fields (both (below_all nat_cmp field.0 fields) (is_sorted nat_cmp fields) sorted).1 i j (omega arith) (omega arith)

pub rises : (fields : RecordFields) → IsTrue (is_record fields) → Rises fields
rises fields h = rises_from_sorted fields (both (is_sorted nat_cmp fields) (list_all (λ field. ltb 0 (length field.1)) fields) h).0

module _ (fields : RecordFields) (rising : Rises fields) (column : ℕ) where
  comparisons_rise : IsNonDecreasingBy (λ field. ordering_index (nat_cmp field.0 column)) fields
  comparisons_rise = IsNonDecreasingBy-from_default (λ field. ordering_index (nat_cmp field.0 column)) fields (0, []) (λ i j le in_range.
      let columns_rise : column_at fields i ≤ column_at fields j = grind (arith, rising i j, λ (same : i ≡ j). ap (column_at fields) same) in
      grind (arith, nat_tests))

  -- a binary search by column ends at the column's field, or at the gap for it
  pub searched : (r : Result ℕ ℕ) → IsSearchInRange r (length fields) → IsBinarySearchResult (λ field. nat_cmp field.0 column) fields r → record { found : IfOk r (IsPlaceOf fields column); absent : IfErr r (IsGapFor fields column) }
  searched (Ok at) in_range equal =
      let has : column_at fields at ≡ column = ranked _ column _ (sym (equal (0, []))) in
      record {
        found = record {
          in_range = in_range;
          has_column = has;
          smaller_before = λ j lt. omega (arith, rising j at lt in_range);
          greater_after = λ j lt within. omega (arith, rising at j lt within);
        };
        absent = tt;
      }
  searched (Err at) in_range parted = record {
    found = tt;
    absent = record {
      in_range = in_range;
      smaller_before = λ j lt. ranked _ column _ (sym ((parted comparisons_rise).0 j (0, []) (omega arith) lt));
      greater_after = λ j le lt. ranked _ column _ (sym ((parted comparisons_rise).1 j (0, []) le lt));
    };
  }

-- a column above that of the last field goes in behind it
pub gap_at_end : (fields : RecordFields) (column : ℕ) (last : ℕ × List (List ℕ)) → IsTrue (is_record fields) → slice_get fields (length fields - 1) ≡ Some last → last.0 < column → IsGapFor fields column (length fields)
gap_at_end fields column last h there lt =
    let read : get_or fields (length fields - 1) (0, []) ≡ last = get_or_from_slice_get fields (length fields - 1) last (0, []) there in
    let at_last : column_at fields (length fields - 1) ≡ last.0 = ap (λ (f : ℕ × List (List ℕ)). f.0) read in
    record {
      in_range = omega arith;
      smaller_before = λ j within. elim (cases_lt j (length fields - 1)) [
        | inl before ↦ omega (arith, at_last, lt, rises fields h j (length fields - 1) before (omega arith))
        | inr from ↦
            let same : j ≡ length fields - 1 = omega arith in
            omega (arith, ap (column_at fields) same, at_last, lt)
      ];
      greater_after = λ j le within. absurd (omega arith);
    }

pub gap_in_nothing : (fields : RecordFields) (column : ℕ) → slice_get fields (length fields - 1) ≡ None → IsGapFor fields column (length fields)
gap_in_nothing [] column none = record {
  in_range = omega arith;
  smaller_before = λ j within. absurd (omega arith);
  greater_after = λ j le within. absurd (omega arith);
}
gap_in_nothing (field ∷ fields) column none =
    let last : length fields ≡ length (field ∷ fields) - 1 = omega arith in
    absurd (none_is_no_field (field ∷ fields) (length fields) (omega arith) (ap (slice_get (field ∷ fields)) last ∙ none))
  where
    none_is_no_field : (xs : RecordFields) (at : ℕ) → at < length xs → slice_get xs at ≡ None → ⊥
    none_is_no_field [] at lt e = absurd (omega arith)
    none_is_no_field (x ∷ xs) zero lt e = absurd cc
    none_is_no_field (x ∷ xs) (suc at) lt e = none_is_no_field xs at (omega arith) e
