-- Reading values one after the other, as a loop does.
use Rattle.std.proofs.Common.{◌≡◌, ℕ, suc, ◌-◌, ◌+◌, ◌≤◌, ◌<◌, List, [], ◌∷◌, ◌++◌, Option, Some, None, refl, sym, ap, ◌∙◌, append_assoc, arith}
use Rattle.std.proofs.lemmas.List.{append-nil}
use Rattle.column_set.specs.declared.rows.RowValue.{RowValue}
use Rattle.column_set.specs.NumberReading.{◌>>=◌}
use Rattle.column_set.specs.RowReading.{next_at, values_at}

-- what was read before, and what is still read
abbrev pub with_front : List (ℕ × RowValue) → Option (List (ℕ × RowValue) × List ℕ) → Option (List (ℕ × RowValue) × List ℕ)
with_front front read = read >>= λ x. Some (front ++ x.0, x.1)

regroup : (front : List (ℕ × RowValue)) (value : ℕ × RowValue) (read : Option (List (ℕ × RowValue) × List ℕ)) → with_front front (read >>= λ x. Some (value ∷ x.0, x.1)) ≡ with_front (front ++ value ∷ []) read
regroup front value (Some x) = ap (λ (values : List (ℕ × RowValue)). Some (values, x.1)) (simp append_assoc)
regroup front value None = refl

pub goes_on : (front : List (ℕ × RowValue)) (least count i : ℕ) (bytes : List ℕ) (value : ℕ × RowValue) (after : List ℕ) (total : Option (List (ℕ × RowValue) × List ℕ)) → i < count → next_at least bytes ≡ Some (value, after)
    → with_front front (values_at least (count - i) bytes) ≡ total → with_front (front ++ value ∷ []) (values_at value.0 (count - (i + 1)) after) ≡ total
unfolding values_at
goes_on front least count i bytes value after total lt h so_far =
    let k : count - i ≡ suc (count - (i + 1)) = omega arith in
    let one : with_front front (values_at least (count - i) bytes) ≡ with_front (front ++ value ∷ []) (values_at value.0 (count - (i + 1)) after) = rw (k, h) (regroup front value (values_at value.0 (count - (i + 1)) after)) in
    sym one ∙ so_far

pub ends : (front : List (ℕ × RowValue)) (least count i : ℕ) (bytes : List ℕ) (total : Option (List (ℕ × RowValue) × List ℕ)) → i < count → next_at least bytes ≡ None
    → with_front front (values_at least (count - i) bytes) ≡ total → total ≡ None
unfolding values_at
ends front least count i bytes total lt h so_far =
    let k : count - i ≡ suc (count - (i + 1)) = omega arith in
    let one : with_front front (values_at least (count - i) bytes) ≡ None = rw (k, h) refl in
    sym so_far ∙ one

pub is_done : (front : List (ℕ × RowValue)) (least count i : ℕ) (bytes : List ℕ) (total : Option (List (ℕ × RowValue) × List ℕ)) → count ≤ i → with_front front (values_at least (count - i) bytes) ≡ total → total ≡ Some (front, bytes)
unfolding values_at
is_done front least count i bytes total le so_far =
    let k : count - i ≡ 0 = omega arith in
    let one : with_front front (values_at least (count - i) bytes) ≡ Some (front, bytes) = rw k (ap (λ (values : List (ℕ × RowValue)). Some (values, bytes)) (append-nil front)) in
    sym so_far ∙ one
