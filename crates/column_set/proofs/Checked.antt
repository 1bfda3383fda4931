-- Checking values one after the other, as a loop does.
use Rattle.std.proofs.Common.{◌≡◌, ℕ, suc, ◌-◌, ◌+◌, ◌≤◌, ◌<◌, Bool, true, false, cond, List, ◌∷◌, length, eqb, Option, Some, None, refl, sym, ap, ◌∙◌, arith}
use Rattle.std.specs.Prelude.{◌↔◌, IsTrue}
use Rattle.column_set.specs.declared.rows.RowValue.{RowValue}
use Rattle.column_set.specs.Rows.{IsRowBytes}
use Rattle.column_set.specs.NumberReading.{◌>>=◌, IsBytes}
use Rattle.column_set.specs.RowReading.{next_at, values_at, read_values, grouped, is_read, takes_all}
use Rattle.column_set.proofs.Spelling.{read_spelled, row_from_values, read_row_again}

same_end : (value : ℕ × RowValue) (read : Option (List (ℕ × RowValue) × List ℕ)) → takes_all (read >>= λ x. Some (value ∷ x.0, x.1)) ≡ takes_all read
same_end value (Some x) = refl
same_end value None = refl

pub goes_on : (least count i : ℕ) (bytes : List ℕ) (value : ℕ × RowValue) (after : List ℕ) (total : Bool) → i < count → next_at least bytes ≡ Some (value, after)
    → takes_all (values_at least (count - i) bytes) ≡ total → takes_all (values_at value.0 (count - (i + 1)) after) ≡ total
unfolding values_at
goes_on least count i bytes value after total lt h so_far =
    let k : count - i ≡ suc (count - (i + 1)) = omega arith in
    let one : takes_all (values_at least (count - i) bytes) ≡ takes_all (values_at value.0 (count - (i + 1)) after) = rw (k, h) (same_end value (values_at value.0 (count - (i + 1)) after)) in
    sym one ∙ so_far

pub ends : (least count i : ℕ) (bytes : List ℕ) (total : Bool) → i < count → next_at least bytes ≡ None → takes_all (values_at least (count - i) bytes) ≡ total → total ≡ false
unfolding values_at
ends least count i bytes total lt h so_far =
    let k : count - i ≡ suc (count - (i + 1)) = omega arith in
    let one : takes_all (values_at least (count - i) bytes) ≡ false = rw (k, h) refl in
    sym so_far ∙ one

pub is_done : (least count i : ℕ) (bytes : List ℕ) (total : Bool) → count ≤ i → takes_all (values_at least (count - i) bytes) ≡ total → total ≡ eqb (length bytes) 0
unfolding values_at
is_done least count i bytes total le so_far =
    let k : count - i ≡ 0 = omega arith in
    let one : takes_all (values_at least (count - i) bytes) ≡ eqb (length bytes) 0 = rw k refl in
    sym so_far ∙ one

pub is_read-guarded : (read : Option (List (ℕ × RowValue) × List ℕ)) → takes_all read ≡ is_read (read >>= λ values. cond (eqb (length values.1) 0) (Some values.0) None)
is_read-guarded None = refl
is_read-guarded (Some x) = elim (eqb (length x.1) 0) as (λ b. b ≡ is_read (cond b (Some x.0) None)) [ true ↦ refl | false ↦ refl ]

read_is : (bytes : List ℕ) (o : Option (List (ℕ × RowValue))) → IsBytes bytes → read_values bytes ≡ o → is_read o ≡ true → IsRowBytes bytes
read_is bytes None fits e h = absurd cc
read_is bytes (Some values) fits e h = let s = row_from_values bytes values (read_spelled bytes values fits e) in (grouped values, s.formed, s.spelled)

again_is : (bytes : List ℕ) → IsRowBytes bytes → is_read (read_values bytes) ≡ true
again_is bytes h = ap (λ (b : List ℕ). is_read (read_values b)) h.2 ∙ ap is_read (read_row_again h.0 h.1)

pub is_row-from_read : (bytes : List ℕ) (result : Bool) → IsBytes bytes → result ≡ is_read (read_values bytes) → IsTrue result ↔ IsRowBytes bytes
is_row-from_read bytes result fits e = (λ h. read_is bytes (read_values bytes) fits refl (sym e ∙ h), λ h. e ∙ again_is bytes h)
