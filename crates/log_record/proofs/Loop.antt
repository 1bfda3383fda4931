-- Reading one after the other, as a loop does.
use Rattle.std.proofs.Common.{◌≡◌, ℕ, suc, ◌-◌, ◌+◌, ◌≤◌, ◌<◌, List, [], ◌∷◌, ◌++◌, Option, Some, None, refl, sym, ap, ◌∙◌, append_assoc, arith}
use Rattle.std.proofs.lemmas.List.{append-nil}
use Rattle.column_set.specs.NumberReading.{◌>>=◌}
use Rattle.log_record.specs.declared.fault.EntryFault.{EntryFault}
use Rattle.log_record.specs.declared.fault.EntryFault.TheVariants.{BadEntry, OutOfMemory}
use Rattle.log_grammar.specs.EntryReading.{many_at, next_at, values_at}
use Rattle.log_record.specs.EntrySeen.{Fails}

-- what was read before, and what is still read
abbrev pub with_front : {A : Type 0} → List A → Option (List A × List ℕ) → Option (List A × List ℕ)
with_front front read = read >>= λ x. Some (front ++ x.0, x.1)

regroup : {A : Type 0} (front : List A) (value : A) (read : Option (List A × List ℕ)) → with_front front (read >>= λ x. Some (value ∷ x.0, x.1)) ≡ with_front (front ++ value ∷ []) read
regroup {A = A} front value (Some x) = ap (λ (values : List A). Some (values, x.1)) (simp append_assoc)
regroup front value None = refl

pub goes_on : {A : Type 0} (read : List ℕ → Option (A × List ℕ)) (front : List A) (count i : ℕ) (bytes : List ℕ) (value : A) (after : List ℕ) (total : Option (List A × List ℕ)) → i < count → read bytes ≡ Some (value, after)
    → with_front front (many_at read (count - i) bytes) ≡ total → with_front (front ++ value ∷ []) (many_at read (count - (i + 1)) after) ≡ total
goes_on read front count i bytes value after total lt h so_far =
    let k : count - i ≡ suc (count - (i + 1)) = omega arith in
    let one : with_front front (many_at read (count - i) bytes) ≡ with_front (front ++ value ∷ []) (many_at read (count - (i + 1)) after) = rw (k, h) (regroup front value (many_at read (count - (i + 1)) after)) in
    sym one ∙ so_far

pub ends : {A : Type 0} (e : EntryFault) (read : List ℕ → Option (A × List ℕ)) (front : List A) (count i : ℕ) (bytes : List ℕ) (total : Option (List A × List ℕ)) → i < count → Fails e (read bytes)
    → with_front front (many_at read (count - i) bytes) ≡ total → Fails e total
ends BadEntry read front count i bytes total lt h so_far =
    let k : count - i ≡ suc (count - (i + 1)) = omega arith in
    let one : with_front front (many_at read (count - i) bytes) ≡ None = rw (k, h) refl in
    sym so_far ∙ one
ends OutOfMemory read front count i bytes total lt h so_far = tt

pub is_done : {A : Type 0} (read : List ℕ → Option (A × List ℕ)) (front : List A) (count i : ℕ) (bytes : List ℕ) (total : Option (List A × List ℕ)) → count ≤ i → with_front front (many_at read (count - i) bytes) ≡ total → total ≡ Some (front, bytes)
is_done {A = A} read front count i bytes total le so_far =
    let k : count - i ≡ 0 = omega arith in
    let one : with_front front (many_at read (count - i) bytes) ≡ Some (front, bytes) = rw k (ap (λ (xs : List A). Some (xs, bytes)) (append-nil front)) in
    sym so_far ∙ one

-- ---- the values of a record

pub value_goes_on : (front : List (ℕ × List ℕ)) (least count i : ℕ) (bytes : List ℕ) (value : ℕ × List ℕ) (after : List ℕ) (total : Option (List (ℕ × List ℕ) × List ℕ)) → i < count → next_at least bytes ≡ Some (value, after)
    → with_front front (values_at least (count - i) bytes) ≡ total → with_front (front ++ value ∷ []) (values_at value.0 (count - (i + 1)) after) ≡ total
unfolding values_at
value_goes_on front least count i bytes value after total lt h so_far =
    let k : count - i ≡ suc (count - (i + 1)) = omega arith in
    let one : with_front front (values_at least (count - i) bytes) ≡ with_front (front ++ value ∷ []) (values_at value.0 (count - (i + 1)) after) = rw (k, h) (regroup front value (values_at value.0 (count - (i + 1)) after)) in
    sym one ∙ so_far

pub value_ends : (e : EntryFault) (front : List (ℕ × List ℕ)) (least count i : ℕ) (bytes : List ℕ) (total : Option (List (ℕ × List ℕ) × List ℕ)) → i < count → Fails e (next_at least bytes)
    → with_front front (values_at least (count - i) bytes) ≡ total → Fails e total
unfolding values_at
value_ends BadEntry front least count i bytes total lt h so_far =
    let k : count - i ≡ suc (count - (i + 1)) = omega arith in
    let one : with_front front (values_at least (count - i) bytes) ≡ None = rw (k, h) refl in
    sym so_far ∙ one
value_ends OutOfMemory front least count i bytes total lt h so_far = tt

pub values_done : (front : List (ℕ × List ℕ)) (least count i : ℕ) (bytes : List ℕ) (total : Option (List (ℕ × List ℕ) × List ℕ)) → count ≤ i → with_front front (values_at least (count - i) bytes) ≡ total → total ≡ Some (front, bytes)
unfolding values_at
values_done front least count i bytes total le so_far =
    let k : count - i ≡ 0 = omega arith in
    let one : with_front front (values_at least (count - i) bytes) ≡ Some (front, bytes) = rw k (ap (λ (xs : List (ℕ × List ℕ)). Some (xs, bytes)) (append-nil front)) in
    sym so_far ∙ one
