-- What a change, an undo and a clean make of a count.
use Rattle.std.proofs.Common.{◌≡◌, ℕ, ◌+◌, false, if◌then◌else◌, Option, None, List, [], ◌∷◌, ◌++◌, ap, arith}
use Rattle.std.specs.Prelude.{sum_by}
use Rattle.std.proofs.lemmas.List.Sums.{sum_by-append, sum_by-cons}
use Rattle.column_set.specs.RecordValues.{lookup_by_key}
use Rattle.column_set.specs.Rows.{RowFields}
use Rattle.long_rows.specs.RowReferences.{references}
use Rattle.long_rows.specs.ReferenceCounts.{AreRows, NewestRows, RowBefore, as_undone, reference_count, references_before, with_change, with_row}
use Rattle.long_rows.proofs.Totals.{total-with_row}

one_more : (id : List ℕ) (held : List RowBefore) (change : RowBefore) → sum_by (references_before id) (held ++ change ∷ []) ≡ sum_by (references_before id) held + references_before id change
one_more id held change = let a = sum_by-append (references_before id) held (change ∷ []) in let b = sum_by-cons (references_before id) change [] in omega (arith, a, b)

amid : (id : List ℕ) (earlier later : List RowBefore) (change : RowBefore) → sum_by (references_before id) (earlier ++ change ∷ later) ≡ sum_by (references_before id) earlier + (references_before id change + sum_by (references_before id) later)
amid id earlier later change = let a = sum_by-append (references_before id) earlier (change ∷ later) in let b = sum_by-cons (references_before id) change later in omega (arith, a, b)

pub changed : (id bookmark : List ℕ) (is : Option RowFields) (rows : NewestRows) (held : List RowBefore) → AreRows rows → reference_count id (with_row bookmark is rows) (with_change bookmark rows held) ≡ reference_count id rows held + references id is
changed id bookmark is rows held sorted =
    let change : RowBefore = record { bookmark = bookmark; row = lookup_by_key bookmark rows; is_undone = false } in
    let a = total-with_row id bookmark is rows sorted in
    let b = one_more id held change in
    omega (arith, a, b)

standing : (id : List ℕ) (change : RowBefore) → change.is_undone ≡ false → references_before id change ≡ references id change.row
standing id change e = ap (λ b. if b then 0 else references id change.row) e

pub undone : (id : List ℕ) (rows : NewestRows) (earlier later : List RowBefore) (change : RowBefore) → AreRows rows → change.is_undone ≡ false
    → reference_count id (with_row change.bookmark change.row rows) (earlier ++ as_undone change ∷ later) + references id (lookup_by_key change.bookmark rows) ≡ reference_count id rows (earlier ++ change ∷ later)
undone id rows earlier later change sorted e =
    let a = total-with_row id change.bookmark change.row rows sorted in
    let b = amid id earlier later change in
    let c = amid id earlier later (as_undone change) in
    let d = standing id change e in
    omega (arith, a, b, c, d)

pub cleaned : (id : List ℕ) (rows : NewestRows) (oldest : RowBefore) (held : List RowBefore) → reference_count id rows held + references_before id oldest ≡ reference_count id rows (oldest ∷ held)
cleaned id rows oldest held = let a = sum_by-cons (references_before id) oldest held in omega (arith, a)

pub without_row_before : (id bookmark : List ℕ) (rows : NewestRows) (held : List RowBefore) → reference_count id rows (held ++ record { bookmark = bookmark; row = None; is_undone = false } ∷ []) ≡ reference_count id rows held
without_row_before id bookmark rows held = let a = one_more id held (record { bookmark = bookmark; row = None; is_undone = false }) in omega (arith, a)

pub rewritten : (id bookmark : List ℕ) (is : Option RowFields) (rows : NewestRows) (held : List RowBefore) → AreRows rows → references id is ≡ references id (lookup_by_key bookmark rows)
    → reference_count id (with_row bookmark is rows) held ≡ reference_count id rows held
rewritten id bookmark is rows held sorted e = let a = total-with_row id bookmark is rows sorted in omega (arith, a, e)
