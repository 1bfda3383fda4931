-- The rows before the held changes of a table, as what refers to long values.
use Rattle.std.proofs.Common.{◌≡◌, ℕ, Bool, true, false, cond, List, [], ◌∷◌, ◌++◌, filter, map, refl, ap, ◌∙◌}
use Rattle.std.specs.Prelude.{◌==◌}
use Rattle.long_rows.specs.ReferenceCounts.{RowBefore}
use Rattle.version_store.specs.HeldChanges.{HeldChange}
use Rattle.stored_variants.specs.CountedValues.{row_before, rows_before}

-- the row before a change, where it is of the table
abbrev pub row_if_of : ℕ → HeldChange → List RowBefore
row_if_of table h = cond (h.table == table) (row_before h ∷ []) []

pub held_after : (table : ℕ) (held : List HeldChange) (h : HeldChange) → rows_before table (held ++ h ∷ []) ≡ rows_before table held ++ row_if_of table h
held_after table [] h = by (h.table == table)
  where
    by : (b : Bool) → map row_before (cond b (h ∷ []) []) ≡ cond b (row_before h ∷ []) []
    by true = refl
    by false = refl
held_after table (x ∷ held) h = by (x.table == table) (held_after table held h)
  where
    of : List HeldChange → List HeldChange
    of changes = filter (λ (h : HeldChange). h.table == table) changes

    by : (b : Bool) → map row_before (of (held ++ h ∷ [])) ≡ map row_before (of held) ++ row_if_of table h → map row_before (cond b (x ∷ of (held ++ h ∷ [])) (of (held ++ h ∷ []))) ≡ map row_before (cond b (x ∷ of held) (of held)) ++ row_if_of table h
    by true rest = ap (λ (rows : List RowBefore). row_before x ∷ rows) rest
    by false rest = rest

-- a change of the held changes that leaves their rows
pub held_mapped : (table : ℕ) (change : HeldChange → HeldChange) → ((h : HeldChange) → ((change h).table ≡ h.table) × (row_before (change h) ≡ row_before h)) → (held : List HeldChange) → rows_before table (map change held) ≡ rows_before table held
held_mapped table change leaves [] = refl
held_mapped table change leaves (h ∷ held) =
    ap (λ (n : ℕ). map row_before (cond (n == table) (change h ∷ of (map change held)) (of (map change held)))) (leaves h).0
    ∙ by (h.table == table) (held_mapped table change leaves held)
  where
    of : List HeldChange → List HeldChange
    of changes = filter (λ (h : HeldChange). h.table == table) changes

    by : (b : Bool) → map row_before (of (map change held)) ≡ map row_before (of held) → map row_before (cond b (change h ∷ of (map change held)) (of (map change held))) ≡ map row_before (cond b (h ∷ of held) (of held))
    by true rest = λ i. (leaves h).1 i ∷ rest i
    by false rest = rest
