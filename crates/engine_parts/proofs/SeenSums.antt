-- What RetrieveColumn answers of an escrow column.
use Rattle.std.proofs.Common.{◌≡◌, ℕ, zero, suc, Bool, true, false, cond, List, [], ◌∷◌, length, Option, Some, None, slice_get, unwrap_or, refl, sym, ap, ◌∙◌, arith}
use Rattle.std.specs.Prelude.{ℤ, pos, ◌==◌, ◌-◌}
use Rattle.std.proofs.lemmas.Bool.Decides.{nat_tests}
use Rattle.common_lemmas.proofs.Booleans.{impossible}
use Rattle.jet_base.specs.declared.words.ColType.{ColType}
use Rattle.jet_base.specs.declared.words.ColType.TheVariants.{Long}
use Rattle.jet_base.specs.declared.replies.Jet.TheVariants as jet
use Rattle.jet_base.specs.ColumnType.{is_number_type, number_of}
use Rattle.column_set.specs.declared.columns.Column.{Column}
use Rattle.column_set.specs.RecordValues.{RecordFields, values_of}
use Rattle.database_state.specs.Changes.{escrow_bytes}
use Rattle.index_derive.specs.declared.rules.Schema.{Schema}
use Rattle.session_local.specs.Answer.{Answered, Number}
use Rattle.session_local.specs.Outcome.{CallInputs, Outcome, said}
use Rattle.session_local.specs.RecordCalls.{column_shown, value_shown}
use Rattle.laws_versions.specs.EscrowNumbers.{is_one_number, holds_number}
use Rattle.laws_versions.specs.EscrowSums.{escrow_value}
use Rattle.laws_versions.proofs.SumLemmas.VeryRecords.{one_value, read_as_long}
use Rattle.engine_parts.specs.Reading.{IsRowOf}
use Rattle.engine_parts.specs.Retrieving.{IsColumnOf}

-- what is answered of the values of a column
abbrev shown_of : CallInputs → ℕ → ℕ → Column → List (List ℕ) → Outcome
shown_of asked sequence most column values =
    cond (sequence == 0) (said asked jet.Success (Number (pos (length values)))) (value_shown asked column most (slice_get values (sequence - 1)))

-- ---- the one value of an escrow column

past : (n : ℕ) → suc (suc n) - 1 ≡ suc n
past n = omega arith

not_count : (n : ℕ) → (suc (suc n) == 0) ≡ false
not_count n = grind (arith, nat_tests)

-- no value stands behind the first
behind : (asked : CallInputs) (n most : ℕ) (column : Column) (v : List ℕ) → shown_of asked (suc (suc n)) most column (v ∷ []) ≡ value_shown asked column most None
behind asked n most column v =
    ap (λ b. cond b (said asked jet.Success (Number (pos 1))) (value_shown asked column most (slice_get (v ∷ []) (suc (suc n) - 1)))) (not_count n)
    ∙ ap (λ (k : ℕ). value_shown asked column most (slice_get (v ∷ []) k)) (past n)

other_places : (asked : CallInputs) (sequence most : ℕ) (column : Column) (one other : List (List ℕ)) → is_one_number one ≡ true → is_one_number other ≡ true → (sequence ≡ 1 → ⊥)
    → shown_of asked sequence most column one ≡ shown_of asked sequence most column other
other_places asked sequence most column [] other h g e = impossible h
other_places asked sequence most column (v ∷ x ∷ xs) other h g e = impossible h
other_places asked sequence most column (v ∷ []) [] h g e = impossible g
other_places asked sequence most column (v ∷ []) (w ∷ y ∷ ys) h g e = impossible g
other_places asked zero most column (v ∷ []) (w ∷ []) h g e = refl
other_places asked (suc zero) most column (v ∷ []) (w ∷ []) h g e = absurd (e refl)
other_places asked (suc (suc n)) most column (v ∷ []) (w ∷ []) h g e =
    behind asked n most column v ∙ sym (behind asked n most column w)

-- a number of the column is answered as one
number_shown : (asked : CallInputs) (most : ℕ) (column : Column) (value : List ℕ) → column.kind ≡ Long → value_shown asked column most (Some value) ≡ said asked jet.Success (Number (number_of Long value))
number_shown asked most column value long = rw long refl

-- ---- what the session is answered

plain_shown : (asked : CallInputs) (sequence most : ℕ) (schema : Schema) (amounts : ℕ → List ℤ) (row seen : RecordFields) (column : Column) → IsRowOf schema amounts row seen → IsColumnOf schema column
    → (column.escrow ≡ false) → column_shown asked sequence most seen column ≡ column_shown asked sequence most row column
plain_shown asked sequence most schema amounts row seen column is of plain = ap (shown_of asked sequence most column) (is.plain column.id.0 (of.its ∙ plain))

counted_shown : (asked : CallInputs) (sequence most : ℕ) (schema : Schema) (amounts : ℕ → List ℤ) (row seen : RecordFields) (column : Column) → IsRowOf schema amounts row seen → IsColumnOf schema column
    → column.escrow ≡ true → (sequence ≡ 1 → ⊥) → column_shown asked sequence most seen column ≡ column_shown asked sequence most row column
counted_shown asked sequence most schema amounts row seen column is of sum other =
    other_places asked sequence most column (values_of seen column.id.0) (values_of row column.id.0) (is.held column.id.0 (of.its ∙ sum)) (is.stored column.id.0 (of.its ∙ sum)) other

pub sum_shown : (asked : CallInputs) (sequence most : ℕ) (schema : Schema) (amounts : ℕ → List ℤ) (row seen : RecordFields) (column : Column) → IsRowOf schema amounts row seen → IsColumnOf schema column
    → column.escrow ≡ true → sequence ≡ 1 → column_shown asked sequence most seen column ≡ said asked jet.Success (Number (escrow_value seen column.id.0))
sum_shown asked sequence most schema amounts row seen column is of sum first =
    let holds = is.held column.id.0 (of.its ∙ sum) in
    ap (λ (k : ℕ). shown_of asked k most column (values_of seen column.id.0)) first
    ∙ ap (λ (o : Option (List (List ℕ))). value_shown asked column most (slice_get (unwrap_or o []) 0)) (one_value seen column.id.0 holds).0
    ∙ number_shown asked most column (escrow_bytes seen column.id.0) (of.long sum)
    ∙ ap (λ (n : ℤ). said asked jet.Success (Number n)) (read_as_long seen column.id.0 holds)

-- the branches of what is read: an escrow column's first value, or the row
pub other_shown : (asked : CallInputs) (sequence most : ℕ) (schema : Schema) (amounts : ℕ → List ℤ) (row seen : RecordFields) (column : Column) → IsRowOf schema amounts row seen → IsColumnOf schema column
    → (column.escrow ≡ true → (sequence ≡ 1 → ⊥)) → column_shown asked sequence most seen column ≡ column_shown asked sequence most row column
other_shown asked sequence most schema amounts row seen column is of other = by column.escrow refl
  where
    by : (b : Bool) → column.escrow ≡ b → column_shown asked sequence most seen column ≡ column_shown asked sequence most row column
    by true e = counted_shown asked sequence most schema amounts row seen column is of e (other e)
    by false e = plain_shown asked sequence most schema amounts row seen column is of e
