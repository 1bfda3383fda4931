-- The record of a row with sums that are not seen, and the one without them.
use Rattle.std.proofs.Common.{◌≡◌, ℕ, true, false, cond, List, [], ◌∷◌, refl, sym, ap, ◌∙◌}
use Rattle.std.specs.Prelude.{ℤ, ◌==◌, filter, map}
use Rattle.std.proofs.lemmas.Bool.{eqb-true}
use Rattle.column_set.specs.RecordValues.{RecordFields}
use Rattle.database_state.specs.Changes.{with_sum}
use Rattle.index_derive.specs.declared.rules.Schema.{Schema}
use Rattle.index_derive.specs.Entries.{is_escrow_column}
use Rattle.laws_versions.specs.EscrowSums.{amounts_to, with_sums}
use Rattle.laws_versions.proofs.SumLemmas.StoredSums.{other_columns, value_without}
use Rattle.laws_versions.proofs.SumLemmas.VeryRecords.{sum_holds, sum_rises}
use Rattle.laws_versions.proofs.RecordLemmas.StoredSums.{IsStoredWithNumbers, sum_stored}
use Rattle.laws_engine.proofs.TableLemmas.ViewedRecords.{AreAdded}
use Rattle.engine_parts.specs.Reading.{IsRowOf}

-- sums of escrow columns leave the other columns
plain_sums : (schema : Schema) (sums : List (ℕ × ℤ)) → AreAdded schema sums → (column : ℕ) → is_escrow_column schema column ≡ false → amounts_to column sums ≡ []
plain_sums schema [] adds column e = refl
plain_sums schema (sum ∷ sums) adds column e =
    elim (sum.0 == column) as (λ b. (sum.0 == column) ≡ b → map (λ (one : ℕ × ℤ). one.1) (cond b (sum ∷ filter (λ one. one.0 == column) sums) (filter (λ one. one.0 == column) sums)) ≡ []) [
      | true ↦ λ f. absurd (never (sym adds.0.0 ∙ ap (is_escrow_column schema) (eqb-true sum.0 column f) ∙ e))
      | false ↦ λ f. plain_sums schema sums adds.1 column e
    ] refl
  where
    never : true ≡ false → ⊥
    never e = cc

-- they leave the size and the fit of a record, and its numbers
stored_sums : (schema : Schema) (number : ℕ) (bookmark : List ℕ) (sums : List (ℕ × ℤ)) → AreAdded schema sums → (values : RecordFields) → IsStoredWithNumbers number schema bookmark values → IsStoredWithNumbers number schema bookmark (with_sums values sums)
stored_sums schema number bookmark [] adds values h = h
stored_sums schema number bookmark (sum ∷ sums) adds values h =
    stored_sums schema number bookmark sums adds.1 (with_sum values sum.0 sum.1)
    (sum_stored number schema bookmark sum.0 sum.1 adds.0.0 values h, (sum_rises values sum.0 sum.1 h.1.0, λ id escrow. sum_holds values sum.0 id sum.1 (h.1.1 id escrow)))

pub row_of : (schema : Schema) (number : ℕ) (bookmark : List ℕ) (sums : List (ℕ × ℤ)) → AreAdded schema sums → (seen : RecordFields) → IsStoredWithNumbers number schema bookmark seen → IsRowOf schema (λ column. amounts_to column sums) (with_sums seen sums) seen
row_of schema number bookmark sums adds seen h =
    let row = stored_sums schema number bookmark sums adds seen h in
    record {
      small = row.0.0;
      fits = row.0.1;
      plain = λ column e. sym (other_columns seen column sums (plain_sums schema sums adds column e));
      stored = row.1.1;
      held = h.1.1;
      number = λ column e. value_without seen column sums;
    }
