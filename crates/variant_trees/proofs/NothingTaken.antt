-- The row of a record without a long value takes none.
use Rattle.std.proofs.Common.{◌≡◌, ℕ, true, List, [], ◌∷◌, ◌++◌, length, map, refl, sym, ap, ◌∙◌, arith}
use Rattle.std.specs.Prelude.{◌==◌, ◌&&◌, nat_le, nat_lt}
use Rattle.std.proofs.lemmas.Bool.Decides.{nat_tests}
use Rattle.common_lemmas.proofs.Booleans.{and_left, and_right, impossible}
use Rattle.column_set.specs.declared.rows.RowValue.{RowValue}
use Rattle.column_set.specs.declared.rows.RowValue.TheVariants.{Here, Apart}
use Rattle.column_set.specs.RecordValues.{RecordFields}
use Rattle.column_set.specs.Rows.{are_short, is_all_here, record_values_in_order, stands_for, values_stand_for}
use Rattle.table_trees.specs.ValuesChanged.{HasLongValues}
use Rattle.long_rows.specs.ReferenceCounts.{with_all_taken}
use Rattle.long_rows.specs.KeptRows.{given_by, with_value_given}
use Rattle.table_trees.specs.StoredTables.{StoredTable, table_long_values}

both : (n : ℕ) → nat_le n 255 ≡ true → nat_lt 255 n ≡ true → ⊥
both n low high = grind (arith, nat_tests)

-- a value that is not long is not kept apart
unnamed : (x : RowValue) (v : List ℕ) (given : List (List ℕ × List ℕ)) → nat_le (length v) 255 ≡ true → stands_for x v ≡ true → with_value_given x v given ≡ given
unnamed (Here own) v given low stand = refl
unnamed (Apart entry place size) v given low stand = absurd (both (length v) low (and_left (nat_lt 255 (length v)) (size == length v) stand))

-- the values of a column take none where those behind it take none
nothing_of : (column : ℕ) (vs : List (List ℕ)) (xs : List (ℕ × RowValue)) (rest : List (ℕ × List ℕ)) → are_short vs ≡ true → values_stand_for xs (map (λ v. (column, v)) vs ++ rest) ≡ true
    → ((ys : List (ℕ × RowValue)) → values_stand_for ys rest ≡ true → given_by ys rest ≡ []) → given_by xs (map (λ v. (column, v)) vs ++ rest) ≡ []
nothing_of column [] xs rest short stand behind = behind xs stand
nothing_of column (v ∷ vs) [] rest short stand behind = impossible stand
nothing_of column (v ∷ vs) (x ∷ xs) rest short stand behind =
    let first : ((x.0 == column) && stands_for x.1 v) ≡ true = and_left ((x.0 == column) && stands_for x.1 v) (values_stand_for xs (map (λ v. (column, v)) vs ++ rest)) stand in
    let later : values_stand_for xs (map (λ v. (column, v)) vs ++ rest) ≡ true = and_right ((x.0 == column) && stands_for x.1 v) (values_stand_for xs (map (λ v. (column, v)) vs ++ rest)) stand in
    unnamed x.1 v (given_by xs (map (λ v. (column, v)) vs ++ rest)) (and_left (nat_le (length v) 255) (are_short vs) short) (and_right (x.0 == column) (stands_for x.1 v) first)
    ∙ nothing_of column vs xs rest (and_right (nat_le (length v) 255) (are_short vs) short) later behind

pub nothing_given : (fields : RecordFields) (xs : List (ℕ × RowValue)) → is_all_here fields ≡ true → values_stand_for xs (record_values_in_order fields) ≡ true → given_by xs (record_values_in_order fields) ≡ []
nothing_given [] [] short stand = refl
nothing_given [] (x ∷ xs) short stand = impossible stand
nothing_given ((column, vs) ∷ fields) xs short stand =
    nothing_of column vs xs (record_values_in_order fields) (and_left (are_short vs) (is_all_here fields) short) stand (λ ys behind. nothing_given fields ys (and_right (are_short vs) (is_all_here fields) short) behind)

pub takes_nothing : (table : ℕ) (trees : List StoredTable) (given : List (List ℕ × List ℕ)) → given ≡ [] → HasLongValues table (with_all_taken given (table_long_values trees table)) trees trees
takes_nothing table trees given none = record {
  named = sym (ap (λ (g : List (List ℕ × List ℕ)). with_all_taken g (table_long_values trees table)) none);
  others = λ other not. refl;
  nodes = λ other. refl;
  indexes = λ other. refl;
  numbers = refl;
}
