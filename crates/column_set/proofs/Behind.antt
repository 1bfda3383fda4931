-- The bytes behind the first value of a column.
use Rattle.std.proofs.Common.{◌≡◌, ℕ, List, [], ◌∷◌, ◌++◌, sym, ◌∙◌}
use Rattle.std.specs.List.{AllByRecursion, flat_map}
use Rattle.column_set.specs.declared.rows.RowValue.{RowValue}
use Rattle.column_set.specs.Rows.{value_bytes}
use Rattle.column_set.specs.OtherValues.{MayStand, StandIn, StandsBefore}
use Rattle.column_set.proofs.Passing.{IsRead, Values}

-- a value of another column is passed
pub passed : (column : ℕ) (rest : List ℕ) (number : ℕ) (text after : List ℕ) → (number ≡ column → ⊥) → IsRead rest number text after → (value : ℕ × RowValue) (behind : Values) → value.0 ≡ column
    → StandsBefore column rest value behind → StandsBefore column after value behind
passed column rest number text after ne read value behind own before = by before.front before.apart before.stand
  where
    by : (front : Values) → AllByRecursion (λ x. x.0 ≡ column → ⊥) front → StandIn rest (front ++ value ∷ behind) → StandsBefore column after value behind
    by [] apart stand = absurd (ne ((read value (flat_map value_bytes behind) stand.fit.0 stand.spelled).0 ∙ own))
    by (x ∷ front) apart stand = record {
      front = front;
      apart = apart.1;
      stand = record { fit = stand.fit.1; spelled = (read x (flat_map value_bytes (front ++ value ∷ behind)) stand.fit.0 stand.spelled).2 };
    }

-- the first value of the column is the one
pub met : (column : ℕ) (rest : List ℕ) (number : ℕ) (text after : List ℕ) → number ≡ column → IsRead rest number text after → (value : ℕ × RowValue) (behind : Values)
    → StandsBefore column rest value behind → after ≡ flat_map value_bytes behind
met column rest number text after is read value behind before = by before.front before.apart before.stand
  where
    by : (front : Values) → AllByRecursion (λ x. x.0 ≡ column → ⊥) front → StandIn rest (front ++ value ∷ behind) → after ≡ flat_map value_bytes behind
    by [] apart stand = (read value (flat_map value_bytes behind) stand.fit.0 stand.spelled).2
    by (x ∷ front) apart stand = absurd (apart.0 (sym (read x (flat_map value_bytes (front ++ value ∷ behind)) stand.fit.0 stand.spelled).0 ∙ is))

-- some value is left
pub some_left : (column : ℕ) (rest : List ℕ) → ((value : ℕ × RowValue) (behind : List ℕ) → MayStand value → rest ≡ value_bytes value ++ behind → ⊥) → (value : ℕ × RowValue) (behind : Values) → StandsBefore column rest value behind → ⊥
some_left column rest none value behind before = by before.front before.stand
  where
    by : (front : Values) → StandIn rest (front ++ value ∷ behind) → ⊥
    by [] stand = none value (flat_map value_bytes behind) stand.fit.0 stand.spelled
    by (x ∷ front) stand = none x (flat_map value_bytes (front ++ value ∷ behind)) stand.fit.0 stand.spelled
