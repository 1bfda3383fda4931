-- The row that a put makes stands for its record.
use Rattle.std.proofs.Common.{◌≡◌, ℕ, true, List, [], ◌∷◌, ◌++◌, length, map, refl, arith}
use Rattle.std.specs.Prelude.{IsTrue, nat_le}
use Rattle.std.specs.List.{AllByRecursion, list_all}
use Rattle.std.proofs.lemmas.Bool.{and_from}
use Rattle.common_lemmas.proofs.Booleans.{and_left, and_right}
use Rattle.column_set.specs.RecordValues.{RecordFields, record_size}
use Rattle.column_set.specs.Rows.{RowFields, is_row_of, record_values_in_order, row_size, values_in_order}
use Rattle.long_rows.specs.ReferenceCounts.{with_all_taken}
use Rattle.long_rows.proofs.Taken.{ValueLaws}
use Rattle.long_rows.specs.WholeRows.{StandsFor}
use Rattle.long_rows.specs.KeptRows.{Found, MayKeep, MayTake, are_values, given_values, kept_row}
use Rattle.long_rows.proofs.Kept.{all_stand, fields_kept}
use Rattle.long_rows.proofs.Given.{IdLaw, IsFresh, all_take, is_value}
use Rattle.long_rows.proofs.Reading.{row_read}
use Rattle.long_rows.proofs.Formed.{few_values, row_formed}

-- what the law of sizes says
abbrev pub SizeLaw : Type 0
SizeLaw = (row : RowFields) (fields : RecordFields) → IsTrue (is_row_of row fields) → row_size row ≡ record_size fields

pub kept_form : (found : Found) (fields : RecordFields) → is_row_of (kept_row found fields) fields ≡ true
kept_form found fields = all_stand found 0 (values_in_order (kept_row found fields)) (record_values_in_order fields) (fields_kept found 0 fields)

pub kept_size : SizeLaw → (found : Found) (fields : RecordFields) → row_size (kept_row found fields) ≡ record_size fields
kept_size law found fields = law (kept_row found fields) fields (kept_form found fields)

fresh_of : (found : Found) (fields : RecordFields) → MayKeep found fields → IsFresh found
fresh_of found fields may = record { number = may.number; absent = may.fresh }

values_short : (column : ℕ) (vs : List (List ℕ)) (ws : List (ℕ × List ℕ)) → are_values vs ≡ true → list_all is_value ws ≡ true → list_all is_value (map (λ v. (column, v)) vs ++ ws) ≡ true
values_short column [] ws e f = f
values_short column (v ∷ vs) ws e f = and_from (nat_le (length v) 1048576) (list_all is_value (map (λ v. (column, v)) vs ++ ws)) (and_left (nat_le (length v) 1048576) (are_values vs) e) (values_short column vs ws (and_right (nat_le (length v) 1048576) (are_values vs) e) f)

all_short : (fields : RecordFields) → list_all (λ field. are_values field.1) fields ≡ true → list_all is_value (record_values_in_order fields) ≡ true
all_short [] e = refl
all_short ((column, vs) ∷ fields) e = values_short column vs (record_values_in_order fields) (and_left (are_values vs) (list_all (λ field. are_values field.1) fields) e) (all_short fields (and_right (are_values vs) (list_all (λ field. are_values field.1) fields) e))

pub kept_takes : SizeLaw → (found : Found) (fields : RecordFields) → MayKeep found fields → AllByRecursion (MayTake found.values) (given_values (kept_row found fields) fields)
kept_takes law found fields may =
    let few = few_values found fields (kept_size law found fields) may.small in
    all_take found (fresh_of found fields may) 0 (values_in_order (kept_row found fields)) (record_values_in_order fields) (fields_kept found 0 fields) (all_short fields may.short) (omega (arith, few))

pub kept_stands : ValueLaws → IdLaw → SizeLaw → (found : Found) (fields : RecordFields) → MayKeep found fields → StandsFor (with_all_taken (given_values (kept_row found fields) fields) found.values) (kept_row found fields) fields
kept_stands laws ids law found fields may =
    let size = kept_size law found fields in
    let few = few_values found fields size may.small in
    let read = row_read laws ids found (fresh_of found fields may) fields (omega (arith, few)) in
    record { formed = row_formed found fields may size; whole = read.1; shown = read.0 }
