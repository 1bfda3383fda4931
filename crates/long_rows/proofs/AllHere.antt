-- Rows that keep each of their values.
use Rattle.std.proofs.Common.{◌≡◌, ℕ, suc, true, false, Some, List, [], ◌∷◌, ◌++◌, length, map, refl, ap, ◌∙◌, arith}
use Rattle.std.specs.Prelude.{nat_le}
use Rattle.std.specs.List.{list_all}
use Rattle.std.proofs.lemmas.Bool.Decides.{nat_tests}
use Rattle.std.proofs.lemmas.Bool.{and_from}
use Rattle.common_lemmas.proofs.Booleans.{and_left, and_right}
use Rattle.column_set.specs.declared.rows.RowValue.{RowValue}
use Rattle.column_set.specs.declared.rows.RowValue.TheVariants.{Here}
use Rattle.column_set.specs.RecordValues.{RecordFields}
use Rattle.column_set.specs.Rows.{RowFields, all_here, are_short, is_all_here, values_in_order}
use Rattle.long_value.specs.Values.{Values}
use Rattle.long_rows.specs.RowReferences.{identifiers, named_by}
use Rattle.long_rows.specs.WholeRows.{is_there, is_whole, record_in, whole_value}
use Rattle.long_rows.specs.KeptRows.{Found, is_long, kept_fields, kept_value, kept_values, next_place, place_after}

values_shown : (values : Values) (vs : List (List ℕ)) → map (whole_value values) (map (λ v. Here v) vs) ≡ vs
values_shown values [] = refl
values_shown values (v ∷ vs) = ap (λ (l : List (List ℕ)). v ∷ l) (values_shown values vs)

pub all_shown : (values : Values) (fields : RecordFields) → record_in values (all_here fields) ≡ fields
all_shown values [] = refl
all_shown values ((column, vs) ∷ fields) = ap (λ (l : List (List ℕ)). (column, l) ∷ record_in values (all_here fields)) (values_shown values vs) ∙ ap (λ (fs : RecordFields). (column, vs) ∷ fs) (all_shown values fields)

values_there : (values : Values) (vs : List (List ℕ)) → list_all (is_there values) (map (λ v. Here v) vs) ≡ true
values_there values [] = refl
values_there values (v ∷ vs) = values_there values vs

pub all_whole : (values : Values) (fields : RecordFields) → is_whole values (all_here fields) ≡ true
all_whole values [] = refl
all_whole values ((column, vs) ∷ fields) = and_from (list_all (is_there values) (map (λ v. Here v) vs)) (is_whole values (all_here fields)) (values_there values vs) (all_whole values fields)

values_unnamed : (column : ℕ) (vs : List (List ℕ)) (ys : List (ℕ × RowValue)) → named_by (map (λ v. (column, v)) (map (λ v. Here v) vs) ++ ys) ≡ named_by ys
values_unnamed column [] ys = refl
values_unnamed column (v ∷ vs) ys = values_unnamed column vs ys

all_unnamed : (fields : RecordFields) → named_by (values_in_order (all_here fields)) ≡ []
all_unnamed [] = refl
all_unnamed ((column, vs) ∷ fields) = values_unnamed column vs (values_in_order (all_here fields)) ∙ all_unnamed fields

pub names_none : (fields : RecordFields) → identifiers (Some (all_here fields)) ≡ []
names_none fields = all_unnamed fields

-- ---- the row that a put makes of a record without a long value

pub not_long : (v : List ℕ) → nat_le (length v) 255 ≡ true → is_long v ≡ false
not_long v e = grind (arith, nat_tests)

one_here : (found : Found) (column at place : ℕ) (v : List ℕ) → is_long v ≡ false → kept_value found column at place v ≡ Here v
one_here found column at place v f = rw f refl

values_here : (found : Found) (column at place : ℕ) (vs : List (List ℕ)) → are_short vs ≡ true → kept_values found column at place vs ≡ map (λ v. Here v) vs
values_here found column at place [] short = refl
values_here found column at place (v ∷ vs) short =
    ap (λ (x : RowValue). x ∷ kept_values found column (suc at) (next_place found column at place v) vs) (one_here found column at place v (not_long v (and_left (nat_le (length v) 255) (are_short vs) short)))
    ∙ ap (λ (l : List RowValue). Here v ∷ l) (values_here found column (suc at) (next_place found column at place v) vs (and_right (nat_le (length v) 255) (are_short vs) short))

pub all_kept : (found : Found) (place : ℕ) (fields : RecordFields) → is_all_here fields ≡ true → kept_fields found place fields ≡ all_here fields
all_kept found place [] short = refl
all_kept found place ((column, vs) ∷ fields) short =
    ap (λ (l : List RowValue). (column, l) ∷ kept_fields found (place_after found column 0 place vs) fields) (values_here found column 0 place vs (and_left (are_short vs) (is_all_here fields) short))
    ∙ ap (λ (r : RowFields). (column, map (λ v. Here v) vs) ∷ r) (all_kept found (place_after found column 0 place vs) fields (and_right (are_short vs) (is_all_here fields) short))
