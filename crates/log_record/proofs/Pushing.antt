-- A value more behind those of a record.
use Rattle.std.proofs.Common.{◌≡◌, ℕ, ◌<◌, ◌≤◌, Bool, true, false, cond, Option, Some, None, ltb, leb, ◌&&◌, List, [], ◌∷◌, ◌++◌, length, refl, sym, ap, subst, ◌∙◌, append_assoc, arith, inl, inr}
use Rattle.std.specs.List.{list_all}
use Rattle.std.specs.Ordering.{nat_cmp, is_lt, is_eq}
use Rattle.std.specs.Prelude.{unwrap_or}
use Rattle.std.specs.declared.cmp.Ordering.{Ordering}
use Rattle.std.specs.FinMap.Entries.{by_order, is_sorted, below_all}
use Rattle.std.specs.declared.cmp.Ordering.TheVariants.{Equal, Greater}
use Rattle.std.proofs.lemmas.Bool.{and_parts, and_from, leb-true, le-leb, ltb-true, cases_lt}
use Rattle.std.proofs.lemmas.Bool.Decides.{nat_tests}
use Rattle.std.proofs.lemmas.List.{append-nil, map-append}
use Rattle.std.proofs.lemmas.List.Folds.{list_all-append}
use Rattle.column_set.specs.Record.{is_record}
use Rattle.column_set.specs.RecordValues.{RecordFields, lookup_by_number, put_by_number, values_of, with_values}
use Rattle.column_set.specs.Rows.{record_values_in_order}
use Rattle.column_set.specs.NumberReading.{◌>>=◌, some_is}
use Rattle.log_grammar.specs.EntryReading.{next_at, value_at}
use Rattle.log_grammar.proofs.Grouping.{is_lt-nat_cmp}
use Rattle.log_grammar.proofs.Values.{of_column}

cmp-above : (x y : ℕ) → y < x → nat_cmp x y ≡ Greater
cmp-above x y lt = grind (arith, nat_tests)

cmp-same : (x y : ℕ) → x ≡ y → nat_cmp x y ≡ Equal
cmp-same x y e = grind (arith, nat_tests)

-- each column is at most this one
abbrev pub are_up_to : ℕ → RecordFields → Bool
are_up_to column fields = list_all (λ field. leb field.0 column) fields

abbrev pub values_up_to : ℕ → List (ℕ × List ℕ) → Bool
values_up_to column values = list_all (λ value. leb value.0 column) values

pushed : (fields : RecordFields) (column : ℕ) (value : List ℕ) → is_sorted nat_cmp fields ≡ true → are_up_to column fields ≡ true
    → record_values_in_order (put_by_number column (values_of fields column ++ value ∷ []) fields) ≡ record_values_in_order fields ++ (column, value) ∷ []
pushed [] column value sorted bound = refl
pushed (field ∷ fields) column value sorted bound =
    let s = and_parts (below_all nat_cmp field.0 fields) (is_sorted nat_cmp fields) sorted in
    let b = and_parts (leb field.0 column) (are_up_to column fields) bound in
    let le : field.0 ≤ column = leb-true _ _ b.0 in
    let put : Ordering → List (List ℕ) → List (ℕ × List ℕ) = λ o vs. record_values_in_order (by_order o ((column, vs ++ value ∷ []) ∷ field ∷ fields) ((field.0, vs ++ value ∷ []) ∷ fields) (field ∷ put_by_number column (vs ++ value ∷ []) fields)) in
    let had : Ordering → List (List ℕ) = λ o. unwrap_or (cond (is_eq o) (Some field.1) (lookup_by_number column fields)) [] in
    elim (cases_lt field.0 column) [
      | inl lt ↦
          ap (λ o. put o (had o)) (cmp-above column field.0 lt)
          ∙ ap (λ (r : List (ℕ × List ℕ)). of_column field.0 field.1 ++ r) (pushed fields column value s.1 b.1) ∙ sym (append_assoc (of_column field.0 field.1) (record_values_in_order fields) ((column, value) ∷ []))
      | inr ge ↦
          let same : column ≡ field.0 = omega arith in
          ap (λ o. put o (had o)) (cmp-same column field.0 same) ∙ last field fields column value same s.0 b.1
    ] where
      last : (field : ℕ × List (List ℕ)) (fields : RecordFields) (column : ℕ) (value : List ℕ) → column ≡ field.0 → below_all nat_cmp field.0 fields ≡ true → are_up_to column fields ≡ true
          → of_column field.0 (field.1 ++ value ∷ []) ++ record_values_in_order fields ≡ (of_column field.0 field.1 ++ record_values_in_order fields) ++ (column, value) ∷ []
      last field [] column value same below bound =
          append-nil (of_column field.0 (field.1 ++ value ∷ [])) ∙ map-append (λ v. (field.0, v)) field.1 (value ∷ [])
          ∙ ap (λ (c : ℕ). of_column field.0 field.1 ++ (c, value) ∷ []) (sym same)
          ∙ ap (λ (r : List (ℕ × List ℕ)). r ++ (column, value) ∷ []) (sym (append-nil (of_column field.0 field.1)))
      last field (next ∷ fields) column value same below bound =
          let p = and_parts (is_lt (nat_cmp field.0 next.0)) (below_all nat_cmp field.0 fields) below in
          let lt : field.0 < next.0 = ltb-true _ _ (sym (is_lt-nat_cmp field.0 next.0) ∙ p.0) in
          let q = and_parts (leb next.0 column) (are_up_to column fields) bound in
          let le : next.0 ≤ column = leb-true _ _ q.0 in
          absurd (omega arith)

put_is : (fields : RecordFields) (column : ℕ) (values : List (List ℕ)) (value : List ℕ) → with_values fields column (values ++ value ∷ []) ≡ put_by_number column (values ++ value ∷ []) fields
put_is fields column [] value = refl
put_is fields column (first ∷ values) value = refl

fields_up_to : (column : ℕ) (fields : RecordFields) → list_all (λ field. ltb 0 (length field.1)) fields ≡ true → values_up_to column (record_values_in_order fields) ≡ true → are_up_to column fields ≡ true
fields_up_to column [] some bound = refl
fields_up_to column ((number, []) ∷ fields) some bound = absurd (let e : false ≡ true = (and_parts false (list_all (λ field. ltb 0 (length field.1)) fields) some).0 in cc)
fields_up_to column ((number, value ∷ values) ∷ fields) some bound =
    let s = and_parts (ltb 0 (length (value ∷ values))) (list_all (λ field. ltb 0 (length field.1)) fields) some in
    let b = and_parts (leb number column) (values_up_to column (of_column number values ++ record_values_in_order fields)) bound in
    let r = and_parts (values_up_to column (of_column number values)) (values_up_to column (record_values_in_order fields)) (sym (list_all-append (λ value. leb value.0 column) (of_column number values) (record_values_in_order fields)) ∙ b.1) in
    and_from (leb number column) (are_up_to column fields) b.0 (fields_up_to column fields s.1 r.1)

values_raised : (low high : ℕ) (values : List (ℕ × List ℕ)) → low ≤ high → values_up_to low values ≡ true → values_up_to high values ≡ true
values_raised low high [] le h = refl
values_raised low high (value ∷ values) le h =
    let p = and_parts (leb value.0 low) (values_up_to low values) h in
    let under : value.0 ≤ low = leb-true _ _ p.0 in
    and_from (leb value.0 high) (values_up_to high values) (le-leb _ _ (omega arith)) (values_raised low high values le p.1)

-- the values of a record with one more, of no lower column
pub values-push : (fields new : RecordFields) (least column : ℕ) (value : List ℕ) → is_record fields ≡ true → values_up_to least (record_values_in_order fields) ≡ true → least ≤ column
    → new ≡ with_values fields column (values_of fields column ++ value ∷ []) → record_values_in_order new ≡ record_values_in_order fields ++ (column, value) ∷ []
values-push fields new least column value formed bound le is =
    let p = and_parts (is_sorted nat_cmp fields) (list_all (λ field. ltb 0 (length field.1)) fields) formed in
    let up_to = fields_up_to column fields p.1 (values_raised least column (record_values_in_order fields) le bound) in
    ap (λ (fs : RecordFields). record_values_in_order fs) (is ∙ put_is fields column (values_of fields column) value) ∙ pushed fields column value p.0 up_to

pub bound-push : (values : List (ℕ × List ℕ)) (least column : ℕ) (value : List ℕ) → values_up_to least values ≡ true → least ≤ column → values_up_to column (values ++ (column, value) ∷ []) ≡ true
bound-push values least column value bound le =
    list_all-append (λ v. leb v.0 column) values ((column, value) ∷ []) ∙ and_from (values_up_to column values) (leb column column && true) (values_raised least column values le bound) (and_from (leb column column) true (le-leb _ _ (omega arith)) refl)

above : (least : ℕ) (o : Option ((ℕ × List ℕ) × List ℕ)) (value : ℕ × List ℕ) (after : List ℕ) → (o >>= λ a. cond (leb least a.0.0) (Some a) None) ≡ Some (value, after) → least ≤ value.0
above least None value after e = absurd cc
above least (Some a) value after e = step (leb least a.0.0) refl e where
  step : (b : Bool) → leb least a.0.0 ≡ b → cond b (Some a) None ≡ Some (value, after) → least ≤ value.0
  step true test is = subst (λ (x : (ℕ × List ℕ) × List ℕ). least ≤ x.0.0) (some_is a (value, after) is) (leb-true _ _ test)
  step false test is = absurd cc

-- a value that was read is of no lower column
pub next_above : (least : ℕ) (bytes : List ℕ) (value : ℕ × List ℕ) (after : List ℕ) → next_at least bytes ≡ Some (value, after) → least ≤ value.0
unfolding next_at
next_above least bytes value after e = above least (value_at bytes) value after e
