-- A record and its values one after the other say the same.
use Rattle.std.proofs.Common.{◌≡◌, ℕ, ◌<◌, ◌≤◌, Bool, true, false, cond, ltb, leb, eqb, ◌&&◌, List, [], ◌∷◌, ◌++◌, length, refl, sym, ap, subst, ◌∙◌, arith, inl, inr}
use Rattle.std.specs.Prelude.{map}
use Rattle.std.specs.List.{list_all}
use Rattle.std.specs.Ordering.{nat_cmp, is_lt}
use Rattle.std.specs.FinMap.Entries.{is_sorted, below_all}
use Rattle.std.proofs.lemmas.Bool.{and_parts, and_from, eqb-true, eqb-false, eq-eqb, ne_eqb, leb-true, le-leb, ltb-true, lt-ltb, cases_Bool}
use Rattle.std.proofs.lemmas.Bool.Decides.{nat_tests}
use Rattle.column_set.specs.Record.{is_record}
use Rattle.column_set.specs.RecordValues.{RecordFields}
use Rattle.column_set.specs.Rows.{record_values_in_order}
use Rattle.log_grammar.specs.EntryReading.{in_front, grouped}

pub is_lt-nat_cmp : (x y : ℕ) → is_lt (nat_cmp x y) ≡ ltb x y
is_lt-nat_cmp x y = grind (arith, nat_tests)

-- ---- the values of the record that values make

in_order-in_front : (value : ℕ × List ℕ) (fields : RecordFields) → record_values_in_order (in_front value fields) ≡ value ∷ record_values_in_order fields
in_order-in_front value [] = refl
in_order-in_front value (field ∷ fields) =
    elim (cases_Bool (eqb value.0 field.0)) [
      | inl same ↦
          let there : field.0 ≡ value.0 = sym (eqb-true value.0 field.0 same) in
          ap (λ (b : Bool). record_values_in_order (cond b ((value.0, value.1 ∷ field.1) ∷ fields) ((value.0, value.1 ∷ []) ∷ field ∷ fields))) same
          ∙ ap (λ (c : ℕ). value ∷ (map (λ x. (c, x)) field.1 ++ record_values_in_order fields)) (sym there)
      | inr other ↦ ap (λ (b : Bool). record_values_in_order (cond b ((value.0, value.1 ∷ field.1) ∷ fields) ((value.0, value.1 ∷ []) ∷ field ∷ fields))) other
    ]

pub in_order-grouped : (values : List (ℕ × List ℕ)) → record_values_in_order (grouped values) ≡ values
in_order-grouped [] = refl
in_order-grouped (value ∷ values) =
    in_order-in_front value (grouped values) ∙ ap (λ (xs : List (ℕ × List ℕ)). value ∷ xs) (in_order-grouped values)

-- ---- the record of a record's values

grouped-below : (column : ℕ) (value : List ℕ) (fields : RecordFields) → below_all nat_cmp column fields ≡ true → in_front (column, value) fields ≡ (column, value ∷ []) ∷ fields
grouped-below column value [] h = refl
grouped-below column value (field ∷ fields) h =
    let parts = and_parts (is_lt (nat_cmp column field.0)) (below_all nat_cmp column fields) h in
    let lt : column < field.0 = ltb-true column field.0 (sym (is_lt-nat_cmp column field.0) ∙ parts.0) in
    ap (λ (b : Bool). cond b ((column, value ∷ field.1) ∷ fields) ((column, value ∷ []) ∷ field ∷ fields)) (ne_eqb column field.0 (λ e. omega (arith, e)))

grouped-field : (column : ℕ) (value : List ℕ) (values : List (List ℕ)) (rest : List (ℕ × List ℕ)) (fields : RecordFields) → grouped rest ≡ fields → below_all nat_cmp column fields ≡ true
    → grouped (map (λ x. (column, x)) (value ∷ values) ++ rest) ≡ (column, value ∷ values) ∷ fields
grouped-field column value [] rest fields e below = ap (in_front (column, value)) e ∙ grouped-below column value fields below
grouped-field column value (next ∷ values) rest fields e below =
    ap (in_front (column, value)) (grouped-field column next values rest fields e below)
    ∙ ap (λ (b : Bool). cond b ((column, value ∷ next ∷ values) ∷ fields) ((column, value ∷ []) ∷ (column, next ∷ values) ∷ fields)) (eq-eqb column column refl)

pub grouped-in_order : (fields : RecordFields) → is_record fields ≡ true → grouped (record_values_in_order fields) ≡ fields
grouped-in_order [] h = refl
grouped-in_order ((column, []) ∷ fields) h =
    let both = and_parts (is_sorted nat_cmp ((column, []) ∷ fields)) (list_all (λ field. ltb 0 (length field.1)) ((column, []) ∷ fields)) h in
    absurd (let e : false ≡ true = (and_parts false (list_all (λ field. ltb 0 (length field.1)) fields) both.1).0 in cc)
grouped-in_order ((column, value ∷ values) ∷ fields) h =
    let both = and_parts (is_sorted nat_cmp ((column, value ∷ values) ∷ fields)) (list_all (λ field. ltb 0 (length field.1)) ((column, value ∷ values) ∷ fields)) h in
    let sorted = and_parts (below_all nat_cmp column fields) (is_sorted nat_cmp fields) both.0 in
    let some = and_parts (ltb 0 (length (value ∷ values))) (list_all (λ field. ltb 0 (length field.1)) fields) both.1 in
    grouped-field column value values (record_values_in_order fields) fields (grouped-in_order fields (and_from (is_sorted nat_cmp fields) (list_all (λ field. ltb 0 (length field.1)) fields) sorted.1 some.1)) sorted.0

-- ---- which values make a record

-- each column of the record is `least` or more
abbrev pub are_from : ℕ → RecordFields → Bool
are_from least fields = list_all (λ field. leb least field.0) fields

-- the columns of the values do not fall, and the first is `least` or more
abbrev pub do_not_fall : ℕ → List (ℕ × List ℕ) → Bool
do_not_fall least [] = true
do_not_fall least (value ∷ values) = leb least value.0 && do_not_fall value.0 values

below_all-lower : (x y : ℕ) (fields : RecordFields) → x ≤ y → below_all nat_cmp y fields ≡ true → below_all nat_cmp x fields ≡ true
below_all-lower x y [] le h = refl
below_all-lower x y (field ∷ fields) le h =
    let parts = and_parts (is_lt (nat_cmp y field.0)) (below_all nat_cmp y fields) h in
    let lt : y < field.0 = ltb-true y field.0 (sym (is_lt-nat_cmp y field.0) ∙ parts.0) in
    and_from (is_lt (nat_cmp x field.0)) (below_all nat_cmp x fields) (is_lt-nat_cmp x field.0 ∙ lt-ltb x field.0 (omega arith)) (below_all-lower x y fields le parts.1)

below_all-from : (x : ℕ) (fields : RecordFields) → below_all nat_cmp x fields ≡ true → are_from x fields ≡ true
below_all-from x [] h = refl
below_all-from x (field ∷ fields) h =
    let parts = and_parts (is_lt (nat_cmp x field.0)) (below_all nat_cmp x fields) h in
    let lt : x < field.0 = ltb-true x field.0 (sym (is_lt-nat_cmp x field.0) ∙ parts.0) in
    and_from (leb x field.0) (are_from x fields) (le-leb x field.0 (omega arith)) (below_all-from x fields parts.1)

are_from-lower : (x y : ℕ) (fields : RecordFields) → x ≤ y → are_from y fields ≡ true → are_from x fields ≡ true
are_from-lower x y [] le h = refl
are_from-lower x y (field ∷ fields) le h =
    let parts = and_parts (leb y field.0) (are_from y fields) h in
    let from : y ≤ field.0 = leb-true y field.0 parts.0 in
    and_from (leb x field.0) (are_from x fields) (le-leb x field.0 (omega arith)) (are_from-lower x y fields le parts.1)

record IsFrom (least : ℕ) (fields : RecordFields) : Type 0 where
  sorted : is_sorted nat_cmp fields ≡ true
  some : list_all (λ field. ltb 0 (length field.1)) fields ≡ true
  from : are_from least fields ≡ true

in_front_from : (least : ℕ) (value : ℕ × List ℕ) (fields : RecordFields) → least ≤ value.0 → IsFrom value.0 fields → IsFrom least (in_front value fields)
in_front_from least value [] le h = record { sorted = refl; some = refl; from = and_from (leb least value.0) true (le-leb _ _ le) refl }
in_front_from least value (field ∷ fields) le h =
    let sorted = and_parts (below_all nat_cmp field.0 fields) (is_sorted nat_cmp fields) h.sorted in
    let some = and_parts (ltb 0 (length field.1)) (list_all (λ field. ltb 0 (length field.1)) fields) h.some in
    let froms = and_parts (leb value.0 field.0) (are_from value.0 fields) h.from in
    let above : value.0 ≤ field.0 = leb-true _ _ froms.0 in
    let least_fields = are_from-lower least value.0 fields le froms.1 in
    let here : leb least value.0 ≡ true = le-leb _ _ le in
    elim (cases_Bool (eqb value.0 field.0)) [
      | inl same ↦
          let made : IsFrom least ((value.0, value.1 ∷ field.1) ∷ fields) = record {
            sorted = and_from (below_all nat_cmp value.0 fields) (is_sorted nat_cmp fields) (below_all-lower value.0 field.0 fields above sorted.0) sorted.1;
            some = and_from (ltb 0 (length (value.1 ∷ field.1))) (list_all (λ field. ltb 0 (length field.1)) fields) (lt-ltb 0 (length (value.1 ∷ field.1)) (omega arith)) some.1;
            from = and_from (leb least value.0) (are_from least fields) here least_fields;
          } in
          subst (λ (b : Bool). IsFrom least (cond b ((value.0, value.1 ∷ field.1) ∷ fields) ((value.0, value.1 ∷ []) ∷ field ∷ fields))) (sym same) made
      | inr other ↦
          let ne : value.0 < field.0 = omega (arith, eqb-false _ _ other) in
          let made : IsFrom least ((value.0, value.1 ∷ []) ∷ field ∷ fields) = record {
            sorted = and_from (below_all nat_cmp value.0 (field ∷ fields)) (is_sorted nat_cmp (field ∷ fields)) (and_from (is_lt (nat_cmp value.0 field.0)) (below_all nat_cmp value.0 fields) (is_lt-nat_cmp _ _ ∙ lt-ltb _ _ ne) (below_all-lower value.0 field.0 fields above sorted.0)) h.sorted;
            some = h.some;
            from = and_from (leb least value.0) (are_from least (field ∷ fields)) here (and_from (leb least field.0) (are_from least fields) (le-leb _ _ (omega arith)) least_fields);
          } in
          subst (λ (b : Bool). IsFrom least (cond b ((value.0, value.1 ∷ field.1) ∷ fields) ((value.0, value.1 ∷ []) ∷ field ∷ fields))) (sym other) made
    ]

grouped_from : (least : ℕ) (values : List (ℕ × List ℕ)) → do_not_fall least values ≡ true → IsFrom least (grouped values)
grouped_from least [] h = record { sorted = refl; some = refl; from = refl }
grouped_from least (value ∷ values) h =
    let parts = and_parts (leb least value.0) (do_not_fall value.0 values) h in
    in_front_from least value (grouped values) (leb-true _ _ parts.0) (grouped_from value.0 values parts.1)

pub is_record-grouped : (values : List (ℕ × List ℕ)) → do_not_fall 0 values ≡ true → is_record (grouped values) ≡ true
is_record-grouped values h =
    let made = grouped_from 0 values h in
    and_from (is_sorted nat_cmp (grouped values)) (list_all (λ field. ltb 0 (length field.1)) (grouped values)) made.sorted made.some

-- ---- the values of a record are in order

do_not_fall-lower : (x y : ℕ) (values : List (ℕ × List ℕ)) → x ≤ y → do_not_fall y values ≡ true → do_not_fall x values ≡ true
do_not_fall-lower x y [] le h = refl
do_not_fall-lower x y (value ∷ values) le h =
    let parts = and_parts (leb y value.0) (do_not_fall value.0 values) h in
    let from : y ≤ value.0 = leb-true _ _ parts.0 in
    and_from (leb x value.0) (do_not_fall value.0 values) (le-leb _ _ (omega arith)) parts.1

field_in_order : (column : ℕ) (values : List (List ℕ)) (rest : List (ℕ × List ℕ)) → do_not_fall column rest ≡ true → do_not_fall column (map (λ x. (column, x)) values ++ rest) ≡ true
field_in_order column [] rest h = h
field_in_order column (value ∷ values) rest h = and_from (leb column column) (do_not_fall column (map (λ x. (column, x)) values ++ rest)) (le-leb _ _ (omega arith)) (field_in_order column values rest h)

fields_in_order : (least : ℕ) (fields : RecordFields) → are_from least fields ≡ true → is_sorted nat_cmp fields ≡ true → do_not_fall least (record_values_in_order fields) ≡ true
fields_in_order least [] from sorted = refl
fields_in_order least (field ∷ fields) from sorted =
    let s = and_parts (below_all nat_cmp field.0 fields) (is_sorted nat_cmp fields) sorted in
    let a = and_parts (leb least field.0) (are_from least fields) from in
    do_not_fall-lower least field.0 _ (leb-true _ _ a.0) (field_in_order field.0 field.1 (record_values_in_order fields) (fields_in_order field.0 fields (below_all-from field.0 fields s.0) s.1))

are_from_zero : (fields : RecordFields) → are_from 0 fields ≡ true
are_from_zero [] = refl
are_from_zero (field ∷ fields) = and_from (leb 0 field.0) (are_from 0 fields) (le-leb 0 field.0 (omega arith)) (are_from_zero fields)

pub values_in_order : (fields : RecordFields) → is_record fields ≡ true → do_not_fall 0 (record_values_in_order fields) ≡ true
values_in_order fields h =
    let both = and_parts (is_sorted nat_cmp fields) (list_all (λ field. ltb 0 (length field.1)) fields) h in
    fields_in_order 0 fields (are_from_zero fields) both.0
