-- Rows without the values of a column.
use Rattle.std.proofs.Common.{◌≡◌, ℕ, ◌==◌, ◌<◌, ◌≤◌, ◌^◌, Bool, true, false, not, ◌||◌, Some, List, [], ◌∷◌, ◌++◌, T, length, map, refl, sym, ap, subst, ◌∙◌, arith}
use Rattle.std.specs.Prelude.{bytes_eq, nat_lt}
use Rattle.std.specs.List.{list_all, list_any}
use Rattle.std.specs.Ordering.{nat_cmp}
use Rattle.std.specs.FinMap.Entries.{is_sorted, is_sorted-where_key}
use Rattle.std.proofs.lemmas.Bool.{and_from, lt-ltb, ltb-true, or_right}
use Rattle.std.proofs.lemmas.List.{length-append}
use Rattle.common_lemmas.proofs.Booleans.{and_left, and_right, by_test, is_true}
use Rattle.common_lemmas.proofs.Lists.{all_filtered}
use Rattle.common_lemmas.proofs.Numbers.{same_bytes}
use Rattle.column_set.specs.declared.rows.RowValue.{RowValue}
use Rattle.column_set.specs.declared.rows.RowValue.TheVariants.{Here, Apart}
use Rattle.column_set.specs.RecordValues.{RecordFields, remove_by_number}
use Rattle.column_set.specs.Rows.{RowFields, field_fits_row, is_row, is_well_formed, values_in_order}
use Rattle.long_value.specs.Values.{Values}
use Rattle.long_rows.specs.RowReferences.{identifier, identifiers, named_by, with_identifier}
use Rattle.long_rows.specs.ReferenceCounts.{NamesNoOther}
use Rattle.long_rows.proofs.Totals.{none_among, refers_once, some_among}
use Rattle.long_rows.specs.WholeRows.{StandsFor, is_there, is_whole, record_in, whole_value}

-- ---- what it names

or_more : (a b : Bool) → (a ≡ true → b ≡ true) → b ≡ (a || b)
or_more true b h = h refl
or_more false b h = refl

or_keeps : (a b c : Bool) → (b ≡ true → c ≡ true) → (a || b) ≡ true → (a || c) ≡ true
or_keeps true b c h e = refl
or_keeps false b c h e = h e

pub any_with : (k id : List ℕ) (ids : List (List ℕ)) → list_any (bytes_eq k) (with_identifier id ids) ≡ (bytes_eq k id || list_any (bytes_eq k) ids)
any_with k id ids =
    by_test (list_any (bytes_eq id) ids)
    (λ t. ap (list_any (bytes_eq k)) (there t) ∙ or_more (bytes_eq k id) (list_any (bytes_eq k) ids) (λ e. ap (λ (i : List ℕ). list_any (bytes_eq i) ids) (same_bytes k id e) ∙ t))
    (λ f. ap (list_any (bytes_eq k)) (added f))
  where
    there : list_any (bytes_eq id) ids ≡ true → with_identifier id ids ≡ ids
    there t = rw t refl

    added : list_any (bytes_eq id) ids ≡ false → with_identifier id ids ≡ id ∷ ids
    added f = rw f refl

-- whether some values name it
abbrev is_named : List ℕ → List (ℕ × RowValue) → Bool
is_named k xs = list_any (bytes_eq k) (named_by xs)

one_more : (k : List ℕ) (x : ℕ × RowValue) (xs : List (ℕ × RowValue)) → is_named k xs ≡ true → is_named k (x ∷ xs) ≡ true
one_more k (column, Here bytes) xs e = e
one_more k (column, Apart entry place size) xs e = any_with k (identifier entry place) (named_by xs) ∙ or_right (bytes_eq k (identifier entry place)) (is_named k xs) e

one_same : (k : List ℕ) (x : ℕ × RowValue) (xs ys : List (ℕ × RowValue)) → (is_named k xs ≡ true → is_named k ys ≡ true) → is_named k (x ∷ xs) ≡ true → is_named k (x ∷ ys) ≡ true
one_same k (column, Here bytes) xs ys h e = h e
one_same k (column, Apart entry place size) xs ys h e =
    let id = identifier entry place in
    any_with k id (named_by ys) ∙ or_keeps (bytes_eq k id) (is_named k xs) (is_named k ys) h (sym (any_with k id (named_by xs)) ∙ e)

all_more : (k : List ℕ) (column : ℕ) (vs : List RowValue) (xs : List (ℕ × RowValue)) → is_named k xs ≡ true → is_named k (map (λ v. (column, v)) vs ++ xs) ≡ true
all_more k column [] xs e = e
all_more k column (v ∷ vs) xs e = one_more k (column, v) (map (λ v. (column, v)) vs ++ xs) (all_more k column vs xs e)

all_same : (k : List ℕ) (column : ℕ) (vs : List RowValue) (xs ys : List (ℕ × RowValue)) → (is_named k xs ≡ true → is_named k ys ≡ true) → is_named k (map (λ v. (column, v)) vs ++ xs) ≡ true → is_named k (map (λ v. (column, v)) vs ++ ys) ≡ true
all_same k column [] xs ys h = h
all_same k column (v ∷ vs) xs ys h = one_same k (column, v) (map (λ v. (column, v)) vs ++ xs) (map (λ v. (column, v)) vs ++ ys) (all_same k column vs xs ys h)

gone : {X : Type 0} (column : ℕ) (field : ℕ × X) (rest : List (ℕ × X)) → (field.0 == column) ≡ true → remove_by_number column (field ∷ rest) ≡ remove_by_number column rest
gone column field rest t = rw t refl

stays : {X : Type 0} (column : ℕ) (field : ℕ × X) (rest : List (ℕ × X)) → (field.0 == column) ≡ false → remove_by_number column (field ∷ rest) ≡ field ∷ remove_by_number column rest
stays column field rest f = rw f refl

still_named : (k : List ℕ) (row : RowFields) (column : ℕ) → is_named k (values_in_order (remove_by_number column row)) ≡ true → is_named k (values_in_order row) ≡ true
still_named k [] column e = e
still_named k (field ∷ row) column e =
    by_test (field.0 == column)
    (λ t.
    let left : is_named k (values_in_order (remove_by_number column row)) ≡ true = sym (ap (λ (r : RowFields). is_named k (values_in_order r)) (gone column field row t)) ∙ e in
    all_more k field.0 field.1 (values_in_order row) (still_named k row column left))
    (λ f.
    all_same k field.0 field.1 (values_in_order (remove_by_number column row)) (values_in_order row) (still_named k row column)
    (sym (ap (λ (r : RowFields). is_named k (values_in_order r)) (stays column field row f)) ∙ e))

pub names_no_other : (row : RowFields) (column : ℕ) → NamesNoOther (Some (remove_by_number column row)) (Some row)
names_no_other row column id =
    by_test (is_named id (values_in_order (remove_by_number column row)))
    (λ t.
    let there = some_among id (identifiers (Some row)) (still_named id row column t) in
    let once = refers_once id (Some (remove_by_number column row)) in
    omega (arith, there, once))
    (λ f. let none = none_among id (identifiers (Some (remove_by_number column row))) f in omega (arith, none))

-- ---- it is a row

fewer_values : (column : ℕ) (row : RowFields) → length (values_in_order (remove_by_number column row)) ≤ length (values_in_order row)
fewer_values column [] = omega arith
fewer_values column (field ∷ row) =
    let own : List (ℕ × RowValue) = map (λ (value : RowValue). (field.0, value)) field.1 in
    let left = remove_by_number column row in
    let rest = fewer_values column row in
    by_test (field.0 == column)
    (λ t. let e = ap (λ (r : RowFields). length (values_in_order r)) (gone column field row t) in omega (arith, e, rest, length-append own (values_in_order row)))
    (λ f. let e = ap (λ (r : RowFields). length (values_in_order r)) (stays column field row f) in omega (arith, e, rest, length-append own (values_in_order row), length-append own (values_in_order left)))

pub formed : (row : RowFields) (column : ℕ) → is_row row ≡ true → is_row (remove_by_number column row) ≡ true
formed row column h =
    let left = remove_by_number column row in
    let well = and_left (is_well_formed row) (nat_lt (length (values_in_order row)) (2 ^ 16)) h in
    let few = ltb-true _ _ (and_right (is_well_formed row) (nat_lt (length (values_in_order row)) (2 ^ 16)) h) in
    let fewer : length (values_in_order left) < 2 ^ 16 = omega (arith, few, fewer_values column row) in
    and_from (is_well_formed left) (nat_lt (length (values_in_order left)) (2 ^ 16))
    (and_from (is_sorted nat_cmp left) (list_all field_fits_row left)
    (is_true (is_sorted nat_cmp left) (is_sorted-where_key nat_cmp (λ number. not (number == column)) row (subst T (sym (and_left (is_sorted nat_cmp row) (list_all field_fits_row row) well)) tt)))
    (all_filtered field_fits_row (λ field. not (field.0 == column)) row (and_right (is_sorted nat_cmp row) (list_all field_fits_row row) well)))
    (lt-ltb _ _ fewer)

-- ---- the record that it stands for

pub shown : (values : Values) (row : RowFields) (column : ℕ) → record_in values (remove_by_number column row) ≡ remove_by_number column (record_in values row)
shown values [] column = refl
shown values (field ∷ row) column =
    by_test (field.0 == column)
    (λ t. ap (record_in values) (gone column field row t) ∙ shown values row column ∙ sym (gone column (field.0, map (whole_value values) field.1) (record_in values row) t))
    (λ f.
    ap (record_in values) (stays column field row f)
    ∙ ap (λ (r : RecordFields). (field.0, map (whole_value values) field.1) ∷ r) (shown values row column)
    ∙ sym (stays column (field.0, map (whole_value values) field.1) (record_in values row) f))

still_whole : (values : Values) (row : RowFields) (column : ℕ) → is_whole values row ≡ true → is_whole values (remove_by_number column row) ≡ true
still_whole values [] column e = e
still_whole values (field ∷ row) column e =
    let own = list_all (is_there values) field.1 in
    let rest = still_whole values row column (and_right own (is_whole values row) e) in
    by_test (field.0 == column)
    (λ t. ap (is_whole values) (gone column field row t) ∙ rest)
    (λ f. ap (is_whole values) (stays column field row f) ∙ and_from own (is_whole values (remove_by_number column row)) (and_left own (is_whole values row) e) rest)

pub stands : (values : Values) (row : RowFields) (fields : RecordFields) (column : ℕ) → StandsFor values row fields → StandsFor values (remove_by_number column row) (remove_by_number column fields)
stands values row fields column stand = record {
  formed = formed row column stand.formed;
  whole = still_whole values row column stand.whole;
  shown = shown values row column ∙ ap (remove_by_number column) stand.shown;
}
