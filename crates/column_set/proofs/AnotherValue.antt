-- A row with another value in the place of one that is as long.
use Rattle.std.proofs.Common.{◌≡◌, ℕ, suc, ◌-◌, ◌%◌, ◌^◌, Bool, true, false, ◌&&◌, cond, List, [], ◌∷◌, ◌++◌, length, drop, take, map, Option, Some, None, refl, sym, ap, subst, ◌∙◌, append_assoc, arith}
use Rattle.std.specs.Prelude.{◌+◌, T, nat_le, nat_lt, option_map, unwrap_or}
use Rattle.std.specs.Int.{w16, w32, from_le_bytes, to_le_bytes}
use Rattle.std.specs.List.{AllByRecursion, flat_map, list_all}
use Rattle.std.specs.Cmp.{nat_cmp_total, unsigned_tied}
use Rattle.std.specs.declared.cmp.Ordering.{Ordering}
use Rattle.std.specs.declared.cmp.Ordering.TheVariants.{Less, Equal, Greater}
use Rattle.std.specs.Ordering.{is_eq, is_lt, nat_cmp}
use Rattle.std.specs.FinMap.Entries.{below_all, by_order, is_sorted, is_sorted-put}
use Rattle.std.proofs.lemmas.Bool.{and_parts, and_from, eq-eqb, eqb-true}
use Rattle.std.proofs.lemmas.List.{length-append}
use Rattle.std.proofs.lemmas.List.Concat.{flat_map-append}
use Rattle.common_lemmas.proofs.Options.{same_some}
use Rattle.common_lemmas.proofs.Orders.{is_equal}
use Rattle.common_lemmas.proofs.Booleans.{T_first, T_second, is_true}
use Rattle.column_set.specs.declared.rows.RowValue.{RowValue}
use Rattle.column_set.specs.declared.rows.RowValue.TheVariants.{Here}
use Rattle.column_set.specs.RecordValues.{RecordFields, lookup_by_number, put_by_number, values_of}
use Rattle.column_set.specs.Rows.{RowFields, all_here, field_fits_row, is_row, is_well_formed, row_bytes, row_values_of, value_bytes, values_in_order}
use Rattle.column_set.specs.OtherValues.{StandIn, StandsBefore}
use Rattle.column_set.proofs.Passing.{stand_in_row}

-- ---- the place of a column that is found

nothing : {X : Type 0} (x : X) → None ≡ Some x → ⊥
nothing x e = cc

never : false ≡ true → ⊥
never e = cc

less : (o : Ordering) → T (is_lt o) → o ≡ Less
less Less h = refl
less Equal h = absurd h
less Greater h = absurd h

itself : (c : ℕ) → nat_cmp c c ≡ Equal
itself c = is_equal (nat_cmp c c) (unsigned_tied c c ∙ eq-eqb c c refl)

same : (c k : ℕ) → nat_cmp c k ≡ Equal → c ≡ k
same c k e = eqb-true c k (sym (unsigned_tied c k) ∙ ap is_eq e)

other : (c k : ℕ) → nat_cmp c k ≡ Greater → k ≡ c → ⊥
other c k e is = no (sym (itself c) ∙ ap (nat_cmp c) (sym is) ∙ e)
  where
    no : Equal ≡ Greater → ⊥
    no f = cc

none_below : {X : Type 0} (c k : ℕ) (fields : List (ℕ × X)) → nat_cmp c k ≡ Less → T (below_all nat_cmp k fields) → lookup_by_number c fields ≡ None
none_below c k [] e h = refl
none_below {X} c k (field ∷ fields) e h =
    ap (λ o. cond (is_eq o) (Some field.1) (lookup_by_number c fields)) (nat_cmp_total.trans c k field.0 e (less (nat_cmp k field.0) (T_first (is_lt (nat_cmp k field.0)) (below_all nat_cmp k fields) h)))
    ∙ none_below c k fields e (T_second (is_lt (nat_cmp k field.0)) (below_all nat_cmp k fields) h)

-- one case for each place of a column that is found
at_found : {X : Type 0} (Q : List (ℕ × X) → List (ℕ × X) → Type 0) (c : ℕ) (v w : X)
    → ((fields : List (ℕ × X)) → Q ((c, v) ∷ fields) ((c, w) ∷ fields)) → ((field : ℕ × X) (one other : List (ℕ × X)) → (field.0 ≡ c → ⊥) → Q one other → Q (field ∷ one) (field ∷ other))
    → (fields : List (ℕ × X)) → T (is_sorted nat_cmp fields) → lookup_by_number c fields ≡ Some w → Q (put_by_number c v fields) fields
at_found Q c v w here further [] rise e = absurd (nothing w e)
at_found {X} Q c v w here further (field ∷ fields) rise e =
    elim (nat_cmp c field.0) as (λ o. nat_cmp c field.0 ≡ o → cond (is_eq o) (Some field.1) (lookup_by_number c fields) ≡ Some w → Q (by_order o ((c, v) ∷ field ∷ fields) ((field.0, v) ∷ fields) (field ∷ put_by_number c v fields)) (field ∷ fields)) [
      | Less ↦ λ f g. absurd (nothing w (sym (none_below c field.0 fields f (T_first (below_all nat_cmp field.0 fields) (is_sorted nat_cmp fields) rise)) ∙ g))
      | Equal ↦ λ f g. subst (λ (k : ℕ). Q ((k, v) ∷ fields) ((k, field.1) ∷ fields)) (same c field.0 f) (subst (λ (x : X). Q ((c, v) ∷ fields) ((c, x) ∷ fields)) (sym (same_some field.1 w g)) (here fields))
      | Greater ↦ λ f g. further field (put_by_number c v fields) fields (other c field.0 f) (at_found Q c v w here further fields (T_second (below_all nat_cmp field.0 fields) (is_sorted nat_cmp fields) rise) g)
    ] refl e

-- ---- the values before and behind it

abbrev pub Values : Type 0
Values = List (ℕ × RowValue)

pub record IsPut (c : ℕ) (v w : RowValue) (one other : RowFields) : Type 0 where
  pub front : Values
  pub behind : Values
  pub apart : AllByRecursion (λ x. x.0 ≡ c → ⊥) front
  pub are : values_in_order one ≡ front ++ (c, v) ∷ behind
  pub were : values_in_order other ≡ front ++ (c, w) ∷ behind

all_apart : (c k : ℕ) (values : List RowValue) (front : Values) → (k ≡ c → ⊥) → AllByRecursion (λ x. x.0 ≡ c → ⊥) front → AllByRecursion (λ x. x.0 ≡ c → ⊥) (map (λ value. (k, value)) values ++ front)
all_apart c k [] front ne all = all
all_apart c k (value ∷ values) front ne all = (ne, all_apart c k values front ne all)

further : (c : ℕ) (v w : RowValue) (field : ℕ × List RowValue) (one other : RowFields) → (field.0 ≡ c → ⊥) → IsPut c v w one other → IsPut c v w (field ∷ one) (field ∷ other)
further c v w field one other ne is = record {
  front = map (λ value. (field.0, value)) field.1 ++ is.front;
  behind = is.behind;
  apart = all_apart c field.0 field.1 is.front ne is.apart;
  are = ap (λ (xs : Values). map (λ value. (field.0, value)) field.1 ++ xs) is.are ∙ sym (append_assoc (map (λ value. (field.0, value)) field.1) is.front ((c, v) ∷ is.behind));
  were = ap (λ (xs : Values). map (λ value. (field.0, value)) field.1 ++ xs) is.were ∙ sym (append_assoc (map (λ value. (field.0, value)) field.1) is.front ((c, w) ∷ is.behind));
}

-- a column that has one value is found with it
pub one_found : (fields : RowFields) (c : ℕ) (w : RowValue) → row_values_of fields c ≡ w ∷ [] → lookup_by_number c fields ≡ Some (w ∷ [])
one_found fields c w e = by (lookup_by_number c fields) e
  where
    by : (o : Option (List RowValue)) → unwrap_or o [] ≡ w ∷ [] → o ≡ Some (w ∷ [])
    by None f = absurd (empty f)
      where
        empty : [] ≡ w ∷ [] → ⊥
        empty g = cc
    by (Some values) f = ap Some f

holds : (b : Bool) → b ≡ true → T b
holds true e = tt
holds false e = absurd (never e)

rises : (fields : RowFields) → is_row fields ≡ true → T (is_sorted nat_cmp fields)
rises fields formed =
    holds (is_sorted nat_cmp fields) (and_parts (is_sorted nat_cmp fields) (list_all field_fits_row fields) (and_parts (is_well_formed fields) (nat_lt (length (values_in_order fields)) (2 ^ 16)) formed).0).0

pub is_put : (fields : RowFields) (c : ℕ) (v w : RowValue) → is_row fields ≡ true → row_values_of fields c ≡ w ∷ [] → IsPut c v w (put_by_number c (v ∷ []) fields) fields
is_put fields c v w formed e =
    at_found (IsPut c v w) c (v ∷ []) (w ∷ []) (λ rest. record { front = []; behind = values_in_order rest; apart = tt; are = refl; were = refl }) (further c v w) fields (rises fields formed) (one_found fields c w e)

-- ---- it is a row

fits_too : (c : ℕ) (v w : List ℕ) → length v ≡ length w → field_fits_row (c, Here w ∷ []) ≡ true → field_fits_row (c, Here v ∷ []) ≡ true
fits_too c v w long fits = ap (λ n. (nat_lt c (2 ^ 16) && nat_lt 0 1) && (nat_le n 255 && true)) long ∙ fits

all_fit : (c : ℕ) (v w : List ℕ) → length v ≡ length w → (fields : RowFields) → T (is_sorted nat_cmp fields) → lookup_by_number c fields ≡ Some (Here w ∷ []) → list_all field_fits_row fields ≡ true → list_all field_fits_row (put_by_number c (Here v ∷ []) fields) ≡ true
all_fit c v w long fields rise e = at_found (λ one was. list_all field_fits_row was ≡ true → list_all field_fits_row one ≡ true) c (Here v ∷ []) (Here w ∷ [])
    (λ rest all. let parts = and_parts (field_fits_row (c, Here w ∷ [])) (list_all field_fits_row rest) all in and_from (field_fits_row (c, Here v ∷ [])) (list_all field_fits_row rest) (fits_too c v w long parts.0) parts.1)
    (λ field one was ne step all. let parts = and_parts (field_fits_row field) (list_all field_fits_row was) all in and_from (field_fits_row field) (list_all field_fits_row one) parts.0 (step parts.1)) fields rise e

same_count : (front behind : Values) (x y : ℕ × RowValue) → length (front ++ x ∷ behind) ≡ length (front ++ y ∷ behind)
same_count front behind x y = length-append front (x ∷ behind) ∙ sym (length-append front (y ∷ behind))

pub formed_then : (fields : RowFields) (c : ℕ) (old new : List ℕ) → is_row fields ≡ true → row_values_of fields c ≡ Here old ∷ [] → length new ≡ length old → is_row (put_by_number c (Here new ∷ []) fields) ≡ true
formed_then fields c old new formed e long =
    let parts = and_parts (is_well_formed fields) (nat_lt (length (values_in_order fields)) (2 ^ 16)) formed in
    let well = and_parts (is_sorted nat_cmp fields) (list_all field_fits_row fields) parts.0 in
    let put = is_put fields c (Here new) (Here old) formed e in
    and_from (is_well_formed (put_by_number c (Here new ∷ []) fields)) (nat_lt (length (values_in_order (put_by_number c (Here new ∷ []) fields))) (2 ^ 16))
    (and_from (is_sorted nat_cmp (put_by_number c (Here new ∷ []) fields)) (list_all field_fits_row (put_by_number c (Here new ∷ []) fields))
    (is_true (is_sorted nat_cmp (put_by_number c (Here new ∷ []) fields)) (is_sorted-put nat_cmp nat_cmp_total c (Here new ∷ []) fields (rises fields formed)))
    (all_fit c new old long fields (rises fields formed) (one_found fields c (Here old) e) well.1))
    (ap (λ n. nat_lt n (2 ^ 16)) (ap length put.are ∙ same_count put.front put.behind (c, Here new) (c, Here old) ∙ sym (ap length put.were)) ∙ parts.1)

-- ---- its bytes

pub bytes_split : (front behind : Values) (x : ℕ × RowValue) → flat_map value_bytes (front ++ x ∷ behind) ≡ flat_map value_bytes front ++ (value_bytes x ++ flat_map value_bytes behind)
bytes_split front behind x = flat_map-append value_bytes front (x ∷ behind)

pub same_length : (fields : RowFields) (c : ℕ) (old new : List ℕ) → is_row fields ≡ true → row_values_of fields c ≡ Here old ∷ [] → length new ≡ length old → length (row_bytes (put_by_number c (Here new ∷ []) fields)) ≡ length (row_bytes fields)
same_length fields c old new formed e long =
    let put = is_put fields c (Here new) (Here old) formed e in
    ap (λ (values : Values). suc (suc (length (flat_map value_bytes values)))) put.are
    ∙ ap (λ n. suc (suc n)) (lengths (flat_map value_bytes put.front) (flat_map value_bytes put.behind) (value_bytes (c, Here new)) (value_bytes (c, Here old)) (ap (λ n. suc (suc (suc (suc (suc n))))) long) (bytes_split put.front put.behind (c, Here new)) (bytes_split put.front put.behind (c, Here old)))
    ∙ sym (ap (λ (values : Values). suc (suc (length (flat_map value_bytes values)))) put.were)
  where
    lengths : {xs ys : List ℕ} (front behind new old : List ℕ) → length new ≡ length old → xs ≡ front ++ (new ++ behind) → ys ≡ front ++ (old ++ behind) → length xs ≡ length ys
    lengths front behind new old long f g =
        ap length f ∙ length-append front (new ++ behind) ∙ ap (λ n. length front + n) (length-append new behind ∙ ap (λ n. n + length behind) long ∙ sym (length-append old behind)) ∙ sym (length-append front (old ++ behind)) ∙ sym (ap length g)

-- ---- records whose values stand in the row

abbrev option_here : Option (List (List ℕ)) → Option (List RowValue)
option_here o = option_map (map (λ value. Here value)) o

found_here : (fields : RecordFields) (c : ℕ) → lookup_by_number c (all_here fields) ≡ option_here (lookup_by_number c fields)
found_here [] c = refl
found_here (field ∷ fields) c = by (is_eq (nat_cmp c field.0)) (found_here fields c)
  where
    by : (b : Bool) → lookup_by_number c (all_here fields) ≡ option_here (lookup_by_number c fields)
        → cond b (Some (map (λ value. Here value) field.1)) (lookup_by_number c (all_here fields)) ≡ option_here (cond b (Some field.1) (lookup_by_number c fields))
    by true rest = refl
    by false rest = rest

pub found_one : (fields : RecordFields) (c : ℕ) (old : List ℕ) → values_of fields c ≡ old ∷ [] → row_values_of (all_here fields) c ≡ Here old ∷ []
found_one fields c old e = ap (λ (o : Option (List RowValue)). unwrap_or o []) (found_here fields c) ∙ by (lookup_by_number c fields) e
  where
    by : (o : Option (List (List ℕ))) → unwrap_or o [] ≡ old ∷ [] → unwrap_or (option_here o) [] ≡ Here old ∷ []
    by None f = absurd (empty f)
      where
        empty : [] ≡ old ∷ [] → ⊥
        empty g = cc
    by (Some values) f = ap (map (λ value. Here value)) f

pub whole_then : (fields : RecordFields) (c : ℕ) (new : List ℕ) → put_by_number c (Here new ∷ []) (all_here fields) ≡ all_here (put_by_number c (new ∷ []) fields)
whole_then [] c new = refl
whole_then (field ∷ fields) c new = by (nat_cmp c field.0) (whole_then fields c new)
  where
    by : (o : Ordering) → put_by_number c (Here new ∷ []) (all_here fields) ≡ all_here (put_by_number c (new ∷ []) fields)
        → by_order o ((c, Here new ∷ []) ∷ all_here (field ∷ fields)) ((field.0, Here new ∷ []) ∷ all_here fields) ((field.0, map (λ value. Here value) field.1) ∷ put_by_number c (Here new ∷ []) (all_here fields))
        ≡ all_here (by_order o ((c, new ∷ []) ∷ field ∷ fields) ((field.0, new ∷ []) ∷ fields) (field ∷ put_by_number c (new ∷ []) fields))
    by Less rest = refl
    by Equal rest = refl
    by Greater rest = ap (λ (xs : RowFields). (field.0, map (λ value. Here value) field.1) ∷ xs) rest

-- ---- the number in its place

four : (number behind : List ℕ) → length number ≡ 4 → from_le_bytes w32 (number ++ behind) ≡ from_le_bytes w32 number
four [] behind long = absurd (omega arith)
four (a ∷ []) behind long = absurd (omega arith)
four (a ∷ b ∷ []) behind long = absurd (omega arith)
four (a ∷ b ∷ c ∷ []) behind long = absurd (omega arith)
four (a ∷ b ∷ c ∷ d ∷ []) behind long = refl
four (a ∷ b ∷ c ∷ d ∷ e ∷ number) behind long = absurd (omega arith)

took : (front rest : List ℕ) → take (length front) (front ++ rest) ≡ front
took [] rest = refl
took (x ∷ front) rest = ap (λ (xs : List ℕ). x ∷ xs) (took front rest)

dropped : (front rest : List ℕ) → drop (length front) (front ++ rest) ≡ rest
dropped [] rest = refl
dropped (x ∷ front) rest = dropped front rest

-- the row once the number is changed
summed_from : (front number behind : List ℕ) → length number ≡ 4 → (addend start : ℕ) → start ≡ length front
    → take start (front ++ (number ++ behind)) ++ (to_le_bytes w32 ((from_le_bytes w32 (drop start (front ++ (number ++ behind))) + addend) % 2 ^ 32) ++ drop (start + 4) (front ++ (number ++ behind)))
    ≡ front ++ (to_le_bytes w32 ((from_le_bytes w32 number + addend) % 2 ^ 32) ++ behind)
summed_from front number behind long addend start is =
    (λ i. take (is i) (front ++ (number ++ behind)) ++ (to_le_bytes w32 ((from_le_bytes w32 (drop (is i) (front ++ (number ++ behind))) + addend) % 2 ^ 32) ++ drop (is i + 4) (front ++ (number ++ behind))))
    ∙ (λ i. took front (number ++ behind) i ++ (to_le_bytes w32 ((from_le_bytes w32 (dropped front (number ++ behind) i) + addend) % 2 ^ 32) ++ behind_is i))
    ∙ ap (λ n. front ++ (to_le_bytes w32 ((n + addend) % 2 ^ 32) ++ behind)) (four number behind long)
  where
    behind_is : drop (length front + 4) (front ++ (number ++ behind)) ≡ behind
    behind_is =
        (λ i. drop (count i) (sym (append_assoc front number behind) i))
        ∙ dropped (front ++ number) behind
      where
        count : length front + 4 ≡ length (front ++ number)
        count = ap (λ n. length front + n) (sym long) ∙ sym (length-append front number)

-- what stands before the number in a row: the count, the values before it, and its own head
abbrev before_number : ℕ → ℕ → ℕ → List ℕ → List ℕ
before_number count column size front = to_le_bytes w16 count ++ (front ++ (to_le_bytes w16 column ++ (0 ∷ to_le_bytes w16 size)))

split_row : (count column : ℕ) (front behind : Values) (number : List ℕ) → to_le_bytes w16 count ++ flat_map value_bytes (front ++ (column, Here number) ∷ behind) ≡ before_number count column (length number) (flat_map value_bytes front) ++ (number ++ flat_map value_bytes behind)
split_row count column front behind number =
    ap (λ (xs : List ℕ). to_le_bytes w16 count ++ xs)
    (bytes_split front behind (column, Here number)
    ∙ sym (append_assoc (flat_map value_bytes front) (to_le_bytes w16 column ++ (0 ∷ to_le_bytes w16 (length number))) (number ++ flat_map value_bytes behind)))

pub record IsInPlace (fields : RowFields) (column : ℕ) (number new row : List ℕ) : Type 0 where
  pub front : List ℕ
  pub behind : Values
  pub stands : StandsBefore column (take (length row - 2) (drop 2 row)) (column, Here number) behind
  pub split : row ≡ front ++ (number ++ flat_map value_bytes behind)
  pub then_split : row_bytes (put_by_number column (Here new ∷ []) fields) ≡ front ++ (new ++ flat_map value_bytes behind)

pub in_place : (fields : RowFields) (column : ℕ) (number new row : List ℕ) → is_row fields ≡ true → row ≡ row_bytes fields → row_values_of fields column ≡ Here number ∷ [] → length number ≡ length new → IsInPlace fields column number new row
in_place fields column number new row formed spelled e long = record {
  front = before_number (length (values_in_order fields)) column (length number) (flat_map value_bytes put.front);
  behind = put.behind;
  stands = record { front = put.front; apart = put.apart; stand = subst (StandIn (take (length row - 2) (drop 2 row))) put.were (stand_in_row row fields formed spelled) };
  split = spelled ∙ (λ i. to_le_bytes w16 (length (values_in_order fields)) ++ flat_map value_bytes (put.were i)) ∙ split_row (length (values_in_order fields)) column put.front put.behind number;
  then_split =
      (λ i. to_le_bytes w16 (length (values_in_order (put_by_number column (Here new ∷ []) fields))) ++ flat_map value_bytes (put.are i))
      ∙ split_row (length (values_in_order (put_by_number column (Here new ∷ []) fields))) column put.front put.behind new
      ∙ (λ i. before_number (counts i) column (sym long i) (flat_map value_bytes put.front) ++ (new ++ flat_map value_bytes put.behind));
}
  where
    put : IsPut column (Here new) (Here number) (put_by_number column (Here new ∷ []) fields) fields
    put = is_put fields column (Here new) (Here number) formed e

    counts : length (values_in_order (put_by_number column (Here new ∷ []) fields)) ≡ length (values_in_order fields)
    counts = ap length put.are ∙ same_count put.front put.behind (column, Here new) (column, Here number) ∙ sym (ap length put.were)

pub lengths : (front number behind row : List ℕ) → row ≡ front ++ (number ++ behind) → length row ≡ length front + (length number + length behind)
lengths front number behind row split = ap length split ∙ length-append front (number ++ behind) ∙ ap (λ n. length front + n) (length-append number behind)

-- the same where the number's place is told from behind
pub summed : (front number behind row : List ℕ) → length number ≡ 4 → row ≡ front ++ (number ++ behind) → (addend : ℕ)
    → take (length row - length behind - 4) row ++ (to_le_bytes w32 ((from_le_bytes w32 (drop (length row - length behind - 4) row) + addend) % 2 ^ 32) ++ drop (length row - length behind - 4 + 4) row)
    ≡ front ++ (to_le_bytes w32 ((from_le_bytes w32 number + addend) % 2 ^ 32) ++ behind)
summed front number behind row long split addend =
    (λ i. take (length row - length behind - 4) (split i) ++ (to_le_bytes w32 ((from_le_bytes w32 (drop (length row - length behind - 4) (split i)) + addend) % 2 ^ 32) ++ drop (length row - length behind - 4 + 4) (split i)))
    ∙ summed_from front number behind long addend (length row - length behind - 4) (omega (arith, lengths front number behind row split, long))
