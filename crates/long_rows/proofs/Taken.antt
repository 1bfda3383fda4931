-- The counts of long values as references are taken and given up.
use Rattle.std.proofs.Common.{◌≡◌, ◌≢◌, ℕ, suc, ◌+◌, ◌-◌, ◌<◌, ◌≤◌, ◌==◌, Bool, true, false, if◌then◌else◌, Option, Some, None, List, [], ◌∷◌, ◌++◌, map, option_map, refl, sym, ap, subst, ◌∙◌, arith, true≢false}
use Rattle.std.specs.Prelude.{All, bytes_eq, is_some, nat_lt, unwrap_or}
use Rattle.std.specs.Ordering.{is_eq}
use Rattle.std.proofs.lemmas.Bool.{eqb-true, lt-ltb}
use Rattle.std.proofs.lemmas.List.Elements.{All-head, All-tail}
use Rattle.common_lemmas.proofs.Options.{none_there}
use Rattle.common_lemmas.proofs.Booleans.{by_test}
use Rattle.common_lemmas.proofs.Numbers.{same_bytes}
use Rattle.column_set.specs.RecordValues.{lookup_by_key}
use Rattle.column_set.specs.Rows.{RowFields}
use Rattle.long_value.specs.Values.{AreLong, IsLong, LongValue, Values, order, put_value, value_of, with_reference, without_reference}
use Rattle.long_rows.specs.RowReferences.{identifiers, references, times_among}
use Rattle.long_rows.specs.ReferenceCounts.{AreRows, HasCounts, NewestRows, RowBefore, as_undone, count_of, identifiers_before, reference_count, references_before, with_all_released, with_all_taken, with_change, with_row, with_taken}
use Rattle.long_rows.proofs.Totals.{among-no, among-yes, itself}
use Rattle.long_rows.proofs.CountSteps.{changed, cleaned, undone}

-- what the laws of long values say
pub record ValueLaws : Type 0 where
  pub put : (values : Values) (id : List ℕ) (value : LongValue) → value_of id (put_value id value values) ≡ Some value
  pub beside : (values : Values) (id other : List ℕ) (value : LongValue) → other ≢ id → value_of other (put_value id value values) ≡ value_of other values
  pub more : (values : Values) (id : List ℕ) (value : LongValue) → value_of id values ≡ Some value → value_of id (with_reference id values) ≡ Some (record value { count = suc value.count })
  pub more_beside : (values : Values) (id other : List ℕ) → other ≢ id → value_of other (with_reference id values) ≡ value_of other values
  pub less : (values : Values) (id : List ℕ) (value : LongValue) → value_of id values ≡ Some value → value_of id (without_reference id values) ≡ (if value.count == 1 then None else Some (record value { count = value.count - 1 }))
  pub less_beside : (values : Values) (id other : List ℕ) → other ≢ id → value_of other (without_reference id values) ≡ value_of other values

abbrev pub count_in : Option LongValue → ℕ
count_in o = unwrap_or (option_map (λ (value : LongValue). value.count) o) 0

pub unequal : (a b : List ℕ) → bytes_eq a b ≡ false → a ≢ b
unequal a b f e = true≢false (sym (itself a) ∙ ap (bytes_eq a) e ∙ f)

some_is : {X : Type 0} (o : Option X) → is_some o ≡ true → (x : X) × (o ≡ Some x)
some_is None e = absurd (true≢false (sym e))
some_is (Some x) e = (x, refl)

-- ---- one reference more

abbrev new_value : List ℕ → LongValue
new_value bytes = record { count = 1; bytes = bytes }

pub shared : (values : Values) (given : List ℕ × List ℕ) → is_some (value_of given.0 values) ≡ true → with_taken values given ≡ with_reference given.0 values
shared values given t = rw t refl

placed : (values : Values) (given : List ℕ × List ℕ) → is_some (value_of given.0 values) ≡ false → with_taken values given ≡ put_value given.0 (new_value given.1) values
placed values given t = rw t refl

other_taken : ValueLaws → (values : Values) (given : List ℕ × List ℕ) (id : List ℕ) → id ≢ given.0 → value_of id (with_taken values given) ≡ value_of id values
other_taken laws values given id n =
    by_test (is_some (value_of given.0 values))
    (λ t. ap (value_of id) (shared values given t) ∙ laws.more_beside values given.0 id n)
    (λ f. ap (value_of id) (placed values given f) ∙ laws.beside values given.0 id (new_value given.1) n)

own_taken : ValueLaws → (values : Values) (given : List ℕ × List ℕ) → count_of given.0 (with_taken values given) ≡ count_of given.0 values + 1
own_taken laws values given =
    by_test (is_some (value_of given.0 values))
    (λ t.
    let found = some_is (value_of given.0 values) t in
    let now : count_of given.0 (with_taken values given) ≡ suc found.0.count = ap (count_of given.0) (shared values given t) ∙ ap count_in (laws.more values given.0 found.0 found.1) in
    let was : count_of given.0 values ≡ found.0.count = ap count_in found.1 in
    omega (arith, now, was))
    (λ f.
    let now : count_of given.0 (with_taken values given) ≡ 1 = ap (count_of given.0) (placed values given f) ∙ ap count_in (laws.put values given.0 (new_value given.1)) in
    let was : count_of given.0 values ≡ 0 = ap count_in (none_there (value_of given.0 values) f) in
    omega (arith, now, was))

pub taken_all : ValueLaws → (id : List ℕ) (given : List (List ℕ × List ℕ)) (values : Values) → count_of id (with_all_taken given values) ≡ count_of id values + times_among id (map (λ one. one.0) given)
taken_all laws id [] values = omega arith
taken_all laws id (one ∷ given) values =
    let rest = taken_all laws id given (with_taken values one) in
    by_test (bytes_eq id one.0)
    (λ t.
    let same : id ≡ one.0 = same_bytes id one.0 t in
    let now : count_of id (with_taken values one) ≡ count_of id values + 1 = subst (λ k. count_of k (with_taken values one) ≡ count_of k values + 1) (sym same) (own_taken laws values one) in
    omega (arith, rest, now, among-yes id one.0 (map (λ one. one.0) given) t))
    (λ f.
    let now : count_of id (with_taken values one) ≡ count_of id values = ap count_in (other_taken laws values one id (unequal id one.0 f)) in
    omega (arith, rest, now, among-no id one.0 (map (λ one. one.0) given) f))

-- ---- one reference less

own_released : ValueLaws → (values : Values) (id : List ℕ) → 0 < count_of id values → count_of id (without_reference id values) + 1 ≡ count_of id values
own_released laws values id some =
    by_test (is_some (value_of id values))
    (λ t.
    let found = some_is (value_of id values) t in
    let was : count_of id values ≡ found.0.count = ap count_in found.1 in
    let now : count_of id (without_reference id values) ≡ count_in (if found.0.count == 1 then None else Some (record found.0 { count = found.0.count - 1 })) = ap count_in (laws.less values id found.0 found.1) in
    by_test (found.0.count == 1)
    (λ one.
    let last : count_in (if found.0.count == 1 then None else Some (record found.0 { count = found.0.count - 1 })) ≡ 0 = ap (λ (b : Bool). count_in (if b then None else Some (record found.0 { count = found.0.count - 1 }))) one in
    let is : found.0.count ≡ 1 = eqb-true found.0.count 1 one in
    omega (arith, was, now, last, is))
    (λ more.
    let less : count_in (if found.0.count == 1 then None else Some (record found.0 { count = found.0.count - 1 })) ≡ found.0.count - 1 = ap (λ (b : Bool). count_in (if b then None else Some (record found.0 { count = found.0.count - 1 }))) more in
    omega (arith, was, now, less, some)))
    (λ f.
    let was : count_of id values ≡ 0 = ap count_in (none_there (value_of id values) f) in
    absurd (omega (arith, was, some)))

other_released : ValueLaws → (values : Values) (x id : List ℕ) → id ≢ x → count_of id (without_reference x values) ≡ count_of id values
other_released laws values x id n = ap count_in (laws.less_beside values x id n)

one_released : ValueLaws → (values : Values) (x id : List ℕ) (ids : List (List ℕ)) → 0 < count_of x values → count_of id (without_reference x values) + times_among id (x ∷ ids) ≡ count_of id values + times_among id ids
one_released laws values x id ids some =
    by_test (bytes_eq id x)
    (λ t.
    let same : id ≡ x = same_bytes id x t in
    let now : count_of id (without_reference x values) + 1 ≡ count_of id values = subst (λ k. count_of k (without_reference x values) + 1 ≡ count_of k values) (sym same) (own_released laws values x some) in
    omega (arith, now, among-yes id x ids t))
    (λ f. omega (arith, other_released laws values x id (unequal id x f), among-no id x ids f))

pub released_all : ValueLaws → (ids : List (List ℕ)) (values : Values) → ((id : List ℕ) → times_among id ids ≤ count_of id values) → (id : List ℕ) → count_of id (with_all_released ids values) + times_among id ids ≡ count_of id values
released_all laws [] values enough id = omega arith
released_all laws (x ∷ ids) values enough id =
    let some : 0 < count_of x values = omega (arith, enough x, among-yes x x ids (itself x)) in
    let rest = released_all laws ids (without_reference x values) (λ k. omega (arith, enough k, one_released laws values x k ids some)) id in
    omega (arith, rest, one_released laws values x id ids some)

-- ---- each value keeps its count

pub changed_counts : ValueLaws → (values : Values) (bookmark : List ℕ) (is : Option RowFields) (given : List (List ℕ × List ℕ)) (rows : NewestRows) (held : List RowBefore) → AreRows rows → map (λ one. one.0) given ≡ identifiers is
    → HasCounts values rows held → HasCounts (with_all_taken given values) (with_row bookmark is rows) (with_change bookmark rows held)
changed_counts laws values bookmark is given rows held sorted names has id =
    let same : times_among id (map (λ one. one.0) given) ≡ references id is = ap (times_among id) names in
    omega (arith, taken_all laws id given values, same, has id, changed id bookmark is rows held sorted)

pub undone_counts : ValueLaws → (values : Values) (rows : NewestRows) (earlier later : List RowBefore) (change : RowBefore) → AreRows rows → change.is_undone ≡ false
    → HasCounts values rows (earlier ++ change ∷ later) → HasCounts (with_all_released (identifiers (lookup_by_key change.bookmark rows)) values) (with_row change.bookmark change.row rows) (earlier ++ as_undone change ∷ later)
undone_counts laws values rows earlier later change sorted e has id =
    let step = undone id rows earlier later change sorted e in
    let less = released_all laws (identifiers (lookup_by_key change.bookmark rows)) values (λ k. omega (arith, has k, undone k rows earlier later change sorted e)) id in
    omega (arith, less, has id, step)

before_is : (id : List ℕ) (change : RowBefore) → times_among id (identifiers_before change) ≡ references_before id change
before_is id change = by_test change.is_undone (λ t. rw t refl) (λ f. rw f refl)

pub cleaned_counts : ValueLaws → (values : Values) (rows : NewestRows) (oldest : RowBefore) (held : List RowBefore) → HasCounts values rows (oldest ∷ held) → HasCounts (with_all_released (identifiers_before oldest) values) rows held
cleaned_counts laws values rows oldest held has id =
    let less = released_all laws (identifiers_before oldest) values (λ k. omega (arith, has k, before_is k oldest, cleaned k rows oldest held)) id in
    omega (arith, less, before_is id oldest, has id, cleaned id rows oldest held)

-- ---- none stands at 0

pub some_counted : (id : List ℕ) (value : LongValue) (values : Values) → All IsLong values → value_of id values ≡ Some value → 1 ≤ value.count
some_counted id value [] whole e = absurd cc
some_counted id value (row ∷ values) whole e =
    by_test (is_eq (order id row.0))
    (λ t.
    let some : Some row.1 ≡ Some value = sym (first t) ∙ e in
    let same : row.1 ≡ value = cc in
    subst (λ (v : LongValue). 1 ≤ v.count) same (All-head IsLong row values whole).counted)
    (λ f. some_counted id value values (All-tail IsLong row values whole) (sym (later f) ∙ e))
  where
    first : is_eq (order id row.0) ≡ true → value_of id (row ∷ values) ≡ Some row.1
    first t = rw t refl

    later : is_eq (order id row.0) ≡ false → value_of id (row ∷ values) ≡ value_of id values
    later f = rw f refl

pub referred : (values : Values) (rows : NewestRows) (held : List RowBefore) (id : List ℕ) → AreLong values → HasCounts values rows held → is_some (value_of id values) ≡ nat_lt 0 (reference_count id rows held)
referred values rows held id long has =
    by_test (is_some (value_of id values))
    (λ t.
    let found = some_is (value_of id values) t in
    let was : count_of id values ≡ found.0.count = ap count_in found.1 in
    t ∙ sym (lt-ltb 0 (reference_count id rows held) (omega (arith, was, has id, some_counted id found.0 values long.whole found.1))))
    (λ f.
    let was : count_of id values ≡ 0 = ap count_in (none_there (value_of id values) f) in
    let none : reference_count id rows held ≡ 0 = omega (arith, was, has id) in
    f ∙ ap (nat_lt 0) (sym none))
