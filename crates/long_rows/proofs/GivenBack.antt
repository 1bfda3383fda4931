-- All values that a row took are given back.
use Rattle.std.proofs.Common.{◌≡◌, ℕ, suc, ◌-◌, ◌≤◌, ◌==◌, Bool, true, false, T, ◌||◌, if◌then◌else◌, Option, Some, None, List, [], ◌∷◌, map, refl, sym, ap, subst, ◌∙◌, arith, true≢false}
use Rattle.std.specs.Prelude.{bytes_eq, is_some}
use Rattle.std.specs.List.{list_any}
use Rattle.std.specs.Cmp.Lexicographic.{nat_list_cmp_total}
use Rattle.std.specs.FinMap.Entries.{is_sorted, same_entries}
use Rattle.common_lemmas.proofs.Booleans.{by_test}
use Rattle.common_lemmas.proofs.Numbers.{same_bytes}
use Rattle.column_set.specs.Rows.{RowFields}
use Rattle.long_value.specs.Values.{AreLong, LongValue, Values, order, value_of, without_reference}
use Rattle.long_rows.specs.RowReferences.{identifiers, times_among}
use Rattle.long_rows.specs.ReferenceCounts.{with_all_released, with_all_taken, with_taken}
use Rattle.long_rows.proofs.Taken.{ValueLaws, shared, unequal}
use Rattle.long_rows.proofs.Totals.{among-no, among-yes, holds, refers_once, some_among}
use Rattle.long_rows.proofs.Given.{among, any_named}
use Rattle.long_rows.proofs.InUse.{by_option, no_value, own_back, sorted_less, sorted_taken, tie_is_same}
use Rattle.long_rows.proofs.Reading.{taken_beside, taken_new}

abbrev names_of : List (List ℕ × List ℕ) → List (List ℕ)
names_of given = map (λ one. one.0) given

second_false : (a b : Bool) → (a || b) ≡ false → b ≡ false
second_false true b e = absurd (true≢false e)
second_false false b e = e

-- ---- taken

pub all_taken_beside : ValueLaws → (given : List (List ℕ × List ℕ)) (values : Values) (k : List ℕ) → among k given ≡ false → value_of k (with_all_taken given values) ≡ value_of k values
all_taken_beside laws [] values k none = refl
all_taken_beside laws (one ∷ given) values k none =
    by_test (bytes_eq k one.0)
    (λ t. absurd (true≢false (sym (ap (λ (b : Bool). b || among k given) t) ∙ none)))
    (λ f. all_taken_beside laws given (with_taken values one) k (second_false (bytes_eq k one.0) (among k given) none) ∙ taken_beside laws values one k (unequal k one.0 f))

taken_more : ValueLaws → (values : Values) (k bytes : List ℕ) (value : LongValue) → value_of k values ≡ Some value → value_of k (with_taken values (k, bytes)) ≡ Some (record value { count = suc value.count })
taken_more laws values k bytes value some = ap (value_of k) (shared values (k, bytes) (ap is_some some)) ∙ laws.more values k value some

same_taken : ValueLaws → (one other : Values) (k bytes : List ℕ) → value_of k one ≡ value_of k other → value_of k (with_taken one (k, bytes)) ≡ value_of k (with_taken other (k, bytes))
same_taken laws one other k bytes same =
    by_option (value_of k one)
    (λ none. taken_new laws one k bytes none ∙ sym (taken_new laws other k bytes (sym same ∙ none)))
    (λ value some. taken_more laws one k bytes value some ∙ sym (taken_more laws other k bytes value (sym same ∙ some)))

-- one that is taken once is there as if it were taken alone
own_taken : ValueLaws → (given : List (List ℕ × List ℕ)) (values : Values) (k : List ℕ) → among k given ≡ true → times_among k (names_of given) ≤ 1 → (bytes : List ℕ) × (value_of k (with_all_taken given values) ≡ value_of k (with_taken values (k, bytes)))
own_taken laws [] values k there once = absurd (true≢false (sym there))
own_taken laws (one ∷ given) values k there once =
    by_test (bytes_eq k one.0)
    (λ t.
    let more = among-yes k one.0 (names_of given) t in
    let none : among k given ≡ false = by_test (among k given)
    (λ again. let some = some_among k (names_of given) (sym (any_named k given) ∙ again) in absurd (omega (arith, once, more, some)))
    (λ f. f) in
    let same : k ≡ one.0 = same_bytes k one.0 t in
    (one.1, all_taken_beside laws given (with_taken values one) k none ∙ ap (λ (i : List ℕ). value_of k (with_taken values (i, one.1))) (sym same)))
    (λ f.
    let later : among k given ≡ true = sym (ap (λ (b : Bool). b || among k given) f) ∙ there in
    let fewer = among-no k one.0 (names_of given) f in
    let rest = own_taken laws given (with_taken values one) k later (omega (arith, once, fewer)) in
    (rest.0, rest.1 ∙ same_taken laws (with_taken values one) values k rest.0 (taken_beside laws values one k (unequal k one.0 f))))

-- ---- given back

less_is : ValueLaws → (values : Values) (k : List ℕ) (value : LongValue) → value_of k values ≡ Some value → value_of k (without_reference k values) ≡ (if value.count == 1 then None else Some (record value { count = value.count - 1 }))
less_is laws values k value some = laws.less values k value some

same_released : ValueLaws → (one other : Values) (k : List ℕ) → value_of k one ≡ value_of k other → value_of k (without_reference k one) ≡ value_of k (without_reference k other)
same_released laws one other k same =
    by_option (value_of k one)
    (λ none. ap (value_of k) (no_value one k none) ∙ same ∙ sym (ap (value_of k) (no_value other k (sym same ∙ none))))
    (λ value some. less_is laws one k value some ∙ sym (less_is laws other k value (sym same ∙ some)))

released_beside : ValueLaws → (ids : List (List ℕ)) (values : Values) (k : List ℕ) → list_any (bytes_eq k) ids ≡ false → value_of k (with_all_released ids values) ≡ value_of k values
released_beside laws [] values k none = refl
released_beside laws (x ∷ ids) values k none =
    by_test (bytes_eq k x)
    (λ t. absurd (true≢false (sym (ap (λ (b : Bool). b || list_any (bytes_eq k) ids) t) ∙ none)))
    (λ f. released_beside laws ids (without_reference x values) k (second_false (bytes_eq k x) (list_any (bytes_eq k) ids) none) ∙ laws.less_beside values x k (unequal k x f))

own_released : ValueLaws → (ids : List (List ℕ)) (values : Values) (k : List ℕ) → list_any (bytes_eq k) ids ≡ true → times_among k ids ≤ 1 → value_of k (with_all_released ids values) ≡ value_of k (without_reference k values)
own_released laws [] values k there once = absurd (true≢false (sym there))
own_released laws (x ∷ ids) values k there once =
    by_test (bytes_eq k x)
    (λ t.
    let more = among-yes k x ids t in
    let none : list_any (bytes_eq k) ids ≡ false = by_test (list_any (bytes_eq k) ids)
    (λ again. let some = some_among k ids again in absurd (omega (arith, once, more, some)))
    (λ f. f) in
    let same : k ≡ x = same_bytes k x t in
    released_beside laws ids (without_reference x values) k none ∙ ap (λ (i : List ℕ). value_of k (without_reference i values)) (sym same))
    (λ f.
    let later : list_any (bytes_eq k) ids ≡ true = sym (ap (λ (b : Bool). b || list_any (bytes_eq k) ids) f) ∙ there in
    let fewer = among-no k x ids f in
    own_released laws ids (without_reference x values) k later (omega (arith, once, fewer))
    ∙ same_released laws (without_reference x values) values k (laws.less_beside values x k (unequal k x f)))

sorted_all_taken : (given : List (List ℕ × List ℕ)) (values : Values) → T (is_sorted order values) → T (is_sorted order (with_all_taken given values))
sorted_all_taken [] values sorted = sorted
sorted_all_taken (one ∷ given) values sorted = sorted_all_taken given (with_taken values one) (sorted_taken values one.0 one.1 sorted)

sorted_all_released : (ids : List (List ℕ)) (values : Values) → T (is_sorted order values) → T (is_sorted order (with_all_released ids values))
sorted_all_released [] values sorted = sorted
sorted_all_released (x ∷ ids) values sorted = sorted_all_released ids (without_reference x values) (sorted_less values x sorted)

pub all_given_back : ValueLaws → (values : Values) (given : List (List ℕ × List ℕ)) (row : Option RowFields) → AreLong values → names_of given ≡ identifiers row → with_all_released (identifiers row) (with_all_taken given values) ≡ values
all_given_back laws values given row long names =
    let sorted : T (is_sorted order values) = holds (is_sorted order values) long.in_order in
    same_entries order nat_list_cmp_total tie_is_same (with_all_released (identifiers row) (with_all_taken given values)) values
    (sorted_all_released (identifiers row) (with_all_taken given values) (sorted_all_taken given values sorted)) sorted
    (λ k. by_test (list_any (bytes_eq k) (identifiers row))
    (λ t.
    let there : among k given ≡ true = any_named k given ∙ ap (list_any (bytes_eq k)) names ∙ t in
    let once : times_among k (names_of given) ≤ 1 = subst (λ (l : List (List ℕ)). times_among k l ≤ 1) (sym names) (refers_once k row) in
    let alone = own_taken laws given values k there once in
    own_released laws (identifiers row) (with_all_taken given values) k t (refers_once k row)
    ∙ same_released laws (with_all_taken given values) (with_taken values (k, alone.0)) k alone.1
    ∙ own_back laws values k alone.0 long)
    (λ f.
    let apart : among k given ≡ false = any_named k given ∙ ap (list_any (bytes_eq k)) names ∙ f in
    released_beside laws (identifiers row) (with_all_taken given values) k f ∙ all_taken_beside laws given values k apart))
