-- The values of rows in use are there, and stay as references are given up.
use Rattle.std.proofs.Common.{◌≡◌, ◌≢◌, ◌⊎◌, inl, inr, ℕ, suc, ◌-◌, ◌<◌, ◌≤◌, ◌==◌, Bool, true, false, T, if◌then◌else◌, Option, Some, None, List, [], ◌∷◌, ◌++◌, option_map, refl, sym, ap, subst, ◌∙◌, arith}
use Rattle.std.specs.Prelude.{bytes_eq, is_some, sum_by, unwrap_or}
use Rattle.std.specs.Ordering.{is_eq, nat_cmp}
use Rattle.std.specs.Cmp.Lexicographic.{nat_list_cmp_total, slice_cmp, texts_ties}
use Rattle.std.specs.FinMap.Entries.{is_sorted, is_sorted-put, is_sorted-where_key, same_entries}
use Rattle.std.specs.declared.cmp.Ordering.TheVariants.{Equal}
use Rattle.std.proofs.lemmas.Bool.Decides.{nat_tests}
use Rattle.std.proofs.lemmas.List.Sums.{sum_by-append, sum_by-cons}
use Rattle.std.proofs.lemmas.Slice.Eq.{bytes_eq-Decides}
use Rattle.common_lemmas.proofs.Booleans.{by_test}
use Rattle.common_lemmas.proofs.Numbers.{same_bytes}
use Rattle.column_set.specs.RecordValues.{RecordFields, lookup_by_key}
use Rattle.column_set.specs.Rows.{RowFields}
use Rattle.long_value.specs.Values.{AreLong, LongValue, Values, order, put_value, released, value_of, with_reference, without_reference, without_value}
use Rattle.long_rows.specs.RowReferences.{identifiers, references, removed_identifiers}
use Rattle.long_rows.specs.ReferenceCounts.{AreRows, HasCounts, NamesNoOther, NewestRows, RowBefore, as_undone, count_of, identifiers_before, references_before, with_all_released, with_row, with_taken}
use Rattle.long_rows.proofs.Taken.{ValueLaws, cleaned_counts, count_in, some_counted, undone_counts, shared, unequal}
use Rattle.long_rows.proofs.Removed.{rewritten_counts}
use Rattle.long_rows.proofs.Totals.{holds, row_references, found_first}
use Rattle.long_rows.specs.WholeRows.{StandsFor}
use Rattle.long_rows.specs.RowsInUse.{IsInUse, newest, before}
use Rattle.long_rows.proofs.Keeping.{Keeps, bytes_in, still_stands, some_is}
use Rattle.common_lemmas.proofs.Options.{none_some}

-- ---- a value that a row in use names is there

found_later : (key : List ℕ) (row : List ℕ × RowFields) (rows : NewestRows) → is_eq (slice_cmp nat_cmp key row.0) ≡ false → lookup_by_key key (row ∷ rows) ≡ lookup_by_key key rows
found_later key row rows f = rw f refl

newest_counts : (id key : List ℕ) (row : RowFields) (rows : NewestRows) → lookup_by_key key rows ≡ Some row → references id (Some row) ≤ sum_by (row_references id) rows
newest_counts id key row [] e = none_some row e
newest_counts id key row (first ∷ rows) e =
    let all = sum_by-cons (row_references id) first rows in
    by_test (is_eq (slice_cmp nat_cmp key first.0))
    (λ t. let same : references id (Some first.1) ≡ references id (Some row) = ap (references id) (sym (found_first key first rows t) ∙ e) in omega (arith, all, same))
    (λ f. let rest = newest_counts id key row rows (sym (found_later key first rows f) ∙ e) in omega (arith, all, rest))

before_counts : (id : List ℕ) (row : RowFields) (earlier later : List RowBefore) (change : RowBefore) → change.is_undone ≡ false → change.row ≡ Some row → references id (Some row) ≤ sum_by (references_before id) (earlier ++ change ∷ later)
before_counts id row earlier later change stands is =
    let all = sum_by-append (references_before id) earlier (change ∷ later) in
    let one = sum_by-cons (references_before id) change later in
    let same : references_before id change ≡ references id (Some row) = ap (λ (b : Bool). if b then 0 else references id change.row) stands ∙ ap (references id) is in
    omega (arith, all, one, same)

pub counted : (values : Values) (rows : NewestRows) (held : List RowBefore) (row : RowFields) (id : List ℕ) → HasCounts values rows held → IsInUse rows held row → 0 < references id (Some row) → 0 < count_of id values
counted values rows held row id has (newest bookmark e) lt = let all = newest_counts id bookmark row rows e in let sum = has id in omega (arith, all, sum, lt)
counted values rows held row id has (before earlier later change e stands is) lt =
    let all : references id (Some row) ≤ sum_by (references_before id) held = subst (λ (l : List RowBefore). references id (Some row) ≤ sum_by (references_before id) l) (sym e) (before_counts id row earlier later change stands is) in
    let sum = has id in
    omega (arith, all, sum, lt)

pub is_there : (o : Option LongValue) → 0 < count_in o → is_some o ≡ true
is_there None lt = absurd (omega (arith, lt))
is_there (Some value) lt = refl

-- ---- references that are given up

pub by_option : {P : Type 0} (o : Option LongValue) → (o ≡ None → P) → ((value : LongValue) → o ≡ Some value → P) → P
by_option None none some = none refl
by_option (Some value) none some = some value refl

pub no_value : (values : Values) (id : List ℕ) → value_of id values ≡ None → without_reference id values ≡ values
no_value values id e = ap (λ (o : Option LongValue). unwrap_or (option_map (λ (value : LongValue). released id value values) o) values) e

gone_still : ValueLaws → (values : Values) (x k : List ℕ) → value_of k values ≡ None → value_of k (without_reference x values) ≡ None
gone_still laws values x k none =
    by_test (bytes_eq k x)
    (λ t.
    let same : x ≡ k = sym (same_bytes k x t) in
    ap (value_of k) (no_value values x (ap (λ (i : List ℕ). value_of i values) same ∙ none)) ∙ none)
    (λ f. laws.less_beside values x k (unequal k x f) ∙ none)

gone_all : ValueLaws → (ids : List (List ℕ)) (values : Values) (k : List ℕ) → value_of k values ≡ None → value_of k (with_all_released ids values) ≡ None
gone_all laws [] values k none = none
gone_all laws (x ∷ ids) values k none = gone_all laws ids (without_reference x values) k (gone_still laws values x k none)

less_or_gone : (found : LongValue) (o : Option LongValue) → o ≡ (if found.count == 1 then None else Some (record found { count = found.count - 1 })) → (o ≡ None) ⊎ (bytes_in o ≡ Some found.bytes)
less_or_gone found o e =
    by_test (found.count == 1)
    (λ t. inl (e ∙ ap (λ (b : Bool). if b then None else Some (record found { count = found.count - 1 })) t))
    (λ f. inr (ap bytes_in (e ∙ ap (λ (b : Bool). if b then None else Some (record found { count = found.count - 1 })) f)))

keeps_or_gone : ValueLaws → (values : Values) (x k : List ℕ) (found : LongValue) → value_of k values ≡ Some found → (value_of k (without_reference x values) ≡ None) ⊎ (bytes_in (value_of k (without_reference x values)) ≡ Some found.bytes)
keeps_or_gone laws values x k found is =
    by_test (bytes_eq k x)
    (λ t.
    let same : k ≡ x = same_bytes k x t in
    less_or_gone found (value_of k (without_reference x values)) (ap (λ (i : List ℕ). value_of k (without_reference i values)) (sym same) ∙ laws.less values k found is))
    (λ f. inr (ap bytes_in (laws.less_beside values x k (unequal k x f) ∙ is)))

pub keeps_released : ValueLaws → (ids : List (List ℕ)) (values : Values) (k : List ℕ) → 0 < count_of k (with_all_released ids values) → Keeps values (with_all_released ids values) k
keeps_released laws [] values k some = λ found is. ap bytes_in is
keeps_released laws (x ∷ ids) values k some = λ found is.
    elim (keeps_or_gone laws values x k found is) as (λ _. bytes_in (value_of k (with_all_released ids (without_reference x values))) ≡ Some found.bytes) [
      | inl gone ↦
          let none : count_in (value_of k (with_all_released ids (without_reference x values))) ≡ 0 = ap count_in (gone_all laws ids (without_reference x values) k gone) in
          absurd (omega (arith, none, some))
      | inr kept ↦
          let was = some_is (value_of k (without_reference x values)) found.bytes kept in
          keeps_released laws ids (without_reference x values) k some was.0 was.1 ∙ was.2
    ]

pub stands_less : ValueLaws → (ids : List (List ℕ)) (values : Values) (rows : NewestRows) (held : List RowBefore) (row : RowFields) (fields : RecordFields) → HasCounts (with_all_released ids values) rows held → IsInUse rows held row → StandsFor values row fields
    → StandsFor (with_all_released ids values) row fields
stands_less laws ids values rows held row fields has used = still_stands values (with_all_released ids values) row fields (λ k lt. keeps_released laws ids values k (counted (with_all_released ids values) rows held row k has used lt))

pub stands_undone : ValueLaws → (values : Values) (rows : NewestRows) (earlier later : List RowBefore) (change : RowBefore) (row : RowFields) (fields : RecordFields) → AreRows rows → change.is_undone ≡ false → HasCounts values rows (earlier ++ change ∷ later)
    → IsInUse (with_row change.bookmark change.row rows) (earlier ++ as_undone change ∷ later) row → StandsFor values row fields
    → StandsFor (with_all_released (identifiers (lookup_by_key change.bookmark rows)) values) row fields
stands_undone laws values rows earlier later change row fields sorted stands has used =
    stands_less laws (identifiers (lookup_by_key change.bookmark rows)) values (with_row change.bookmark change.row rows) (earlier ++ as_undone change ∷ later) row fields (undone_counts laws values rows earlier later change sorted stands has) used

pub stands_cleaned : ValueLaws → (values : Values) (rows : NewestRows) (oldest : RowBefore) (held : List RowBefore) (row : RowFields) (fields : RecordFields) → HasCounts values rows (oldest ∷ held) → IsInUse rows held row → StandsFor values row fields
    → StandsFor (with_all_released (identifiers_before oldest) values) row fields
stands_cleaned laws values rows oldest held row fields has used = stands_less laws (identifiers_before oldest) values rows held row fields (cleaned_counts laws values rows oldest held has) used

pub stands_rewritten : ValueLaws → (values : Values) (bookmark : List ℕ) (is : Option RowFields) (rows : NewestRows) (held : List RowBefore) (row : RowFields) (fields : RecordFields) → AreRows rows → NamesNoOther is (lookup_by_key bookmark rows)
    → HasCounts values rows held → IsInUse (with_row bookmark is rows) held row → StandsFor values row fields
    → StandsFor (with_all_released (removed_identifiers (lookup_by_key bookmark rows) is) values) row fields
stands_rewritten laws values bookmark is rows held row fields sorted less has used =
    stands_less laws (removed_identifiers (lookup_by_key bookmark rows) is) values (with_row bookmark is rows) held row fields (rewritten_counts laws values bookmark is rows held sorted less has) used

-- ---- a value that was taken is given back

pub sorted_less : (values : Values) (id : List ℕ) → T (is_sorted order values) → T (is_sorted order (without_reference id values))
sorted_less values id sorted =
    by_option (value_of id values)
    (λ none. subst (λ (v : Values). T (is_sorted order v)) (sym (no_value values id none)) sorted)
    (λ value some.
    subst (λ (v : Values). T (is_sorted order v)) (sym (ap (λ (o : Option LongValue). unwrap_or (option_map (λ (value : LongValue). released id value values) o) values) some))
    (by_test (value.count == 1)
    (λ t. subst (λ (v : Values). T (is_sorted order v)) (sym (last value t)) (is_sorted-where_key order _ values sorted))
    (λ f. subst (λ (v : Values). T (is_sorted order v)) (sym (more value f)) (is_sorted-put order nat_list_cmp_total id (record value { count = value.count - 1 }) values sorted))))
  where
    last : (value : LongValue) → (value.count == 1) ≡ true → released id value values ≡ without_value id values
    last value t = rw t refl

    more : (value : LongValue) → (value.count == 1) ≡ false → released id value values ≡ put_value id (record value { count = value.count - 1 }) values
    more value f = rw f refl

one_more_less : (value : LongValue) → 1 ≤ value.count → (if suc value.count == 1 then None else Some (record value { count = suc value.count - 1 })) ≡ Some value
one_more_less value some =
    let n = value.count in
    let not_last : (suc n == 1) ≡ false = grind (arith, nat_tests) in
    let back : suc n - 1 ≡ n = omega arith in
    ap (λ (b : Bool). if b then None else Some (record value { count = suc n - 1 })) not_last ∙ ap (λ (m : ℕ). Some (record value { count = m })) back

placed : (values : Values) (id bytes : List ℕ) → is_some (value_of id values) ≡ false → with_taken values (id, bytes) ≡ put_value id (record { count = 1; bytes = bytes }) values
placed values id bytes f = rw f refl

sorted_more : (values : Values) (id : List ℕ) → T (is_sorted order values) → T (is_sorted order (with_reference id values))
sorted_more values id sorted =
    by_option (value_of id values)
    (λ none. subst (λ (v : Values). T (is_sorted order v)) (sym (ap (λ (o : Option LongValue). unwrap_or (option_map (λ (value : LongValue). put_value id (record value { count = suc value.count }) values) o) values) none)) sorted)
    (λ value some.
    subst (λ (v : Values). T (is_sorted order v)) (sym (ap (λ (o : Option LongValue). unwrap_or (option_map (λ (value : LongValue). put_value id (record value { count = suc value.count }) values) o) values) some))
    (is_sorted-put order nat_list_cmp_total id (record value { count = suc value.count }) values sorted))

pub sorted_taken : (values : Values) (id bytes : List ℕ) → T (is_sorted order values) → T (is_sorted order (with_taken values (id, bytes)))
sorted_taken values id bytes sorted =
    by_test (is_some (value_of id values))
    (λ t. subst (λ (v : Values). T (is_sorted order v)) (sym (shared values (id, bytes) t)) (sorted_more values id sorted))
    (λ f. subst (λ (v : Values). T (is_sorted order v)) (sym (placed values id bytes f)) (is_sorted-put order nat_list_cmp_total id (record { count = 1; bytes = bytes }) values sorted))

pub own_back : ValueLaws → (values : Values) (id bytes : List ℕ) → AreLong values → value_of id (without_reference id (with_taken values (id, bytes))) ≡ value_of id values
own_back laws values id bytes long =
    by_option (value_of id values)
    (λ none.
    let now : value_of id (with_taken values (id, bytes)) ≡ Some (record { count = 1; bytes = bytes }) = ap (value_of id) (placed values id bytes (ap is_some none)) ∙ laws.put values id (record { count = 1; bytes = bytes }) in
    laws.less (with_taken values (id, bytes)) id (record { count = 1; bytes = bytes }) now ∙ sym none)
    (λ value some.
    let now : value_of id (with_taken values (id, bytes)) ≡ Some (record value { count = suc value.count }) = ap (value_of id) (shared values (id, bytes) (ap is_some some)) ∙ laws.more values id value some in
    laws.less (with_taken values (id, bytes)) id (record value { count = suc value.count }) now ∙ one_more_less value (some_counted id value values long.whole some) ∙ sym some)

other_back : ValueLaws → (values : Values) (id bytes k : List ℕ) → k ≢ id → value_of k (without_reference id (with_taken values (id, bytes))) ≡ value_of k values
other_back laws values id bytes k n =
    laws.less_beside (with_taken values (id, bytes)) id k n
    ∙ by_test (is_some (value_of id values))
    (λ t. ap (value_of k) (shared values (id, bytes) t) ∙ laws.more_beside values id k n)
    (λ f. ap (value_of k) (placed values id bytes f) ∙ laws.beside values id k (record { count = 1; bytes = bytes }) n)

pub tie_is_same : (x y : List ℕ) → order x y ≡ Equal → x ≡ y
tie_is_same x y e = (bytes_eq-Decides x y).0 (texts_ties x y ∙ ap is_eq e)

pub given_back : ValueLaws → (values : Values) (id bytes : List ℕ) → AreLong values → without_reference id (with_taken values (id, bytes)) ≡ values
given_back laws values id bytes long =
    let sorted : T (is_sorted order values) = holds (is_sorted order values) long.in_order in
    same_entries order nat_list_cmp_total tie_is_same (without_reference id (with_taken values (id, bytes))) values
    (sorted_less (with_taken values (id, bytes)) id (sorted_taken values id bytes sorted)) sorted
    (λ k. by_test (bytes_eq k id)
    (λ t. let same : k ≡ id = same_bytes k id t in subst (λ (i : List ℕ). value_of i (without_reference id (with_taken values (id, bytes))) ≡ value_of i values) (sym same) (own_back laws values id bytes long))
    (λ f. other_back laws values id bytes k (unequal k id f)))
