-- Values keep their bytes as references come and go.
use Rattle.std.proofs.Common.{◌≡◌, ◌≢◌, ℕ, ◌-◌, ◌<◌, ◌==◌, Bool, false, if◌then◌else◌, Some, None, List, [], ◌∷◌, refl, sym, ap, subst, ◌∙◌, arith}
use Rattle.std.specs.Prelude.{bytes_eq, is_some}
use Rattle.std.proofs.lemmas.Bool.{eqb-true}
use Rattle.common_lemmas.proofs.Options.{none_there, none_some}
use Rattle.common_lemmas.proofs.Booleans.{by_test}
use Rattle.common_lemmas.proofs.Numbers.{same_bytes}
use Rattle.column_set.specs.RecordValues.{RecordFields}
use Rattle.column_set.specs.Rows.{RowFields}
use Rattle.long_value.specs.Values.{LongValue, Values, put_value, value_of, with_reference, without_reference}
use Rattle.long_rows.specs.RowReferences.{references}
use Rattle.long_rows.specs.ReferenceCounts.{with_all_taken, with_taken}
use Rattle.long_rows.proofs.Taken.{ValueLaws, shared, unequal}
use Rattle.long_rows.specs.WholeRows.{StandsFor}
use Rattle.long_rows.proofs.Keeping.{Keeps, bytes_in, still_stands, some_is}

pub keeps_put : ValueLaws → (values : Values) (id : List ℕ) (value : LongValue) (k : List ℕ) → value_of id values ≡ None → Keeps values (put_value id value values) k
keeps_put laws values id value k none found is =
    by_test (bytes_eq k id)
    (λ t. none_some found (sym none ∙ ap (λ (i : List ℕ). value_of i values) (sym (same_bytes k id t)) ∙ is))
    (λ f. ap bytes_in (laws.beside values id k value (unequal k id f) ∙ is))

pub keeps_more : ValueLaws → (values : Values) (id k : List ℕ) → Keeps values (with_reference id values) k
keeps_more laws values id k found is =
    by_test (bytes_eq k id)
    (λ t.
    let same : k ≡ id = same_bytes k id t in
    let there : value_of id values ≡ Some found = ap (λ (i : List ℕ). value_of i values) (sym same) ∙ is in
    ap (λ (i : List ℕ). bytes_in (value_of i (with_reference id values))) same ∙ ap bytes_in (laws.more values id found there))
    (λ f. ap bytes_in (laws.more_beside values id k (unequal k id f) ∙ is))

pub keeps_less : ValueLaws → (values : Values) (id : List ℕ) (value : LongValue) (k : List ℕ) → value_of id values ≡ Some value → 1 < value.count → Keeps values (without_reference id values) k
keeps_less laws values id value k there many found is =
    by_test (bytes_eq k id)
    (λ t.
    let same : k ≡ id = same_bytes k id t in
    let one : value_of id values ≡ Some found = ap (λ (i : List ℕ). value_of i values) (sym same) ∙ is in
    let more : (value.count == 1) ≡ false = by_test (value.count == 1) (λ e. let is_one = eqb-true value.count 1 e in absurd (omega (arith, is_one, many))) (λ e. e) in
    let left : value_of id (without_reference id values) ≡ Some (record value { count = value.count - 1 }) =
    laws.less values id value there ∙ ap (λ (b : Bool). if b then None else Some (record value { count = value.count - 1 })) more in
    ap (λ (i : List ℕ). bytes_in (value_of i (without_reference id values))) same ∙ ap bytes_in left ∙ ap bytes_in (sym there ∙ one))
    (λ f. ap bytes_in (laws.less_beside values id k (unequal k id f) ∙ is))

pub keeps_other : ValueLaws → (values : Values) (id k : List ℕ) → k ≢ id → Keeps values (without_reference id values) k
keeps_other laws values id k n found is = ap bytes_in (laws.less_beside values id k n ∙ is)

pub keeps_taken : ValueLaws → (values : Values) (one : List ℕ × List ℕ) (k : List ℕ) → Keeps values (with_taken values one) k
keeps_taken laws values one k =
    by_test (is_some (value_of one.0 values))
    (λ t. subst (λ (v : Values). Keeps values v k) (sym (shared values one t)) (keeps_more laws values one.0 k))
    (λ f. subst (λ (v : Values). Keeps values v k) (sym (placed f)) (keeps_put laws values one.0 (record { count = 1; bytes = one.1 }) k (none_there (value_of one.0 values) f)))
  where
    placed : is_some (value_of one.0 values) ≡ false → with_taken values one ≡ put_value one.0 (record { count = 1; bytes = one.1 }) values
    placed f = rw f refl

pub joined : (a b c : Values) (k : List ℕ) → Keeps a b k → Keeps b c k → Keeps a c k
joined a b c k first second found is =
    let then_is = some_is (value_of k b) found.bytes (first found is) in
    second then_is.0 then_is.1 ∙ then_is.2

pub keeps_all_taken : ValueLaws → (given : List (List ℕ × List ℕ)) (values : Values) (k : List ℕ) → Keeps values (with_all_taken given values) k
keeps_all_taken laws [] values k = λ found is. ap bytes_in is
keeps_all_taken laws (one ∷ given) values k = joined values (with_taken values one) (with_all_taken given (with_taken values one)) k (keeps_taken laws values one k) (keeps_all_taken laws given (with_taken values one) k)

-- ---- rows

pub stands_put : ValueLaws → (values : Values) (id : List ℕ) (value : LongValue) (row : RowFields) (fields : RecordFields) → value_of id values ≡ None → StandsFor values row fields → StandsFor (put_value id value values) row fields
stands_put laws values id value row fields none = still_stands values (put_value id value values) row fields (λ k lt. keeps_put laws values id value k none)

pub stands_shared : ValueLaws → (values : Values) (id : List ℕ) (row : RowFields) (fields : RecordFields) → StandsFor values row fields → StandsFor (with_reference id values) row fields
stands_shared laws values id row fields = still_stands values (with_reference id values) row fields (λ k lt. keeps_more laws values id k)

pub stands_released : ValueLaws → (values : Values) (id : List ℕ) (value : LongValue) (row : RowFields) (fields : RecordFields) → value_of id values ≡ Some value → 1 < value.count → StandsFor values row fields → StandsFor (without_reference id values) row fields
stands_released laws values id value row fields there many = still_stands values (without_reference id values) row fields (λ k lt. keeps_less laws values id value k there many)

pub stands_beside : ValueLaws → (values : Values) (id : List ℕ) (row : RowFields) (fields : RecordFields) → references id (Some row) ≡ 0 → StandsFor values row fields → StandsFor (without_reference id values) row fields
stands_beside laws values id row fields none = still_stands values (without_reference id values) row fields (λ k lt. keeps_other laws values id k (differs k lt))
  where
    differs : (k : List ℕ) → 0 < references k (Some row) → k ≢ id
    differs k lt e = let same : references k (Some row) ≡ references id (Some row) = ap (λ (i : List ℕ). references i (Some row)) e in absurd (omega (arith, same, none, lt))

pub stands_taken : ValueLaws → (values : Values) (given : List (List ℕ × List ℕ)) (row : RowFields) (fields : RecordFields) → StandsFor values row fields → StandsFor (with_all_taken given values) row fields
stands_taken laws values given row fields = still_stands values (with_all_taken given values) row fields (λ k lt. keeps_all_taken laws given values k)
