-- Look-ups in a map of long values after a change.
use Rattle.std.proofs.Common.{◌≡◌, ◌≢◌, ℕ, suc, ◌==◌, ◌-◌, true, false, List, Option, Some, None, if◌then◌else◌, refl, sym, ap, ◌∙◌}
use Rattle.std.specs.Prelude.{not, option_map, unwrap_or}
use Rattle.std.specs.Ordering.{eq_by_cmp, is_eq}
use Rattle.std.specs.Cmp.Lexicographic.{nat_list_cmp_total, texts_ties}
use Rattle.std.specs.FinMap.Entries.{find-put, find-where_key}
use Rattle.std.proofs.lemmas.Cmp.{tied_itself}
use Rattle.std.proofs.lemmas.Map.Lookups.{exact_bytes}
use Rattle.common_lemmas.proofs.Booleans.{by_test}
use Rattle.common_lemmas.proofs.Numbers.{same_bytes}
use Rattle.long_value.specs.Values.{LongValue, Values, order, put_value, released, value_of, with_reference, without_reference, without_value}

pub itself : (id : List ℕ) → is_eq (order id id) ≡ true
itself id = ap is_eq (tied_itself nat_list_cmp_total id)

pub same_key : (id other : List ℕ) → is_eq (order id other) ≡ true → id ≡ other
same_key id other e = same_bytes id other (texts_ties id other ∙ e)

pub differ : (id other : List ℕ) → id ≢ other → is_eq (order id other) ≡ false
differ id other n = by_test (is_eq (order id other)) (λ t. absurd (n (same_key id other t))) (λ f. f)

pub value_put : (values : Values) (id : List ℕ) (value : LongValue) → value_of id (put_value id value values) ≡ Some value
value_put values id value = find-put order nat_list_cmp_total id id value values ∙ rw (itself id) refl

pub value_beside : (values : Values) (id other : List ℕ) (value : LongValue) → other ≢ id → value_of other (put_value id value values) ≡ value_of other values
value_beside values id other value n = let apart = differ other id n in find-put order nat_list_cmp_total other id value values ∙ rw apart refl

value_without : (values : Values) (id other : List ℕ) → value_of other (without_value id values) ≡ (if not (is_eq (order id other)) then value_of other values else None)
value_without values id other =
    find-where_key order (λ k. not (eq_by_cmp order id k)) other (λ x e. ap (λ k. not (eq_by_cmp order id k)) (sym (exact_bytes other x e))) values

pub value_gone : (values : Values) (id : List ℕ) → value_of id (without_value id values) ≡ None
value_gone values id = value_without values id id ∙ rw (itself id) refl

pub value_left : (values : Values) (id other : List ℕ) → other ≢ id → value_of other (without_value id values) ≡ value_of other values
value_left values id other n = let apart = differ id other (λ e. n (sym e)) in value_without values id other ∙ rw apart refl

-- ---- one reference more or less

with_more : (values : Values) (id : List ℕ) (o : Option LongValue) → value_of id values ≡ o → with_reference id values ≡ unwrap_or (option_map (λ (value : LongValue). put_value id (record value { count = suc value.count }) values) o) values
with_more values id o e = ap (λ (p : Option LongValue). unwrap_or (option_map (λ (value : LongValue). put_value id (record value { count = suc value.count }) values) p) values) e

with_less : (values : Values) (id : List ℕ) (o : Option LongValue) → value_of id values ≡ o → without_reference id values ≡ unwrap_or (option_map (λ (value : LongValue). released id value values) o) values
with_less values id o e = ap (λ (p : Option LongValue). unwrap_or (option_map (λ (value : LongValue). released id value values) p) values) e

pub more_there : (values : Values) (id : List ℕ) (value : LongValue) → value_of id values ≡ Some value → value_of id (with_reference id values) ≡ Some (record value { count = suc value.count })
more_there values id value e = ap (value_of id) (with_more values id (Some value) e) ∙ value_put values id (record value { count = suc value.count })

pub more_beside : (values : Values) (id other : List ℕ) → other ≢ id → value_of other (with_reference id values) ≡ value_of other values
more_beside values id other n =
    elim (value_of id values) as (λ o. value_of id values ≡ o → value_of other (with_reference id values) ≡ value_of other values) [
      | None ↦ λ e. ap (value_of other) (with_more values id None e)
      | Some value ↦ λ e. ap (value_of other) (with_more values id (Some value) e) ∙ value_beside values id other (record value { count = suc value.count }) n
    ] refl

pub less_there : (values : Values) (id : List ℕ) (value : LongValue) → value_of id values ≡ Some value → value_of id (without_reference id values) ≡ (if value.count == 1 then None else Some (record value { count = value.count - 1 }))
less_there values id value e =
    ap (value_of id) (with_less values id (Some value) e)
    ∙ by_test (value.count == 1)
    (λ t. rw t (value_gone values id))
    (λ t. rw t (value_put values id (record value { count = value.count - 1 })))

pub less_beside : (values : Values) (id other : List ℕ) → other ≢ id → value_of other (without_reference id values) ≡ value_of other values
less_beside values id other n =
    elim (value_of id values) as (λ o. value_of id values ≡ o → value_of other (without_reference id values) ≡ value_of other values) [
      | None ↦ λ e. ap (value_of other) (with_less values id None e)
      | Some value ↦ λ e. ap (value_of other) (with_less values id (Some value) e)
          ∙ by_test (value.count == 1)
          (λ t. rw t (value_left values id other n))
          (λ t. rw t (value_beside values id other (record value { count = value.count - 1 }) n))
    ] refl
