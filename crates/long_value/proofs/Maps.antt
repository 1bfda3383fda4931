-- What is in a map of values, and which nodes it has.
use Rattle.std.proofs.Common.{◌≡◌, ℕ, Bool, true, false, not, T, List, [], ◌∷◌, filter, length, Some, None, refl, sym, ap, subst, ◌∙◌, true≢false}
use Rattle.std.specs.Prelude.{All}
use Rattle.std.proofs.lemmas.List.Elements.{All-cons, All-head, All-filter, All-tail}
use Rattle.std.specs.declared.cmp.Ordering.TheVariants.{Less, Equal, Greater}
use Rattle.std.specs.Ordering.{is_eq, is_lt, eq_by_cmp}
use Rattle.std.specs.Cmp.Lexicographic.{nat_list_cmp_total}
use Rattle.std.specs.FinMap.Entries.{below_all, by_order, is_sorted, is_sorted-put, is_sorted-where_key}
use Rattle.std.proofs.lemmas.Bool.{not_from_false, not_from_true}
use Rattle.common_lemmas.proofs.Booleans.{T_first, T_second, by_test, is_true}
use Rattle.long_value.specs.Values.{AreLong, IsLong, LacksValue, LongValue, Values, nodes_of_values, order, put_value, value_of, with_value, without_value}
use Rattle.long_value.proofs.Keys.{differing}
use Rattle.long_value.proofs.ChunkNodes.{found_of_another, values_swapped}
use Rattle.long_value.specs.ChangedValues.{same_key}

-- ---- tests

pub holds : (b : Bool) → b ≡ true → T b
holds b e = subst T (sym e) tt

not_T : (b : Bool) → b ≡ false → T (not b)
not_T true e = absurd (true≢false e)
not_T false e = tt

-- ---- one row at the front

filter_first : {X : Type 0} (p : X → Bool) (x : X) (xs : List X) → p x ≡ true → filter p (x ∷ xs) ≡ x ∷ filter p xs
filter_first p x xs t = rw t refl

filter_none : {X : Type 0} (p : X → Bool) (x : X) (xs : List X) → p x ≡ false → filter p (x ∷ xs) ≡ filter p xs
filter_none p x xs t = rw t refl

pub kept : (id : List ℕ) (row : List ℕ × LongValue) (values : Values) → is_eq (order id row.0) ≡ false → without_value id (row ∷ values) ≡ row ∷ without_value id values
kept id row values other = filter_first (λ (e : List ℕ × LongValue). not (eq_by_cmp order id e.0)) row values (not_from_false (is_eq (order id row.0)) other)

pub gone : (id : List ℕ) (row : List ℕ × LongValue) (values : Values) → is_eq (order id row.0) ≡ true → without_value id (row ∷ values) ≡ without_value id values
gone id row values is = filter_none (λ (e : List ℕ × LongValue). not (eq_by_cmp order id e.0)) row values (not_from_true (is_eq (order id row.0)) is)

pub value_there : (id : List ℕ) (row : List ℕ × LongValue) (values : Values) → is_eq (order id row.0) ≡ true → value_of id (row ∷ values) ≡ Some row.1
value_there id row values is = rw is refl

pub value_later : (id : List ℕ) (row : List ℕ × LongValue) (values : Values) → is_eq (order id row.0) ≡ false → value_of id (row ∷ values) ≡ value_of id values
value_later id row values other = rw other refl

-- ---- maps without a value

pub nothing_gone : (id : List ℕ) (values : Values) → T (below_all order id values) → without_value id values ≡ values
nothing_gone id [] below = refl
nothing_gone id (row ∷ values) below =
    kept id row values (lower_unequal id row.0 (T_first (is_lt (order id row.0)) (below_all order id values) below))
    ∙ ap (λ l. row ∷ l) (nothing_gone id values (T_second (is_lt (order id row.0)) (below_all order id values) below))
  where
    lower_unequal : (a b : List ℕ) → T (is_lt (order a b)) → is_eq (order a b) ≡ false
    lower_unequal a b t = elim (order a b) as (λ r. T (is_lt r) → is_eq r ≡ false) [ Less ↦ λ _. refl | Equal ↦ λ u. absurd u | Greater ↦ λ _. refl ] t

pub none_gone : (id : List ℕ) (values : Values) → value_of id values ≡ None → without_value id values ≡ values
none_gone id [] e = refl
none_gone id (row ∷ values) e =
    by_test (is_eq (order id row.0))
    (λ t. let some : Some row.1 ≡ None = sym (value_there id row values t) ∙ e in absurd cc)
    (λ t. kept id row values t ∙ ap (λ l. row ∷ l) (none_gone id values (sym (value_later id row values t) ∙ e)))

pub lacking : (id : List ℕ) (values : Values) → length id ≡ 12 → All IsLong values → value_of id values ≡ None → LacksValue id (nodes_of_values values)
lacking id [] long whole e k lt = refl
lacking id (row ∷ values) long whole e k lt =
    by_test (is_eq (order id row.0))
    (λ t. let some : Some row.1 ≡ None = sym (value_there id row values t) ∙ e in absurd cc)
    (λ t. found_of_another row.0 id row.1 k (nodes_of_values values) (All-head IsLong row values whole).id long (λ s. differing id row.0 t (sym s))
    ∙ lacking id values long (All-tail IsLong row values whole) (sym (value_later id row values t) ∙ e) k lt)

-- ---- the nodes of a map with a value

pub put_nodes : (id : List ℕ) (value : LongValue) (values : Values) → length id ≡ 12 → T (is_sorted order values) → All IsLong values → nodes_of_values (put_value id value values) ≡ with_value id value (nodes_of_values (without_value id values))
put_nodes id value [] long sorted whole = refl
put_nodes id value (row ∷ values) long sorted whole =
    elim (order id row.0) as (λ r. order id row.0 ≡ r → nodes_of_values (by_order r ((id, value) ∷ row ∷ values) ((row.0, value) ∷ values) (row ∷ put_value id value values)) ≡ with_value id value (nodes_of_values (without_value id (row ∷ values)))) [
      | Less ↦ λ p. ap (λ l. with_value id value (nodes_of_values l)) (sym (nothing_gone id (row ∷ values) (below p)))
      | Equal ↦ λ p.
          let same : id ≡ row.0 = same_key id row.0 (ap is_eq p) in
          ap (λ k. with_value k value (nodes_of_values values)) (sym same)
          ∙ ap (λ l. with_value id value (nodes_of_values l)) (sym (gone id row values (ap is_eq p) ∙ nothing_gone id values (subst (λ k. T (below_all order k values)) (sym same) (T_first (below_all order row.0 values) (is_sorted order values) sorted))))
      | Greater ↦ λ p.
          ap (with_value row.0 row.1) (put_nodes id value values long (T_second (below_all order row.0 values) (is_sorted order values) sorted) (All-tail IsLong row values whole))
          ∙ values_swapped row.0 id row.1 value (nodes_of_values (without_value id values)) (All-head IsLong row values whole).id long (λ s. differing id row.0 (ap is_eq p) (sym s))
          ∙ ap (λ l. with_value id value (nodes_of_values l)) (sym (kept id row values (ap is_eq p)))
    ] refl
  where
    below : order id row.0 ≡ Less → T (below_all order id (row ∷ values))
    below p =
        T_first (below_all order id (row ∷ values)) (is_sorted order (row ∷ values))
        (subst (λ r. T (is_sorted order (by_order r ((id, value) ∷ row ∷ values) ((row.0, value) ∷ values) (row ∷ put_value id value values)))) p (is_sorted-put order nat_list_cmp_total id value (row ∷ values) sorted))

pub value_nodes : (id : List ℕ) (value : LongValue) (values : Values) → length id ≡ 12 → T (is_sorted order values) → All IsLong values → value_of id values ≡ Some value → nodes_of_values values ≡ with_value id value (nodes_of_values (without_value id values))
value_nodes id value [] long sorted whole e = absurd cc
value_nodes id value (row ∷ values) long sorted whole e =
    by_test (is_eq (order id row.0))
    (λ t.
    let same : id ≡ row.0 = same_key id row.0 t in
    let some : Some row.1 ≡ Some value = sym (value_there id row values t) ∙ e in
    let value_is : row.1 ≡ value = cc in
    ap (λ k. with_value k row.1 (nodes_of_values values)) (sym same)
    ∙ ap (λ v. with_value id v (nodes_of_values values)) value_is
    ∙ ap (λ l. with_value id value (nodes_of_values l)) (sym (gone id row values t ∙ nothing_gone id values (subst (λ k. T (below_all order k values)) (sym same) (T_first (below_all order row.0 values) (is_sorted order values) sorted)))))
    (λ t.
    ap (with_value row.0 row.1) (value_nodes id value values long (T_second (below_all order row.0 values) (is_sorted order values) sorted) (All-tail IsLong row values whole) (sym (value_later id row values t) ∙ e))
    ∙ values_swapped row.0 id row.1 value (nodes_of_values (without_value id values)) (All-head IsLong row values whole).id long (λ s. differing id row.0 t (sym s))
    ∙ ap (λ l. with_value id value (nodes_of_values l)) (sym (kept id row values t)))

-- ---- whole values stay whole

put_whole : (id : List ℕ) (value : LongValue) (values : Values) → IsLong (id, value) → All IsLong values → All IsLong (put_value id value values)
put_whole id value [] is whole = All-cons IsLong (id, value) [] is whole
put_whole id value (row ∷ values) is whole =
    elim (order id row.0) as (λ r. All IsLong (by_order r ((id, value) ∷ row ∷ values) ((row.0, value) ∷ values) (row ∷ put_value id value values))) [
      | Less ↦ All-cons IsLong (id, value) (row ∷ values) is whole
      | Equal ↦
          All-cons IsLong (row.0, value) values (record { id = (All-head IsLong row values whole).id; long = is.long; short = is.short; counted = is.counted; few = is.few })
          (All-tail IsLong row values whole)
      | Greater ↦ All-cons IsLong row (put_value id value values) (All-head IsLong row values whole) (put_whole id value values is (All-tail IsLong row values whole))
    ]

pub put_long : (id : List ℕ) (value : LongValue) (values : Values) → IsLong (id, value) → AreLong values → AreLong (put_value id value values)
put_long id value values is all = record {
  in_order = is_true (is_sorted order (put_value id value values)) (is_sorted-put order nat_list_cmp_total id value values (holds (is_sorted order values) all.in_order));
  whole = put_whole id value values is all.whole;
}

pub without_long : (id : List ℕ) (values : Values) → AreLong values → AreLong (without_value id values)
without_long id values all = record {
  in_order = is_true (is_sorted order (without_value id values)) (is_sorted-where_key order (λ k. not (eq_by_cmp order id k)) values (holds (is_sorted order values) all.in_order));
  whole = All-filter (λ (e : List ℕ × LongValue). not (eq_by_cmp order id e.0)) IsLong values all.whole;
}

pub value_long : (id : List ℕ) (value : LongValue) (values : Values) → All IsLong values → value_of id values ≡ Some value → IsLong (id, value)
value_long id value [] whole e = absurd cc
value_long id value (row ∷ values) whole e =
    by_test (is_eq (order id row.0))
    (λ t.
    let some : Some row.1 ≡ Some value = sym (value_there id row values t) ∙ e in
    let value_is : row.1 ≡ value = cc in
    subst (λ v. IsLong (id, v)) value_is (subst (λ k. IsLong (k, row.1)) (sym (same_key id row.0 t)) (All-head IsLong row values whole)))
    (λ t. value_long id value values (All-tail IsLong row values whole) (sym (value_later id row values t) ∙ e))
