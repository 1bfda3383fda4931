-- The values of a column put in the place of others.
use Rattle.std.proofs.Common.{◌≡◌, ℕ, ◌+◌, Bool, true, false, cond, List, [], ◌∷◌, Some, None, refl, sym, ap, subst, ◌∙◌}
use Rattle.std.specs.Prelude.{T, sum_by}
use Rattle.std.specs.List.{list_all}
use Rattle.std.specs.Cmp.{nat_cmp_total, unsigned_tied}
use Rattle.std.specs.declared.cmp.Ordering.{Ordering}
use Rattle.std.specs.declared.cmp.Ordering.TheVariants.{Less, Equal, Greater}
use Rattle.std.specs.Ordering.{is_eq, is_lt, nat_cmp}
use Rattle.std.specs.FinMap.Entries.{below_all, by_order, is_sorted}
use Rattle.std.proofs.lemmas.List.Sums.{sum_by-cons}
use Rattle.std.proofs.lemmas.Bool.{and_from, eqb-true}
use Rattle.common_lemmas.proofs.Options.{same_some}
use Rattle.common_lemmas.proofs.Orders.{is_equal}
use Rattle.common_lemmas.proofs.Booleans.{T_first, T_second, and_left, and_right}
use Rattle.common_lemmas.proofs.Numbers.{self_equal}
use Rattle.column_set.specs.RecordValues.{RecordFields, lookup_by_number, put_by_number}
use Rattle.laws_versions.specs.EscrowNumbers.{ColumnsRise}

-- ---- tests

nothing : {X : Type 0} (x : X) → None ≡ Some x → ⊥
nothing x e = cc

less : (o : Ordering) → T (is_lt o) → o ≡ Less
less Less h = refl
less Equal h = absurd h
less Greater h = absurd h

itself : (c : ℕ) → nat_cmp c c ≡ Equal
itself c = is_equal (nat_cmp c c) (unsigned_tied c c ∙ self_equal c)

same : (c k : ℕ) → nat_cmp c k ≡ Equal → c ≡ k
same c k e = eqb-true c k (sym (unsigned_tied c k) ∙ ap is_eq e)

-- ---- what is found

-- nothing below all
none_below : (c k : ℕ) (fields : RecordFields) → nat_cmp c k ≡ Less → T (below_all nat_cmp k fields) → lookup_by_number c fields ≡ None
none_below c k [] e h = refl
none_below c k (field ∷ fields) e h =
    ap (λ o. cond (is_eq o) (Some field.1) (lookup_by_number c fields)) (nat_cmp_total.trans c k field.0 e (less (nat_cmp k field.0) (T_first (is_lt (nat_cmp k field.0)) (below_all nat_cmp k fields) h)))
    ∙ none_below c k fields e (T_second (is_lt (nat_cmp k field.0)) (below_all nat_cmp k fields) h)

-- what each field has, the one that is found has
pub found_has : (p : ℕ × List (List ℕ) → Bool) (c : ℕ) (values : List (List ℕ)) (fields : RecordFields) → list_all p fields ≡ true → lookup_by_number c fields ≡ Some values → p (c, values) ≡ true
found_has p c values [] h e = absurd (nothing values e)
found_has p c values (field ∷ fields) h e =
    elim (is_eq (nat_cmp c field.0)) as (λ b. is_eq (nat_cmp c field.0) ≡ b → cond b (Some field.1) (lookup_by_number c fields) ≡ Some values → p (c, values) ≡ true) [
      | true ↦ λ f g.
          ap (λ (v : List (List ℕ)). p (c, v)) (sym (same_some field.1 values g))
          ∙ ap (λ (k : ℕ). p (k, field.1)) (same c field.0 (is_equal (nat_cmp c field.0) f))
          ∙ and_left (p field) (list_all p fields) h
      | false ↦ λ f g. found_has p c values fields (and_right (p field) (list_all p fields) h) g
    ] refl e

-- ---- puts

-- the second of two puts
pub put_again : (c : ℕ) (x y : List (List ℕ)) (fields : RecordFields) → put_by_number c y (put_by_number c x fields) ≡ put_by_number c y fields
put_again c x y [] = ap (λ o. by_order o ((c, y) ∷ (c, x) ∷ []) ((c, y) ∷ []) ((c, x) ∷ (c, y) ∷ [])) (itself c)
put_again c x y (field ∷ fields) =
    elim (nat_cmp c field.0) as (λ o. nat_cmp c field.0 ≡ o → put_by_number c y (by_order o ((c, x) ∷ field ∷ fields) ((field.0, x) ∷ fields) (field ∷ put_by_number c x fields)) ≡ by_order o ((c, y) ∷ field ∷ fields) ((field.0, y) ∷ fields) (field ∷ put_by_number c y fields)) [
      | Less ↦ λ e. ap (λ o. by_order o ((c, y) ∷ (c, x) ∷ field ∷ fields) ((c, y) ∷ field ∷ fields) ((c, x) ∷ put_by_number c y (field ∷ fields))) (itself c)
      | Equal ↦ λ e. ap (λ o. by_order o ((c, y) ∷ (field.0, x) ∷ fields) ((field.0, y) ∷ fields) ((field.0, x) ∷ put_by_number c y fields)) e
      | Greater ↦ λ e.
          ap (λ o. by_order o ((c, y) ∷ field ∷ put_by_number c x fields) ((field.0, y) ∷ put_by_number c x fields) (field ∷ put_by_number c y (put_by_number c x fields))) e
          ∙ ap (λ (rest : RecordFields). field ∷ rest) (put_again c x y fields)
    ] refl

-- one case for each place of a column that is found
at_found : (Q : RecordFields → RecordFields → Type 0) (c : ℕ) (v w : List (List ℕ))
    → ((fields : RecordFields) → Q ((c, v) ∷ fields) ((c, w) ∷ fields)) → ((field : ℕ × List (List ℕ)) (one other : RecordFields) → Q one other → Q (field ∷ one) (field ∷ other))
    → (fields : RecordFields) → ColumnsRise fields → lookup_by_number c fields ≡ Some w → Q (put_by_number c v fields) fields
at_found Q c v w here further [] rise e = absurd (nothing w e)
at_found Q c v w here further (field ∷ fields) rise e =
    elim (nat_cmp c field.0) as (λ o. nat_cmp c field.0 ≡ o → cond (is_eq o) (Some field.1) (lookup_by_number c fields) ≡ Some w → Q (by_order o ((c, v) ∷ field ∷ fields) ((field.0, v) ∷ fields) (field ∷ put_by_number c v fields)) (field ∷ fields)) [
      | Less ↦ λ f g. absurd (nothing w (sym (none_below c field.0 fields f (T_first (below_all nat_cmp field.0 fields) (is_sorted nat_cmp fields) rise)) ∙ g))
      | Equal ↦ λ f g. subst (λ (k : ℕ). Q ((k, v) ∷ fields) ((k, field.1) ∷ fields)) (same c field.0 f) (subst (λ (x : List (List ℕ)). Q ((c, v) ∷ fields) ((c, x) ∷ fields)) (sym (same_some field.1 w g)) (here fields))
      | Greater ↦ λ f g. further field (put_by_number c v fields) fields (at_found Q c v w here further fields (T_second (below_all nat_cmp field.0 fields) (is_sorted nat_cmp fields) rise) g)
    ] refl e

-- what is found, put again
pub put_found : (c : ℕ) (w : List (List ℕ)) (fields : RecordFields) → ColumnsRise fields → lookup_by_number c fields ≡ Some w → put_by_number c w fields ≡ fields
put_found c w fields rise e = at_found (λ one other. one ≡ other) c w w (λ rest. refl) (λ field one other same_rest. ap (λ (rest : RecordFields). field ∷ rest) same_rest) fields rise e

-- a sum over the fields stays where the new values count as much
pub sum_put : (f : ℕ × List (List ℕ) → ℕ) (c : ℕ) (v w : List (List ℕ)) → f (c, v) ≡ f (c, w) → (fields : RecordFields) → ColumnsRise fields → lookup_by_number c fields ≡ Some w → sum_by f (put_by_number c v fields) ≡ sum_by f fields
sum_put f c v w h fields rise e = at_found (λ one other. sum_by f one ≡ sum_by f other) c v w
    (λ rest. sum_by-cons f (c, v) rest ∙ ap (λ n. n + sum_by f rest) h ∙ sym (sum_by-cons f (c, w) rest))
    (λ field one other same_rest. sum_by-cons f field one ∙ ap (λ n. f field + n) same_rest ∙ sym (sum_by-cons f field other)) fields rise e

-- each field has what the new values have too
pub all_put : (p : ℕ × List (List ℕ) → Bool) (c : ℕ) (v w : List (List ℕ)) → p (c, v) ≡ true → (fields : RecordFields) → ColumnsRise fields → lookup_by_number c fields ≡ Some w → list_all p fields ≡ true → list_all p (put_by_number c v fields) ≡ true
all_put p c v w h fields rise e = at_found (λ one other. list_all p other ≡ true → list_all p one ≡ true) c v w
    (λ rest all. and_from (p (c, v)) (list_all p rest) h (and_right (p (c, w)) (list_all p rest) all))
    (λ field one other step all. and_from (p field) (list_all p one) (and_left (p field) (list_all p other) all) (step (and_right (p field) (list_all p other) all))) fields rise e
