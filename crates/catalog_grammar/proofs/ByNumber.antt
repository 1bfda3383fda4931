-- The indexes of a table by rising number, and its columns, with one of them more or less.
use Rattle.std.proofs.Common.{◌≡◌, ℕ, ◌<◌, ◌≤◌, Bool, true, false, cond, ltb, ◌&&◌, ◌||◌, inl, inr, Some, List, [], ◌∷◌, ◌++◌, refl, sym, ap, subst, ◌∙◌, arith}
use Rattle.std.specs.Prelude.{◌==◌, filter, find, map, not, nat_lt}
use Rattle.std.specs.List.{list_all, list_any}
use Rattle.std.proofs.lemmas.Bool.{and_parts, and_from, cases_Bool, cases_eq, cases_lt, eq-eqb, ltb-true, lt-ltb, le-ltb, ne_eqb}
use Rattle.std.proofs.lemmas.List.Folds.{list_any-append}
use Rattle.common_lemmas.proofs.Booleans.{or_swap}
use Rattle.column_set.specs.declared.columns.Column.{Column}
use Rattle.index_derive.specs.declared.rules.IndexRule.{IndexRule}
use Rattle.database_state.specs.SchemaChanges.{columns_with}
use Rattle.catalog_grammar.specs.Catalogs.{by_number, rise_above, with_number}
use Rattle.catalog_grammar.proofs.Numbered.{Around, all_kept, around_as, around_next, found_first, none_above, nothing_found, rise_lower}

abbrev pub number_of : IndexRule → ℕ
number_of rule = rule.id.0

abbrev pub rules_rise : ℕ → List IndexRule → Bool
rules_rise low rules = rise_above low (map number_of rules)

-- ---- columns

-- a new column stands between the others
pub columns_around : (column : Column) (columns : List Column) → Around column (columns_with column columns) columns
columns_around column [] = record { left = []; right = []; whole = refl; less = refl }
columns_around column (other ∷ columns) =
    let before : Bool = list_all (λ (c : Column). nat_lt column.id.0 c.id.0) (other ∷ columns) in
    elim (cases_Bool before) [
      | inl so ↦ record { left = []; right = other ∷ columns; whole = ap (λ (b : Bool). cond b (column ∷ other ∷ columns) (other ∷ columns_with column columns)) so; less = refl }
      | inr not_so ↦ around_as (other ∷ columns_with column columns) (other ∷ columns) (ap (λ (b : Bool). cond b (column ∷ other ∷ columns) (other ∷ columns_with column columns)) not_so) refl (around_next other (columns_around column columns))
    ]

-- ---- an index put between the others

abbrev put_test : IndexRule → IndexRule → List IndexRule → Bool → List IndexRule
put_test x y ys b = cond b (x ∷ y ∷ ys) (y ∷ with_number x ys)

-- an index with a number below all others
put_first : (x : IndexRule) (low : ℕ) (rules : List IndexRule) → number_of x ≤ low → rules_rise low rules ≡ true → with_number x rules ≡ x ∷ rules
put_first x low [] le rise = refl
put_first x low (y ∷ ys) le rise =
    let a = and_parts (ltb low (number_of y)) (rules_rise (number_of y) ys) rise in
    let lt : low < number_of y = ltb-true _ _ a.0 in
    ap (put_test x y ys) (lt-ltb (number_of x) (number_of y) (omega arith))

pub put_around : (x : IndexRule) (rules : List IndexRule) → Around x (with_number x rules) rules
put_around x [] = record { left = []; right = []; whole = refl; less = refl }
put_around x (y ∷ ys) = elim (cases_Bool (ltb (number_of x) (number_of y))) [
  | inl so ↦ record { left = []; right = y ∷ ys; whole = ap (put_test x y ys) so; less = refl }
  | inr not_so ↦ around_as (y ∷ with_number x ys) (y ∷ ys) (ap (put_test x y ys) not_so) refl (around_next y (put_around x ys))
]

-- what rises with an index rises without it, above a number that the index is above too
pub put_rise : (x : IndexRule) (low : ℕ) (rules : List IndexRule) → rules_rise low (with_number x rules) ≡ true → (rules_rise low rules ≡ true) × (low < number_of x)
put_rise x low [] rise = (refl, ltb-true _ _ (and_parts (ltb low (number_of x)) true rise).0)
put_rise x low (y ∷ ys) rise = elim (cases_Bool (ltb (number_of x) (number_of y))) [
  | inl so ↦
      let r : rules_rise low (x ∷ y ∷ ys) ≡ true = ap (λ (b : Bool). rules_rise low (put_test x y ys b)) (sym so) ∙ rise in
      let a = and_parts (ltb low (number_of x)) (rules_rise (number_of x) (y ∷ ys)) r in
      let lt : low < number_of x = ltb-true _ _ a.0 in
      (rise_lower low (number_of x) (map number_of (y ∷ ys)) (omega arith) a.1, lt)
  | inr not_so ↦
      let r : rules_rise low (y ∷ with_number x ys) ≡ true = ap (λ (b : Bool). rules_rise low (put_test x y ys b)) (sym not_so) ∙ rise in
      let a = and_parts (ltb low (number_of y)) (rules_rise (number_of y) (with_number x ys)) r in
      let lt : low < number_of y = ltb-true _ _ a.0 in
      let rest = put_rise x (number_of y) ys a.1 in
      (and_from (ltb low (number_of y)) (rules_rise (number_of y) ys) a.0 rest.0, omega (arith, rest.1))
]

-- an index put in with another among them, and without it
both_put : (x m : IndexRule) (low : ℕ) (left right : List IndexRule) → rules_rise low (with_number x (left ++ m ∷ right)) ≡ true → Around m (with_number x (left ++ m ∷ right)) (with_number x (left ++ right))
both_put x m low [] right rise = elim (cases_Bool (ltb (number_of x) (number_of m))) [
  | inl so ↦
      let r : rules_rise low (x ∷ m ∷ right) ≡ true = ap (λ (b : Bool). rules_rise low (put_test x m right b)) (sym so) ∙ rise in
      let a = and_parts (ltb low (number_of x)) (rules_rise (number_of x) (m ∷ right)) r in
      let b = and_parts (ltb (number_of x) (number_of m)) (rules_rise (number_of m) right) a.1 in
      let lt : number_of x < number_of m = ltb-true _ _ so in
      record { left = x ∷ []; right = right; whole = ap (put_test x m right) so; less = put_first x (number_of m) right (omega arith) b.1 }
  | inr not_so ↦ record { left = []; right = with_number x right; whole = ap (put_test x m right) not_so; less = refl }
]
both_put x m low (y ∷ left) right rise = elim (cases_Bool (ltb (number_of x) (number_of y))) [
  | inl so ↦ record { left = x ∷ y ∷ left; right = right; whole = ap (put_test x y (left ++ m ∷ right)) so; less = ap (put_test x y (left ++ right)) so }
  | inr not_so ↦
      let r : rules_rise low (y ∷ with_number x (left ++ m ∷ right)) ≡ true = ap (λ (b : Bool). rules_rise low (put_test x y (left ++ m ∷ right) b)) (sym not_so) ∙ rise in
      let a = and_parts (ltb low (number_of y)) (rules_rise (number_of y) (with_number x (left ++ m ∷ right))) r in
      around_as (y ∷ with_number x (left ++ m ∷ right)) (y ∷ with_number x (left ++ right)) (ap (put_test x y (left ++ m ∷ right)) not_so) (ap (put_test x y (left ++ right)) not_so)
      (around_next y (both_put x m (number_of y) left right a.1))
]

-- an index among those by number, wherever it stands in the order of making
pub numbers_around : (a : List IndexRule) (m : IndexRule) (b : List IndexRule) (low : ℕ) → rules_rise low (by_number (a ++ m ∷ b)) ≡ true → Around m (by_number (a ++ m ∷ b)) (by_number (a ++ b))
numbers_around [] m b low rise = put_around m (by_number b)
numbers_around (x ∷ a) m b low rise =
    let rest = numbers_around a m b low (put_rise x low (by_number (a ++ m ∷ b)) rise).0 in
    around_as (with_number x (rest.left ++ m ∷ rest.right)) (with_number x (rest.left ++ rest.right)) (ap (with_number x) rest.whole) (ap (with_number x) rest.less)
    (both_put x m low rest.left rest.right (subst (λ (l : List IndexRule). rules_rise low (with_number x l) ≡ true) rest.whole rise))

-- ---- no index twice

any_put : (p : IndexRule → Bool) (x : IndexRule) (rules : List IndexRule) → list_any p (with_number x rules) ≡ (p x || list_any p rules)
any_put p x [] = refl
any_put p x (y ∷ ys) = elim (cases_Bool (ltb (number_of x) (number_of y))) [
  | inl so ↦ ap (λ (b : Bool). list_any p (put_test x y ys b)) so
  | inr not_so ↦ ap (λ (b : Bool). list_any p (put_test x y ys b)) not_so ∙ ap (λ (b : Bool). p y || b) (any_put p x ys) ∙ or_swap (p y) (p x) (list_any p ys)
]

pub any_by_number : (p : IndexRule → Bool) (rules : List IndexRule) → list_any p (by_number rules) ≡ list_any p rules
any_by_number p [] = refl
any_by_number p (x ∷ rules) = any_put p x (by_number rules) ∙ ap (λ (b : Bool). p x || b) (any_by_number p rules)

-- where the numbers rise with an index, no other has its number
pub none_beside : (x : IndexRule) (low : ℕ) (rules : List IndexRule) → rules_rise low (with_number x rules) ≡ true → list_any (λ r. number_of r == number_of x) rules ≡ false
none_beside x low [] rise = refl
none_beside x low (y ∷ ys) rise = elim (cases_Bool (ltb (number_of x) (number_of y))) [
  | inl so ↦
      let r : rules_rise low (x ∷ y ∷ ys) ≡ true = ap (λ (b : Bool). rules_rise low (put_test x y ys b)) (sym so) ∙ rise in
      let a = and_parts (ltb low (number_of x)) (rules_rise (number_of x) (y ∷ ys)) r in
      none_above number_of (number_of x) (number_of x) (y ∷ ys) (omega arith) a.1
  | inr not_so ↦
      let r : rules_rise low (y ∷ with_number x ys) ≡ true = ap (λ (b : Bool). rules_rise low (put_test x y ys b)) (sym not_so) ∙ rise in
      let a = and_parts (ltb low (number_of y)) (rules_rise (number_of y) (with_number x ys)) r in
      let above : number_of y < number_of x = (put_rise x (number_of y) ys a.1).1 in
      ap (λ (b : Bool). b || list_any (λ r. number_of r == number_of x) ys) (ne_eqb (number_of y) (number_of x) (λ e. absurd (omega arith))) ∙ none_beside x (number_of y) ys a.1
]

-- an index that no other has the number of goes in
put_rises : (x : IndexRule) (low : ℕ) (rules : List IndexRule) → rules_rise low rules ≡ true → list_any (λ r. number_of r == number_of x) rules ≡ false → low < number_of x → rules_rise low (with_number x rules) ≡ true
put_rises x low [] rise none above = and_from (ltb low (number_of x)) true (lt-ltb low (number_of x) above) refl
put_rises x low (y ∷ ys) rise none above =
    let test : IndexRule → Bool = λ r. number_of r == number_of x in
    let a = and_parts (ltb low (number_of y)) (rules_rise (number_of y) ys) rise in
    elim (cases_lt (number_of x) (number_of y)) [
      | inl lt ↦ ap (λ (b : Bool). rules_rise low (put_test x y ys b)) (lt-ltb (number_of x) (number_of y) lt)
          ∙ and_from (ltb low (number_of x)) (ltb (number_of x) (number_of y) && rules_rise (number_of y) ys) (lt-ltb low (number_of x) above) (and_from (ltb (number_of x) (number_of y)) (rules_rise (number_of y) ys) (lt-ltb (number_of x) (number_of y) lt) a.1)
      | inr ge ↦ elim (cases_eq (number_of y) (number_of x)) [
        | inl same ↦ absurd (clash (sym none ∙ ap (λ (b : Bool). b || list_any test ys) (eq-eqb (number_of y) (number_of x) same)))
        | inr ne ↦
            let rest : list_any test ys ≡ false = ap (λ (b : Bool). b || list_any test ys) (sym (ne_eqb (number_of y) (number_of x) ne)) ∙ none in
            ap (λ (b : Bool). rules_rise low (put_test x y ys b)) (le-ltb (number_of x) (number_of y) ge)
            ∙ and_from (ltb low (number_of y)) (rules_rise (number_of y) (with_number x ys)) a.0 (put_rises x (number_of y) ys a.1 rest (omega arith))
      ]
    ]
  where
    clash : false ≡ true → ⊥
    clash e = cc

pub numbers_push : (rules : List IndexRule) (m : IndexRule) (low : ℕ) → rules_rise low (by_number rules) ≡ true → list_any (λ r. number_of r == number_of m) rules ≡ false → low < number_of m → rules_rise low (by_number (rules ++ m ∷ [])) ≡ true
numbers_push [] m low rise none above = and_from (ltb low (number_of m)) true (lt-ltb low (number_of m) above) refl
numbers_push (x ∷ rules) m low rise none above =
    let test : IndexRule → Bool = λ r. number_of r == number_of m in
    let own : IndexRule → Bool = λ r. number_of r == number_of x in
    let p = put_rise x low (by_number rules) rise in
    elim (cases_eq (number_of x) (number_of m)) [
      | inl same ↦ absurd (clash (sym none ∙ ap (λ (b : Bool). b || list_any test rules) (eq-eqb (number_of x) (number_of m) same)))
      | inr ne ↦
          let rest : list_any test rules ≡ false = ap (λ (b : Bool). b || list_any test rules) (sym (ne_eqb (number_of x) (number_of m) ne)) ∙ none in
          let mine : list_any own rules ≡ false = sym (any_by_number own rules) ∙ none_beside x low (by_number rules) rise in
          let other : list_any own (m ∷ []) ≡ false = ap (λ (b : Bool). b || false) (ne_eqb (number_of m) (number_of x) (λ e. ne (sym e))) in
          let beside : list_any own (by_number (rules ++ m ∷ [])) ≡ false = any_by_number own (rules ++ m ∷ []) ∙ list_any-append own rules (m ∷ []) ∙ ap (λ (b : Bool). b || list_any own (m ∷ [])) mine ∙ other in
          put_rises x low (by_number (rules ++ m ∷ [])) (numbers_push rules m low p.0 rest above) beside p.1
    ]
  where
    clash : false ≡ true → ⊥
    clash e = cc

-- the index of a number, and the others in their order of making
pub record Made (id : ℕ) (rules : List IndexRule) (m : IndexRule) : Type 0 where
  pub before : List IndexRule
  pub after : List IndexRule
  pub is : number_of m ≡ id
  pub whole : rules ≡ before ++ m ∷ after
  pub gone : filter (λ r. not (number_of r == id)) rules ≡ before ++ after

pub made : (id low : ℕ) (rules : List IndexRule) (m : IndexRule) → rules_rise low (by_number rules) ≡ true → find (λ r. number_of r == id) rules ≡ Some m → Made id rules m
made id low [] m rise found = absurd (nothing_found m found)
made id low (y ∷ ys) m rise found =
    let test : IndexRule → Bool = λ r. number_of r == id in
    elim (cases_eq (number_of y) id) [
      | inl e ↦
          let so : test y ≡ true = eq-eqb (number_of y) id e in
          let same : y ≡ m = found_first (test y) y m (find test ys) so found in
          let none : list_any test ys ≡ false = sym (any_by_number test ys) ∙ subst (λ n. list_any (λ r. number_of r == n) (by_number ys) ≡ false) e (none_beside y low (by_number ys) rise) in
          record {
            before = [];
            after = ys;
            is = ap number_of (sym same) ∙ e;
            whole = ap (λ (r : IndexRule). r ∷ ys) same;
            gone = ap (λ (b : Bool). cond (not b) (y ∷ filter (λ r. not (test r)) ys) (filter (λ r. not (test r)) ys)) so ∙ all_kept test ys none;
          }
      | inr ne ↦
          let not_so : test y ≡ false = ne_eqb (number_of y) id ne in
          let r = made id low ys m (put_rise y low (by_number ys) rise).0 (ap (λ (b : Bool). cond b (Some y) (find test ys)) (sym not_so) ∙ found) in
          record {
            before = y ∷ r.before;
            after = r.after;
            is = r.is;
            whole = ap (λ (l : List IndexRule). y ∷ l) r.whole;
            gone = ap (λ (b : Bool). cond (not b) (y ∷ filter (λ r. not (test r)) ys) (filter (λ r. not (test r)) ys)) not_so ∙ ap (λ (l : List IndexRule). y ∷ l) r.gone;
          }
    ]
