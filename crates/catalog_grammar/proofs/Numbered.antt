-- Lists whose numbers rise, with one of them found, more or less.
use Rattle.std.proofs.Common.{◌≡◌, ℕ, ◌<◌, ◌≤◌, Bool, true, false, cond, ltb, ◌||◌, inl, inr, Option, Some, None, List, [], ◌∷◌, ◌++◌, refl, sym, ap, ◌∙◌, arith}
use Rattle.std.specs.Prelude.{◌==◌, filter, find, map, not}
use Rattle.std.specs.List.{list_any}
use Rattle.std.proofs.lemmas.Bool.{and_parts, and_from, cases_Bool, cases_eq, eq-eqb, ltb-true, lt-ltb, ne_eqb}
use Rattle.catalog_grammar.specs.Catalogs.{rise_above}

-- ---- none with a number

pub all_kept : {X : Type 0} (p : X → Bool) (xs : List X) → list_any p xs ≡ false → filter (λ x. not (p x)) xs ≡ xs
all_kept p [] none = refl
all_kept {X} p (x ∷ xs) none = elim (cases_Bool (p x)) [
  | inl so ↦ absurd (clash (sym none ∙ ap (λ (b : Bool). b || list_any p xs) so))
  | inr not_so ↦
      let rest : list_any p xs ≡ false = sym (ap (λ (b : Bool). b || list_any p xs) not_so) ∙ none in
      ap (λ (b : Bool). cond (not b) (x ∷ filter (λ y. not (p y)) xs) (filter (λ y. not (p y)) xs)) not_so ∙ ap (λ (l : List X). x ∷ l) (all_kept p xs rest)
]
  where
    clash : false ≡ true → ⊥
    clash e = cc

none_changed : {X : Type 0} (p : X → Bool) (f : X → X) (xs : List X) → list_any p xs ≡ false → map (λ x. cond (p x) (f x) x) xs ≡ xs
none_changed p f [] none = refl
none_changed {X} p f (x ∷ xs) none = elim (cases_Bool (p x)) [
  | inl so ↦ absurd (clash (sym none ∙ ap (λ (b : Bool). b || list_any p xs) so))
  | inr not_so ↦
      let rest : list_any p xs ≡ false = sym (ap (λ (b : Bool). b || list_any p xs) not_so) ∙ none in
      ap (λ (b : Bool). cond b (f x) x ∷ map (λ y. cond (p y) (f y) y) xs) not_so ∙ ap (λ (l : List X). x ∷ l) (none_changed p f xs rest)
]
  where
    clash : false ≡ true → ⊥
    clash e = cc

-- numbers above one are others
pub none_above : {X : Type 0} (number : X → ℕ) (id low : ℕ) (xs : List X) → id ≤ low → rise_above low (map number xs) ≡ true → list_any (λ x. number x == id) xs ≡ false
none_above number id low [] le rise = refl
none_above number id low (x ∷ xs) le rise =
    let a = and_parts (ltb low (number x)) (rise_above (number x) (map number xs)) rise in
    let lt : low < number x = ltb-true _ _ a.0 in
    ap (λ (b : Bool). b || list_any (λ y. number y == id) xs) (ne_eqb (number x) id (λ e. absurd (omega arith))) ∙ none_above number id (number x) xs (omega arith) a.1

-- ---- one with a number

-- the one of a list with this number
pub record Sole {X : Type 0} (number : X → ℕ) (id : ℕ) (xs : List X) (x : X) : Type 0 where
  pub left : List X
  pub right : List X
  pub is : number x ≡ id
  pub whole : xs ≡ left ++ x ∷ right
  pub gone : filter (λ y. not (number y == id)) xs ≡ left ++ right
  pub changed : (f : X → X) → map (λ y. cond (number y == id) (f y) y) xs ≡ left ++ f x ∷ right

pub found_first : {X : Type 0} (b : Bool) (y x : X) (rest : Option X) → b ≡ true → cond b (Some y) rest ≡ Some x → y ≡ x
found_first b y x rest so found = let e : Some y ≡ Some x = ap (λ (t : Bool). cond t (Some y) rest) (sym so) ∙ found in cc

pub nothing_found : {X : Type 0} (x : X) → None ≡ Some x → ⊥
nothing_found x e = cc

pub sole : {X : Type 0} (number : X → ℕ) (id low : ℕ) (xs : List X) (x : X) → rise_above low (map number xs) ≡ true → find (λ y. number y == id) xs ≡ Some x → Sole number id xs x
sole number id low [] x rise found = absurd (nothing_found x found)
sole {X} number id low (y ∷ ys) x rise found =
    let test : X → Bool = λ z. number z == id in
    let a = and_parts (ltb low (number y)) (rise_above (number y) (map number ys)) rise in
    elim (cases_eq (number y) id) [
      | inl e ↦
          let so : test y ≡ true = eq-eqb (number y) id e in
          let same : y ≡ x = found_first (test y) y x (find test ys) so found in
          let none : list_any test ys ≡ false = none_above number id (number y) ys (omega arith) a.1 in
          record {
            left = [];
            right = ys;
            is = ap number (sym same) ∙ e;
            whole = ap (λ (z : X). z ∷ ys) same;
            gone = ap (λ (b : Bool). cond (not b) (y ∷ filter (λ z. not (test z)) ys) (filter (λ z. not (test z)) ys)) so ∙ all_kept test ys none;
            changed = λ f. ap (λ (b : Bool). cond b (f y) y ∷ map (λ z. cond (test z) (f z) z) ys) so ∙ ap (λ (l : List X). f y ∷ l) (none_changed test f ys none) ∙ ap (λ (z : X). f z ∷ ys) same;
          }
      | inr ne ↦
          let not_so : test y ≡ false = ne_eqb (number y) id ne in
          let r = sole number id (number y) ys x a.1 (ap (λ (b : Bool). cond b (Some y) (find test ys)) (sym not_so) ∙ found) in
          record {
            left = y ∷ r.left;
            right = r.right;
            is = r.is;
            whole = ap (λ (l : List X). y ∷ l) r.whole;
            gone = ap (λ (b : Bool). cond (not b) (y ∷ filter (λ z. not (test z)) ys) (filter (λ z. not (test z)) ys)) not_so ∙ ap (λ (l : List X). y ∷ l) r.gone;
            changed = λ f. ap (λ (b : Bool). cond b (f y) y ∷ map (λ z. cond (test z) (f z) z) ys) not_so ∙ ap (λ (l : List X). y ∷ l) (r.changed f);
          }
    ]

-- the first that passes a test, where one does
pub any_found : {X : Type 0} (p : X → Bool) (xs : List X) → list_any p xs ≡ true → (x : X) × (find p xs ≡ Some x)
any_found p [] some = absurd (clash some)
  where
    clash : false ≡ true → ⊥
    clash e = cc
any_found {X} p (y ∷ ys) some = elim (cases_Bool (p y)) [
  | inl so ↦ (y, ap (λ (b : Bool). cond b (Some y) (find p ys)) so)
  | inr not_so ↦
      let r = any_found p ys (ap (λ (b : Bool). b || list_any p ys) (sym not_so) ∙ some) in
      (r.0, ap (λ (b : Bool). cond b (Some y) (find p ys)) not_so ∙ r.1)
]

-- ---- one more or less

-- one element between the others
pub record Around {X : Type 0} (x : X) (with_it without : List X) : Type 0 where
  pub left : List X
  pub right : List X
  pub whole : with_it ≡ left ++ x ∷ right
  pub less : without ≡ left ++ right

pub around_as : {X : Type 0} {x : X} {with_it without : List X} (with' without' : List X) → with_it ≡ with' → without ≡ without' → Around x with' without' → Around x with_it without
around_as with' without' e d a = record { left = a.left; right = a.right; whole = e ∙ a.whole; less = d ∙ a.less }

pub around_next : {X : Type 0} {x : X} {with_it without : List X} (y : X) → Around x with_it without → Around x (y ∷ with_it) (y ∷ without)
around_next {X} y a = record { left = y ∷ a.left; right = a.right; whole = ap (λ (l : List X). y ∷ l) a.whole; less = ap (λ (l : List X). y ∷ l) a.less }

-- numbers above a lower one
pub rise_lower : (low high : ℕ) (ns : List ℕ) → low ≤ high → rise_above high ns ≡ true → rise_above low ns ≡ true
rise_lower low high [] le rise = refl
rise_lower low high (n ∷ ns) le rise =
    let a = and_parts (ltb high n) (rise_above n ns) rise in
    let lt : high < n = ltb-true _ _ a.0 in
    and_from (ltb low n) (rise_above n ns) (lt-ltb low n (omega arith)) a.1

-- one number less
pub rise_less : {X : Type 0} (number : X → ℕ) (low : ℕ) (left : List X) (x : X) (right : List X) → rise_above low (map number (left ++ x ∷ right)) ≡ true → rise_above low (map number (left ++ right)) ≡ true
rise_less number low [] x right rise =
    let a = and_parts (ltb low (number x)) (rise_above (number x) (map number right)) rise in
    let lt : low < number x = ltb-true _ _ a.0 in
    rise_lower low (number x) (map number right) (omega arith) a.1
rise_less number low (y ∷ left) x right rise =
    let a = and_parts (ltb low (number y)) (rise_above (number y) (map number (left ++ x ∷ right))) rise in
    and_from (ltb low (number y)) (rise_above (number y) (map number (left ++ right))) a.0 (rise_less number (number y) left x right a.1)
