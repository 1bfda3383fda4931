-- The values of a row, one after another, and what they name.
use Rattle.std.proofs.Common.{◌≡◌, ℕ, zero, suc, ◌+◌, Bool, true, false, ◌||◌, ◌&&◌, cond, List, [], ◌∷◌, ◌++◌, Option, Some, None, refl, sym, ap, subst, ◌∙◌, arith}
use Rattle.std.specs.Prelude.{bytes_eq, count_by, fold, not}
use Rattle.std.specs.List.{flat_map, list_any}
use Rattle.std.proofs.lemmas.List.Sums.{sum_by-cons}
use Rattle.common_lemmas.proofs.Booleans.{by_test}
use Rattle.common_lemmas.proofs.Numbers.{equal_bytes, same_bytes}
use Rattle.column_set.specs.OtherValues.{MayStand, StandIn}
use Rattle.column_set.specs.Rows.{place_apart, value_bytes}
use Rattle.column_set.specs.declared.rows.RowValue.{RowValue}
use Rattle.column_set.specs.declared.rows.RowValue.TheVariants.{Here, Apart}
use Rattle.long_rows.specs.RowReferences.{identifier, named_by, times_among, with_identifier}
use Rattle.page_image.specs.Page.{Node}
use Rattle.image_contents.specs.HeadlessValues.{has_head, headless_in, least_of, with_headless, with_lesser}
use Rattle.image_contents.specs.ReadReferences.{Told, is_to}

-- ---- some values that are left

-- What is left of some values leads to where all lead.
abbrev pub Leads : {X : Type 0} → List ℕ → (List (ℕ × RowValue) → X) → X → Type 0
Leads rest f total = (xs : List (ℕ × RowValue)) × StandIn rest xs × (f xs ≡ total)

-- what is told of the first value where one is read
abbrev pub IsToldOf : List ℕ → Option Told → List ℕ → Type 0
IsToldOf rest told behind = (value : ℕ × RowValue) (left : List ℕ) → MayStand value → rest ≡ value_bytes value ++ left → (told ≡ place_apart value.1) × (behind ≡ left)

pub record First {X : Type 0} (told : Option Told) (behind : List ℕ) (f : List (ℕ × RowValue) → X) (total : X) : Type 0 where
  pub value : ℕ × RowValue
  pub others : List (ℕ × RowValue)
  pub stand : StandIn behind others
  pub told_is : told ≡ place_apart value.1
  pub leads : f (value ∷ others) ≡ total

pub first_is : {X : Type 0} (rest : List ℕ) (told : Option Told) (behind : List ℕ) (f : List (ℕ × RowValue) → X) (total : X) → (rest ≡ [] → ⊥) → IsToldOf rest told behind → Leads rest f total → First told behind f total
first_is rest told behind f total some is ([], stand, e) = absurd (some stand.spelled)
first_is rest told behind f total some is (x ∷ xs, stand, e) =
    let own = is x (flat_map value_bytes xs) stand.fit.0 stand.spelled in
    record { value = x; others = xs; stand = record { fit = stand.fit.1; spelled = own.1 }; told_is = own.0; leads = e }

pub none_left : {X : Type 0} (rest : List ℕ) (f : List (ℕ × RowValue) → X) (total : X) → ((value : ℕ × RowValue) (left : List ℕ) → MayStand value → rest ≡ value_bytes value ++ left → ⊥) → Leads rest f total → f [] ≡ total
none_left rest f total none ([], stand, e) = e
none_left rest f total none (x ∷ xs, stand, e) = absurd (none x (flat_map value_bytes xs) stand.fit.0 stand.spelled)

-- ---- whether they name a value

or_more : (a b : Bool) → (a ≡ true → b ≡ true) → b ≡ (a || b)
or_more true b h = h refl
or_more false b h = refl

any_with : (k id : List ℕ) (ids : List (List ℕ)) → list_any (bytes_eq k) (with_identifier id ids) ≡ (bytes_eq k id || list_any (bytes_eq k) ids)
any_with k id ids = by_test (list_any (bytes_eq id) ids) among apart
  where
    among : list_any (bytes_eq id) ids ≡ true → list_any (bytes_eq k) (with_identifier id ids) ≡ (bytes_eq k id || list_any (bytes_eq k) ids)
    among t = ap (λ b. list_any (bytes_eq k) (cond b ids (id ∷ ids))) t ∙ or_more (bytes_eq k id) (list_any (bytes_eq k) ids) (λ e. ap (λ (i : List ℕ). list_any (bytes_eq i) ids) (same_bytes k id e) ∙ t)

    apart : list_any (bytes_eq id) ids ≡ false → list_any (bytes_eq k) (with_identifier id ids) ≡ (bytes_eq k id || list_any (bytes_eq k) ids)
    apart f = ap (λ b. list_any (bytes_eq k) (cond b ids (id ∷ ids))) f

pub names_first : (id : List ℕ) (x : ℕ × RowValue) (xs : List (ℕ × RowValue)) → list_any (bytes_eq id) (named_by (x ∷ xs)) ≡ (is_to id (place_apart x.1) || list_any (bytes_eq id) (named_by xs))
names_first id (column, Here bytes) xs = refl
names_first id (column, Apart entry place size) xs = any_with id (identifier entry place) (named_by xs)

-- a value is named where the first one is it
pub named_here : (id : List ℕ) (told : Option Told) (behind : List ℕ) (total b : Bool) → First told behind (λ xs. list_any (bytes_eq id) (named_by xs)) total → b ≡ is_to id told → b ≡ true → true ≡ total
named_here id told behind total b first is t =
    sym (ap (λ c. c || list_any (bytes_eq id) (named_by first.others)) (ap (is_to id) (sym first.told_is) ∙ sym is ∙ t)) ∙ sym (names_first id first.value first.others) ∙ first.leads

pub named_later : (id : List ℕ) (told : Option Told) (behind : List ℕ) (total b : Bool) → First told behind (λ xs. list_any (bytes_eq id) (named_by xs)) total → b ≡ is_to id told → b ≡ false → Leads behind (λ xs. list_any (bytes_eq id) (named_by xs)) total
named_later id told behind total b first is f = (
  first.others,
  first.stand,
  sym (ap (λ c. c || list_any (bytes_eq id) (named_by first.others)) (ap (is_to id) (sym first.told_is) ∙ sym is ∙ f)) ∙ sym (names_first id first.value first.others) ∙ first.leads,
)

-- ---- each value is named once

once_more : (id i : List ℕ) (ids : List (List ℕ)) → times_among id ids ≡ cond (list_any (bytes_eq id) ids) 1 0 → times_among id (with_identifier i ids) ≡ cond (list_any (bytes_eq id) (with_identifier i ids)) 1 0
once_more id i ids once = by_test (list_any (bytes_eq i) ids) among apart
  where
    Goal : List (List ℕ) → Type 0
    Goal l = times_among id l ≡ cond (list_any (bytes_eq id) l) 1 0

    among : list_any (bytes_eq i) ids ≡ true → Goal (with_identifier i ids)
    among t = subst (λ b. Goal (cond b ids (i ∷ ids))) (sym t) once

    new : list_any (bytes_eq i) ids ≡ false → (b : Bool) → bytes_eq id i ≡ b → Goal (i ∷ ids)
    new f true e =
        let none : list_any (bytes_eq id) ids ≡ false = ap (λ (k : List ℕ). list_any (bytes_eq k) ids) (same_bytes id i e) ∙ f in
        let no-times : times_among id ids ≡ 0 = once ∙ ap (λ b. cond b 1 0) none in
        more e (omega (arith, no-times))
      where
        more : bytes_eq id i ≡ true → suc (times_among id ids) ≡ 1 → Goal (i ∷ ids)
        more t one = counted_first t ∙ one ∙ sym (ap (λ b. cond (b || list_any (bytes_eq id) ids) 1 0) t)
          where
            counted_first : bytes_eq id i ≡ true → times_among id (i ∷ ids) ≡ suc (times_among id ids)
            counted_first h = sum_by-cons (λ (x : List ℕ). cond (bytes_eq id x) 1 0) i ids ∙ ap (λ b. cond b 1 0 + times_among id ids) h ∙ omega arith
    new f false e = counted_first e ∙ once ∙ sym (ap (λ b. cond (b || list_any (bytes_eq id) ids) 1 0) e)
      where
        counted_first : bytes_eq id i ≡ false → times_among id (i ∷ ids) ≡ times_among id ids
        counted_first h = sum_by-cons (λ (x : List ℕ). cond (bytes_eq id x) 1 0) i ids ∙ ap (λ b. cond b 1 0 + times_among id ids) h ∙ omega arith

    apart : list_any (bytes_eq i) ids ≡ false → Goal (with_identifier i ids)
    apart f = subst (λ b. Goal (cond b ids (i ∷ ids))) (sym f) (new f (bytes_eq id i) refl)

pub once : (id : List ℕ) (xs : List (ℕ × RowValue)) → times_among id (named_by xs) ≡ cond (list_any (bytes_eq id) (named_by xs)) 1 0
once id [] = refl
once id ((column, Here bytes) ∷ xs) = once id xs
once id ((column, Apart entry place size) ∷ xs) = once_more id (identifier entry place) (named_by xs) (once id xs)

-- ---- the least of those without a head

headless_first : (nodes : List Node) (least : Option (List ℕ)) (x : ℕ × RowValue) (xs : List (ℕ × RowValue)) → least_of least (headless_in nodes (x ∷ xs)) ≡ least_of (with_headless nodes least (place_apart x.1)) (headless_in nodes xs)
headless_first nodes least (column, Here bytes) xs = refl
headless_first nodes least (column, Apart entry place size) xs = by (has_head nodes (identifier entry place) size)
  where
    by : (b : Bool) → least_of least (cond b [] (identifier entry place ∷ []) ++ headless_in nodes xs) ≡ least_of (cond b least (with_lesser least (identifier entry place))) (headless_in nodes xs)
    by true = refl
    by false = refl

pub least_later : (nodes : List Node) (least next : Option (List ℕ)) (told : Option Told) (behind : List ℕ) (total : Option (List ℕ)) → First told behind (λ xs. least_of least (headless_in nodes xs)) total → next ≡ with_headless nodes least told
    → Leads behind (λ xs. least_of next (headless_in nodes xs)) total
least_later nodes least next told behind total first is = (
  first.others,
  first.stand,
  ap (λ (l : Option (List ℕ)). least_of l (headless_in nodes first.others)) (is ∙ ap (with_headless nodes least) first.told_is) ∙ sym (headless_first nodes least first.value first.others) ∙ first.leads,
)
