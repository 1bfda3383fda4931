-- Indexes by their numbers: the next number is free, and what is found when an index comes or goes.
use Rattle.std.proofs.Common.{◌≡◌, ℕ, zero, suc, ◌+◌, ◌<◌, ◌≤◌, Bool, true, false, not, ◌||◌, cond, List, [], ◌∷◌, ◌++◌, length, Some, None, refl, sym, ap, ◌∙◌, arith}
use Rattle.std.specs.Prelude.{◌==◌, filter, find, if◌then◌else◌}
use Rattle.std.specs.List.{AllByRecursion, list_any}
use Rattle.std.proofs.lemmas.Bool.Decides.{nat_tests}
use Rattle.std.proofs.lemmas.List.Elements.{filter-append}
use Rattle.common_lemmas.proofs.Lists.{all_append, all_each, all_filter, filter_none, filter_swap}
use Rattle.common_lemmas.proofs.Booleans.{impossible}
use Rattle.index_derive.specs.declared.rules.IndexRule.{IndexRule}
use Rattle.database_state.specs.Table.{primary_first}
use Rattle.database_state.specs.SchemaChanges.{least_free_id, next_index_id}
use Rattle.laws_versions.proofs.ChangeLemmas.Tests.{contradicted, or_first, or_second}

-- ---- lists

pub none_of : {X : Type 0} (p : X → Bool) (xs : List X) → list_any p xs ≡ false → AllByRecursion (λ x. p x ≡ false) xs
none_of p [] h = tt
none_of p (x ∷ xs) h = (or_first (p x) _ h, none_of p xs (or_second (p x) _ h))

pub found_in_filter : {X : Type 0} (p q : X → Bool) (xs : List X) → AllByRecursion (λ x. p x ≡ true → q x ≡ true) xs → find p (filter q xs) ≡ find p xs
found_in_filter p q [] h = refl
found_in_filter p q (x ∷ xs) h =
    elim (q x) as (λ b. (p x ≡ true → b ≡ true) → find p (cond b (x ∷ filter q xs) (filter q xs)) ≡ cond (p x) (Some x) (find p xs)) [
      | true ↦ λ f. ap (λ rest. cond (p x) (Some x) rest) (found_in_filter p q xs h.1)
      | false ↦ λ f. found_in_filter p q xs h.1 ∙ sym (ap (λ b. cond b (Some x) (find p xs)) (contradicted (p x) (λ e. sym (f e))))
    ] h.0

pub all_primary_first : (P : IndexRule → Type 0) (rules : List IndexRule) → AllByRecursion P rules → AllByRecursion P (primary_first rules)
all_primary_first P rules h =
    all_append P (filter (λ r. r.flags.primary) rules) (filter (λ r. not r.flags.primary) rules) (all_filter P (λ r. r.flags.primary) rules h) (all_filter P (λ r. not r.flags.primary) rules h)

primary_first-filter : (q : IndexRule → Bool) (rules : List IndexRule) → primary_first (filter q rules) ≡ filter q (primary_first rules)
primary_first-filter q rules =
    ap (λ xs. xs ++ filter (λ r. not r.flags.primary) (filter q rules)) (filter_swap (λ r. r.flags.primary) q rules)
    ∙ ap (λ ys. filter q (filter (λ r. r.flags.primary) rules) ++ ys) (filter_swap (λ r. not r.flags.primary) q rules)
    ∙ sym (filter-append q (filter (λ r. r.flags.primary) rules) (filter (λ r. not r.flags.primary) rules))

-- ---- what is found

-- where those that pass stay
pub found_without : (p q : IndexRule → Bool) (rules : List IndexRule) → AllByRecursion (λ r. p r ≡ true → q r ≡ true) rules → find p (primary_first (filter q rules)) ≡ find p (primary_first rules)
found_without p q rules h =
    ap (find p) (primary_first-filter q rules) ∙ found_in_filter p q (primary_first rules) (all_primary_first (λ r. p r ≡ true → q r ≡ true) rules h)

-- where one comes that does not pass
pub found_with : (p : IndexRule → Bool) (rules : List IndexRule) (made : IndexRule) → p made ≡ false → find p (primary_first (rules ++ made ∷ [])) ≡ find p (primary_first rules)
found_with p rules made miss =
    sym (found_without p p (rules ++ made ∷ []) (all_each (λ r. p r ≡ true → p r ≡ true) (λ r e. e) (rules ++ made ∷ [])))
    ∙ ap (λ xs. find p (primary_first xs)) (filter-append p rules (made ∷ []) ∙ ap (λ b. filter p rules ++ cond b (made ∷ []) []) miss ∙ last (filter p rules))
    ∙ found_without p p rules (all_each (λ r. p r ≡ true → p r ≡ true) (λ r e. e) rules)
  where
    last : (xs : List IndexRule) → xs ++ [] ≡ xs
    last [] = refl
    last (x ∷ xs) = ap (λ ys. x ∷ ys) (last xs)

-- where one comes that passes alone
pub found_alone : (p : IndexRule → Bool) (rules : List IndexRule) (made : IndexRule) → AllByRecursion (λ r. p r ≡ false) rules → p made ≡ true → find p (primary_first (rules ++ made ∷ [])) ≡ Some made
found_alone p rules made none hit =
    sym (found_without p p (rules ++ made ∷ []) (all_each (λ r. p r ≡ true → p r ≡ true) (λ r e. e) (rules ++ made ∷ [])))
    ∙ ap (λ xs. find p (primary_first xs)) (filter-append p rules (made ∷ []) ∙ ap (λ b. filter p rules ++ cond b (made ∷ []) []) hit ∙ ap (λ xs. xs ++ made ∷ []) (filter_none p rules none))
    ∙ elim (made.flags.primary) as (λ b. find p (cond b (made ∷ []) [] ++ cond (not b) (made ∷ []) []) ≡ Some made) [ true ↦ here | false ↦ here ]
  where
    here : cond (p made) (Some made) None ≡ Some made
    here = ap (λ b. cond b (Some made) None) hit

-- ---- the next number

abbrev is_given : List IndexRule → ℕ → Bool
is_given rules id = list_any (λ m. m.id.0 == id) rules

shorter : (p : IndexRule → Bool) (xs : List IndexRule) → list_any p xs ≡ true → length (filter (λ x. not (p x)) xs) + 1 ≤ length xs
shorter p [] h = impossible h
shorter p (x ∷ xs) h = elim (p x) as (λ b. (b || list_any p xs) ≡ true → length (cond (not b) (x ∷ filter (λ x. not (p x)) xs) (filter (λ x. not (p x)) xs)) + 1 ≤ length (x ∷ xs)) [
  | true ↦ λ g. one (length (filter (λ x. not (p x)) xs)) (length xs) (no_longer xs)
  | false ↦ λ g. both (length (filter (λ x. not (p x)) xs)) (length xs) (shorter p xs g)
] h
  where
    no_longer : (ys : List IndexRule) → length (filter (λ x. not (p x)) ys) ≤ length ys
    no_longer [] = omega arith
    no_longer (y ∷ ys) = elim (not (p y)) as (λ b. length (cond b (y ∷ filter (λ x. not (p x)) ys) (filter (λ x. not (p x)) ys)) ≤ length (y ∷ ys)) [
      | true ↦ up (length (filter (λ x. not (p x)) ys)) (length ys) (no_longer ys)
      | false ↦ more (length (filter (λ x. not (p x)) ys)) (length ys) (no_longer ys)
    ]
      where
        up : (a b : ℕ) → a ≤ b → suc a ≤ suc b
        up a b le = omega arith

        more : (a b : ℕ) → a ≤ b → a ≤ suc b
        more a b le = omega arith

    one : (a b : ℕ) → a ≤ b → a + 1 ≤ suc b
    one a b le = omega arith

    both : (a b : ℕ) → a + 1 ≤ b → suc a + 1 ≤ suc b
    both a b le = omega arith

given_without : (rules : List IndexRule) (k m : ℕ) → (k == m) ≡ false → is_given rules k ≡ true → is_given (filter (λ r. not (r.id.0 == m)) rules) k ≡ true
given_without [] k m apart h = h
given_without (r ∷ rules) k m apart h =
    elim (r.id.0 == m) as (λ b. (r.id.0 == m) ≡ b → is_given (cond (not b) (r ∷ filter (λ r. not (r.id.0 == m)) rules) (filter (λ r. not (r.id.0 == m)) rules)) k ≡ true) [
      | true ↦ λ e. given_without rules k m apart (second (r.id.0 == k) _ (other r.id.0 k m e apart) h)
      | false ↦ λ e. elim (r.id.0 == k) as (λ b. (b || is_given rules k) ≡ true → (b || is_given (filter (λ r. not (r.id.0 == m)) rules) k) ≡ true) [ true ↦ λ g. refl | false ↦ λ g. given_without rules k m apart g ] h
    ] refl
  where
    other : (a k m : ℕ) → (a == m) ≡ true → (k == m) ≡ false → (a == k) ≡ false
    other a k m e f = grind (arith, nat_tests)

    second : (a b : Bool) → a ≡ false → (a || b) ≡ true → b ≡ true
    second true b e g = impossible (sym e)
    second false b e g = g

-- as many numbers as are given have as many indexes
enough : (m : ℕ) (rules : List IndexRule) → ((k : ℕ) → 1 ≤ k → k ≤ m → is_given rules k ≡ true) → m ≤ length rules
enough zero rules given = omega arith
enough (suc m) rules given =
    less m (length (filter (λ r. not (r.id.0 == suc m)) rules)) (length rules)
    (enough m (filter (λ r. not (r.id.0 == suc m)) rules) (λ k one le. given_without rules k (suc m) (apart k m le) (given k one (up k m le))))
    (shorter (λ r. r.id.0 == suc m) rules (given (suc m) (first m) (self m)))
  where
    apart : (k m : ℕ) → k ≤ m → (k == suc m) ≡ false
    apart k m le = let ne : k < suc m = omega (arith, le) in unequal k (suc m) ne
      where
        unequal : (a b : ℕ) → a < b → (a == b) ≡ false
        unequal a b lt = grind (arith, nat_tests)

    up : (k m : ℕ) → k ≤ m → k ≤ suc m
    up k m le = omega arith

    first : (m : ℕ) → 1 ≤ suc m
    first m = omega arith

    self : (m : ℕ) → suc m ≤ suc m
    self m = omega arith

    less : (m a b : ℕ) → m ≤ a → a + 1 ≤ b → suc m ≤ b
    less m a b le lt = omega arith

-- were the number that was tried last given, all up to it were
all_given : (rules rest : List IndexRule) (id : ℕ) → 1 ≤ id → ((k : ℕ) → 1 ≤ k → k < id → is_given rules k ≡ true) → is_given rules (least_free_id rules rest id) ≡ true → (k : ℕ) → 1 ≤ k → k ≤ id + length rest → is_given rules k ≡ true
all_given rules [] id one below taken k first le = last k id below taken first (plain k id le)
  where
    plain : (k id : ℕ) → k ≤ id + 0 → k ≤ id
    plain k id le = omega arith

    last : (k id : ℕ) → ((k : ℕ) → 1 ≤ k → k < id → is_given rules k ≡ true) → is_given rules id ≡ true → 1 ≤ k → k ≤ id → is_given rules k ≡ true
    last k id below taken first le = elim (k == id) as (λ b. (k == id) ≡ b → is_given rules k ≡ true) [
      | true ↦ λ e. ap (is_given rules) (same k id e) ∙ taken
      | false ↦ λ e. below k first (strict k id le e)
    ] refl
      where
        same : (a b : ℕ) → (a == b) ≡ true → a ≡ b
        same a b e = grind (arith, nat_tests)

        strict : (a b : ℕ) → a ≤ b → (a == b) ≡ false → a < b
        strict a b le e = grind (arith, nat_tests)
all_given rules (r ∷ rest) id one below taken k first le =
    elim (is_given rules id) as (λ b. is_given rules id ≡ b → is_given rules (least_free_id rules rest (if b then id + 1 else id)) ≡ true → is_given rules k ≡ true) [
      | true ↦ λ e t. all_given rules rest (id + 1) (more id one) (λ j from lt. step j id below e from lt) t k first (moved k id (length rest) le)
      | false ↦ λ e t. impossible (sym e ∙ all_given rules rest id one below t id one (reach id (length rest)))
    ] refl taken
  where
    more : (id : ℕ) → 1 ≤ id → 1 ≤ id + 1
    more id one = omega arith

    moved : (k id n : ℕ) → k ≤ id + suc n → k ≤ id + 1 + n
    moved k id n le = omega arith

    reach : (id n : ℕ) → id ≤ id + n
    reach id n = omega arith

    step : (j id : ℕ) → ((k : ℕ) → 1 ≤ k → k < id → is_given rules k ≡ true) → is_given rules id ≡ true → 1 ≤ j → j < id + 1 → is_given rules j ≡ true
    step j id below e from lt = elim (j == id) as (λ b. (j == id) ≡ b → is_given rules j ≡ true) [
      | true ↦ λ f. ap (is_given rules) (same j id f) ∙ e
      | false ↦ λ f. below j from (strict j id lt f)
    ] refl
      where
        same : (a b : ℕ) → (a == b) ≡ true → a ≡ b
        same a b e = grind (arith, nat_tests)

        strict : (a b : ℕ) → a < b + 1 → (a == b) ≡ false → a < b
        strict a b lt e = grind (arith, nat_tests)

pub next_is_free : (rules : List IndexRule) → AllByRecursion (λ r. (r.id.0 == next_index_id rules) ≡ false) rules
next_is_free rules = none_of (λ r. r.id.0 == next_index_id rules) rules (contradicted (is_given rules (next_index_id rules)) (λ taken.
    absurd (too_many (length rules) (enough (1 + length rules) rules (all_given rules rules 1 (omega arith) (λ k one lt. absurd (none k one lt)) taken)))))
  where
    none : (k : ℕ) → 1 ≤ k → k < 1 → ⊥
    none k one lt = omega arith

    too_many : (n : ℕ) → 1 + n ≤ n → ⊥
    too_many n le = omega arith
