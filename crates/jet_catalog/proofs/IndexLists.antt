-- Indexes of a table: the primary one first, and what their columns pass.
use Rattle.std.proofs.Common.{◌≡◌, ℕ, ◌+◌, ◌<◌, length, drop, Bool, true, false, cond, ◌||◌, List, [], ◌∷◌, ◌++◌, Option, Some, None, refl, sym, ap, ◌∙◌}
use Rattle.std.specs.Prelude.{◌==◌, not, map, filter, find}
use Rattle.std.specs.List.{list_any}
use Rattle.std.specs.Option.{option_or}
use Rattle.std.proofs.lemmas.List.{at_drop_more}
use Rattle.std.proofs.lemmas.List.Folds.{list_any-append, find-append}
use Rattle.common_lemmas.proofs.Booleans.{or_swap}
use Rattle.index_derive.specs.declared.rules.IndexRule.{IndexRule}
use Rattle.index_derive.specs.Entries.{key_columns, condition_columns}
use Rattle.database_state.specs.Table.{primary_first}
use Rattle.database_state.specs.SchemaChanges.{rule_columns, least_free_id}

list_any-map : {X Y : Type 0} (p : Y → Bool) (f : X → Y) (xs : List X) → list_any p (map f xs) ≡ list_any (λ x. p (f x)) xs
list_any-map p f [] = refl
list_any-map p f (x ∷ xs) = ap (λ rest. p (f x) || rest) (list_any-map p f xs)

-- a column of the key or of a condition passes
pub list_any-rule_columns : (p : ℕ → Bool) (rule : IndexRule) → list_any p (rule_columns rule) ≡ (list_any (λ s. p s.column.0) rule.segments || list_any (λ c. p c.column.0) rule.conditions)
list_any-rule_columns p rule =
    let segments = list_any-map p (λ s. s.column.0) rule.segments in
    let conditions = list_any-map p (λ c. c.column.0) rule.conditions in
    list_any-append p (key_columns rule) (condition_columns rule) ∙ rw (segments, conditions)

-- whether an index passes does not depend on their order
pub list_any-primary_first : (p : IndexRule → Bool) (rules : List IndexRule) → list_any p (primary_first rules) ≡ list_any p rules
list_any-primary_first p [] = refl
list_any-primary_first p (rule ∷ rules) = at rule.flags.primary (list_any-primary_first p rules)
  where
    at : (b : Bool) → list_any p (filter (λ r. r.flags.primary) rules ++ filter (λ r. not r.flags.primary) rules) ≡ list_any p rules
        → list_any p (cond b (rule ∷ filter (λ r. r.flags.primary) rules) (filter (λ r. r.flags.primary) rules) ++ cond (not b) (rule ∷ filter (λ r. not r.flags.primary) rules) (filter (λ r. not r.flags.primary) rules)) ≡ (p rule || list_any p rules)
    at true same = ap (λ rest. p rule || rest) same
    at false same =
        list_any-append p (filter (λ r. r.flags.primary) rules) (rule ∷ filter (λ r. not r.flags.primary) rules)
        ∙ or_swap _ (p rule) _
        ∙ ap (λ rest. p rule || rest) (sym (list_any-append p (filter (λ r. r.flags.primary) rules) (filter (λ r. not r.flags.primary) rules)) ∙ same)

module _ {X : Type 0} (p : X → Bool) where
  find-filter : (xs : List X) → find p (filter p xs) ≡ find p xs
  find-filter [] = refl
  find-filter (x ∷ xs) = at (p x) refl (find-filter xs)
    where
      at : (b : Bool) → p x ≡ b → find p (filter p xs) ≡ find p xs → find p (cond b (x ∷ filter p xs) (filter p xs)) ≡ cond b (Some x) (find p xs)
      at true e same = rw e
      at false e same = same

  find-filter_not : (xs : List X) → find p (filter (λ x. not (p x)) xs) ≡ None
  find-filter_not [] = refl
  find-filter_not (x ∷ xs) = at (p x) refl (find-filter_not xs)
    where
      at : (b : Bool) → p x ≡ b → find p (filter (λ x. not (p x)) xs) ≡ None → find p (cond (not b) (x ∷ filter (λ x. not (p x)) xs) (filter (λ x. not (p x)) xs)) ≡ None
      at true e none = none
      at false e none = rw e none

  or_none : (found : Option X) → option_or found None ≡ found
  or_none None = refl
  or_none (Some x) = refl

  pub find-partition : (xs : List X) → find p (filter p xs ++ filter (λ x. not (p x)) xs) ≡ find p xs
  find-partition xs =
      find-append p (filter p xs) (filter (λ x. not (p x)) xs)
      ∙ rw (find-filter xs, find-filter_not xs) (or_none (find p xs))

-- the first primary index is the first of those that are put first
pub find-primary_first : (rules : List IndexRule) → find (λ r. r.flags.primary) (primary_first rules) ≡ find (λ r. r.flags.primary) rules
find-primary_first rules = find-partition (λ r. r.flags.primary) rules

-- what a walk over the key columns, and then over the conditions, tells of all columns of an index
pub passes_in_key : (p : ℕ → Bool) (rule : IndexRule) (r : Bool) → r ≡ list_any (λ s. p s.column.0) rule.segments → r ≡ true → r ≡ list_any p (rule_columns rule)
passes_in_key p rule r in_key passed =
    let e : list_any (λ s. p s.column.0) rule.segments ≡ true = sym in_key ∙ passed in
    rw (list_any-rule_columns p rule, e) passed

pub passes_in_conditions : (p : ℕ → Bool) (rule : IndexRule) (key r : Bool) → key ≡ list_any (λ s. p s.column.0) rule.segments → key ≡ false → r ≡ list_any (λ c. p c.column.0) rule.conditions → r ≡ list_any p (rule_columns rule)
passes_in_conditions p rule key r in_key failed in_conditions =
    let e : list_any (λ s. p s.column.0) rule.segments ≡ false = sym in_key ∙ failed in
    rw (list_any-rule_columns p rule, e) in_conditions

-- one turn of the search for a number that no index has
least_free_id-step : (indexes : List IndexRule) (i id : ℕ) (d : IndexRule) → i < length indexes
    → least_free_id indexes (drop i indexes) id ≡ least_free_id indexes (drop (i + 1) indexes) (cond (list_any (λ m. m.id.0 == id) indexes) (id + 1) id)
least_free_id-step indexes i id d lt = at_drop_more (λ rest. least_free_id indexes rest id) indexes i d lt

pub least_free_id-turn : (indexes : List IndexRule) (i id next : ℕ) (d : IndexRule) (taken : Bool) → i < length indexes → taken ≡ list_any (λ m. m.id.0 == id) indexes
    → least_free_id indexes (drop i indexes) id ≡ least_free_id indexes indexes 1 → next ≡ cond taken (id + 1) id
    → least_free_id indexes (drop (i + 1) indexes) next ≡ least_free_id indexes indexes 1
least_free_id-turn indexes i id next d taken lt is_taken before is_next =
    rw (is_next, is_taken) (sym (least_free_id-step indexes i id d lt) ∙ before)
