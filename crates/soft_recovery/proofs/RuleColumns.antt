-- What a walk over the key columns of an index, and then over its conditions, tells of all of its columns.
use Rattle.std.proofs.Common.{◌≡◌, ℕ, Bool, true, false, ◌||◌, List, [], ◌∷◌, map, refl, sym, ap, ◌∙◌}
use Rattle.std.specs.List.{list_any}
use Rattle.std.proofs.lemmas.List.Folds.{list_any-append}
use Rattle.index_derive.specs.declared.rules.IndexRule.{IndexRule}
use Rattle.index_derive.specs.Entries.{condition_columns, key_columns}
use Rattle.database_state.specs.SchemaChanges.{rule_columns}

list_any-map : {X Y : Type 0} (p : Y → Bool) (f : X → Y) (xs : List X) → list_any p (map f xs) ≡ list_any (λ x. p (f x)) xs
list_any-map p f [] = refl
list_any-map p f (x ∷ xs) = ap (λ rest. p (f x) || rest) (list_any-map p f xs)

-- a column of the key or of a condition passes
list_any-rule_columns : (p : ℕ → Bool) (rule : IndexRule) → list_any p (rule_columns rule) ≡ (list_any (λ s. p s.column.0) rule.segments || list_any (λ c. p c.column.0) rule.conditions)
list_any-rule_columns p rule =
    let segments = list_any-map p (λ s. s.column.0) rule.segments in
    let conditions = list_any-map p (λ c. c.column.0) rule.conditions in
    list_any-append p (key_columns rule) (condition_columns rule) ∙ rw (segments, conditions)

pub passes_in_key : (p : ℕ → Bool) (rule : IndexRule) (r : Bool) → r ≡ list_any (λ s. p s.column.0) rule.segments → r ≡ true → r ≡ list_any p (rule_columns rule)
passes_in_key p rule r in_key passed =
    let e : list_any (λ s. p s.column.0) rule.segments ≡ true = sym in_key ∙ passed in
    rw (list_any-rule_columns p rule, e) passed

pub passes_in_conditions : (p : ℕ → Bool) (rule : IndexRule) (key r : Bool) → key ≡ list_any (λ s. p s.column.0) rule.segments → key ≡ false → r ≡ list_any (λ c. p c.column.0) rule.conditions → r ≡ list_any p (rule_columns rule)
passes_in_conditions p rule key r in_key failed in_conditions =
    let e : list_any (λ s. p s.column.0) rule.segments ≡ false = sym in_key ∙ failed in
    rw (list_any-rule_columns p rule, e) in_conditions
