use Rattle.std.proofs.Common.{rules, tests}
use Rattle.std.proofs.lemmas.Iterator.{YieldsList-from_slice}
use Rattle.std.proofs.lemmas.Iterator.Search.{any_from_yields_List}
use Rattle.std.specs.Prelude.{not}
use Rattle.database_state.specs.SchemaChanges.{has_column}
use Rattle.soft_recovery.proofs.RuleColumns.{passes_in_conditions, passes_in_key}
use Rattle.soft_recovery.proofs.next_entries.schema.lacks_column.Goals as goal

pub returns-then-any : goal.returns-then-any
returns-then-any c =
    passes_in_key (λ id. not (has_column c.args.table.now id)) c.args.rule.now _
    (any_from_yields_List (λ s. not (has_column c.args.table.now s.column.0)) _ _ _ c.any.ensures.ran (YieldsList-from_slice c.args.rule.now.segments cc) (λ x b q k. search (rules, tests)))
    c.if-any.true

pub returns-else-any : goal.returns-else-any
returns-else-any c =
    passes_in_conditions (λ id. not (has_column c.args.table.now id)) c.args.rule.now _ _
    (any_from_yields_List (λ s. not (has_column c.args.table.now s.column.0)) _ _ _ c.any.ensures.ran (YieldsList-from_slice c.args.rule.now.segments cc) (λ x b q k. search (rules, tests)))
    c.if-any.false
    (any_from_yields_List (λ k. not (has_column c.args.table.now k.column.0)) _ _ _ c.any-else-any.ensures.ran (YieldsList-from_slice c.args.rule.now.conditions cc) (λ x b q k. search (rules, tests)))
