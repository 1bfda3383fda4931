use Rattle.std.proofs.Common.{rules, tests}
use Rattle.std.specs.Prelude.{◌==◌}
use Rattle.std.proofs.lemmas.Iterator.{YieldsList-from_slice}
use Rattle.std.proofs.lemmas.Iterator.Search.{any_from_yields_List}
use Rattle.jet_catalog.proofs.IndexLists.{passes_in_key, passes_in_conditions}
use Rattle.jet_catalog.proofs.columns.uses_column.Goals as goal

pub returns-then-any : goal.returns-then-any
returns-then-any c =
    passes_in_key (λ id. id == c.args.column.0) c.args.rule.now _
    (any_from_yields_List (λ s. s.column.0 == c.args.column.0) _ _ _ c.any.ensures.ran (YieldsList-from_slice c.args.rule.now.segments cc) (λ x b q k. search (rules, tests)))
    c.if-any.true

pub returns-else-any : goal.returns-else-any
returns-else-any c =
    passes_in_conditions (λ id. id == c.args.column.0) c.args.rule.now _ _
    (any_from_yields_List (λ s. s.column.0 == c.args.column.0) _ _ _ c.any.ensures.ran (YieldsList-from_slice c.args.rule.now.segments cc) (λ x b q k. search (rules, tests)))
    c.if-any.false
    (any_from_yields_List (λ k. k.column.0 == c.args.column.0) _ _ _ c.any-else-any.ensures.ran (YieldsList-from_slice c.args.rule.now.conditions cc) (λ x b q k. search (rules, tests)))
