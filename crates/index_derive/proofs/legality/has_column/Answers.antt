use Rattle.std.proofs.Common.{◌==◌, ℕ, rules, tests, sym, ◌∙◌}
use Rattle.std.proofs.lemmas.Iterator.{YieldsList-from_slice}
use Rattle.std.proofs.lemmas.Iterator.Search.{any_from_yields_List}
use Rattle.index_derive.specs.declared.rules.Segment.{Segment}
use Rattle.index_derive.proofs.Lists.{list_any_map}
use Rattle.index_derive.proofs.legality.has_column.Goals as goal

pub returns : goal.returns
returns c =
    any_from_yields_List (λ (x : Segment). x.column.0 == c.args.column.0) _ _ _ c.any.ensures.ran (YieldsList-from_slice c.args.segments.now (cc)) (λ x b q k. search (rules, tests))
    ∙ sym (list_any_map (λ (id : ℕ). id == c.args.column.0) (λ (x : Segment). x.column.0) c.args.segments.now)
