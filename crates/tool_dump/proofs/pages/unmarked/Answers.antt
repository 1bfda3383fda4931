use Rattle.std.proofs.Common.{ℕ, false, rules, ap, ◌∙◌}
use Rattle.std.specs.Prelude.{replicate}
use Rattle.tool_dump.proofs.Telling.{unmarked_each}
use Rattle.tool_dump.proofs.pages.unmarked.Goals as goal

pub returns : goal.returns
returns c = c.in_ok-vec.ensures.items_if_clones_equal (λ y h. search rules) ∙ ap (λ (n : ℕ). replicate n false) c.len.ensures.value ∙ unmarked_each c.args.space.now
