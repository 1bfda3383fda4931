use Rattle.std.proofs.Common.{ℕ, false, replicate, rules, ap, ◌∙◌}
use Rattle.engine_image.proofs.Forests.{unmarked_each}
use Rattle.engine_image.proofs.forest.unmarked.Goals as goal

pub returns : goal.returns
returns c = c.in_ok-vec.ensures.items_if_clones_equal (λ y h. search rules) ∙ ap (λ (n : ℕ). replicate n false) c.len.ensures.value ∙ unmarked_each c.args.space.now
