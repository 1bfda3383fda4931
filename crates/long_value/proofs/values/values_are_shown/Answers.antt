use Rattle.std.proofs.Common.{ap, ◌∙◌}
use Rattle.long_value.specs.Shown.{shown_values}
use Rattle.long_value.proofs.Shown.{shown-nodes}
use Rattle.long_value.proofs.values.values_are_shown.Goals as goal

pub returns : goal.returns
returns c frames store values has = ap shown_values has.nodes ∙ shown-nodes values has.whole
