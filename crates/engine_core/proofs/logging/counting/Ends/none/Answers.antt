use Rattle.std.proofs.Common.{refl}
use Rattle.engine_core.proofs.Labels.{none_counted}
use Rattle.engine_core.proofs.logging.counting.Ends.none.Goals as goal

pub returns : goal.returns
returns c = record { bytes = refl; cursors = λ label. none_counted 100 label }
