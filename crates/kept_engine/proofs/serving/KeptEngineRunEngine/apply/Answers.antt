use Rattle.std.proofs.Common.{Some}
use Rattle.index_derive.specs.Steps.{entries_of_step}
use Rattle.kept_engine.proofs.ServedLines.{makes_none_on_err, makes_on_ok}
use Rattle.kept_engine.proofs.serving.KeptEngineRunEngine.apply.Goals as goal

pub returns-clause-made : goal.returns-clause-made
returns-clause-made g c =
    let done = c.apply.ensures in
    makes_on_ok g.V.Volume.seen g.V.Volume.moment g.V.Volume.left_at c.apply.result (entries_of_step (Some c.args.step.now)) c.args.self.now c.apply.new.self done.keeps done.stream done.keeper done.depth

pub returns-clause-none : goal.returns-clause-none
returns-clause-none g c =
    let done = c.apply.ensures in
    makes_none_on_err g.V.Volume.seen g.V.Volume.moment g.V.Volume.left_at c.apply.result c.args.self.now c.apply.new.self done.still done.kept done.keeper done.depth
