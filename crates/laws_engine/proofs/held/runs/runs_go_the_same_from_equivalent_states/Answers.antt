use Rattle.laws_engine.proofs.HeldLemmas.LinesAlike.{ends_alike, logs_alike, runs_alike}
use Rattle.laws_engine.proofs.held.runs.runs_go_the_same_from_equivalent_states.Goals as goal

pub returns-clause-rows : goal.returns-clause-rows
returns-clause-rows c = runs_alike

pub returns-clause-log : goal.returns-clause-log
returns-clause-log c = logs_alike

pub returns-clause-after : goal.returns-clause-after
returns-clause-after c = ends_alike
