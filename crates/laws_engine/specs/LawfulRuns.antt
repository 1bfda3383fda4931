-- Runs of lines in which every answer's step is lawful.
use Rattle.std.specs.Prelude.{ℕ, List, [], ◌∷◌}
use Rattle.session_local.specs.Agreement.{Agrees}
use Rattle.session_local.specs.Run.{Line, LineOutcome, RunState, outcome_of, run_after, session_run}
use Rattle.laws_engine.specs.LawfulSteps.{HasLawfulStep}

-- Each line's session agrees with the state that it is asked in, and each entry of its answer is lawful in its turn.
abbrev pub GoesLawfully : ℕ → RunState → List (Line × LineOutcome) → Type 0
GoesLawfully limit run [] = Unit {0}
GoesLawfully limit run (pair ∷ pairs) =
    Agrees run.state pair.0.0 (session_run run pair.0.0).local × HasLawfulStep run.state (outcome_of limit run pair.0) × GoesLawfully limit (run_after limit run pair.0 pair.1) pairs
