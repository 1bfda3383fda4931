-- What an engine makes for the lines of a run, one behind the other.
use Rattle.std.specs.Prelude.{◌≡◌, ℕ, List, [], ◌∷◌, ◌++◌}
use Rattle.index_derive.specs.declared.log.Entry.{Entry}
use Rattle.session_local.specs.Run.{RunState, Line, LineOutcome, run_after, run_after_all}
use Rattle.ordered_run.specs.declared.flushed.After.TheVariants.{Goes}
use Rattle.ordered_run.specs.declared.flushed.Flushed.{Flushed}
use Rattle.ordered_run.specs.ServedLines.{LineMade}

module _ {E : Type 0} (made : List Entry → E → E → Type 0) (flushed : E → E → Flushed → Type 0) where
  -- The engine has made these lines in their order, and the run went on behind each of them.
  abbrev pub HasMade : ℕ → RunState → List (Line × LineOutcome) → E → E → Type 0
  HasMade limit run [] old new = new ≡ old
  HasMade limit run (pair ∷ pairs) old new =
      (next : E) × (told : Flushed) × LineMade made flushed limit run pair.0 pair.1 old next told × (told.after ≡ Goes)
      × HasMade limit (run_after limit run pair.0 pair.1) pairs next new

  -- The engine has made these lines, and the run went on behind each but the last; for that one this was told of its flush.
  pub record HasStopped (limit : ℕ) (run : RunState) (pairs : List (Line × LineOutcome)) (old new : E) (told : Flushed) : Type 0 where
    pub before : List (Line × LineOutcome)
    pub line : Line
    pub outcome : LineOutcome
    pub pairs_are : pairs ≡ before ++ (line, outcome) ∷ []
    pub between : E
    pub went_on : HasMade limit run before old between
    pub stops : LineMade made flushed limit (run_after_all limit run before) line outcome between new told
