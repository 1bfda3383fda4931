-- Where a run stands among its lines, and what some of them add.
use Rattle.std.specs.Prelude.{◌≡◌, ◌≢◌, ◌<◌, ℕ, true, List, ◌++◌, Option, Result, Ok, Err}
use Rattle.std.specs.List.{list_all}
use Rattle.index_derive.specs.declared.log.Entry.{Entry}
use Rattle.database_state.specs.State.{DatabaseState}
use Rattle.session_local.specs.Run.{Line, LineOutcome, run_from}
use Rattle.laws_engine.specs.EngineState.{EngineState}
use Rattle.ordered_run.specs.declared.flushed.After.{After}
use Rattle.ordered_run.specs.declared.flushed.After.TheVariants.{Goes, Fault, Memory}
use Rattle.ordered_run.specs.declared.flushed.Flush.TheVariants.{Kept}
use Rattle.ordered_run.specs.declared.flushed.Flushed.{Flushed}
use Rattle.ordered_run.specs.declared.run.LineFault.{LineFault}
use Rattle.ordered_run.specs.declared.run.LineFault.TheVariants as fault
use Rattle.ordered_run.specs.declared.session_engine.SessionEngine.{SessionEngine}
use Rattle.ordered_run.specs.Outcomes.{is_plain, AreOutcomesOf, MayComeTo, HasServed, TookWhole, TookFront}
use Rattle.ordered_run.specs.Serving.{run_engine}
use Rattle.ordered_run.specs.MadeRuns.{HasMade, HasStopped}

-- ---- why a run stops

-- Why it stops behind a line, by how the log's flush lets it go on and by whether the line was printed, if it does. A fault of the
-- volume came before one of the sink.
abbrev pub line_result : {X : Type 0} → After → Result (Unit {0}) X → Result (Unit {0}) LineFault
line_result Goes (Ok _) = Ok tt
line_result Goes (Err _) = Err fault.Sink
line_result Fault (Ok _) = Err fault.Volume
line_result Fault (Err _) = Err fault.VolumeAndSink
line_result Memory (Ok _) = Err fault.Image
line_result Memory (Err _) = Err fault.Sink

-- what is known of the sink's count of faults
abbrev pub CountsSink : LineFault → ℕ → ℕ → Type 0
CountsSink fault.Memory before now = now ≡ before
CountsSink fault.Sink before now = before < now
CountsSink fault.Volume before now = now ≡ before
CountsSink fault.VolumeAndSink before now = before < now
CountsSink fault.Image before now = now ≡ before

-- ---- where it stands

module _ {E : Type 0} (held : E → EngineState) (made : List Entry → E → E → Type 0) (flushed : E → E → Flushed → Type 0) where
  -- The lines so far had outcomes that they may have. Since the engine was as at the start it has made them, and the run went on
  -- behind each; the sink took their transcript; and the engine has served them and can serve the rest.
  pub record SoFar (opening : DatabaseState) (limit : ℕ) (start : E) (engine : SessionEngine E) (gone left : List Line) (taken_before taken_now : Option (List ℕ)) : Type 0 where
    pub pairs : List (Line × LineOutcome)
    pub outcomes : AreOutcomesOf opening limit gone pairs
    pub ready : HasServed held opening limit engine pairs left
    pub lines_made : HasMade made flushed limit (run_from opening) pairs start (run_engine engine)
    pub taken : TookWhole opening limit pairs taken_before taken_now

  -- The same of a run that stopped behind the last of these lines, for which this was told of its flush. Each line before it was served, or
  -- found no memory; the last was, too, where its bytes are kept.
  pub record Stopped (told : Flushed) (opening : DatabaseState) (limit : ℕ) (start : E) (engine : SessionEngine E) (gone left : List Line) (pairs : List (Line × LineOutcome)) : Type 0 where
    pub outcomes : MayComeTo opening limit gone pairs
    pub plain : told.flush ≡ Kept → list_all (λ pair. is_plain pair.1) pairs ≡ true
    pub ready : HasServed held opening limit engine pairs left
    pub lines_made : HasStopped made flushed limit (run_from opening) pairs start (run_engine engine) told
    pub plain_before : list_all (λ pair. is_plain pair.1) lines_made.before ≡ true

  -- Where it stands by the fault that it stopped with. No line is served that is not printed, but for one at which the sink failed,
  -- or whose flush found no room.
  abbrev pub StandsBy : LineFault → DatabaseState → ℕ → E → SessionEngine E → List Line → List Line → Option (List ℕ) → Option (List ℕ) → Type 0
  StandsBy fault.Memory opening limit start engine gone left before now = SoFar opening limit start engine gone left before now
  StandsBy fault.Sink opening limit start engine gone left before now =
      (told : Flushed) × (told.flush ≡ Kept) × (told.after ≢ Fault)
      × ((pairs : List (Line × LineOutcome)) × Stopped told opening limit start engine gone left pairs × TookFront opening limit pairs before now)
  StandsBy fault.Volume opening limit start engine gone left before now =
      (told : Flushed) × (told.after ≡ Fault)
      × ((pairs : List (Line × LineOutcome)) × Stopped told opening limit start engine gone left pairs × TookWhole opening limit pairs before now)
  StandsBy fault.VolumeAndSink opening limit start engine gone left before now =
      (told : Flushed) × (told.after ≡ Fault)
      × ((pairs : List (Line × LineOutcome)) × Stopped told opening limit start engine gone left pairs × TookFront opening limit pairs before now)
  StandsBy fault.Image opening limit start engine gone left before now =
      (told : Flushed) × (told.after ≡ Memory)
      × ((pairs : List (Line × LineOutcome)) × Stopped told opening limit start engine gone left pairs × TookWhole opening limit pairs before now)

  -- ---- what some lines add

  -- whatever run the engine was in before these lines and others behind them: it has served them, and the sink took what they print
  abbrev pub RunsOn : SessionEngine E → SessionEngine E → List Line → Option (List ℕ) → Option (List ℕ) → Type 0
  RunsOn before after lines taken_before taken_after =
      (opening : DatabaseState) (limit : ℕ) (start : E) (gone rest : List Line) (first : Option (List ℕ)) → SoFar opening limit start before gone (lines ++ rest) first taken_before
      → SoFar opening limit start after (gone ++ lines) rest first taken_after

  -- the same, but it stopped behind some first of them
  abbrev pub StopsIn : LineFault → SessionEngine E → SessionEngine E → List Line → Option (List ℕ) → Option (List ℕ) → Type 0
  StopsIn by before after lines taken_before taken_after =
      (opening : DatabaseState) (limit : ℕ) (start : E) (gone rest : List Line) (first : Option (List ℕ)) → SoFar opening limit start before gone (lines ++ rest) first taken_before
      → (ran left : List Line) × (ran ++ left ≡ lines) × StandsBy by opening limit start after (gone ++ ran) (left ++ rest) first taken_after
