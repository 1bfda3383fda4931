-- What an engine whose log is kept makes for a line, and how it flushes.
use Rattle.std.specs.Prelude.{◌≡◌, ◌+◌, ℕ, List, [], ◌++◌, length}
use Rattle.std.proofs.Common.{refl, sym, subst, arith, append-nil}
use Rattle.index_derive.specs.declared.log.Entry.{Entry}
use Rattle.database_state.specs.State.{DatabaseState}
use Rattle.jet_volume.specs.Image.{Image as Files}
use Rattle.log_grammar.specs.EntryStreams.{stream_bytes}
use Rattle.session_local.specs.Run.{Line, LineOutcome, RunState}
use Rattle.ordered_run.specs.declared.flushed.Flushed.{Flushed}
use Rattle.ordered_run.specs.MadeRuns.{HasMade, HasStopped}
use Rattle.ordered_run.specs.ServedLines.{LineMade}
use Rattle.kept_engine.specs.declared.kept.KeptEngine.{KeptEngine}
use Rattle.kept_engine.specs.Keeping.{kept_depth, kept_end, kept_keeper, Keeps, KeepsOn}
use Rattle.kept_engine.specs.Told.{TellsFlush}

plus_none : (n : ℕ) → n ≡ n + 0
plus_none n = omega arith

module _ {V : Type 0} (seen : V → Files) (moment : V → ℕ) (left_at : V → ℕ → Files → Type 0) where
  -- It has made these entries behind those that it kept, and nothing was given to its store.
  pub record MakesEntries (made : List Entry) (old new : KeptEngine V) : Type 0 where
    pub keeps : (opening : DatabaseState) (entries : List Entry) → Keeps seen moment left_at opening entries old → Keeps seen moment left_at opening (entries ++ made) new
    pub keeper : kept_keeper new ≡ kept_keeper old
    pub depth : kept_depth new ≡ kept_depth old
    pub end : kept_end new ≡ kept_end old + length (stream_bytes made)

  pub makes_nothing : (kept : KeptEngine V) → MakesEntries [] kept kept
  makes_nothing kept = record {
    keeps = λ opening entries keeps. subst (λ (l : List Entry). Keeps seen moment left_at opening l kept) (sym (append-nil entries)) keeps;
    keeper = refl;
    depth = refl;
    end = plus_none (kept_end kept);
  }

  -- It has flushed its log.
  pub record FlushesLog (tells_contents : Type 0) (faults identity : V → ℕ) (old new : KeptEngine V) (told : Flushed) : Type 0 where
    pub keeps : tells_contents → (opening : DatabaseState) (entries : List Entry) → Keeps seen moment left_at opening entries old → KeepsOn seen moment left_at opening entries old new told
    pub tells : TellsFlush faults identity old new told

  -- A line with this outcome was made, and its log was flushed, which came to this, or nothing was to be flushed.
  abbrev pub KeepsLine : Type 0 → (V → ℕ) → (V → ℕ) → ℕ → RunState → Line → LineOutcome → KeptEngine V → KeptEngine V → Flushed → Type 0
  KeepsLine tells_contents faults identity limit run line outcome old new told = LineMade MakesEntries (FlushesLog tells_contents faults identity) limit run line outcome old new told

  -- These lines were made in their order, and the run went on behind each; or the same but for the last, for which this was told of its flush.
  abbrev pub KeepsLines : Type 0 → (V → ℕ) → (V → ℕ) → ℕ → RunState → List (Line × LineOutcome) → KeptEngine V → KeptEngine V → Type 0
  KeepsLines tells_contents faults identity limit run pairs old new = HasMade MakesEntries (FlushesLog tells_contents faults identity) limit run pairs old new

  abbrev pub KeepsStopped : Type 0 → (V → ℕ) → (V → ℕ) → ℕ → RunState → List (Line × LineOutcome) → KeptEngine V → KeptEngine V → Flushed → Type 0
  KeepsStopped tells_contents faults identity limit run pairs old new told = HasStopped MakesEntries (FlushesLog tells_contents faults identity) limit run pairs old new told
