-- What comes of lines that are served one behind the other over an engine whose log is kept.
use Rattle.std.proofs.Common.{◌≡◌, ◌<◌, ◌≤◌, ◌+◌, ℕ, List, [], ◌∷◌, ◌++◌, length, inl, inr, refl, sym, ◌∙◌, ap, subst, arith, append_assoc}
use Rattle.std.proofs.lemmas.List.{append-nil}
use Rattle.database_state.specs.State.{DatabaseState}
use Rattle.jet_volume.specs.Image.{Image as Files}
use Rattle.log_grammar.specs.EntryStreams.{stream_bytes}
use Rattle.log_keeper.specs.declared.keeper.LogKeeper.{LogKeeper}
use Rattle.log_keeper.specs.Keeping.{keeper_given}
use Rattle.session_local.specs.Run.{Line, LineOutcome, RunState, entries_of_line, run_after, run_after_all, run_from}
use Rattle.ordered_run.specs.declared.flushed.After.TheVariants.{Goes, Fault}
use Rattle.ordered_run.specs.declared.flushed.Flushed.{Flushed}
use Rattle.kept_engine.specs.declared.kept.KeptEngine.{KeptEngine}
use Rattle.kept_engine.specs.Keeping.{kept_depth, kept_end, kept_given, kept_volume}
use Rattle.kept_engine.specs.Acknowledged.{log_of}
use Rattle.kept_engine.specs.Checkpoints.{LogProgress, progress_after, progress_from, progress_of}
use Rattle.kept_engine.specs.KeptRuns.{GoesOn, KeepsSoFar, LeavesRun}
use Rattle.kept_engine.specs.Serving.{KeepsLine, KeepsLines, KeepsStopped}
use Rattle.kept_engine.specs.Told.{CountsFault}
use Rattle.kept_engine.proofs.Lines.{GivesAll, LeavesKept}
use Rattle.kept_engine.proofs.Pairs.{after_all-append}
use Rattle.kept_engine.proofs.ServedLines.{given_whole, goes_no_fault, line_counts, line_kept, line_progress, line_rises}
use Rattle.kept_engine.proofs.WholeRuns.{Lower, More, run_goes_on, run_stops}

abbrev Pairs : Type 0
Pairs = List (Line × LineOutcome)

module _ {V : Type 0} (seen : V → Files) (moment : V → ℕ) (left_at : V → ℕ → Files → Type 0) (tells_contents : Type 0) (faults identity : V → ℕ) where
  -- ---- a line

  -- no more is given than was made
  line_within : (limit : ℕ) (run : RunState) (line : Line) (outcome : LineOutcome) (old new : KeptEngine V) (told : Flushed)
      → KeepsLine seen moment left_at tells_contents faults identity limit run line outcome old new told → kept_given old ≤ kept_end old → told.after ≡ Goes → kept_given new ≤ kept_end new
  line_within limit run line outcome old new told m within goes = elim m.flush [
    | inl quiet ↦
        let given : kept_given new ≡ kept_given old = ap (λ (k : KeptEngine V). kept_given k) quiet.1 ∙ ap (λ (k : LogKeeper V). keeper_given k) m.makes.keeper in
        let end : kept_end new ≡ kept_end old + length (stream_bytes (entries_of_line limit run line outcome)) = ap (λ (k : KeptEngine V). kept_end k) quiet.1 ∙ m.makes.end in
        omega (arith, given, end, within)
    | inr flush ↦
        let all : kept_given new ≡ kept_end new = given_whole faults identity m.between new told flush.2.tells goes in
        omega (arith, all)
  ]

  line_depth : (limit : ℕ) (run : RunState) (line : Line) (outcome : LineOutcome) (old new : KeptEngine V) (told : Flushed)
      → KeepsLine seen moment left_at tells_contents faults identity limit run line outcome old new told → kept_depth new ≡ kept_depth old
  line_depth limit run line outcome old new told m = elim m.flush [
    | inl quiet ↦ ap (λ (k : KeptEngine V). kept_depth k) quiet.1 ∙ m.makes.depth
    | inr flush ↦ flush.2.tells.depth ∙ m.makes.depth
  ]

  -- ---- lines

  pub lines_progress : (limit : ℕ) (run : RunState) (pairs : Pairs) (old new : KeptEngine V) → kept_given old ≤ kept_end old → KeepsLines seen moment left_at tells_contents faults identity limit run pairs old new
      → progress_of new ≡ progress_from (kept_depth old) limit run (progress_of old) pairs
  lines_progress limit run [] old new within made = ap (λ (k : KeptEngine V). progress_of k) made
  lines_progress limit run (pair ∷ pairs) old new within made =
      let next = made.0 in
      let then = run_after limit run pair.0 pair.1 in
      lines_progress limit then pairs next new (line_within limit run pair.0 pair.1 old next made.1 made.2 within made.3) made.4
      ∙ ap (λ (depth : ℕ). progress_from depth limit then (progress_of next) pairs) (line_depth limit run pair.0 pair.1 old next made.1 made.2)
      ∙ ap (λ (progress : LogProgress). progress_from (kept_depth old) limit then progress pairs)
      (line_progress seen moment left_at tells_contents faults identity limit run pair.0 pair.1 old next made.1 made.2 within made.3)

  -- the volume's count stays, and it is the same object
  same_volume : (limit : ℕ) (run : RunState) (pairs : Pairs) (old new : KeptEngine V) → KeepsLines seen moment left_at tells_contents faults identity limit run pairs old new
      → (faults (kept_volume new) ≡ faults (kept_volume old)) × (identity (kept_volume new) ≡ identity (kept_volume old))
  same_volume limit run [] old new made = (ap (λ (k : KeptEngine V). faults (kept_volume k)) made, ap (λ (k : KeptEngine V). identity (kept_volume k)) made)
  same_volume limit run (pair ∷ pairs) old new made =
      let counts = line_counts seen moment left_at tells_contents faults identity limit run pair.0 pair.1 old made.0 made.1 made.2 in
      let rest = same_volume limit (run_after limit run pair.0 pair.1) pairs made.0 new made.4 in
      (rest.0 ∙ counts.sound (λ met. goes_no_fault (sym made.3 ∙ met)), rest.1 ∙ counts.same)

  pub lines_counts : (limit : ℕ) (run : RunState) (pairs : Pairs) (old new : KeptEngine V) → KeepsLines seen moment left_at tells_contents faults identity limit run pairs old new → CountsFault faults identity old new Goes
  lines_counts limit run pairs old new made =
      let same = same_volume limit run pairs old new made in
      record { fault = λ met. absurd (goes_no_fault met); sound = λ met. same.0; same = same.1 }

  pub stop_counts : (limit : ℕ) (run : RunState) (pairs : Pairs) (old new : KeptEngine V) (told : Flushed) → KeepsStopped seen moment left_at tells_contents faults identity limit run pairs old new told
      → CountsFault faults identity old new told.after
  stop_counts limit run pairs old new told stopped =
      let same = same_volume limit run stopped.before old stopped.between stopped.went_on in
      let counts = line_counts seen moment left_at tells_contents faults identity limit (run_after_all limit run stopped.before) stopped.line stopped.outcome stopped.between new told stopped.stops in
      record {
        fault = λ met. subst (λ (n : ℕ). n < faults (kept_volume new)) same.0 (counts.fault met);
        sound = λ sound. counts.sound sound ∙ same.0;
        same = counts.same ∙ same.1;
      }

  -- ---- what a crash leaves

  module _ (gives : GivesAll seen moment left_at) (leaves : LeavesKept seen moment left_at) (to_lower : Lower) (to_more : More) where
    pub lines_so_far : (opening : DatabaseState) (limit : ℕ) (start : V) (before pairs : Pairs) (old new : KeptEngine V) → tells_contents → kept_given old ≤ kept_end old
        → KeepsSoFar seen moment left_at opening limit start before old
        → KeepsLines seen moment left_at tells_contents faults identity limit (run_after_all limit (run_from opening) before) pairs old new
        → KeepsSoFar seen moment left_at opening limit start (before ++ pairs) new
    lines_so_far opening limit start before [] old new tells within so_far made =
        subst (λ (k : KeptEngine V). KeepsSoFar seen moment left_at opening limit start (before ++ []) k) (sym made)
        (subst (λ (lines : Pairs). KeepsSoFar seen moment left_at opening limit start lines old) (sym (append-nil before)) so_far)
    lines_so_far opening limit start before (pair ∷ pairs) old new tells within so_far made =
        let next = made.0 in
        let here = run_after_all limit (run_from opening) before in
        let on = line_kept seen moment left_at tells_contents faults identity gives leaves opening (log_of opening limit before) limit here pair.0 pair.1 old next made.1 made.2 tells so_far.keeps in
        let rises = line_rises seen moment left_at tells_contents faults identity limit here pair.0 pair.1 old next made.1 made.2 within made.3 in
        let more = run_goes_on seen moment left_at to_lower to_more opening limit start before pair.0 pair.1 old next made.1.after so_far on made.3 rises in
        subst (λ (lines : Pairs). KeepsSoFar seen moment left_at opening limit start lines new) (append_assoc before (pair ∷ []) pairs)
        (lines_so_far opening limit start (before ++ pair ∷ []) pairs next new tells (line_within limit here pair.0 pair.1 old next made.1 made.2 within made.3) more
        (subst (λ (run : RunState). KeepsLines seen moment left_at tells_contents faults identity limit run pairs next new) (sym (after_all-append limit (run_from opening) before (pair ∷ []))) made.4))

    pub lines_stop : (opening : DatabaseState) (limit : ℕ) (start : V) (before pairs : Pairs) (old new : KeptEngine V) (told : Flushed) → tells_contents → kept_given old ≤ kept_end old
        → KeepsSoFar seen moment left_at opening limit start before old
        → KeepsStopped seen moment left_at tells_contents faults identity limit (run_after_all limit (run_from opening) before) pairs old new told
        → LeavesRun seen moment left_at opening limit start (kept_volume new) (before ++ pairs)
    lines_stop opening limit start before pairs old new told tells within so_far stopped =
        let between = stopped.between in
        let gone = before ++ stopped.before in
        let now = lines_so_far opening limit start before stopped.before old between tells within so_far stopped.went_on in
        let line = subst (λ (run : RunState). KeepsLine seen moment left_at tells_contents faults identity limit run stopped.line stopped.outcome between new told)
        (sym (after_all-append limit (run_from opening) before stopped.before)) stopped.stops in
        let on = line_kept seen moment left_at tells_contents faults identity gives leaves opening (log_of opening limit gone) limit (run_after_all limit (run_from opening) gone) stopped.line stopped.outcome between new told line tells now.keeps in
        subst (λ (lines : Pairs). LeavesRun seen moment left_at opening limit start (kept_volume new) lines)
        (append_assoc before stopped.before ((stopped.line, stopped.outcome) ∷ []) ∙ ap (λ (lines : Pairs). before ++ lines) (sym stopped.pairs_are))
        (run_stops seen moment left_at to_lower to_more opening limit start gone stopped.line stopped.outcome between new told.after now on)
