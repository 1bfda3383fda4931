-- What comes of a line that is served over an engine whose log is kept.
use Rattle.std.proofs.Common.{◌≡◌, ◌≢◌, ◌<◌, ◌≤◌, ◌+◌, ℕ, true, List, [], ◌++◌, length, Result, Ok, Err, inl, inr, refl, sym, ◌∙◌, ap, subst, arith, append-nil, length-append}
use Rattle.std.specs.Result.{OnErr, OnOk}
use Rattle.index_derive.specs.declared.log.Entry.{Entry}
use Rattle.database_state.specs.State.{DatabaseState}
use Rattle.entry_log.specs.LogState.{KeptStream, appended, stream_end}
use Rattle.jet_volume.specs.Image.{Image as Files}
use Rattle.log_grammar.specs.EntryStreams.{stream_bytes}
use Rattle.log_keeper.specs.declared.keeper.LogKeeper.{LogKeeper}
use Rattle.log_keeper.specs.Keeping.{keeper_given, keeper_volume}
use Rattle.session_local.specs.Run.{Line, LineOutcome, RunState, served, entries_of_line}
use Rattle.ordered_run.specs.declared.flushed.After.{After}
use Rattle.ordered_run.specs.declared.flushed.After.TheVariants.{Goes, Fault}
use Rattle.ordered_run.specs.declared.flushed.Flush.{Flush}
use Rattle.ordered_run.specs.declared.flushed.Flushed.{Flushed}
use Rattle.ordered_run.specs.Flushing.{outcome_of_flush}
use Rattle.kept_engine.specs.declared.kept.KeptEngine.{KeptEngine}
use Rattle.kept_engine.specs.Keeping.{kept_depth, kept_end, kept_given, kept_keeper, kept_logged, kept_volume, Keeps}
use Rattle.kept_engine.specs.KeptRuns.{GoesOn, with_line}
use Rattle.kept_engine.specs.Checkpoints.{progress_after, progress_of}
use Rattle.kept_engine.specs.Serving.{KeepsLine, MakesEntries}
use Rattle.kept_engine.specs.Told.{CountsFault, TellsFlush}
use Rattle.kept_engine.proofs.Checkpoints.{flushed_progress, quiet_progress}
use Rattle.kept_engine.proofs.Lines.{GivesAll, LeavesKept, flushed_entries, line_flushed, line_quiet}
use Rattle.kept_engine.proofs.Parts.{end_trimmed}

end_appended : (s : KeptStream) (bytes : List ℕ) → stream_end (appended bytes s) ≡ stream_end s + length bytes
end_appended s bytes = omega (arith, length-append s.bytes bytes)

plus_none : (n : ℕ) → n ≡ n + 0
plus_none n = omega arith

-- a log that was flushed, and goes on, was given whole
pub given_whole : {V : Type 0} (faults identity : V → ℕ) (old new : KeptEngine V) (told : Flushed) → TellsFlush faults identity old new told → told.after ≡ Goes → kept_given new ≡ kept_end new
given_whole faults identity old new told tells goes =
    let kept = tells.goes goes in
    tells.given kept ∙ sym (ap stream_end (tells.trimmed kept) ∙ end_trimmed (kept_end old) (kept_logged old).stream (omega arith))

pub goes_no_fault : Goes ≡ Fault → ⊥
goes_no_fault is = let never : ⊥ = cc in never

module _ {V : Type 0} (seen : V → Files) (moment : V → ℕ) (left_at : V → ℕ → Files → Type 0) where
  -- ---- steps

  pub makes_on_ok : {A X : Type 0} (result : Result A X) (made : List Entry) (old new : KeptEngine V)
      → ((opening : DatabaseState) (entries : List Entry) → Keeps seen moment left_at opening entries old → OnOk result (Keeps seen moment left_at opening (entries ++ made) new))
      → OnOk result ((kept_logged new).stream ≡ appended (stream_bytes made) (kept_logged old).stream) → kept_keeper new ≡ kept_keeper old → kept_depth new ≡ kept_depth old
      → OnOk result (MakesEntries seen moment left_at made old new)
  makes_on_ok (Ok a) made old new keeps stream keeper depth =
      record { keeps = keeps; keeper = keeper; depth = depth; end = ap stream_end stream ∙ end_appended (kept_logged old).stream (stream_bytes made) }
  makes_on_ok (Err e) made old new keeps stream keeper depth = tt

  pub makes_none_on_err : {A X : Type 0} (result : Result A X) (old new : KeptEngine V)
      → ((opening : DatabaseState) (entries : List Entry) → Keeps seen moment left_at opening entries old → OnErr result (Keeps seen moment left_at opening entries new))
      → OnErr result ((kept_logged new).stream ≡ (kept_logged old).stream) → kept_keeper new ≡ kept_keeper old → kept_depth new ≡ kept_depth old
      → OnErr result (MakesEntries seen moment left_at [] old new)
  makes_none_on_err (Ok a) old new keeps stream keeper depth = tt
  makes_none_on_err (Err e) old new keeps stream keeper depth = record {
    keeps = λ opening entries kept. subst (λ (l : List Entry). Keeps seen moment left_at opening l new) (sym (append-nil entries)) (keeps opening entries kept);
    keeper = keeper;
    depth = depth;
    end = ap stream_end stream ∙ plus_none (kept_end old);
  }

  -- ---- lines

  module _ (tells_contents : Type 0) (faults identity : V → ℕ) where
    pub line_kept : GivesAll seen moment left_at → LeavesKept seen moment left_at → (opening : DatabaseState) (entries : List Entry) (limit : ℕ) (run : RunState) (line : Line) (outcome : LineOutcome) (old new : KeptEngine V) (told : Flushed)
        → KeepsLine seen moment left_at tells_contents faults identity limit run line outcome old new told → tells_contents → Keeps seen moment left_at opening entries old
        → GoesOn seen moment left_at opening entries limit run line outcome old new told.after
    line_kept gives leaves opening entries limit run line outcome old new told m tells keeps = elim m.flush [
      | inl quiet ↦
          line_quiet seen moment left_at leaves opening entries limit run line outcome old new told.after
          (subst (λ (k : KeptEngine V). kept_keeper k ≡ kept_keeper old) (sym quiet.1) m.makes.keeper) quiet.0
          (subst (λ (k : KeptEngine V). Keeps seen moment left_at opening (with_line limit run entries line outcome) k) (sym quiet.1) (m.makes.keeps opening entries keeps))
      | inr flush ↦
          let made = subst (λ (l : List Entry). Keeps seen moment left_at opening (entries ++ l) m.between)
          (ap (λ (o : LineOutcome). entries_of_line limit run line o) flush.1 ∙ sym (flushed_entries limit run line told.flush)) (m.makes.keeps opening entries keeps) in
          subst (λ (o : LineOutcome). GoesOn seen moment left_at opening entries limit run line o old new told.after) (sym flush.1)
          (line_flushed seen moment left_at gives opening entries limit run line old m.between new told m.makes.keeper
          (flush.2.keeps tells opening (with_line limit run entries line served) made) (given_whole faults identity m.between new told flush.2.tells))
    ]

    pub line_progress : (limit : ℕ) (run : RunState) (line : Line) (outcome : LineOutcome) (old new : KeptEngine V) (told : Flushed)
        → KeepsLine seen moment left_at tells_contents faults identity limit run line outcome old new told → kept_given old ≤ kept_end old → told.after ≡ Goes
        → progress_of new ≡ progress_after (kept_depth old) limit run line outcome (progress_of old)
    line_progress limit run line outcome old new told m within goes = elim m.flush [
      | inl quiet ↦
          subst (λ (k : KeptEngine V). progress_of k ≡ progress_after (kept_depth old) limit run line outcome (progress_of old)) (sym quiet.1)
          (quiet_progress limit run line outcome old m.between m.makes.keeper m.makes.end within quiet.0)
      | inr flush ↦
          let entries = ap (λ (o : LineOutcome). entries_of_line limit run line o) flush.1 ∙ sym (flushed_entries limit run line told.flush) in
          let first : served ≡ outcome = sym (flush.1 ∙ ap outcome_of_flush (flush.2.tells.goes goes)) in
          subst (λ (o : LineOutcome). progress_of new ≡ progress_after (kept_depth old) limit run line o (progress_of old)) first
          (flushed_progress faults identity limit run line old m.between new told m.makes.keeper m.makes.depth
          (m.makes.end ∙ ap (λ (l : List Entry). kept_end old + length (stream_bytes l)) entries) within flush.0 flush.2.tells goes)
    ]

    pub line_rises : (limit : ℕ) (run : RunState) (line : Line) (outcome : LineOutcome) (old new : KeptEngine V) (told : Flushed)
        → KeepsLine seen moment left_at tells_contents faults identity limit run line outcome old new told → kept_given old ≤ kept_end old → told.after ≡ Goes → kept_given old ≤ kept_given new
    line_rises limit run line outcome old new told m within goes = elim m.flush [
      | inl quiet ↦
          let same : kept_given new ≡ kept_given old = ap (λ (k : KeptEngine V). kept_given k) quiet.1 ∙ ap (λ (k : LogKeeper V). keeper_given k) m.makes.keeper in
          omega (arith, same)
      | inr flush ↦
          let given : kept_given new ≡ kept_end m.between = flush.2.tells.given (flush.2.tells.goes goes) in
          let end = m.makes.end in
          omega (arith, given, end, within)
    ]

    pub line_counts : (limit : ℕ) (run : RunState) (line : Line) (outcome : LineOutcome) (old new : KeptEngine V) (told : Flushed)
        → KeepsLine seen moment left_at tells_contents faults identity limit run line outcome old new told → CountsFault faults identity old new told.after
    line_counts limit run line outcome old new told m = elim m.flush [
      | inl quiet ↦
          let same : kept_volume new ≡ kept_volume old = ap (λ (k : KeptEngine V). kept_volume k) quiet.1 ∙ ap (λ (k : LogKeeper V). keeper_volume k) m.makes.keeper in
          record {
            fault = λ is. absurd (goes_no_fault (sym (ap (λ (f : Flushed). f.after) quiet.2) ∙ is));
            sound = λ is. ap faults same;
            same = ap identity same;
          }
      | inr flush ↦
          let counts = flush.2.tells.counts in
          let same : kept_volume m.between ≡ kept_volume old = ap (λ (k : LogKeeper V). keeper_volume k) m.makes.keeper in
          record {
            fault = λ is. subst (λ (v : V). faults v < faults (kept_volume new)) same (counts.fault is);
            sound = λ is. counts.sound is ∙ ap faults same;
            same = counts.same ∙ ap identity same;
          }
    ]
