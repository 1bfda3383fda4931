-- What comes of a line.
use Rattle.std.proofs.Common.{◌≡◌, ℕ, true, false, List, ◌++◌, length, refl, sym, ◌∙◌, ap, subst}
use Rattle.std.proofs.lemmas.Bool.{false≢true}
use Rattle.index_derive.specs.declared.log.Entry.{Entry}
use Rattle.database_state.specs.State.{DatabaseState}
use Rattle.jet_volume.specs.Image.{Image as Files}
use Rattle.jet_volume.specs.Crash.{CrashLeaves, LeavesOnly}
use Rattle.jet_volume.specs.Moments.{started}
use Rattle.log_grammar.specs.EntryStreams.{stream_bytes}
use Rattle.session_local.specs.Run.{Line, LineOutcome, RunState, entries_of_line, is_acknowledged, served}
use Rattle.log_keeper.specs.declared.keeper.LogKeeper.{LogKeeper}
use Rattle.log_keeper.specs.Keeping.{keeper_given, keeper_volume}
use Rattle.recovered_states.specs.Recovers.{RecoversUpTo}
use Rattle.kept_engine.specs.declared.kept.KeptEngine.{KeptEngine}
use Rattle.ordered_run.specs.declared.flushed.After.{After}
use Rattle.ordered_run.specs.declared.flushed.After.TheVariants.{Goes}
use Rattle.ordered_run.specs.declared.flushed.Flush.{Flush}
use Rattle.ordered_run.specs.declared.flushed.Flush.TheVariants.{Kept, Failed, NoRoom}
use Rattle.ordered_run.specs.declared.flushed.Flushed.{Flushed}
use Rattle.kept_engine.specs.Keeping.{kept_end, kept_given, kept_keeper, kept_volume, Keeps, KeepsOn}
use Rattle.ordered_run.specs.Flushing.{outcome_of_flush}
use Rattle.kept_engine.specs.KeptRuns.{GoesOn, with_line}

-- a line that flushes makes the entries of one that is served, whatever its flush comes to
pub flushed_entries : (limit : ℕ) (run : RunState) (line : Line) (flush : Flush) → entries_of_line limit run line served ≡ entries_of_line limit run line (outcome_of_flush flush)
flushed_entries limit run line Kept = refl
flushed_entries limit run line Failed = refl
flushed_entries limit run line NoRoom = refl

-- and it is acknowledged only where its bytes are kept
kept_where : (limit : ℕ) (run : RunState) (line : Line) (flush : Flush) → is_acknowledged limit run line (outcome_of_flush flush) ≡ true → flush ≡ Kept
kept_where limit run line Kept is = refl
kept_where limit run line Failed is = absurd (false≢true is)
kept_where limit run line NoRoom is = absurd (false≢true is)

module _ {V : Type 0} (seen : V → Files) (moment : V → ℕ) (left_at : V → ℕ → Files → Type 0) where
  abbrev pub LeavesKept : Type 0
  LeavesKept = (opening : DatabaseState) (entries : List Entry) (kept : KeptEngine V) → Keeps seen moment left_at opening entries kept
      → CrashLeaves moment left_at (kept_volume kept) (RecoversUpTo opening entries (kept_given kept))

  abbrev pub GivesAll : Type 0
  GivesAll = (opening : DatabaseState) (entries : List Entry) (kept : KeptEngine V) → Keeps seen moment left_at opening entries kept → kept_given kept ≡ kept_end kept → kept_given kept ≡ length (stream_bytes entries)

  -- it makes its entries, and they are flushed
  pub line_flushed : GivesAll → (opening : DatabaseState) (entries : List Entry) (limit : ℕ) (run : RunState) (line : Line) (old made new : KeptEngine V) (told : Flushed) → kept_keeper made ≡ kept_keeper old
      → KeepsOn seen moment left_at opening (with_line limit run entries line served) made new told → (told.after ≡ Goes → kept_given new ≡ kept_end new)
      → GoesOn seen moment left_at opening entries limit run line (outcome_of_flush told.flush) old new told.after
  line_flushed given opening entries limit run line old made new told same on all =
      let entries_are : with_line limit run entries line served ≡ with_line limit run entries line (outcome_of_flush told.flush) =
      ap (λ (l : List Entry). entries ++ l) (flushed_entries limit run line told.flush) in
      let goes_on : told.after ≡ Goes → Keeps seen moment left_at opening (with_line limit run entries line (outcome_of_flush told.flush)) new =
      λ goes. subst (λ (l : List Entry). Keeps seen moment left_at opening l new) entries_are (on.goes goes) in
      record {
        any_moment = subst (λ (k : LogKeeper V). LeavesOnly moment left_at (keeper_volume k) (kept_volume new) (RecoversUpTo opening (with_line limit run entries line (outcome_of_flush told.flush)) (keeper_given k))) same
            (subst (λ (l : List Entry). LeavesOnly moment left_at (kept_volume made) (kept_volume new) (RecoversUpTo opening l (kept_given made))) entries_are on.any_moment);
        kept = λ acknowledged. subst (λ (l : List Entry). CrashLeaves moment left_at (kept_volume new) (RecoversUpTo opening l (length (stream_bytes l)))) entries_are
            (on.kept (kept_where limit run line told.flush acknowledged));
        goes = goes_on;
        given = λ goes acknowledged. given opening (with_line limit run entries line (outcome_of_flush told.flush)) new (goes_on goes) (all goes);
      }

  -- it flushes nothing, or finds no memory
  pub line_quiet : LeavesKept → (opening : DatabaseState) (entries : List Entry) (limit : ℕ) (run : RunState) (line : Line) (outcome : LineOutcome) (old new : KeptEngine V) (after : After) → kept_keeper new ≡ kept_keeper old
      → is_acknowledged limit run line outcome ≡ false → Keeps seen moment left_at opening (with_line limit run entries line outcome) new → GoesOn seen moment left_at opening entries limit run line outcome old new after
  line_quiet leaves opening entries limit run line outcome old new after same quiet keeps =
      let entries_now = with_line limit run entries line outcome in
      record {
        any_moment = subst (λ (k : LogKeeper V). LeavesOnly moment left_at (keeper_volume k) (kept_volume new) (RecoversUpTo opening entries_now (keeper_given k))) same
            (started moment left_at (kept_volume new) (RecoversUpTo opening entries_now (kept_given new)) (leaves opening entries_now new keeps));
        kept = λ acknowledged. absurd (false≢true (sym quiet ∙ acknowledged));
        goes = λ goes. keeps;
        given = λ goes acknowledged. absurd (false≢true (sym quiet ∙ acknowledged));
      }
