-- A run goes on line by line.
use Rattle.std.proofs.Common.{◌≡◌, ◌≤◌, ◌+◌, ℕ, Bool, true, false, List, [], ◌∷◌, ◌++◌, length, take, refl, sym, ◌∙◌, ap, subst, arith, length-append}
use Rattle.std.proofs.lemmas.Bool.{false≢true}
use Rattle.std.proofs.lemmas.List.{take-append-le}
use Rattle.std.proofs.Math.Seq.{take_all}
use Rattle.index_derive.specs.declared.log.Entry.{Entry}
use Rattle.database_state.specs.State.{DatabaseState}
use Rattle.jet_volume.specs.Image.{Image as Files}
use Rattle.jet_volume.specs.Crash.{CrashLeaves, LeavesOnly}
use Rattle.jet_volume.specs.Moments.{goes_on_by, leaves_now, leaves_weaker}
use Rattle.log_grammar.specs.EntryStreams.{stream_bytes}
use Rattle.session_local.specs.Run.{Line, LineOutcome, RunState, entries_of_line, is_acknowledged, run_after_all, run_from}
use Rattle.recovered_states.specs.Recovers.{RecoversUpTo}
use Rattle.kept_engine.specs.declared.kept.KeptEngine.{KeptEngine}
use Rattle.ordered_run.specs.declared.flushed.After.{After}
use Rattle.ordered_run.specs.declared.flushed.After.TheVariants.{Goes}
use Rattle.kept_engine.specs.Keeping.{kept_given, kept_volume, Ends, Keeps}
use Rattle.kept_engine.specs.Acknowledged.{ReachesAcknowledged, RecoversAcknowledged, log_of}
use Rattle.kept_engine.specs.KeptRuns.{GoesOn, KeepsSoFar, LeavesRun}
use Rattle.kept_engine.proofs.Lines.{LeavesKept}
use Rattle.kept_engine.proofs.Pairs.{log_more, reaches_higher, reaches_more}

abbrev Pairs : Type 0
Pairs = List (Line × LineOutcome)

abbrev pub Lower : Type 0
Lower = (opening : DatabaseState) (entries : List Entry) (low at : ℕ) (files : Files) → low ≤ at → RecoversUpTo opening entries at files → RecoversUpTo opening entries low files

abbrev pub More : Type 0
More = (opening : DatabaseState) (entries more : List Entry) (at : ℕ) (files : Files) → at ≤ length (stream_bytes entries) → RecoversUpTo opening entries at files → RecoversUpTo opening (entries ++ more) at files

-- files that are reached so far have each acknowledged line
acknowledged_by : (opening : DatabaseState) (limit : ℕ) (pairs : Pairs) (low at : ℕ) (files : Files) → ReachesAcknowledged limit low 0 (run_from opening) pairs → low ≤ length (log_of opening limit pairs)
    → length (stream_bytes (take low (log_of opening limit pairs))) ≤ at → RecoversUpTo opening (log_of opening limit pairs) at files → RecoversAcknowledged opening limit pairs files
acknowledged_by opening limit pairs low at files reaches within given up = record {
  k = up.k;
  within = up.within;
  reaches = reaches_higher limit low up.k 0 (run_from opening) pairs (up.reaches low within given) reaches;
  recovers = up.recovers;
}

all_taken : (entries : List Entry) → length (stream_bytes (take (length entries) entries)) ≡ length (stream_bytes entries)
all_taken entries = ap (λ (l : List Entry). length (stream_bytes l)) (take_all (length entries) entries (omega arith))

module _ {V : Type 0} (seen : V → Files) (moment : V → ℕ) (left_at : V → ℕ → Files → Type 0) (to_lower : Lower) where
  lower : (opening : DatabaseState) (entries : List Entry) (low at : ℕ) (old new : V) → low ≤ at → LeavesOnly moment left_at old new (RecoversUpTo opening entries at) → LeavesOnly moment left_at old new (RecoversUpTo opening entries low)
  lower opening entries low at old new le leaves = leaves_weaker moment left_at old new (RecoversUpTo opening entries at) (RecoversUpTo opening entries low) (λ files up. to_lower opening entries low at files le up) leaves

  -- before the first line
  pub run_begins : (opening : DatabaseState) (limit : ℕ) (start : V) (kept : KeptEngine V) → LeavesOnly moment left_at start (kept_volume kept) (RecoversUpTo opening [] 0) → Keeps seen moment left_at opening [] kept
      → KeepsSoFar seen moment left_at opening limit start [] kept
  run_begins opening limit start kept moments keeps = record { any_moment = moments; keeps = keeps; low = 0; within = omega arith; reaches = tt; given = omega arith }

  -- where it stands
  pub run_now : LeavesKept seen moment left_at → (opening : DatabaseState) (limit : ℕ) (start : V) (pairs : Pairs) (kept : KeptEngine V) → KeepsSoFar seen moment left_at opening limit start pairs kept
      → LeavesRun seen moment left_at opening limit start (kept_volume kept) pairs
  run_now leaves opening limit start pairs kept so_far = record {
    any_moment = so_far.any_moment;
    acknowledged = λ files left. acknowledged_by opening limit pairs so_far.low (kept_given kept) files so_far.reaches so_far.within so_far.given (leaves opening (log_of opening limit pairs) kept so_far.keeps files left);
  }

  -- behind the closing image
  pub run_ends : (opening : DatabaseState) (limit : ℕ) (start : V) (pairs : Pairs) (old new : KeptEngine V) (after : After) → KeepsSoFar seen moment left_at opening limit start pairs old
      → Ends seen moment left_at opening (log_of opening limit pairs) old new after → LeavesRun seen moment left_at opening limit start (kept_volume new) pairs
  run_ends opening limit start pairs old new after so_far ends =
      let entries = log_of opening limit pairs in
      record {
        any_moment = goes_on_by moment left_at start (kept_volume old) (kept_volume new) (RecoversUpTo opening entries 0) so_far.any_moment
            (lower opening entries 0 (kept_given old) (kept_volume old) (kept_volume new) (omega arith) ends.any_moment);
        acknowledged = λ files left. acknowledged_by opening limit pairs so_far.low (kept_given old) files so_far.reaches so_far.within so_far.given
            (leaves_now moment left_at (kept_volume old) (kept_volume new) (RecoversUpTo opening entries (kept_given old)) ends.any_moment files left);
      }

  -- a line more
  module _ (to_more : More) (opening : DatabaseState) (limit : ℕ) (start : V) (pairs : Pairs) (line : Line) (outcome : LineOutcome) (old new : KeptEngine V) (after : After)
      (so_far : KeepsSoFar seen moment left_at opening limit start pairs old)
      (on : GoesOn seen moment left_at opening (log_of opening limit pairs) limit (run_after_all limit (run_from opening) pairs) line outcome old new after) where
    abbrev here : RunState
    here = run_after_all limit (run_from opening) pairs

    abbrev made : List Entry
    made = entries_of_line limit here line outcome

    abbrev before : List Entry
    before = log_of opening limit pairs

    abbrev with_it : Pairs
    with_it = pairs ++ (line, outcome) ∷ []

    log_is : before ++ made ≡ log_of opening limit with_it
    log_is = sym (log_more limit (run_from opening) pairs line outcome)

    counted : length (log_of opening limit with_it) ≡ length before + length made
    counted = ap length (sym log_is) ∙ length-append before made

    moments : LeavesOnly moment left_at start (kept_volume new) (RecoversUpTo opening (log_of opening limit with_it) 0)
    moments = subst (λ (l : List Entry). LeavesOnly moment left_at start (kept_volume new) (RecoversUpTo opening l 0)) log_is
        (goes_on_by moment left_at start (kept_volume old) (kept_volume new) (RecoversUpTo opening (before ++ made) 0)
        (leaves_weaker moment left_at start (kept_volume old) (RecoversUpTo opening before 0) (RecoversUpTo opening (before ++ made) 0) (λ files up. to_more opening before made 0 files (omega arith) up) so_far.any_moment)
        (lower opening (before ++ made) 0 (kept_given old) (kept_volume old) (kept_volume new) (omega arith) on.any_moment))

    -- what was reached before a line that is not acknowledged is what is to be reached behind it
    reached_still : is_acknowledged limit here line outcome ≡ false → ReachesAcknowledged limit so_far.low 0 (run_from opening) with_it
    reached_still quiet = reaches_more limit so_far.low 0 (run_from opening) pairs line outcome so_far.reaches (λ acknowledged. absurd (false≢true (sym quiet ∙ acknowledged)))

    reached_all : ReachesAcknowledged limit (length (log_of opening limit with_it)) 0 (run_from opening) with_it
    reached_all =
        let all : ℕ = length (log_of opening limit with_it) in
        reaches_more limit all 0 (run_from opening) pairs line outcome (reaches_higher limit so_far.low all 0 (run_from opening) pairs (omega (arith, so_far.within, counted)) so_far.reaches) (λ acknowledged. omega (arith, counted))

    low_within : so_far.low ≤ length (log_of opening limit with_it)
    low_within = omega (arith, so_far.within, counted)

    low_given : length (stream_bytes (take so_far.low (log_of opening limit with_it))) ≤ kept_given old
    low_given =
        let taken : take so_far.low (log_of opening limit with_it) ≡ take so_far.low before = ap (λ (l : List Entry). take so_far.low l) (sym log_is) ∙ take-append-le so_far.low before made so_far.within in
        omega (arith, so_far.given, ap (λ (l : List Entry). length (stream_bytes l)) taken)

    -- it stops behind the line
    pub run_stops : LeavesRun seen moment left_at opening limit start (kept_volume new) with_it
    run_stops = record { any_moment = moments; acknowledged = decided (is_acknowledged limit here line outcome) refl }
      where
        decided : (b : Bool) → is_acknowledged limit here line outcome ≡ b → CrashLeaves moment left_at (kept_volume new) (RecoversAcknowledged opening limit with_it)
        decided true acknowledged files left =
            acknowledged_by opening limit with_it (length (log_of opening limit with_it)) (length (stream_bytes (log_of opening limit with_it))) files reached_all (omega arith) (omega (arith, all_taken (log_of opening limit with_it)))
            (subst (λ (l : List Entry). RecoversUpTo opening l (length (stream_bytes l)) files) log_is (on.kept acknowledged files left))
        decided false quiet files left =
            acknowledged_by opening limit with_it so_far.low (kept_given old) files (reached_still quiet) low_within low_given
            (subst (λ (l : List Entry). RecoversUpTo opening l (kept_given old) files) log_is
            (leaves_now moment left_at (kept_volume old) (kept_volume new) (RecoversUpTo opening (before ++ made) (kept_given old)) on.any_moment files left))

    -- it goes on behind the line
    pub run_goes_on : after ≡ Goes → kept_given old ≤ kept_given new → KeepsSoFar seen moment left_at opening limit start with_it new
    run_goes_on goes rises = decided (is_acknowledged limit here line outcome) refl
      where
        keeps_new : Keeps seen moment left_at opening (log_of opening limit with_it) new
        keeps_new = subst (λ (l : List Entry). Keeps seen moment left_at opening l new) log_is (on.goes goes)

        decided : (b : Bool) → is_acknowledged limit here line outcome ≡ b → KeepsSoFar seen moment left_at opening limit start with_it new
        decided true acknowledged = record {
          any_moment = moments;
          keeps = keeps_new;
          low = length (log_of opening limit with_it);
          within = omega arith;
          reaches = reached_all;
          given = omega (arith, on.given goes acknowledged, ap (λ (l : List Entry). length (stream_bytes l)) log_is, all_taken (log_of opening limit with_it));
        }
        decided false quiet = record {
          any_moment = moments;
          keeps = keeps_new;
          low = so_far.low;
          within = low_within;
          reaches = reached_still quiet;
          given = omega (arith, low_given, rises);
        }
