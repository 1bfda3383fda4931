-- How a run over a volume that was opened ends.
use Rattle.std.proofs.Common.{◌≡◌, ◌≢◌, ◌<◌, ◌≤◌, ◌⊎◌, ◌+◌, ◌-◌, ◌++◌, inl, inr, refl, sym, ap, subst, ◌∙◌, ℕ, Bool, true, false, List, [], ◌∷◌, length, take, drop, codes, Option, arith, take_all}
use Rattle.std.specs.Prelude.{if◌then◌else◌}
use Rattle.std.specs.List.{list_all}
use Rattle.std.specs.Io.KnownBytes.{append_known}
use Rattle.index_derive.specs.declared.log.Entry.{Entry}
use Rattle.database_state.specs.State.{DatabaseState}
use Rattle.database_state.specs.Step.{state_after_all}
use Rattle.jet_volume.specs.Image.{Image as Files}
use Rattle.jet_volume.specs.Crash.{CrashLeaves}
use Rattle.laws_engine.specs.EngineState.{EngineState}
use Rattle.session_local.specs.Run.{Line, LineOutcome, served, flush_failed, unserved, RunState, flushes, is_acknowledged, run_after, run_after_all, run_from}
use Rattle.loggable_steps.specs.Replays.{closed}
use Rattle.recovered_states.specs.Recovers.{Recovers}
use Rattle.ordered_run.specs.declared.flushed.After.{After}
use Rattle.ordered_run.specs.declared.flushed.After.TheVariants.{Goes, Fault, Memory}
use Rattle.ordered_run.specs.declared.flushed.Flush.{Flush}
use Rattle.ordered_run.specs.declared.flushed.Flush.TheVariants.{Kept, Failed, NoRoom}
use Rattle.ordered_run.specs.declared.flushed.Flushed.{Flushed}
use Rattle.ordered_run.specs.declared.run.LineFault.{LineFault}
use Rattle.ordered_run.specs.declared.run.LineFault.TheVariants as fault
use Rattle.ordered_run.specs.declared.session_engine.SessionEngine.{SessionEngine}
use Rattle.ordered_run.specs.Flushing.{nothing_flushed, outcome_of_flush}
use Rattle.ordered_run.specs.MadeRuns.{HasStopped}
use Rattle.ordered_run.specs.Outcomes.{is_plain, AreOutcomesOf, BeginsRun, MayComeTo, run_transcript, EndsInLast}
use Rattle.ordered_run.specs.RunSoFar.{SoFar, Stopped, StandsBy, CountsSink}
use Rattle.ordered_run.specs.Serving.{run_engine}
use Rattle.kept_engine.specs.declared.kept.KeptEngine.{KeptEngine}
use Rattle.kept_engine.specs.Acknowledged.{log_of}
use Rattle.kept_engine.specs.Checkpoints.{LogProgress, checkpoints_of, left_with, progress_after, progress_from, progress_of}
use Rattle.kept_engine.specs.Keeping.{kept_depth, kept_end, kept_given, kept_logged, kept_span, kept_volume, Ends, Keeps, StandsAlone}
use Rattle.kept_engine.specs.KeptRuns.{KeepsSoFar, LeavesRun}
use Rattle.kept_engine.specs.Opening.{opening_of}
use Rattle.kept_engine.specs.Serving.{FlushesLog, KeepsLines, KeepsStopped, MakesEntries}
use Rattle.kept_engine.specs.Spans.{LogSpan, is_due_after, span_after, with_checkpoint, with_given}
use Rattle.kept_engine.specs.Told.{CountsFault}
use Rattle.esentutl.specs.RunEnds.{IsClosed, LeavesLast, LeavesSince, RunEndsBy, SaysClosing, SaysStop, status_of_closing, status_of_stop}
use Rattle.esentutl.specs.TopCall.{Ending, done, sink_failed, want_of_memory, volume_failed, Says, StopsAtFlush, is_by_fault, is_unserved, status_of}
use Rattle.esentutl.specs.Words.{last_line}

-- ---- numbers of checkpoints only rise

due_rises : (due : Bool) (span : LogSpan) → span.number ≤ (if due then with_checkpoint span else span).number
due_rises true span = omega arith
due_rises false span = omega arith

flush_rises : (depth : ℕ) (span : LogSpan) (count : ℕ) → span.number ≤ (span_after depth span count).number
flush_rises depth span count = due_rises (is_due_after depth span count) (with_given span count)

either_rises : (flushed : Bool) (one other : LogProgress) (number : ℕ) → number ≤ one.span.number → number ≤ other.span.number → number ≤ (if◌then◌else◌ {A = LogProgress} flushed one other).span.number
either_rises true one other number first second = first
either_rises false one other number first second = second

line_rises : (depth limit : ℕ) (run : RunState) (line : Line) (outcome : LineOutcome) (progress : LogProgress) → progress.span.number ≤ (progress_after depth limit run line outcome progress).span.number
line_rises depth limit run line outcome progress =
    let left : ℕ = left_with limit run line outcome progress in
    either_rises (is_acknowledged limit run line outcome) (record { span = span_after depth progress.span left; left = 0 }) (record { span = progress.span; left = left }) progress.span.number
    (flush_rises depth progress.span left) (omega arith)

numbers_rise : (depth limit : ℕ) (run : RunState) (progress : LogProgress) (pairs : List (Line × LineOutcome)) → progress.span.number ≤ (progress_from depth limit run progress pairs).span.number
numbers_rise depth limit run progress [] = omega arith
numbers_rise depth limit run progress (pair ∷ pairs) =
    let first = line_rises depth limit run pair.0 pair.1 progress in
    let rest = numbers_rise depth limit (run_after limit run pair.0 pair.1) (progress_after depth limit run pair.0 pair.1 progress) pairs in
    omega (arith, first, rest)

-- the number before with the checkpoints of the lines is the one behind them
number_behind : (depth limit : ℕ) (run : RunState) (progress behind : LogProgress) (pairs : List (Line × LineOutcome)) → behind ≡ progress_from depth limit run progress pairs
    → behind.span.number + 1 ≡ progress.span.number + checkpoints_of depth limit run progress pairs + 1
number_behind depth limit run progress behind pairs is =
    let rises = numbers_rise depth limit run progress pairs in
    let same : behind.span.number ≡ (progress_from depth limit run progress pairs).span.number = ap (λ (p : LogProgress). p.span.number) is in
    omega (arith, rises, same)

-- ---- clashes

fault_goes : {A : Type 0} → Goes ≡ Fault → A
fault_goes is = let never : ⊥ = cc in absurd never

memory_goes : {A : Type 0} → Goes ≡ Memory → A
memory_goes is = let never : ⊥ = cc in absurd never

fault_lacks : {A : Type 0} → Memory ≡ Fault → A
fault_lacks is = let never : ⊥ = cc in absurd never

goes_on_without : Goes ≢ Fault
goes_on_without is = fault_goes is

lacks_without : Memory ≢ Fault
lacks_without is = fault_lacks is

-- ---- what comes of a run

module _ (tells : Type 0) {V : Type 0} (seen : V → Files) (moment : V → ℕ) (left_at : V → ℕ → Files → Type 0) (faults identity : V → ℕ) where
  -- the laws of runs over an engine whose log is kept
  pub record RunLaws : Type 0 where
    pub goes_on : (opening : DatabaseState) (limit : ℕ) (start : V) (before pairs : List (Line × LineOutcome)) (old new : KeptEngine V) → tells → kept_given old ≤ kept_end old
        → KeepsSoFar seen moment left_at opening limit start before old → KeepsLines seen moment left_at tells faults identity limit (run_after_all limit (run_from opening) before) pairs old new
        → KeepsSoFar seen moment left_at opening limit start (before ++ pairs) new
    pub stops : (opening : DatabaseState) (limit : ℕ) (start : V) (before pairs : List (Line × LineOutcome)) (old new : KeptEngine V) (told : Flushed) → tells → kept_given old ≤ kept_end old
        → KeepsSoFar seen moment left_at opening limit start before old → KeepsStopped seen moment left_at tells faults identity limit (run_after_all limit (run_from opening) before) pairs old new told
        → LeavesRun seen moment left_at opening limit start (kept_volume new) (before ++ pairs)
    pub now : (opening : DatabaseState) (limit : ℕ) (start : V) (pairs : List (Line × LineOutcome)) (kept : KeptEngine V)
        → KeepsSoFar seen moment left_at opening limit start pairs kept → LeavesRun seen moment left_at opening limit start (kept_volume kept) pairs
    pub ends : (opening : DatabaseState) (limit : ℕ) (start : V) (pairs : List (Line × LineOutcome)) (old new : KeptEngine V) (after : After)
        → KeepsSoFar seen moment left_at opening limit start pairs old → Ends seen moment left_at opening (log_of opening limit pairs) old new after
        → LeavesRun seen moment left_at opening limit start (kept_volume new) pairs
    pub progress : (limit : ℕ) (run : RunState) (pairs : List (Line × LineOutcome)) (old new : KeptEngine V) → kept_given old ≤ kept_end old
        → KeepsLines seen moment left_at tells faults identity limit run pairs old new → progress_of new ≡ progress_from (kept_depth old) limit run (progress_of old) pairs
    pub counts : (limit : ℕ) (run : RunState) (pairs : List (Line × LineOutcome)) (old new : KeptEngine V) → KeepsLines seen moment left_at tells faults identity limit run pairs old new
        → CountsFault faults identity old new Goes
    pub stop_counts : (limit : ℕ) (run : RunState) (pairs : List (Line × LineOutcome)) (old new : KeptEngine V) (told : Flushed)
        → KeepsStopped seen moment left_at tells faults identity limit run pairs old new told → CountsFault faults identity old new told.after

  -- a run that ends so, with its status
  abbrev pub Ended : ℕ → List Line → KeptEngine V → V → Option (List ℕ) → Option (List ℕ) → ℕ → ℕ → ℕ → Type 0
  Ended limit lines kept volume before now faults_before faults_after status =
      (ending : Ending) × (status ≡ status_of ending) × RunEndsBy tells seen moment left_at faults identity limit lines kept volume before now faults_before faults_after ending

  -- ---- behind its last line

  leaves_closed : RunLaws → (limit : ℕ) (kept last : KeptEngine V) (volume : V) (pairs : List (Line × LineOutcome)) (closing : After) → kept_given kept ≤ kept_end kept
      → KeepsLines seen moment left_at tells faults identity limit (run_from (opening_of kept)) pairs kept last → IsClosed tells seen moment left_at faults identity last volume closing
      → LeavesSince tells seen moment left_at faults identity (opening_of kept) limit kept volume pairs
  leaves_closed laws limit kept last volume pairs closing within made is = λ start told keeps.
      let so_far = laws.goes_on (opening_of kept) limit start [] pairs kept last told within keeps made in
      subst (λ (v : V). LeavesRun seen moment left_at (opening_of kept) limit start v pairs) (sym is.volume_is)
      (laws.ends (opening_of kept) limit start pairs last is.behind closing so_far (is.ends told (opening_of kept) (log_of (opening_of kept) limit pairs) so_far.keeps))

  leaves_last : RunLaws → (limit : ℕ) (kept last : KeptEngine V) (volume : V) (pairs : List (Line × LineOutcome)) → kept_given kept ≤ kept_end kept
      → KeepsLines seen moment left_at tells faults identity limit (run_from (opening_of kept)) pairs kept last → IsClosed tells seen moment left_at faults identity last volume Goes
      → LeavesLast tells seen moment left_at faults identity (opening_of kept) limit kept volume pairs
  leaves_last laws limit kept last volume pairs within made is = record {
    state = λ start told keeps. subst (λ (v : V). CrashLeaves moment left_at v (λ files. Recovers files (closed (state_after_all (opening_of kept) (log_of (opening_of kept) limit pairs))))) (sym is.volume_is)
        ((ended start told keeps).done refl);
    alone = λ start told keeps. subst (λ (v : V). CrashLeaves moment left_at v (StandsAlone ((kept_span kept).number + checkpoints_of (kept_depth kept) limit (run_from (opening_of kept)) (progress_of kept) pairs + 1))) (sym is.volume_is)
        (subst (λ (n : ℕ). CrashLeaves moment left_at (kept_volume is.behind) (StandsAlone n)) number ((ended start told keeps).alone refl));
  }
    where
      ended : (start : V) → tells → KeepsSoFar seen moment left_at (opening_of kept) limit start [] kept → Ends seen moment left_at (opening_of kept) (log_of (opening_of kept) limit pairs) last is.behind Goes
      ended start told keeps =
          let so_far = laws.goes_on (opening_of kept) limit start [] pairs kept last told within keeps made in
          is.ends told (opening_of kept) (log_of (opening_of kept) limit pairs) so_far.keeps

      number : (kept_span last).number + 1 ≡ (kept_span kept).number + checkpoints_of (kept_depth kept) limit (run_from (opening_of kept)) (progress_of kept) pairs + 1
      number = number_behind (kept_depth kept) limit (run_from (opening_of kept)) (progress_of kept) (progress_of last) pairs (laws.progress limit (run_from (opening_of kept)) pairs kept last within made)

  -- a run whose lines all ran ends as its closing does
  pub ends_by_closing : RunLaws → (limit : ℕ) (lines : List Line) (kept last : KeptEngine V) (volume : V) (before between now : Option (List ℕ)) (faults_before faults_between faults_after status : ℕ) (pairs : List (Line × LineOutcome)) (closing : After)
      → kept_given kept ≤ kept_end kept → AreOutcomesOf (opening_of kept) limit lines pairs → between ≡ append_known before (run_transcript (opening_of kept) limit pairs) → faults_between ≡ faults_before
      → KeepsLines seen moment left_at tells faults identity limit (run_from (opening_of kept)) pairs kept last
      → status ≡ status_of_closing closing → SaysClosing between now faults_between faults_after closing → IsClosed tells seen moment left_at faults identity last volume closing
      → Ended limit lines kept volume before now faults_before faults_after status
  ends_by_closing laws limit lines kept last volume before between now faults_before faults_between faults_after status pairs Goes within outcomes took sound made ends says is = (
    done,
    ends,
    (
      says.1 ∙ sound,
      ap faults is.volume_is ∙ is.counts.sound goes_on_without ∙ (laws.counts limit (run_from (opening_of kept)) pairs kept last made).sound goes_on_without,
      (pairs, outcomes, says.0 ∙ took, leaves_closed laws limit kept last volume pairs Goes within made is, leaves_last laws limit kept last volume pairs within made is),
    ),
  )
  ends_by_closing laws limit lines kept last volume before between now faults_before faults_between faults_after status pairs Fault within outcomes took sound made ends says is = (
    volume_failed,
    ends,
    (
      subst (λ (n : ℕ). n < faults volume) ((laws.counts limit (run_from (opening_of kept)) pairs kept last made).sound goes_on_without) (subst (λ (v : V). faults (kept_volume last) < faults v) (sym is.volume_is) (is.counts.fault refl)),
      (
        pairs,
        inl outcomes,
        inl (subst (λ (n : ℕ). Says (append_known before (run_transcript (opening_of kept) limit pairs)) now n faults_after (last_line (codes "volume"))) sound
            (subst (λ (bytes : Option (List ℕ)). Says bytes now faults_between faults_after (last_line (codes "volume"))) took says)),
        leaves_closed laws limit kept last volume pairs Fault within made is,
      ),
    ),
  )
  ends_by_closing laws limit lines kept last volume before between now faults_before faults_between faults_after status pairs Memory within outcomes took sound made ends says is = (
    want_of_memory,
    ends,
    (
      says.1 ∙ sound,
      ap faults is.volume_is ∙ is.counts.sound lacks_without ∙ (laws.counts limit (run_from (opening_of kept)) pairs kept last made).sound goes_on_without,
      inr (
        pairs,
        length lines,
        inl (subst (λ (all : List Line). AreOutcomesOf (opening_of kept) limit all pairs) (sym (take_all (length lines) lines (omega arith))) outcomes),
        says.0 ∙ took,
        leaves_closed laws limit kept last volume pairs Memory within made is,
      ),
    ),
  )

  -- ---- where it stops at a line

  abbrev Holds : KeptEngine V → EngineState
  Holds kept = (kept_logged kept).engine

  abbrev IsStopped : Flushed → ℕ → KeptEngine V → SessionEngine (KeptEngine V) → List Line → List Line → List (Line × LineOutcome) → Type 0
  IsStopped told limit kept engine gone left pairs =
      Stopped Holds (MakesEntries seen moment left_at) (FlushesLog seen moment left_at tells faults identity) told (opening_of kept) limit kept engine gone left pairs

  abbrev Stands : LineFault → ℕ → KeptEngine V → SessionEngine (KeptEngine V) → List Line → List Line → Option (List ℕ) → Option (List ℕ) → Type 0
  Stands why limit kept engine gone left before now =
      StandsBy Holds (MakesEntries seen moment left_at) (FlushesLog seen moment left_at tells faults identity) why (opening_of kept) limit kept engine gone left before now

  leaves_stopped : RunLaws → (told : Flushed) (limit : ℕ) (kept : KeptEngine V) (engine : SessionEngine (KeptEngine V)) (volume : V) (gone left : List Line) (pairs : List (Line × LineOutcome)) → kept_given kept ≤ kept_end kept
      → volume ≡ kept_volume (run_engine engine) → IsStopped told limit kept engine gone left pairs → LeavesSince tells seen moment left_at faults identity (opening_of kept) limit kept volume pairs
  leaves_stopped laws told limit kept engine volume gone left pairs within same stopped = λ start tell keeps.
      subst (λ (v : V). LeavesRun seen moment left_at (opening_of kept) limit start v pairs) (sym same)
      (laws.stops (opening_of kept) limit start [] pairs kept (run_engine engine) told tell within keeps stopped.lines_made)

  -- each line, also the last, was answered as in any run
  plain_outcomes : (told : Flushed) (limit : ℕ) (kept : KeptEngine V) (engine : SessionEngine (KeptEngine V)) (gone left : List Line) (pairs : List (Line × LineOutcome)) → told.flush ≡ Kept
      → IsStopped told limit kept engine gone left pairs → AreOutcomesOf (opening_of kept) limit gone pairs
  plain_outcomes told limit kept engine gone left pairs is stopped = (stopped.outcomes.0, stopped.plain is, stopped.outcomes.1)

  -- the last line flushes the log, and its outcome is that of the flush
  stops_at : (may_be : LineOutcome → Bool) (told : Flushed) (limit : ℕ) (kept : KeptEngine V) (engine : SessionEngine (KeptEngine V)) (gone left : List Line) (pairs : List (Line × LineOutcome))
      → told.after ≢ Goes → ((made : KeptEngine V) → FlushesLog seen moment left_at tells faults identity made (run_engine engine) told → may_be (outcome_of_flush told.flush) ≡ true)
      → IsStopped told limit kept engine gone left pairs → StopsAtFlush may_be (opening_of kept) limit gone pairs
  stops_at may_be told limit kept engine gone left pairs stays fits stopped = by chain.stops.flush
    where
      chain : HasStopped (MakesEntries seen moment left_at) (FlushesLog seen moment left_at tells faults identity) limit (run_from (opening_of kept)) pairs kept (run_engine engine) told
      chain = stopped.lines_made

      behind : RunState
      behind = run_after_all limit (run_from (opening_of kept)) chain.before

      by : ((is_acknowledged limit behind chain.line chain.outcome ≡ false) × (run_engine engine ≡ chain.stops.between) × (told ≡ nothing_flushed))
          ⊎ ((flushes limit behind chain.line ≡ true) × (chain.outcome ≡ outcome_of_flush told.flush) × FlushesLog seen moment left_at tells faults identity chain.stops.between (run_engine engine) told)
          → StopsAtFlush may_be (opening_of kept) limit gone pairs
      by (inl quiet) = let never : ⊥ = stays (ap (λ (t : Flushed). t.after) quiet.2) in absurd never
      by (inr flushed) = record {
        outcomes = stopped.outcomes;
        before = chain.before;
        last = chain.line;
        outcome = chain.outcome;
        pairs_are = chain.pairs_are;
        plain = stopped.plain_before;
        flushes_log = flushed.0;
        outcome_is = ap may_be flushed.1 ∙ fits chain.stops.between flushed.2;
      }

  by_fault : (flush : Flush) (after : After) → after ≡ Fault → (flush ≡ NoRoom → after ≡ Memory) → is_by_fault (outcome_of_flush flush) ≡ true
  by_fault Kept after is no_room = refl
  by_fault Failed after is no_room = refl
  by_fault NoRoom after is no_room = fault_lacks (sym (no_room refl) ∙ is)

  stops_by_fault : (told : Flushed) (limit : ℕ) (kept : KeptEngine V) (engine : SessionEngine (KeptEngine V)) (gone left : List Line) (pairs : List (Line × LineOutcome)) → told.after ≡ Fault
      → IsStopped told limit kept engine gone left pairs → StopsAtFlush is_by_fault (opening_of kept) limit gone pairs
  stops_by_fault told limit kept engine gone left pairs is stopped =
      stops_at is_by_fault told limit kept engine gone left pairs (λ goes. fault_goes (sym goes ∙ is)) (λ made flushed. by_fault told.flush told.after is flushed.tells.no_room) stopped

  -- without memory for an image the line was answered, or its bytes had found no room
  lacks_image : (told : Flushed) (limit : ℕ) (kept : KeptEngine V) (engine : SessionEngine (KeptEngine V)) (gone left : List Line) (pairs : List (Line × LineOutcome)) (flush : Flush) → told.flush ≡ flush → told.after ≡ Memory
      → IsStopped told limit kept engine gone left pairs → AreOutcomesOf (opening_of kept) limit gone pairs ⊎ StopsAtFlush is_unserved (opening_of kept) limit gone pairs
  lacks_image told limit kept engine gone left pairs Kept flush_is is stopped = inl (plain_outcomes told limit kept engine gone left pairs flush_is stopped)
  lacks_image told limit kept engine gone left pairs Failed flush_is is stopped =
      inr (stops_at is_unserved told limit kept engine gone left pairs (λ goes. memory_goes (sym goes ∙ is)) (λ made flushed. fault_lacks (sym is ∙ flushed.tells.failed flush_is)) stopped)
  lacks_image told limit kept engine gone left pairs NoRoom flush_is is stopped =
      inr (stops_at is_unserved told limit kept engine gone left pairs (λ goes. memory_goes (sym goes ∙ is)) (λ made flushed. ap (λ (f : Flush). is_unserved (outcome_of_flush f)) flush_is) stopped)

  -- the volume's count, where its fault stopped the run, and where it did not
  rose : RunLaws → (told : Flushed) (limit : ℕ) (kept : KeptEngine V) (engine : SessionEngine (KeptEngine V)) (volume : V) (gone left : List Line) (pairs : List (Line × LineOutcome)) → volume ≡ kept_volume (run_engine engine)
      → told.after ≡ Fault → IsStopped told limit kept engine gone left pairs → faults (kept_volume kept) < faults volume
  rose laws told limit kept engine volume gone left pairs same is stopped =
      subst (λ (v : V). faults (kept_volume kept) < faults v) (sym same) ((laws.stop_counts limit (run_from (opening_of kept)) pairs kept (run_engine engine) told stopped.lines_made).fault is)

  stayed : RunLaws → (told : Flushed) (limit : ℕ) (kept : KeptEngine V) (engine : SessionEngine (KeptEngine V)) (volume : V) (gone left : List Line) (pairs : List (Line × LineOutcome)) → volume ≡ kept_volume (run_engine engine)
      → told.after ≢ Fault → IsStopped told limit kept engine gone left pairs → faults volume ≡ faults (kept_volume kept)
  stayed laws told limit kept engine volume gone left pairs same is stopped =
      ap faults same ∙ (laws.stop_counts limit (run_from (opening_of kept)) pairs kept (run_engine engine) told stopped.lines_made).sound is

  pub ends_by_stop : RunLaws → (limit : ℕ) (lines : List Line) (kept : KeptEngine V) (engine : SessionEngine (KeptEngine V)) (volume : V) (before between now : Option (List ℕ)) (faults_before faults_between faults_after status : ℕ) (why : LineFault) (count : ℕ)
      → kept_given kept ≤ kept_end kept → Stands why limit kept engine (take count lines) (drop count lines) before between → CountsSink why faults_before faults_between
      → status ≡ status_of_stop why → SaysStop between now faults_between faults_after why → volume ≡ kept_volume (run_engine engine)
      → Ended limit lines kept volume before now faults_before faults_after status
  ends_by_stop laws limit lines kept engine volume before between now faults_before faults_between faults_after status fault.Memory count within so_far sink ends says same = (
    want_of_memory,
    ends,
    (
      says.1 ∙ sink,
      ap faults same ∙ (laws.counts limit (run_from (opening_of kept)) so_far.pairs kept (run_engine engine) so_far.lines_made).sound goes_on_without,
      inr (
        so_far.pairs,
        count,
        inl so_far.outcomes,
        says.0 ∙ so_far.taken,
        λ start tell keeps. subst (λ (v : V). LeavesRun seen moment left_at (opening_of kept) limit start v so_far.pairs) (sym same)
            (laws.now (opening_of kept) limit start so_far.pairs (run_engine engine) (laws.goes_on (opening_of kept) limit start [] so_far.pairs kept (run_engine engine) tell within keeps so_far.lines_made)),
      ),
    ),
  )
  ends_by_stop laws limit lines kept engine volume before between now faults_before faults_between faults_after status fault.Sink count within stands sink ends says same =
      let told : Flushed = stands.0 in
      let run = stands.3 in
      let pairs : List (Line × LineOutcome) = run.0 in
      let stopped = run.1 in
      let front = run.2 in (
        sink_failed,
        ends,
        (
          subst (λ (n : ℕ). faults_before < n) (sym says.1) sink,
          stayed laws told limit kept engine volume (take count lines) (drop count lines) pairs same stands.2 stopped,
          (
            pairs,
            count,
            front.0,
            plain_outcomes told limit kept engine (take count lines) (drop count lines) pairs stands.1 stopped,
            front.1,
            says.0 ∙ front.2,
            leaves_stopped laws told limit kept engine volume (take count lines) (drop count lines) pairs within same stopped,
          ),
        ),
      )
  ends_by_stop laws limit lines kept engine volume before between now faults_before faults_between faults_after status fault.Volume count within stands sink ends says same =
      let told : Flushed = stands.0 in
      let run = stands.2 in
      let pairs : List (Line × LineOutcome) = run.0 in
      let stopped = run.1 in (
        volume_failed,
        ends,
        (
          rose laws told limit kept engine volume (take count lines) (drop count lines) pairs same stands.1 stopped,
          (
            pairs,
            inr (count, stops_by_fault told limit kept engine (take count lines) (drop count lines) pairs stands.1 stopped),
            inl (subst (λ (n : ℕ). Says (append_known before (run_transcript (opening_of kept) limit pairs)) now n faults_after (last_line (codes "volume"))) sink
                (subst (λ (bytes : Option (List ℕ)). Says bytes now faults_between faults_after (last_line (codes "volume"))) run.2 says)),
            leaves_stopped laws told limit kept engine volume (take count lines) (drop count lines) pairs within same stopped,
          ),
        ),
      )
  ends_by_stop laws limit lines kept engine volume before between now faults_before faults_between faults_after status fault.VolumeAndSink count within stands sink ends says same =
      let told : Flushed = stands.0 in
      let run = stands.2 in
      let pairs : List (Line × LineOutcome) = run.0 in
      let stopped = run.1 in
      let front = run.2 in (
        volume_failed,
        ends,
        (
          rose laws told limit kept engine volume (take count lines) (drop count lines) pairs same stands.1 stopped,
          (
            pairs,
            inr (count, stops_by_fault told limit kept engine (take count lines) (drop count lines) pairs stands.1 stopped),
            inr (front.0, front.1, says.0 ∙ front.2, subst (λ (n : ℕ). faults_before < n) (sym says.1) sink),
            leaves_stopped laws told limit kept engine volume (take count lines) (drop count lines) pairs within same stopped,
          ),
        ),
      )
  ends_by_stop laws limit lines kept engine volume before between now faults_before faults_between faults_after status fault.Image count within stands sink ends says same =
      let told : Flushed = stands.0 in
      let run = stands.2 in
      let pairs : List (Line × LineOutcome) = run.0 in
      let stopped = run.1 in (
        want_of_memory,
        ends,
        (
          says.1 ∙ sink,
          stayed laws told limit kept engine volume (take count lines) (drop count lines) pairs same (λ is. fault_lacks (sym stands.1 ∙ is)) stopped,
          inr (
            pairs,
            count,
            lacks_image told limit kept engine (take count lines) (drop count lines) pairs told.flush refl stands.1 stopped,
            says.0 ∙ run.2,
            leaves_stopped laws told limit kept engine volume (take count lines) (drop count lines) pairs within same stopped,
          ),
        ),
      )

  -- ---- with what the calls tell of each other's engines

  pub ends_where_all_ran : RunLaws → (limit : ℕ) (lines : List Line) (kept : KeptEngine V) (engine : SessionEngine (KeptEngine V)) (last : KeptEngine V) (volume : V) (before between now : Option (List ℕ)) (faults_before faults_between faults_after status : ℕ) (pairs : List (Line × LineOutcome)) (closing : After)
      → last ≡ run_engine engine → kept_given kept ≤ kept_end kept → AreOutcomesOf (opening_of kept) limit lines pairs → between ≡ append_known before (run_transcript (opening_of kept) limit pairs) → faults_between ≡ faults_before
      → KeepsLines seen moment left_at tells faults identity limit (run_from (opening_of kept)) pairs kept (run_engine engine)
      → status ≡ status_of_closing closing → SaysClosing between now faults_between faults_after closing → IsClosed tells seen moment left_at faults identity last volume closing
      → Ended limit lines kept volume before now faults_before faults_after status
  ends_where_all_ran laws limit lines kept engine last volume before between now faults_before faults_between faults_after status pairs closing same within outcomes took sound made ends says is =
      ends_by_closing laws limit lines kept last volume before between now faults_before faults_between faults_after status pairs closing within outcomes took sound
      (subst (λ (l : KeptEngine V). KeepsLines seen moment left_at tells faults identity limit (run_from (opening_of kept)) pairs kept l) (sym same) made) ends says is

  pub same_where_all_ran : RunLaws → (limit : ℕ) (kept : KeptEngine V) (engine : SessionEngine (KeptEngine V)) (last : KeptEngine V) (volume : V) (pairs : List (Line × LineOutcome)) (closing : After) → last ≡ run_engine engine
      → KeepsLines seen moment left_at tells faults identity limit (run_from (opening_of kept)) pairs kept (run_engine engine) → IsClosed tells seen moment left_at faults identity last volume closing
      → identity volume ≡ identity (kept_volume kept)
  same_where_all_ran laws limit kept engine last volume pairs closing same made is =
      ap identity is.volume_is ∙ is.counts.same ∙ ap (λ (k : KeptEngine V). identity (kept_volume k)) same ∙ (laws.counts limit (run_from (opening_of kept)) pairs kept (run_engine engine) made).same

  same_stopped : RunLaws → (told : Flushed) (limit : ℕ) (kept : KeptEngine V) (engine : SessionEngine (KeptEngine V)) (volume : V) (gone left : List Line) (pairs : List (Line × LineOutcome)) → volume ≡ kept_volume (run_engine engine)
      → IsStopped told limit kept engine gone left pairs → identity volume ≡ identity (kept_volume kept)
  same_stopped laws told limit kept engine volume gone left pairs same stopped =
      ap identity same ∙ (laws.stop_counts limit (run_from (opening_of kept)) pairs kept (run_engine engine) told stopped.lines_made).same

  pub same_where_stopped : RunLaws → (limit : ℕ) (lines : List Line) (kept : KeptEngine V) (engine : SessionEngine (KeptEngine V)) (volume : V) (before between : Option (List ℕ)) (why : LineFault) (count : ℕ)
      → Stands why limit kept engine (take count lines) (drop count lines) before between → volume ≡ kept_volume (run_engine engine) → identity volume ≡ identity (kept_volume kept)
  same_where_stopped laws limit lines kept engine volume before between fault.Memory count so_far same =
      ap identity same ∙ (laws.counts limit (run_from (opening_of kept)) so_far.pairs kept (run_engine engine) so_far.lines_made).same
  same_where_stopped laws limit lines kept engine volume before between fault.Sink count stands same =
      let run = stands.3 in same_stopped laws stands.0 limit kept engine volume (take count lines) (drop count lines) run.0 same run.1
  same_where_stopped laws limit lines kept engine volume before between fault.Volume count stands same =
      let run = stands.2 in same_stopped laws stands.0 limit kept engine volume (take count lines) (drop count lines) run.0 same run.1
  same_where_stopped laws limit lines kept engine volume before between fault.VolumeAndSink count stands same =
      let run = stands.2 in same_stopped laws stands.0 limit kept engine volume (take count lines) (drop count lines) run.0 same run.1
  same_where_stopped laws limit lines kept engine volume before between fault.Image count stands same =
      let run = stands.2 in same_stopped laws stands.0 limit kept engine volume (take count lines) (drop count lines) run.0 same run.1

  -- the sessions stand beside the same engine
  pub begins_for : (engine : SessionEngine (KeptEngine V)) (kept : KeptEngine V) (lines : List Line) → run_engine engine ≡ kept → BeginsRun Holds (opening_of kept) engine lines → BeginsRun Holds (opening_of (run_engine engine)) engine lines
  begins_for engine kept lines same begins = subst (λ (k : KeptEngine V). BeginsRun Holds (opening_of k) engine lines) (sym same) begins

  pub ends_for : (one other : KeptEngine V) (lines : List Line) (volume : V) (before now : Option (List ℕ)) (faults_before faults_after status : ℕ) → one ≡ other
      → Ended (kept_logged one).engine.limit lines one volume before now faults_before faults_after status → Ended (kept_logged other).engine.limit lines other volume before now faults_before faults_after status
  ends_for one other lines volume before now faults_before faults_after status same ended =
      subst (λ (kept : KeptEngine V). Ended (kept_logged kept).engine.limit lines kept volume before now faults_before faults_after status) same ended

  -- there was no memory for the sessions
  pub ends_unserved : (limit : ℕ) (lines : List Line) (kept given : KeptEngine V) (volume : V) (taken : Option (List ℕ)) (faults_of_sink : ℕ) → given ≡ kept → volume ≡ kept_volume given
      → Ended limit lines kept volume taken taken faults_of_sink faults_of_sink 7
  ends_unserved limit lines kept given volume taken faults_of_sink back same =
      let all : volume ≡ kept_volume kept = same ∙ ap (λ (k : KeptEngine V). kept_volume k) back in (want_of_memory, refl, (refl, ap faults all, inl (refl, all)))
