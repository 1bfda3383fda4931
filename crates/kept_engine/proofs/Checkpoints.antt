-- How far the log of a run comes on its store.
use Rattle.std.proofs.Common.{◌≡◌, ◌≤◌, ◌+◌, ◌-◌, ℕ, Bool, true, false, List, [], ◌∷◌, ◌++◌, length, refl, sym, ◌∙◌, ap, arith, if◌then◌else◌}
use Rattle.entry_log.specs.LogState.{stream_end}
use Rattle.log_grammar.specs.EntryStreams.{stream_bytes}
use Rattle.log_keeper.specs.declared.keeper.LogKeeper.{LogKeeper}
use Rattle.log_keeper.specs.Keeping.{keeper_given, keeper_store}
use Rattle.session_local.specs.Run.{Line, LineOutcome, RunState, entries_of_line, is_acknowledged, run_after, run_after_all, served}
use Rattle.kept_engine.specs.declared.kept.KeptEngine.{KeptEngine}
use Rattle.ordered_run.specs.declared.flushed.After.TheVariants.{Goes}
use Rattle.ordered_run.specs.declared.flushed.Flushed.{Flushed}
use Rattle.kept_engine.specs.Keeping.{kept_depth, kept_end, kept_given, kept_keeper, kept_logged, kept_span}
use Rattle.kept_engine.specs.Spans.{LogSpan, span_after, span_of}
use Rattle.kept_engine.specs.Told.{TellsFlush}
use Rattle.kept_engine.specs.Checkpoints.{LogProgress, left_with, progress_after, progress_from, progress_of}
use Rattle.kept_engine.proofs.Parts.{end_trimmed}

abbrev progress_with : LogSpan → ℕ → LogProgress
progress_with span left = record { span = span; left = left }

same_progress : (span other : LogSpan) (left more : ℕ) → span ≡ other → left ≡ more → progress_with span left ≡ progress_with other more
same_progress span other left more is same = ap (λ (s : LogSpan). progress_with s left) is ∙ ap (λ (n : ℕ). progress_with other n) same

-- behind a line that flushes and is answered
pub flushed_progress : {V : Type 0} (faults identity : V → ℕ) (limit : ℕ) (run : RunState) (line : Line) (old made new : KeptEngine V) (told : Flushed) → kept_keeper made ≡ kept_keeper old → kept_depth made ≡ kept_depth old
    → kept_end made ≡ kept_end old + length (stream_bytes (entries_of_line limit run line served)) → kept_given old ≤ kept_end old → is_acknowledged limit run line served ≡ true
    → TellsFlush faults identity made new told → told.after ≡ Goes → progress_of new ≡ progress_after (kept_depth old) limit run line served (progress_of old)
flushed_progress {V} faults identity limit run line old made new told same depth end within acknowledged flush goes =
    let kept = flush.goes goes in
    let given : kept_given new ≡ kept_end made = flush.given kept in
    let end_new : kept_end new ≡ kept_end made = ap stream_end (flush.trimmed kept) ∙ end_trimmed (kept_end made) (kept_logged made).stream (omega arith) in
    let left : ℕ = left_with limit run line served (progress_of old) in
    let count : kept_end made - kept_given made ≡ left = omega (arith, end, within, ap (λ (k : LogKeeper V). keeper_given k) same) in
    let span : kept_span new ≡ span_after (kept_depth old) (kept_span old) left =
    flush.span_is goes
    ∙ ap (λ (n : ℕ). span_after (kept_depth made) (kept_span made) n) count
    ∙ ap (λ (n : ℕ). span_after n (kept_span made) left) depth
    ∙ ap (λ (k : LogKeeper V). span_after (kept_depth old) (span_of (keeper_store k)) left) same in
    same_progress (kept_span new) (span_after (kept_depth old) (kept_span old) left) (kept_end new - kept_given new) 0 span (omega (arith, given, end_new))
    ∙ ap (λ (b : Bool). if b then progress_with (span_after (kept_depth old) (kept_span old) left) 0 else progress_with (kept_span old) left) (sym acknowledged)

-- behind any other
pub quiet_progress : {V : Type 0} (limit : ℕ) (run : RunState) (line : Line) (outcome : LineOutcome) (old new : KeptEngine V) → kept_keeper new ≡ kept_keeper old
    → kept_end new ≡ kept_end old + length (stream_bytes (entries_of_line limit run line outcome)) → kept_given old ≤ kept_end old → is_acknowledged limit run line outcome ≡ false
    → progress_of new ≡ progress_after (kept_depth old) limit run line outcome (progress_of old)
quiet_progress {V} limit run line outcome old new same end within quiet =
    let left : ℕ = left_with limit run line outcome (progress_of old) in
    same_progress (kept_span new) (kept_span old) (kept_end new - kept_given new) left (ap (λ (k : LogKeeper V). span_of (keeper_store k)) same) (omega (arith, end, within, ap (λ (k : LogKeeper V). keeper_given k) same))
    ∙ ap (λ (b : Bool). if b then progress_with (span_after (kept_depth old) (kept_span old) left) 0 else progress_with (kept_span old) left) (sym quiet)

-- a line more
pub progress_more : (depth limit : ℕ) (run : RunState) (progress : LogProgress) (pairs : List (Line × LineOutcome)) (line : Line) (outcome : LineOutcome)
    → progress_from depth limit run progress (pairs ++ (line, outcome) ∷ []) ≡ progress_after depth limit (run_after_all limit run pairs) line outcome (progress_from depth limit run progress pairs)
progress_more depth limit run progress [] line outcome = refl
progress_more depth limit run progress (pair ∷ pairs) line outcome = progress_more depth limit (run_after limit run pair.0 pair.1) (progress_after depth limit run pair.0 pair.1 progress) pairs line outcome
