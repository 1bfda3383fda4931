-- How many checkpoints a run of lines writes, and where its log goes on: lengths alone decide it.
use Rattle.std.specs.Prelude.{ℕ, ◌+◌, ◌-◌, List, [], ◌∷◌, length, if◌then◌else◌}
use Rattle.log_grammar.specs.EntryStreams.{stream_bytes}
use Rattle.session_local.specs.Run.{Line, LineOutcome, RunState, entries_of_line, is_acknowledged, run_after}
use Rattle.kept_engine.specs.declared.kept.KeptEngine.{KeptEngine}
use Rattle.kept_engine.specs.Keeping.{kept_end, kept_given, kept_span}
use Rattle.kept_engine.specs.Spans.{LogSpan, span_after}

-- the log of a store by its numbers, and how many bytes it was not given yet
pub record LogProgress : Type 0 where
  pub span : LogSpan
  pub left : ℕ

abbrev pub progress_of : {V : Type 0} → KeptEngine V → LogProgress
progress_of kept = record { span = kept_span kept; left = kept_end kept - kept_given kept }

-- with the bytes of a line's entries
abbrev pub left_with : ℕ → RunState → Line → LineOutcome → LogProgress → ℕ
left_with limit run line outcome progress = progress.left + length (stream_bytes (entries_of_line limit run line outcome))

-- Behind a line that flushes and is answered all bytes are given, those of lines before it that did not flush among them.
abbrev pub progress_after : ℕ → ℕ → RunState → Line → LineOutcome → LogProgress → LogProgress
progress_after depth limit run line outcome progress =
    if is_acknowledged limit run line outcome then record { span = span_after depth progress.span (left_with limit run line outcome progress); left = 0 }
    else record { span = progress.span; left = left_with limit run line outcome progress }

abbrev pub progress_from : ℕ → ℕ → RunState → LogProgress → List (Line × LineOutcome) → LogProgress
progress_from depth limit run progress [] = progress
progress_from depth limit run progress (pair ∷ pairs) = progress_from depth limit (run_after limit run pair.0 pair.1) (progress_after depth limit run pair.0 pair.1 progress) pairs

-- the number of the checkpoints that these lines write
abbrev pub checkpoints_of : ℕ → ℕ → RunState → LogProgress → List (Line × LineOutcome) → ℕ
checkpoints_of depth limit run progress pairs = (progress_from depth limit run progress pairs).span.number - progress.span.number
