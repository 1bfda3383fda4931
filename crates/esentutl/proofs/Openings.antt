-- How a call ends over a volume that was opened, or was not.
use Rattle.std.proofs.Common.{◌≡◌, ◌⊎◌, ◌+◌, ◌-◌, inl, inr, refl, sym, ap, subst, ◌∙◌, ℕ, List, [], length, take, Option, arith}
use Rattle.std.specs.Io.KnownBytes.{append_known}
use Rattle.database_state.specs.State.{DatabaseState}
use Rattle.jet_volume.specs.declared.files.LogStart.{LogStart}
use Rattle.jet_volume.specs.Image.{Image as Files}
use Rattle.jet_volume.specs.Crash.{CrashLeaves, IsSettled, LeavesOnly}
use Rattle.entry_log.specs.LogState.{stream_end}
use Rattle.session_local.specs.Run.{Line, LineOutcome, run_from}
use Rattle.ordered_run.specs.Outcomes.{AreOutcomesOf, run_transcript}
use Rattle.store_core.specs.Stands.{number_of}
use Rattle.recovered_states.specs.Recovers.{Recovers, RecoversUpTo}
use Rattle.soft_recovery.specs.declared.refusals.RecoverCause.{RecoverCause}
use Rattle.soft_recovery.specs.Refusals.{Refuses}
use Rattle.kept_engine.specs.declared.kept.KeptEngine.{KeptEngine}
use Rattle.kept_engine.specs.Checkpoints.{LogProgress, checkpoints_of, progress_of}
use Rattle.kept_engine.specs.Keeping.{kept_depth, kept_end, kept_given, kept_span, kept_volume, Keeps, StandsAlone}
use Rattle.kept_engine.specs.KeptRuns.{KeepsSoFar}
use Rattle.kept_engine.specs.Opening.{opening_of, IsAtOpening, IsOpenedOn}
use Rattle.kept_engine.specs.Spans.{LogSpan}
use Rattle.esentutl.specs.declared.words.Form.TheVariants as form
use Rattle.esentutl.specs.declared.words.RunOptions.{RunOptions}
use Rattle.esentutl.specs.RunEnds.{LeavesLast, LeavesSince, RunEndsBy}
use Rattle.esentutl.specs.TopCall.{Outside, Ending, done, bad_words, told, sink_failed_telling, too_long, source_failed, sink_failed, want_of_memory, bad_script, not_opened, volume_failed, recovered, sink_failed_recovering, not_recovered, inspected, SourceIsSound, Took, IsScript, IsOpened, LeavesOpening, LeavesLines, LeavesClosed, checkpoints_of_run, opened_log, StopsAtFlush, is_unserved, EndsBy, form_of_ending}
use Rattle.esentutl.specs.Volumes.{volume_side}
use Rattle.esentutl.proofs.Endings.{append_nothing}

-- the log of an engine as it was opened
span_is : (span : LogSpan) (n : ℕ) → span.number ≡ n → span.start ≡ span.end → span ≡ record { number = n; start = span.end; end = span.end }
span_is span n number start =
    ap (λ (m : ℕ). record { number = m; start = span.start; end = span.end }) number
    ∙ ap (λ (s : LogStart). record { number = n; start = s; end = span.end }) start

progress_is : (span : LogSpan) (end given number : ℕ) → span.number ≡ number + 1 → span.start ≡ span.end → end ≡ given
    → record { span = span; left = end - given } ≡ opened_log number span.end
progress_is span end given number number_is start none =
    let nothing : end - given ≡ 0 = omega (arith, none) in
    ap (λ (s : LogSpan). record { span = s; left = end - given }) (span_is span (number + 1) number_is start)
    ∙ ap (λ (l : ℕ). record { span = record { number = number + 1; start = span.end; end = span.end }; left = l }) nothing

module _ (tells : Type 0) {V : Type 0} (seen : V → Files) (moment : V → ℕ) (left_at : V → ℕ → Files → Type 0) (faults identity : V → ℕ) where
  -- What is known of a volume that was opened, beside what it was opened with.
  pub record OpenedVolume (options : RunOptions) (old : V) (kept : KeptEngine V) : Type 0 where
    pub opened : IsOpenedOn tells seen moment left_at old kept
    pub begun : IsAtOpening options.span_limit options.depth kept
    pub accepts : tells → (cause : RecoverCause) → Refuses (seen old) cause → ⊥
    pub sound : faults (kept_volume kept) ≡ faults old
    pub recovers : tells → IsSettled moment left_at seen old → (state : DatabaseState) → Recovers (seen old) state → LeavesOnly moment left_at old (kept_volume kept) (λ files. Recovers files state)

  -- a call that ends where a volume was opened
  pub is_opened : (options : RunOptions) (o : Outside) (old : V) (kept : KeptEngine V) (volume : V) → OpenedVolume options old kept → o.volume_before ≡ faults old → o.volume_after ≡ faults volume
      → faults volume ≡ faults (kept_volume kept) → IsOpened o (volume_side tells seen moment left_at old volume) (opening_of kept)
  is_opened options o old kept volume known before after stayed = (after ∙ stayed ∙ known.sound ∙ sym before, known.opened.recovers, known.accepts)

  pub leaves_opening : (options : RunOptions) (old : V) (kept : KeptEngine V) (volume : V) → OpenedVolume options old kept → volume ≡ kept_volume kept
      → LeavesOpening (volume_side tells seen moment left_at old volume) (opening_of kept)
  leaves_opening options old kept volume known same = λ tell settled.
      subst (λ (v : V). LeavesOnly moment left_at old v (λ files. Recovers files (opening_of kept))) (sym same)
      (known.recovers tell settled (opening_of kept) (known.opened.recovers tell))

  -- the checkpoint that was written is the next one, and nothing stands behind it
  pub leaves_next : (options : RunOptions) (old : V) (kept : KeptEngine V) (volume : V) → OpenedVolume options old kept → volume ≡ kept_volume kept
      → (volume_side tells seen moment left_at old volume).checkpoints (λ number end. 1)
  leaves_next options old kept volume known same = λ tell settled checkpoint stream stands.
      let next = known.opened.next tell settled checkpoint stream stands in (
        (kept_span kept).end,
        next.end,
        subst (λ (v : V). CrashLeaves moment left_at v (StandsAlone (number_of checkpoint + 1))) (sym same) (known.opened.alone tell settled checkpoint stream stands),
      )

  -- ---- a run

  -- a run begins where its engine was opened
  abbrev pub BeginsKept : Type 0
  BeginsKept = (opening : DatabaseState) (limit : ℕ) (start : V) (kept : KeptEngine V) → LeavesOnly moment left_at start (kept_volume kept) (RecoversUpTo opening [] 0)
      → Keeps seen moment left_at opening [] kept → KeepsSoFar seen moment left_at opening limit start [] kept

  so_far : BeginsKept → (options : RunOptions) (old : V) (kept : KeptEngine V) → OpenedVolume options old kept → tells → IsSettled moment left_at seen old
      → KeepsSoFar seen moment left_at (opening_of kept) options.span_limit old [] kept
  so_far begins options old kept known tell settled = begins (opening_of kept) options.span_limit old kept (known.opened.any_moment tell settled) (known.opened.keeps tell settled)

  leaves_lines : BeginsKept → (options : RunOptions) (old : V) (kept : KeptEngine V) (volume : V) (pairs : List (Line × LineOutcome)) → OpenedVolume options old kept
      → LeavesSince tells seen moment left_at faults identity (opening_of kept) options.span_limit kept volume pairs
      → LeavesLines (volume_side tells seen moment left_at old volume) (opening_of kept) options.span_limit pairs
  leaves_lines begins options old kept volume pairs known leaves = (
    λ tell settled. (leaves old tell (so_far begins options old kept known tell settled)).any_moment,
    λ tell settled. (leaves old tell (so_far begins options old kept known tell settled)).acknowledged,
  )

  checkpoints_are : (options : RunOptions) (kept : KeptEngine V) (pairs : List (Line × LineOutcome)) (number : ℕ) → IsAtOpening options.span_limit options.depth kept → (kept_span kept).number ≡ number + 1
      → (kept_span kept).number + checkpoints_of (kept_depth kept) options.span_limit (run_from (opening_of kept)) (progress_of kept) pairs + 1
      ≡ number + checkpoints_of_run options (opening_of kept) pairs number (kept_span kept).end
  checkpoints_are options kept pairs number begun next =
      let progress : progress_of kept ≡ opened_log number (kept_span kept).end =
      progress_is (kept_span kept) (kept_end kept) (kept_given kept) number next begun.start (ap stream_end begun.stream ∙ sym begun.given) in
      let same : checkpoints_of (kept_depth kept) options.span_limit (run_from (opening_of kept)) (progress_of kept) pairs
      ≡ checkpoints_of options.depth options.span_limit (run_from (opening_of kept)) (opened_log number (kept_span kept).end) pairs =
      ap (λ (depth : ℕ). checkpoints_of depth options.span_limit (run_from (opening_of kept)) (progress_of kept) pairs) begun.depth_is
      ∙ ap (λ (p : LogProgress). checkpoints_of options.depth options.span_limit (run_from (opening_of kept)) p pairs) progress in
      omega (arith, next, same)

  leaves_closed : BeginsKept → (options : RunOptions) (old : V) (kept : KeptEngine V) (volume : V) (pairs : List (Line × LineOutcome)) → OpenedVolume options old kept
      → LeavesLast tells seen moment left_at faults identity (opening_of kept) options.span_limit kept volume pairs
      → LeavesClosed (volume_side tells seen moment left_at old volume) options (opening_of kept) pairs
  leaves_closed begins options old kept volume pairs known last = (
    λ tell settled. last.state old tell (so_far begins options old kept known tell settled),
    λ tell settled checkpoint stream stands.
        let next = known.opened.next tell settled checkpoint stream stands in (
          (kept_span kept).end,
          next.end,
          subst (λ (n : ℕ). CrashLeaves moment left_at volume (StandsAlone n)) (checkpoints_are options kept pairs (number_of checkpoint) known.begun next.number)
              (last.alone old tell (so_far begins options old kept known tell settled)),
        ),
  )

  -- the run of a script's calls ends the call
  pub ends_by_run : BeginsKept → (options : RunOptions) (o : Outside) (text : List ℕ) (lines : List Line) (old : V) (kept : KeptEngine V) (volume : V) (ending : Ending) → OpenedVolume options old kept
      → o.volume_before ≡ faults old → o.volume_after ≡ faults volume → SourceIsSound o → IsScript o text lines
      → RunEndsBy tells seen moment left_at faults identity options.span_limit lines kept volume o.taken_before o.taken_after o.sink_before o.sink_after ending
      → (form.OrderedRun options ≡ form_of_ending options ending) × EndsBy options o (volume_side tells seen moment left_at old volume) (opening_of kept) text ending
  ends_by_run begins options o text lines old kept volume done known before after sound script run =
      let pairs = run.2 in (
        refl,
        (
          sound,
          run.0,
          is_opened options o old kept volume known before after run.1,
          (lines, pairs.0, script, pairs.1, pairs.2, leaves_lines begins options old kept volume pairs.0 known pairs.3, leaves_closed begins options old kept volume pairs.0 known pairs.4),
        ),
      )
  ends_by_run begins options o text lines old kept volume sink_failed known before after sound script run =
      let pairs = run.2 in (
        refl,
        (
          sound,
          run.0,
          is_opened options o old kept volume known before after run.1,
          (lines, pairs.0, pairs.1, pairs.2, script, pairs.3, pairs.4, pairs.5, leaves_lines begins options old kept volume pairs.0 known pairs.6),
        ),
      )
  ends_by_run begins options o text lines old kept volume want_of_memory known before after sound script run =
      (refl, (sound, run.0, is_opened options o old kept volume known before after run.1, lacks run.2))
    where
      lacks : ((o.taken_after ≡ o.taken_before) × (volume ≡ kept_volume kept))
          ⊎ ((pairs : List (Line × LineOutcome)) × (count : ℕ)
          × (AreOutcomesOf (opening_of kept) options.span_limit (take count lines) pairs ⊎ StopsAtFlush is_unserved (opening_of kept) options.span_limit (take count lines) pairs)
          × (o.taken_after ≡ append_known o.taken_before (run_transcript (opening_of kept) options.span_limit pairs))
          × LeavesSince tells seen moment left_at faults identity (opening_of kept) options.span_limit kept volume pairs)
          → (Took o [] × LeavesOpening (volume_side tells seen moment left_at old volume) (opening_of kept))
          ⊎ ((lines : List Line) × (pairs : List (Line × LineOutcome)) × (count : ℕ) × IsScript o text lines
          × (AreOutcomesOf (opening_of kept) options.span_limit (take count lines) pairs ⊎ StopsAtFlush is_unserved (opening_of kept) options.span_limit (take count lines) pairs)
          × Took o (run_transcript (opening_of kept) options.span_limit pairs) × LeavesLines (volume_side tells seen moment left_at old volume) (opening_of kept) options.span_limit pairs)
      lacks (inl none) = inl (none.0 ∙ append_nothing o.taken_before, leaves_opening options old kept volume known none.1)
      lacks (inr pairs) = inr (lines, pairs.0, pairs.1, script, pairs.2, pairs.3, leaves_lines begins options old kept volume pairs.0 known pairs.4)
  ends_by_run begins options o text lines old kept volume volume_failed known before after sound script run =
      let pairs = run.1 in (
        refl,
        (
          sound,
          omega (arith, run.0, known.sound, before, after),
          known.opened.recovers,
          known.accepts,
          (lines, pairs.0, script, pairs.1, pairs.2, leaves_lines begins options old kept volume pairs.0 known pairs.3),
        ),
      )
  ends_by_run begins options o text lines old kept volume bad_words known before after sound script run = absurd run
  ends_by_run begins options o text lines old kept volume (told topic) known before after sound script run = absurd run
  ends_by_run begins options o text lines old kept volume (sink_failed_telling topic) known before after sound script run = absurd run
  ends_by_run begins options o text lines old kept volume too_long known before after sound script run = absurd run
  ends_by_run begins options o text lines old kept volume source_failed known before after sound script run = absurd run
  ends_by_run begins options o text lines old kept volume (bad_script number) known before after sound script run = absurd run
  ends_by_run begins options o text lines old kept volume (not_opened why) known before after sound script run = absurd run
  ends_by_run begins options o text lines old kept volume recovered known before after sound script run = absurd run
  ends_by_run begins options o text lines old kept volume sink_failed_recovering known before after sound script run = absurd run
  ends_by_run begins options o text lines old kept volume (not_recovered why) known before after sound script run = absurd run
  ends_by_run begins options o text lines old kept volume (inspected asked end) known before after sound script run = absurd run
