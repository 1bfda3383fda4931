-- How a call ends that looks at a volume.
use Rattle.std.proofs.Common.{◌≡◌, ◌<◌, ◌⊎◌, inl, inr, refl, sym, ap, subst, ◌∙◌, ℕ, Bool, true, false, true≢false, List, [], codes, length, take, Option, arith}
use Rattle.std.specs.Io.KnownBytes.{append_known}
use Rattle.database_state.specs.State.{DatabaseState}
use Rattle.engine_image.specs.declared.fault.Finding.{Finding}
use Rattle.soft_recovery.specs.declared.refusals.RecoverCause.{RecoverCause}
use Rattle.soft_recovery.specs.declared.refusals.RecoverCause.TheVariants as cause
use Rattle.jet_volume.specs.Image.{Image as Files}
use Rattle.soft_recovery.specs.Opening.{CountsCause}
use Rattle.soft_recovery.specs.Refusals.{IsFromOutside, Refuses}
use Rattle.esentutl.specs.declared.words.Form.{Form}
use Rattle.esentutl.specs.declared.words.Form.TheVariants as form
use Rattle.esentutl.specs.declared.words.Inspection.{Inspection}
use Rattle.esentutl.specs.declared.words.Inspection.TheVariants as inspection
use Rattle.esentutl.specs.declared.words.RunOptions.{RunOptions}
use Rattle.esentutl.specs.About.{Tells}
use Rattle.esentutl.specs.InspectionEnds.{SaysOrLacks, SaysWhy, TellsText}
use Rattle.esentutl.specs.Inspections.{InspectionEnd, told_whole, told_in_part, untold, not_inspected, IsTold, is_finding, is_inspection, line_of_finding, status_of_finding}
use Rattle.esentutl.specs.TopCall.{Outside, Ending, done, bad_words, told, sink_failed_telling, too_long, source_failed, sink_failed, want_of_memory, bad_script, not_opened, volume_failed, recovered, sink_failed_recovering, not_recovered, inspected, VolumeIsSound, IsOpened, OnlyLooks, EndsBy, Says, line_of_cause, status_of, status_of_cause, status_of_inspected, form_of_ending}
use Rattle.esentutl.specs.Volumes.{VolumeSide}
use Rattle.esentutl.specs.Words.{last_line}
use Rattle.esentutl.proofs.Completeness.{below_itself}
use Rattle.esentutl.proofs.Endings.{append_nothing}

-- ---- it was told, or it is refused

module _ (options : RunOptions) (o : Outside) (v : VolumeSide) (opening : DatabaseState) (asked : Inspection) (status : ℕ) where
  abbrev pub EndsInspected : Type 0
  EndsInspected = (ending : Ending) × (status ≡ status_of ending) × (form.Inspection asked ≡ form_of_ending options ending) × EndsBy options o v opening [] ending

  told_ends : (text : List ℕ) → OnlyLooks o v [] → IsOpened o v opening → IsTold v asked opening text → Tells o.taken_before o.taken_after o.sink_before o.sink_after text status → EndsInspected
  told_ends text looks opened is (inl all) = (inspected asked told_whole, all.0, refl, (looks, opened, all.2, (text, is, all.1)))
  told_ends text looks opened is (inr front) = (inspected asked told_in_part, front.0, refl, (looks, opened, front.4, (text, front.1, is, front.2, front.3)))

  pub ends_by_inspecting : (IsText : List ℕ → Type 0) → OnlyLooks o v [] → IsOpened o v opening → ((text : List ℕ) → IsText text → IsTold v asked opening text)
      → TellsText IsText o.taken_before o.taken_after o.sink_before o.sink_after status → EndsInspected
  ends_by_inspecting IsText looks opened made (inl text) = told_ends text.0 looks opened (made text.0 text.1) text.2
  ends_by_inspecting IsText looks opened made (inr lacks) = (inspected asked untold, lacks.0, refl, (looks, opened.0, lacks.1.1, lacks.1.0 ∙ append_nothing o.taken_before))

  found_sound : (why : RecoverCause) → is_finding why ≡ true → CountsCause why o.volume_before o.volume_after → VolumeIsSound o
  found_sound cause.CheckpointCorrupt is counts = counts
  found_sound cause.LogSequenceEnd is counts = counts
  found_sound cause.ReadVerifyFailure is counts = counts
  found_sound (cause.DatabaseCorrupted found) is counts = counts
  found_sound cause.LogFileCorrupt is counts = counts
  found_sound cause.VolumeFault is counts = absurd (true≢false (sym is))
  found_sound cause.OutOfMemory is counts = counts

  pub ends_by_refusal : (why : RecoverCause) → OnlyLooks o v [] → CountsCause why o.volume_before o.volume_after → v.refuses why
      → SaysWhy o.taken_before o.taken_after o.sink_before o.sink_after asked why status → EndsInspected
  ends_by_refusal why looks counts refuses (inl says) = (inspected asked (not_inspected why), says.0, refl, (looks, says.1, counts, refuses))
  ends_by_refusal why looks counts refuses (inr lacks) =
      (inspected asked untold, lacks.0, refl, (looks, found_sound why lacks.2 counts, lacks.1.1, lacks.1.0 ∙ append_nothing o.taken_before))

-- ---- why one is not looked at

module _ (before after : Option (List ℕ)) (faults_before faults_after : ℕ) (asked : Inspection) (status : ℕ) where
  -- a cause that is none of what is found
  pub says_cause : (why : RecoverCause) → is_finding why ≡ false → status ≡ status_of_cause why → Says before after faults_before faults_after (line_of_cause why) → SaysWhy before after faults_before faults_after asked why status
  says_cause cause.CheckpointCorrupt is own says = inl (own, says)
  says_cause cause.LogSequenceEnd is own says = inl (own, says)
  says_cause cause.ReadVerifyFailure is own says = inl (own, says)
  says_cause (cause.DatabaseCorrupted found) is own says = absurd (true≢false is)
  says_cause cause.LogFileCorrupt is own says = inl (own, says)
  says_cause cause.VolumeFault is own says = inl (own, says)
  says_cause cause.OutOfMemory is own says = inl (own, says)

  pub says_found : (why : RecoverCause) (found : Finding) → why ≡ cause.DatabaseCorrupted found → SaysOrLacks before after faults_before faults_after (line_of_finding asked found) (status_of_finding asked) status
      → SaysWhy before after faults_before faults_after asked why status
  says_found why found is says = subst (λ (k : RecoverCause). SaysWhy before after faults_before faults_after asked k status) (sym is) (by says)
    where
      by : SaysOrLacks before after faults_before faults_after (line_of_finding asked found) (status_of_finding asked) status → SaysWhy before after faults_before faults_after asked (cause.DatabaseCorrupted found) status
      by (inl said) = inl (said.0, said.1)
      by (inr lacks) = inr (lacks.0, lacks.1, refl)

  -- where something is found, and is not asked for
  pub says_refusal : (found : Finding) → (asked ≡ inspection.Header) ⊎ ((asked ≡ inspection.Checkpoint) ⊎ ((asked ≡ inspection.Log) ⊎ (asked ≡ inspection.Space))) → status ≡ 3
      → Says before after faults_before faults_after (last_line (codes "JET_errDatabaseCorrupted")) → SaysOrLacks before after faults_before faults_after (line_of_finding asked found) (status_of_finding asked) status
  says_refusal found other own says = by other
    where
      at : (a : Inspection) → asked ≡ a → SaysOrLacks before after faults_before faults_after (line_of_finding a found) (status_of_finding a) status
          → SaysOrLacks before after faults_before faults_after (line_of_finding asked found) (status_of_finding asked) status
      at a is said = subst (λ (k : Inspection). SaysOrLacks before after faults_before faults_after (line_of_finding k found) (status_of_finding k) status) (sym is) said

      by : (asked ≡ inspection.Header) ⊎ ((asked ≡ inspection.Checkpoint) ⊎ ((asked ≡ inspection.Log) ⊎ (asked ≡ inspection.Space)))
          → SaysOrLacks before after faults_before faults_after (line_of_finding asked found) (status_of_finding asked) status
      by (inl is) = at inspection.Header is (inl (own, says))
      by (inr (inl is)) = at inspection.Checkpoint is (inl (own, says))
      by (inr (inr (inl is))) = at inspection.Log is (inl (own, says))
      by (inr (inr (inr is))) = at inspection.Space is (inl (own, says))

-- ---- what follows from it

-- no form but that of an inspection
is_asked : Form → Bool
is_asked (form.Inspection asked) = true
is_asked _ = false

not_asked : {A : Type 0} (f : Form) (asked : Inspection) → is_asked f ≡ false → f ≡ form.Inspection asked → A
unfolding is_asked
not_asked f asked other is = absurd (true≢false (sym (ap is_asked is) ∙ other))

abbrev pub IsAnswered : ℕ → Type 0
IsAnswered status = (status ≡ 0) ⊎ ((status ≡ 3) ⊎ ((status ≡ 7) ⊎ (status ≡ 8)))

finding_status : (asked : Inspection) (why : RecoverCause) (before after : ℕ) → CountsCause why before after → after ≡ before → IsAnswered (status_of_inspected asked why)
finding_status asked cause.CheckpointCorrupt before after counts same = inr (inl refl)
finding_status asked cause.LogSequenceEnd before after counts same = inr (inl refl)
finding_status asked cause.ReadVerifyFailure before after counts same = inr (inl refl)
finding_status inspection.Header (cause.DatabaseCorrupted found) before after counts same = inr (inl refl)
finding_status inspection.Checkpoint (cause.DatabaseCorrupted found) before after counts same = inr (inl refl)
finding_status inspection.Log (cause.DatabaseCorrupted found) before after counts same = inr (inl refl)
finding_status inspection.Space (cause.DatabaseCorrupted found) before after counts same = inr (inl refl)
finding_status inspection.Integrity (cause.DatabaseCorrupted found) before after counts same = inr (inr (inr refl))
finding_status asked cause.LogFileCorrupt before after counts same = inr (inl refl)
finding_status asked cause.VolumeFault before after counts same = below_itself before after counts same
finding_status asked cause.OutOfMemory before after counts same = inr (inr (inl refl))

-- whether the one that is named or another, it ends so
inspects_by : (options : RunOptions) (o : Outside) (v : VolumeSide) (opening : DatabaseState) (text : List ℕ) (ending : Ending) (asked : Inspection) → form_of_ending options ending ≡ form.Inspection asked → o.sink_after ≡ o.sink_before → VolumeIsSound o
    → EndsBy options o v opening text ending → IsAnswered (status_of ending)
unfolding is_asked
inspects_by options o v opening text (inspected looked told_whole) asked is sink volume ends = inl refl
inspects_by options o v opening text (inspected looked told_in_part) asked is sink volume ends = below_itself o.sink_before o.sink_after ends.2 sink
inspects_by options o v opening text (inspected looked untold) asked is sink volume ends = inr (inr (inl refl))
inspects_by options o v opening text (inspected looked (not_inspected why)) asked is sink volume ends = finding_status looked why o.volume_before o.volume_after ends.2 volume
inspects_by options o v opening text done asked is sink volume ends = inl refl
inspects_by options o v opening text bad_words asked is sink volume ends = not_asked form.Unknown asked refl is
inspects_by options o v opening text (told about) asked is sink volume ends = inl refl
inspects_by options o v opening text (sink_failed_telling about) asked is sink volume ends = not_asked (form.About about) asked refl is
inspects_by options o v opening text too_long asked is sink volume ends = not_asked (form.OrderedRun options) asked refl is
inspects_by options o v opening text source_failed asked is sink volume ends = not_asked (form.OrderedRun options) asked refl is
inspects_by options o v opening text sink_failed asked is sink volume ends = not_asked (form.OrderedRun options) asked refl is
inspects_by options o v opening text want_of_memory asked is sink volume ends = inr (inr (inl refl))
inspects_by options o v opening text (bad_script number) asked is sink volume ends = not_asked (form.OrderedRun options) asked refl is
inspects_by options o v opening text (not_opened why) asked is sink volume ends = not_asked (form.OrderedRun options) asked refl is
inspects_by options o v opening text volume_failed asked is sink volume ends = not_asked (form.OrderedRun options) asked refl is
inspects_by options o v opening text recovered asked is sink volume ends = inl refl
inspects_by options o v opening text sink_failed_recovering asked is sink volume ends = not_asked form.Recovery asked refl is
inspects_by options o v opening text (not_recovered why) asked is sink volume ends = not_asked form.Recovery asked refl is

pub inspects_told : (options : RunOptions) (o : Outside) (v : VolumeSide) (opening : DatabaseState) (text : List ℕ) (ending : Ending) (asked : Inspection) (status : ℕ) → form_of_ending options ending ≡ form.Inspection asked → o.sink_after ≡ o.sink_before
    → VolumeIsSound o → EndsBy options o v opening text ending → status ≡ status_of ending → IsAnswered status
inspects_told options o v opening text ending asked status form sink volume ends is = subst IsAnswered (sym is) (inspects_by options o v opening text ending asked form sink volume ends)

-- nothing is written
only_looks_by : (options : RunOptions) (o : Outside) (v : VolumeSide) (opening : DatabaseState) (text : List ℕ) (ending : Ending) → is_inspection (form_of_ending options ending) ≡ true → EndsBy options o v opening text ending → v.is_unwritten
only_looks_by options o v opening text (inspected asked told_whole) is ends = ends.0.2
only_looks_by options o v opening text (inspected asked told_in_part) is ends = ends.0.2
only_looks_by options o v opening text (inspected asked untold) is ends = ends.0.2
only_looks_by options o v opening text (inspected asked (not_inspected why)) is ends = ends.0.2
only_looks_by options o v opening text done is ends = absurd (true≢false (sym is))
only_looks_by options o v opening text bad_words is ends = absurd (true≢false (sym is))
only_looks_by options o v opening text (told about) is ends = absurd (true≢false (sym is))
only_looks_by options o v opening text (sink_failed_telling about) is ends = absurd (true≢false (sym is))
only_looks_by options o v opening text too_long is ends = absurd (true≢false (sym is))
only_looks_by options o v opening text source_failed is ends = absurd (true≢false (sym is))
only_looks_by options o v opening text sink_failed is ends = absurd (true≢false (sym is))
only_looks_by options o v opening text want_of_memory is ends = absurd (true≢false (sym is))
only_looks_by options o v opening text (bad_script number) is ends = absurd (true≢false (sym is))
only_looks_by options o v opening text (not_opened why) is ends = absurd (true≢false (sym is))
only_looks_by options o v opening text volume_failed is ends = absurd (true≢false (sym is))
only_looks_by options o v opening text recovered is ends = absurd (true≢false (sym is))
only_looks_by options o v opening text sink_failed_recovering is ends = absurd (true≢false (sym is))
only_looks_by options o v opening text (not_recovered why) is ends = absurd (true≢false (sym is))

pub only_looks_told : (options : RunOptions) (o : Outside) (v : VolumeSide) (opening : DatabaseState) (text : List ℕ) (ending : Ending) (asked : Form) → asked ≡ form_of_ending options ending → is_inspection asked ≡ true → EndsBy options o v opening text ending → v.is_unwritten
only_looks_told options o v opening text ending asked form is ends = only_looks_by options o v opening text ending (ap is_inspection (sym form) ∙ is) ends

-- ---- what is found

abbrev pub Finds : VolumeSide → Form → Type 0
Finds v asked = (asked ≡ form.Inspection inspection.Integrity) × ((found : Finding) × v.refuses (cause.DatabaseCorrupted found))

cause_finds : {A : Type 0} (why : RecoverCause) → status_of_cause why ≡ 8 → A
cause_finds cause.CheckpointCorrupt is = absurd (omega (arith, is))
cause_finds cause.LogSequenceEnd is = absurd (omega (arith, is))
cause_finds cause.ReadVerifyFailure is = absurd (omega (arith, is))
cause_finds (cause.DatabaseCorrupted found) is = absurd (omega (arith, is))
cause_finds cause.LogFileCorrupt is = absurd (omega (arith, is))
cause_finds cause.VolumeFault is = absurd (omega (arith, is))
cause_finds cause.OutOfMemory is = absurd (omega (arith, is))

inspected_finds : (v : VolumeSide) (asked : Inspection) (why : RecoverCause) → v.refuses why → status_of_inspected asked why ≡ 8 → Finds v (form.Inspection asked)
inspected_finds v inspection.Header (cause.DatabaseCorrupted found) refuses is = absurd (omega (arith, is))
inspected_finds v inspection.Checkpoint (cause.DatabaseCorrupted found) refuses is = absurd (omega (arith, is))
inspected_finds v inspection.Log (cause.DatabaseCorrupted found) refuses is = absurd (omega (arith, is))
inspected_finds v inspection.Space (cause.DatabaseCorrupted found) refuses is = absurd (omega (arith, is))
inspected_finds v inspection.Integrity (cause.DatabaseCorrupted found) refuses is = (refl, (found, refuses))
inspected_finds v asked cause.CheckpointCorrupt refuses is = absurd (omega (arith, is))
inspected_finds v asked cause.LogSequenceEnd refuses is = absurd (omega (arith, is))
inspected_finds v asked cause.ReadVerifyFailure refuses is = absurd (omega (arith, is))
inspected_finds v asked cause.LogFileCorrupt refuses is = absurd (omega (arith, is))
inspected_finds v asked cause.VolumeFault refuses is = absurd (omega (arith, is))
inspected_finds v asked cause.OutOfMemory refuses is = absurd (omega (arith, is))

finds_by : (options : RunOptions) (o : Outside) (v : VolumeSide) (opening : DatabaseState) (text : List ℕ) (ending : Ending) → EndsBy options o v opening text ending → status_of ending ≡ 8 → Finds v (form_of_ending options ending)
finds_by options o v opening text (inspected asked told_whole) ends is = absurd (omega (arith, is))
finds_by options o v opening text (inspected asked told_in_part) ends is = absurd (omega (arith, is))
finds_by options o v opening text (inspected asked untold) ends is = absurd (omega (arith, is))
finds_by options o v opening text (inspected asked (not_inspected why)) ends is = inspected_finds v asked why ends.3 is
finds_by options o v opening text done ends is = absurd (omega (arith, is))
finds_by options o v opening text bad_words ends is = absurd (omega (arith, is))
finds_by options o v opening text (told about) ends is = absurd (omega (arith, is))
finds_by options o v opening text (sink_failed_telling about) ends is = absurd (omega (arith, is))
finds_by options o v opening text too_long ends is = absurd (omega (arith, is))
finds_by options o v opening text source_failed ends is = absurd (omega (arith, is))
finds_by options o v opening text sink_failed ends is = absurd (omega (arith, is))
finds_by options o v opening text want_of_memory ends is = absurd (omega (arith, is))
finds_by options o v opening text (bad_script number) ends is = absurd (omega (arith, is))
finds_by options o v opening text (not_opened why) ends is = cause_finds why is
finds_by options o v opening text volume_failed ends is = absurd (omega (arith, is))
finds_by options o v opening text recovered ends is = absurd (omega (arith, is))
finds_by options o v opening text sink_failed_recovering ends is = absurd (omega (arith, is))
finds_by options o v opening text (not_recovered why) ends is = cause_finds why is

pub finds_told : (options : RunOptions) (o : Outside) (v : VolumeSide) (opening : DatabaseState) (text : List ℕ) (ending : Ending) (asked : Form) (status : ℕ) → asked ≡ form_of_ending options ending → status ≡ status_of ending → EndsBy options o v opening text ending
    → status ≡ 8 → Finds v asked
finds_told options o v opening text ending asked status form is ends eight = subst (Finds v) (sym form) (finds_by options o v opening text ending ends (sym is ∙ eight))

-- ---- files

-- what refuses them is not from outside
pub refuses_nothing : (files : Files) (why : RecoverCause) → Refuses files why → IsFromOutside why → ⊥
refuses_nothing files cause.CheckpointCorrupt is outside = outside
refuses_nothing files cause.LogSequenceEnd is outside = outside
refuses_nothing files cause.ReadVerifyFailure is outside = outside
refuses_nothing files (cause.DatabaseCorrupted found) is outside = outside
refuses_nothing files cause.LogFileCorrupt is outside = outside
refuses_nothing files cause.VolumeFault is outside = is
refuses_nothing files cause.OutOfMemory is outside = is

pub only_for : (files : Files) (why other : RecoverCause) → ((files : Files) (one other : RecoverCause) → Refuses files one → Refuses files other → one ≡ other) → Refuses files why → Refuses files other ⊎ IsFromOutside other → (other ≡ why) ⊎ IsFromOutside other
only_for files why other once is (inl refuses) = inl (once files other why refuses is)
only_for files why other once is (inr outside) = inr outside

pub surely_found : (files : Files) (found : Finding) → Refuses files (cause.DatabaseCorrupted found) ⊎ IsFromOutside (cause.DatabaseCorrupted found) → Refuses files (cause.DatabaseCorrupted found)
surely_found files found (inl refuses) = refuses
surely_found files found (inr outside) = absurd outside
