-- What follows from how a call ends, where nothing fails: a script of the grammar runs to its end, one that is outside it is
-- refused, a volume is recovered or refused, and a text that was asked for is written whole.
use Rattle.std.proofs.Common.{◌≡◌, ◌<◌, ◌≤◌, ◌⊎◌, inl, inr, refl, sym, ap, subst, ◌∙◌, ℕ, Bool, true, false, true≢false, List, [], ◌++◌, length, Option, Some, None, Ok, Err, arith}
use Rattle.std.specs.Prelude.{IfSome, IsOk, IsErr, unwrap_or}
use Rattle.std.proofs.lemmas.List.{append-nil}
use Rattle.std.specs.Io.KnownBytes.{prepend_known}
use Rattle.script_text.specs.Grammar.{ScriptResult, script_lines}
use Rattle.database_state.specs.State.{DatabaseState}
use Rattle.session_local.specs.Run.{Line}
use Rattle.soft_recovery.specs.declared.refusals.RecoverCause.{RecoverCause}
use Rattle.soft_recovery.specs.declared.refusals.RecoverCause.TheVariants as cause
use Rattle.soft_recovery.specs.Opening.{CountsCause}
use Rattle.soft_recovery.specs.Refusals.{IsFromOutside}
use Rattle.esentutl.specs.declared.words.Form.{Form}
use Rattle.esentutl.specs.declared.words.Form.TheVariants as form
use Rattle.esentutl.specs.declared.words.RunOptions.{RunOptions}
use Rattle.esentutl.specs.declared.words.Topic.{Topic}
use Rattle.esentutl.specs.About.{text_about}
use Rattle.esentutl.specs.TopCall.{Outside, Ending, done, bad_words, told, sink_failed_telling, too_long, source_failed, sink_failed, want_of_memory, bad_script, not_opened, volume_failed, recovered, sink_failed_recovering, not_recovered, inspected, script_limit, VolumeIsSound, IsScript, Took, EndsBy, status_of, status_of_cause, status_of_inspected, form_of_ending}
use Rattle.esentutl.specs.declared.words.Inspection.{Inspection}
use Rattle.esentutl.specs.Inspections.{told_whole, told_in_part, untold, not_inspected, status_of_refusal, status_of_refused}
use Rattle.esentutl.specs.Volumes.{VolumeSide}
use Rattle.esentutl.specs.Words.{has_volume}
use Rattle.esentutl.proofs.Endings.{prepend_nothing}

pub below_itself : {A : Type 0} (a b : ℕ) → a < b → b ≡ a → A
below_itself a b h e = let never : ⊥ = omega (arith, h, e) in absurd never

-- what was read to its end is all that there was
read_whole : (bytes text : List ℕ) (after : Option (List ℕ)) → Some bytes ≡ prepend_known text after → IfSome after (λ rest. rest ≡ []) → text ≡ bytes
read_whole bytes text None e out = let never : ⊥ = cc in absurd never
read_whole bytes text (Some rest) e out =
    let whole : bytes ≡ text ++ rest = ap (λ o. unwrap_or o []) e in
    sym (whole ∙ ap (λ r. text ++ r) out ∙ append-nil text)

not_both : {A : Type 0} (read : ScriptResult) (number : ℕ) → read ≡ Err number → IsOk read → A
not_both (Ok lines) number e ok = let never : ⊥ = cc in absurd never
not_both (Err n) number e ok = absurd (true≢false (sym ok))

neither : {A : Type 0} (read : ScriptResult) (lines : List Line) → read ≡ Ok lines → IsErr read → A
neither (Ok own) lines e bad = absurd (true≢false (sym bad))
neither (Err n) lines e bad = let never : ⊥ = cc in absurd never

-- ---- the form of the words

is_run : Form → Bool
is_run (form.OrderedRun options) = true
is_run _ = false

is_recovery : Form → Bool
is_recovery form.Recovery = true
is_recovery _ = false

is_text : Form → Bool
is_text (form.About about) = true
is_text _ = false

topic_or : Topic → Form → Topic
topic_or other (form.About about) = about
topic_or other _ = other

not_run : {A : Type 0} (f : Form) (options : RunOptions) → is_run f ≡ false → f ≡ form.OrderedRun options → A
unfolding is_run
not_run f options other is = absurd (true≢false (sym (ap is_run is) ∙ other))

not_recovery : {A : Type 0} (f : Form) → is_recovery f ≡ false → f ≡ form.Recovery → A
unfolding is_recovery
not_recovery f other is = absurd (true≢false (sym (ap is_recovery is) ∙ other))

not_text : {A : Type 0} (f : Form) (asked : Topic) → is_text f ≡ false → f ≡ form.About asked → A
unfolding is_text
not_text f asked other is = absurd (true≢false (sym (ap is_text is) ∙ other))

same_topic : (a b : Topic) → form.About a ≡ form.About b → a ≡ b
unfolding topic_or
same_topic a b is = ap (topic_or a) is

-- ---- a volume that is not opened

unopened_status : (why : RecoverCause) (before after : ℕ) → CountsCause why before after → after ≡ before → (status_of_cause why ≡ 3) ⊎ (status_of_cause why ≡ 7)
unopened_status cause.CheckpointCorrupt before after counts same = inl refl
unopened_status cause.LogSequenceEnd before after counts same = inl refl
unopened_status cause.ReadVerifyFailure before after counts same = inl refl
unopened_status (cause.DatabaseCorrupted found) before after counts same = inl refl
unopened_status cause.LogFileCorrupt before after counts same = inl refl
unopened_status cause.VolumeFault before after counts same = below_itself before after counts same
unopened_status cause.OutOfMemory before after counts same = inr refl

pub outside_status : (why : RecoverCause) → IsFromOutside why → status_of_cause why ≡ 3 → ⊥
outside_status cause.CheckpointCorrupt outside is = outside
outside_status cause.LogSequenceEnd outside is = outside
outside_status cause.ReadVerifyFailure outside is = outside
outside_status (cause.DatabaseCorrupted found) outside is = outside
outside_status cause.LogFileCorrupt outside is = outside
outside_status cause.VolumeFault outside is = omega (arith, is)
outside_status cause.OutOfMemory outside is = omega (arith, is)

-- a cause that refuses nothing is from outside
pub only_outside : {A B : Type 0} → (A → ⊥) → A ⊎ B → B
only_outside none (inl refused) = let never : ⊥ = none refused in absurd never
only_outside none (inr outside) = outside

-- ---- the run of a script

completes_by : (options named : RunOptions) (o : Outside) (v : VolumeSide) (opening : DatabaseState) (bytes text : List ℕ) (ending : Ending) → o.left_before ≡ Some bytes → o.left_before ≡ prepend_known text o.left_after
    → form_of_ending options ending ≡ form.OrderedRun named → o.source_after ≡ o.source_before → o.sink_after ≡ o.sink_before → VolumeIsSound o → EndsBy options o v opening text ending
    → length bytes ≤ script_limit → IsOk (script_lines bytes) → (status_of ending ≡ 0) ⊎ ((status_of ending ≡ 3) ⊎ (status_of ending ≡ 7))
unfolding is_run
completes_by options named o v opening bytes text done left read run source sink volume ends short good = inl refl
completes_by options named o v opening bytes text bad_words left read run source sink volume ends short good = not_run form.Unknown named refl run
completes_by options named o v opening bytes text (told about) left read run source sink volume ends short good = inl refl
completes_by options named o v opening bytes text (sink_failed_telling about) left read run source sink volume ends short good = below_itself o.sink_before o.sink_after ends.1 sink
completes_by options named o v opening bytes text too_long left read run source sink volume ends short good =
    let long : script_limit < length bytes = subst (λ (bytes_left : Option (List ℕ)). IfSome bytes_left (λ b. script_limit < length b)) left ends.2 in
    let never : ⊥ = omega (arith, long, short) in absurd never
completes_by options named o v opening bytes text source_failed left read run source sink volume ends short good = below_itself o.source_before o.source_after ends.0 source
completes_by options named o v opening bytes text sink_failed left read run source sink volume ends short good = below_itself o.sink_before o.sink_after ends.1 sink
completes_by options named o v opening bytes text want_of_memory left read run source sink volume ends short good = inr (inr refl)
completes_by options named o v opening bytes text (bad_script number) left read run source sink volume ends short good =
    let whole = read_whole bytes text o.left_after (sym left ∙ read) ends.2 in
    not_both (script_lines bytes) number (subst (λ (t : List ℕ). script_lines t ≡ Err number) whole ends.4) good
completes_by options named o v opening bytes text (not_opened why) left read run source sink volume ends short good = inr (unopened_status why o.volume_before o.volume_after ends.3 volume)
completes_by options named o v opening bytes text volume_failed left read run source sink volume ends short good = below_itself o.volume_before o.volume_after ends.1 volume
completes_by options named o v opening bytes text recovered left read run source sink volume ends short good = not_run form.Recovery named refl run
completes_by options named o v opening bytes text sink_failed_recovering left read run source sink volume ends short good = not_run form.Recovery named refl run
completes_by options named o v opening bytes text (not_recovered why) left read run source sink volume ends short good = not_run form.Recovery named refl run
completes_by options named o v opening bytes text (inspected asked end) left read run source sink volume ends short good = not_run (form.Inspection asked) named refl run

pub completes_told : (options named : RunOptions) (o : Outside) (v : VolumeSide) (opening : DatabaseState) (text : List ℕ) (ending : Ending) (left : Option (List ℕ)) → o.left_before ≡ left → o.left_before ≡ prepend_known text o.left_after
    → form_of_ending options ending ≡ form.OrderedRun named → o.source_after ≡ o.source_before → o.sink_after ≡ o.sink_before → VolumeIsSound o → EndsBy options o v opening text ending → (status : ℕ) → status ≡ status_of ending
    → IfSome left (λ bytes. length bytes ≤ script_limit → IsOk (script_lines bytes) → (status ≡ 0) ⊎ ((status ≡ 3) ⊎ (status ≡ 7)))
completes_told options named o v opening text ending None told_left read run source sink volume ends status is = tt
completes_told options named o v opening text ending (Some bytes) told_left read run source sink volume ends status is = λ short good.
    subst (λ (s : ℕ). (s ≡ 0) ⊎ ((s ≡ 3) ⊎ (s ≡ 7))) (sym is) (completes_by options named o v opening bytes text ending told_left read run source sink volume ends short good)

-- ---- the refusal of a script

-- a script that is too long, or outside the grammar
abbrev pub IsRefused : List ℕ → Type 0
IsRefused bytes = (script_limit < length bytes) ⊎ IsErr (script_lines bytes)

-- no line of it runs
runs_not : {A : Type 0} (o : Outside) (bytes text : List ℕ) (lines : List Line) → o.left_before ≡ Some bytes → o.left_before ≡ prepend_known text o.left_after
    → IsScript o text lines → IsRefused bytes → A
runs_not {A = A} o bytes text lines left read script refused = by refused
  where
    whole : text ≡ bytes
    whole = read_whole bytes text o.left_after (sym left ∙ read) script.0

    by : IsRefused bytes → A
    by (inl long) =
        let short : length bytes ≤ script_limit = subst (λ (t : List ℕ). length t ≤ script_limit) whole script.1 in
        let never : ⊥ = omega (arith, long, short) in absurd never
    by (inr bad) = neither (script_lines bytes) lines (subst (λ (t : List ℕ). script_lines t ≡ Ok lines) whole script.2) bad

refuses_by : (options named : RunOptions) (o : Outside) (v : VolumeSide) (opening : DatabaseState) (bytes text : List ℕ) (ending : Ending) → o.left_before ≡ Some bytes → o.left_before ≡ prepend_known text o.left_after
    → form_of_ending options ending ≡ form.OrderedRun named → o.source_after ≡ o.source_before → VolumeIsSound o → EndsBy options o v opening text ending
    → IsRefused bytes → (status_of ending ≡ 2) ⊎ ((status_of ending ≡ 3) ⊎ (status_of ending ≡ 7))
unfolding is_run
refuses_by options named o v opening bytes text done left read run source volume ends refused = let run_of = ends.3 in runs_not o bytes text run_of.0 left read run_of.2 refused
refuses_by options named o v opening bytes text bad_words left read run source volume ends refused = not_run form.Unknown named refl run
refuses_by options named o v opening bytes text (told about) left read run source volume ends refused = not_run (form.About about) named refl run
refuses_by options named o v opening bytes text (sink_failed_telling about) left read run source volume ends refused = not_run (form.About about) named refl run
refuses_by options named o v opening bytes text too_long left read run source volume ends refused = inl refl
refuses_by options named o v opening bytes text source_failed left read run source volume ends refused = below_itself o.source_before o.source_after ends.0 source
refuses_by options named o v opening bytes text sink_failed left read run source volume ends refused = let run_of = ends.3 in runs_not o bytes text run_of.0 left read run_of.4 refused
refuses_by options named o v opening bytes text want_of_memory left read run source volume ends refused = inr (inr refl)
refuses_by options named o v opening bytes text (bad_script number) left read run source volume ends refused = inl refl
refuses_by options named o v opening bytes text (not_opened why) left read run source volume ends refused = inr (unopened_status why o.volume_before o.volume_after ends.3 volume)
refuses_by options named o v opening bytes text volume_failed left read run source volume ends refused = below_itself o.volume_before o.volume_after ends.1 volume
refuses_by options named o v opening bytes text recovered left read run source volume ends refused = not_run form.Recovery named refl run
refuses_by options named o v opening bytes text sink_failed_recovering left read run source volume ends refused = not_run form.Recovery named refl run
refuses_by options named o v opening bytes text (not_recovered why) left read run source volume ends refused = not_run form.Recovery named refl run
refuses_by options named o v opening bytes text (inspected asked end) left read run source volume ends refused = not_run (form.Inspection asked) named refl run

pub refuses_told : (options named : RunOptions) (o : Outside) (v : VolumeSide) (opening : DatabaseState) (text : List ℕ) (ending : Ending) (left : Option (List ℕ)) → o.left_before ≡ left → o.left_before ≡ prepend_known text o.left_after
    → form_of_ending options ending ≡ form.OrderedRun named → o.source_after ≡ o.source_before → VolumeIsSound o → EndsBy options o v opening text ending → (status : ℕ) → status ≡ status_of ending
    → IfSome left (λ bytes. IsRefused bytes → (status ≡ 2) ⊎ ((status ≡ 3) ⊎ (status ≡ 7)))
refuses_told options named o v opening text ending None told_left read run source volume ends status is = tt
refuses_told options named o v opening text ending (Some bytes) told_left read run source volume ends status is = λ refused.
    subst (λ (s : ℕ). (s ≡ 2) ⊎ ((s ≡ 3) ⊎ (s ≡ 7))) (sym is) (refuses_by options named o v opening bytes text ending told_left read run source volume ends refused)

-- ---- the refusal of a volume

-- the status of a refusal that is none of what is found
inspected_status : (asked : Inspection) (why : RecoverCause) → status_of_inspected asked why ≡ 3 → status_of_cause why ≡ 3
inspected_status asked cause.CheckpointCorrupt is = refl
inspected_status asked cause.LogSequenceEnd is = refl
inspected_status asked cause.ReadVerifyFailure is = refl
inspected_status asked (cause.DatabaseCorrupted found) is = refl
inspected_status asked cause.LogFileCorrupt is = refl
inspected_status asked cause.VolumeFault is = is
inspected_status asked cause.OutOfMemory is = is

-- with this status the volume is refused for some cause
refused_for : (options : RunOptions) (o : Outside) (v : VolumeSide) (opening : DatabaseState) (text : List ℕ) (ending : Ending) → EndsBy options o v opening text ending → status_of ending ≡ 3
    → (why : RecoverCause) × (status_of_cause why ≡ 3) × v.refuses why
refused_for options o v opening text done ends is = absurd (omega (arith, is))
refused_for options o v opening text bad_words ends is = absurd (omega (arith, is))
refused_for options o v opening text (told about) ends is = absurd (omega (arith, is))
refused_for options o v opening text (sink_failed_telling about) ends is = absurd (omega (arith, is))
refused_for options o v opening text too_long ends is = absurd (omega (arith, is))
refused_for options o v opening text source_failed ends is = absurd (omega (arith, is))
refused_for options o v opening text sink_failed ends is = absurd (omega (arith, is))
refused_for options o v opening text want_of_memory ends is = absurd (omega (arith, is))
refused_for options o v opening text (bad_script number) ends is = absurd (omega (arith, is))
refused_for options o v opening text (not_opened why) ends is = (why, is, ends.4)
refused_for options o v opening text volume_failed ends is = absurd (omega (arith, is))
refused_for options o v opening text recovered ends is = absurd (omega (arith, is))
refused_for options o v opening text sink_failed_recovering ends is = absurd (omega (arith, is))
refused_for options o v opening text (not_recovered why) ends is = (why, is, ends.4)
refused_for options o v opening text (inspected asked told_whole) ends is = absurd (omega (arith, is))
refused_for options o v opening text (inspected asked told_in_part) ends is = absurd (omega (arith, is))
refused_for options o v opening text (inspected asked untold) ends is = absurd (omega (arith, is))
refused_for options o v opening text (inspected asked (not_inspected why)) ends is = (why, inspected_status asked why is, ends.3)

pub not_refused : (options : RunOptions) (o : Outside) (v : VolumeSide) (opening : DatabaseState) (text : List ℕ) (ending : Ending) (status : ℕ) → EndsBy options o v opening text ending → status ≡ status_of ending
    → ((why : RecoverCause) → v.refuses why → IsFromOutside why) → status ≡ 3 → ⊥
not_refused options o v opening text ending status ends status_is only is =
    let refused = refused_for options o v opening text ending ends (sym status_is ∙ is) in outside_status refused.0 (only refused.0 refused.2) refused.1

-- what is refused for one cause alone is refused for that, or from outside
abbrev pub OnlyFor : VolumeSide → RecoverCause → Type 0
OnlyFor v why = (other : RecoverCause) → v.refuses other → (other ≡ why) ⊎ IsFromOutside other

-- the status of one that is looked at
refused_status : (asked : Inspection) (why : RecoverCause) (before after : ℕ) → CountsCause why before after → after ≡ before → (IsFromOutside why → ⊥) → (status_of_inspected asked why ≡ status_of_refused asked why) ⊎ (status_of_inspected asked why ≡ 7)
refused_status asked cause.CheckpointCorrupt before after counts same own = inl refl
refused_status asked cause.LogSequenceEnd before after counts same own = inl refl
refused_status asked cause.ReadVerifyFailure before after counts same own = inl refl
refused_status asked (cause.DatabaseCorrupted found) before after counts same own = inl refl
refused_status asked cause.LogFileCorrupt before after counts same own = inl refl
refused_status asked cause.VolumeFault before after counts same own = absurd (own tt)
refused_status asked cause.OutOfMemory before after counts same own = absurd (own tt)

outside_inspected : (asked : Inspection) (why : RecoverCause) (before after : ℕ) → CountsCause why before after → after ≡ before → IsFromOutside why → status_of_inspected asked why ≡ 7
outside_inspected asked cause.CheckpointCorrupt before after counts same outside = absurd outside
outside_inspected asked cause.LogSequenceEnd before after counts same outside = absurd outside
outside_inspected asked cause.ReadVerifyFailure before after counts same outside = absurd outside
outside_inspected asked (cause.DatabaseCorrupted found) before after counts same outside = absurd outside
outside_inspected asked cause.LogFileCorrupt before after counts same outside = absurd outside
outside_inspected asked cause.VolumeFault before after counts same outside = below_itself before after counts same
outside_inspected asked cause.OutOfMemory before after counts same outside = refl

-- where its files are refused, it is not opened
refuses_volume_by : (options : RunOptions) (o : Outside) (v : VolumeSide) (opening : DatabaseState) (text : List ℕ) (ending : Ending) (cause : RecoverCause) → has_volume (form_of_ending options ending) ≡ true → VolumeIsSound o
    → (v.accepts → ⊥) → (IsFromOutside cause → ⊥) → OnlyFor v cause → EndsBy options o v opening text ending → (status_of ending ≡ status_of_refusal (form_of_ending options ending) cause) ⊎ (status_of ending ≡ 7)
refuses_volume_by options o v opening text done cause form volume refuses own only ends = absurd (refuses ends.2.2)
refuses_volume_by options o v opening text bad_words cause form volume refuses own only ends = absurd (true≢false (sym form))
refuses_volume_by options o v opening text (told about) cause form volume refuses own only ends = absurd (true≢false (sym form))
refuses_volume_by options o v opening text (sink_failed_telling about) cause form volume refuses own only ends = absurd (true≢false (sym form))
refuses_volume_by options o v opening text too_long cause form volume refuses own only ends = absurd (refuses ends.3.2)
refuses_volume_by options o v opening text source_failed cause form volume refuses own only ends = absurd (refuses ends.2.2)
refuses_volume_by options o v opening text sink_failed cause form volume refuses own only ends = absurd (refuses ends.2.2)
refuses_volume_by options o v opening text want_of_memory cause form volume refuses own only ends = absurd (refuses ends.2.2)
refuses_volume_by options o v opening text (bad_script number) cause form volume refuses own only ends = absurd (refuses ends.5.2)
refuses_volume_by options o v opening text (not_opened why) cause form volume refuses own only ends = unopened_status why o.volume_before o.volume_after ends.3 volume
refuses_volume_by options o v opening text volume_failed cause form volume refuses own only ends = absurd (refuses ends.3)
refuses_volume_by options o v opening text recovered cause form volume refuses own only ends = absurd (refuses ends.0.1.2)
refuses_volume_by options o v opening text sink_failed_recovering cause form volume refuses own only ends = absurd (refuses ends.0.1.2)
refuses_volume_by options o v opening text (not_recovered why) cause form volume refuses own only ends = unopened_status why o.volume_before o.volume_after ends.3 volume
refuses_volume_by options o v opening text (inspected asked told_whole) cause form volume refuses own only ends = absurd (refuses ends.1.2)
refuses_volume_by options o v opening text (inspected asked told_in_part) cause form volume refuses own only ends = absurd (refuses ends.1.2)
refuses_volume_by options o v opening text (inspected asked untold) cause form volume refuses own only ends = inr refl
refuses_volume_by options o v opening text (inspected asked (not_inspected why)) cause form volume refuses own only ends = by (only why ends.3)
  where
    by : (why ≡ cause) ⊎ IsFromOutside why → (status_of_inspected asked why ≡ status_of_refused asked cause) ⊎ (status_of_inspected asked why ≡ 7)
    by (inl same) =
        subst (λ (k : RecoverCause). (status_of_inspected asked why ≡ status_of_refused asked k) ⊎ (status_of_inspected asked why ≡ 7)) same
        (refused_status asked why o.volume_before o.volume_after ends.2 volume (λ outside. own (subst IsFromOutside same outside)))
    by (inr outside) = inr (outside_inspected asked why o.volume_before o.volume_after ends.2 volume outside)

pub refuses_volume_told : (options : RunOptions) (o : Outside) (v : VolumeSide) (opening : DatabaseState) (text : List ℕ) (ending : Ending) (asked : Form) (cause : RecoverCause) (status : ℕ) → asked ≡ form_of_ending options ending → status ≡ status_of ending
    → EndsBy options o v opening text ending → has_volume asked ≡ true → (v.accepts → ⊥) → (IsFromOutside cause → ⊥) → OnlyFor v cause → VolumeIsSound o → (status ≡ status_of_refusal asked cause) ⊎ (status ≡ 7)
refuses_volume_told options o v opening text ending asked cause status form status_is ends has refuses own only volume =
    subst (λ (f : Form). (status ≡ status_of_refusal f cause) ⊎ (status ≡ 7)) (sym form)
    (subst (λ (s : ℕ). (s ≡ status_of_refusal (form_of_ending options ending) cause) ⊎ (s ≡ 7)) (sym status_is)
    (refuses_volume_by options o v opening text ending cause (ap has_volume (sym form) ∙ has) volume refuses own only ends))

-- ---- a volume that is recovered

recovers_by : (options : RunOptions) (o : Outside) (v : VolumeSide) (opening : DatabaseState) (text : List ℕ) (ending : Ending) → form_of_ending options ending ≡ form.Recovery → o.sink_after ≡ o.sink_before → VolumeIsSound o
    → EndsBy options o v opening text ending → (status_of ending ≡ 0) ⊎ ((status_of ending ≡ 3) ⊎ (status_of ending ≡ 7))
unfolding is_recovery
recovers_by options o v opening text done is sink volume ends = inl refl
recovers_by options o v opening text bad_words is sink volume ends = not_recovery form.Unknown refl is
recovers_by options o v opening text (told about) is sink volume ends = inl refl
recovers_by options o v opening text (sink_failed_telling about) is sink volume ends = below_itself o.sink_before o.sink_after ends.1 sink
recovers_by options o v opening text too_long is sink volume ends = not_recovery (form.OrderedRun options) refl is
recovers_by options o v opening text source_failed is sink volume ends = not_recovery (form.OrderedRun options) refl is
recovers_by options o v opening text sink_failed is sink volume ends = below_itself o.sink_before o.sink_after ends.1 sink
recovers_by options o v opening text want_of_memory is sink volume ends = inr (inr refl)
recovers_by options o v opening text (bad_script number) is sink volume ends = not_recovery (form.OrderedRun options) refl is
recovers_by options o v opening text (not_opened why) is sink volume ends = inr (unopened_status why o.volume_before o.volume_after ends.3 volume)
recovers_by options o v opening text volume_failed is sink volume ends = below_itself o.volume_before o.volume_after ends.1 volume
recovers_by options o v opening text recovered is sink volume ends = inl refl
recovers_by options o v opening text sink_failed_recovering is sink volume ends = below_itself o.sink_before o.sink_after ends.1 sink
recovers_by options o v opening text (not_recovered why) is sink volume ends = inr (unopened_status why o.volume_before o.volume_after ends.3 volume)
recovers_by options o v opening text (inspected asked end) is sink volume ends = not_recovery (form.Inspection asked) refl is

pub recovers_told : (options : RunOptions) (o : Outside) (v : VolumeSide) (opening : DatabaseState) (text : List ℕ) (ending : Ending) (status : ℕ) → form_of_ending options ending ≡ form.Recovery → o.sink_after ≡ o.sink_before → VolumeIsSound o
    → EndsBy options o v opening text ending → status ≡ status_of ending → (status ≡ 0) ⊎ ((status ≡ 3) ⊎ (status ≡ 7))
recovers_told options o v opening text ending status form sink volume ends is =
    subst (λ (s : ℕ). (s ≡ 0) ⊎ ((s ≡ 3) ⊎ (s ≡ 7))) (sym is) (recovers_by options o v opening text ending form sink volume ends)

-- ---- a text that was asked for

-- what it leaves of the source, the sink and the volume
abbrev pub IsTextAlone : Outside → VolumeSide → Topic → ℕ → Type 0
IsTextAlone o v asked status =
    (status ≡ 0) × Took o (text_about asked) × (o.left_after ≡ o.left_before) × (o.source_after ≡ o.source_before) × v.is_unused

pub tells_whole : (options : RunOptions) (o : Outside) (v : VolumeSide) (opening : DatabaseState) (text : List ℕ) (ending : Ending) (asked : Topic) → o.left_before ≡ prepend_known text o.left_after
    → form_of_ending options ending ≡ form.About asked → o.sink_after ≡ o.sink_before → EndsBy options o v opening text ending → (status : ℕ) → status ≡ status_of ending
    → IsTextAlone o v asked status
unfolding is_text
tells_whole options o v opening text (told about) asked read is sink ends status status_is = (
  status_is,
  subst (λ (t : Topic). Took o (text_about t)) (same_topic about asked is) ends.2,
  prepend_nothing o.left_after ∙ sym (read ∙ ap (λ (t : List ℕ). prepend_known t o.left_after) ends.3),
  ends.0,
  ends.5,
)
tells_whole options o v opening text (sink_failed_telling about) asked read is sink ends status status_is = below_itself o.sink_before o.sink_after ends.1 sink
tells_whole options o v opening text done asked read is sink ends status status_is = not_text (form.OrderedRun options) asked refl is
tells_whole options o v opening text bad_words asked read is sink ends status status_is = not_text form.Unknown asked refl is
tells_whole options o v opening text too_long asked read is sink ends status status_is = not_text (form.OrderedRun options) asked refl is
tells_whole options o v opening text source_failed asked read is sink ends status status_is = not_text (form.OrderedRun options) asked refl is
tells_whole options o v opening text sink_failed asked read is sink ends status status_is = not_text (form.OrderedRun options) asked refl is
tells_whole options o v opening text want_of_memory asked read is sink ends status status_is = not_text (form.OrderedRun options) asked refl is
tells_whole options o v opening text (bad_script number) asked read is sink ends status status_is = not_text (form.OrderedRun options) asked refl is
tells_whole options o v opening text (not_opened why) asked read is sink ends status status_is = not_text (form.OrderedRun options) asked refl is
tells_whole options o v opening text volume_failed asked read is sink ends status status_is = not_text (form.OrderedRun options) asked refl is
tells_whole options o v opening text recovered asked read is sink ends status status_is = not_text form.Recovery asked refl is
tells_whole options o v opening text sink_failed_recovering asked read is sink ends status status_is = not_text form.Recovery asked refl is
tells_whole options o v opening text (not_recovered why) asked read is sink ends status status_is = not_text form.Recovery asked refl is
tells_whole options o v opening text (inspected looked end) asked read is sink ends status status_is = not_text (form.Inspection looked) asked refl is
