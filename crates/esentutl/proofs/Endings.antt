-- How a call ends where no script runs.
use Rattle.std.proofs.Common.{◌≡◌, ◌<◌, inl, inr, refl, ℕ, List, [], Option, Some, None, Err, arith, ap, sym}
use Rattle.std.proofs.lemmas.List.{append-nil}
use Rattle.std.specs.Io.KnownBytes.{append_known, prepend_known}
use Rattle.database_state.specs.State.{DatabaseState}
use Rattle.soft_recovery.specs.declared.refusals.RecoverCause.{RecoverCause}
use Rattle.esentutl.specs.declared.reading.ReadScriptFault.{ReadScriptFault}
use Rattle.esentutl.specs.declared.reading.ReadScriptFault.TheVariants as fault
use Rattle.esentutl.specs.declared.words.Form.TheVariants as form
use Rattle.esentutl.specs.declared.words.RunOptions.{RunOptions}
use Rattle.esentutl.specs.declared.words.Topic.{Topic}
use Rattle.esentutl.specs.About.{text_about, Tells}
use Rattle.esentutl.specs.Reading.{ReadsAs, line_of_fault, status_of_fault}
use Rattle.esentutl.specs.Volumes.{VolumeSide}
use Rattle.esentutl.specs.TopCall.{Outside, Ending, told, sink_failed_telling, too_long, source_failed, want_of_memory, bad_script, recovered, sink_failed_recovering, SaysOnly, SourceIsSound, SinkIsSound, VolumeIsSound, Took, IsOpened, LeavesOpening, IsRecovered, line_of_state, EndsBy, status_of, form_of_ending}

-- nothing is written
pub append_nothing : (known : Option (List ℕ)) → known ≡ append_known known []
append_nothing None = refl
append_nothing (Some bytes) = ap (λ (l : List ℕ). Some l) (sym (append-nil bytes))

-- nothing is put in front
pub prepend_nothing : (known : Option (List ℕ)) → known ≡ prepend_known [] known
prepend_nothing None = refl
prepend_nothing (Some bytes) = refl

pub ending_of : ReadScriptFault → Ending
ending_of fault.Source = source_failed
ending_of fault.TooLong = too_long
ending_of (fault.BadLine number) = bad_script number
ending_of fault.Memory = want_of_memory

pub status_of-ending_of : (f : ReadScriptFault) → status_of_fault f ≡ status_of (ending_of f)
unfolding ending_of
status_of-ending_of fault.Source = refl
status_of-ending_of fault.TooLong = refl
status_of-ending_of (fault.BadLine number) = refl
status_of-ending_of fault.Memory = refl

pub form_of_ending-ending_of : (options : RunOptions) (f : ReadScriptFault) → form.OrderedRun options ≡ form_of_ending options (ending_of f)
unfolding ending_of
form_of_ending-ending_of options fault.Source = refl
form_of_ending-ending_of options fault.TooLong = refl
form_of_ending-ending_of options (fault.BadLine number) = refl
form_of_ending-ending_of options fault.Memory = refl

-- a line without a byte says nothing
says_nothing : (o : Outside) → SaysOnly o [] → SinkIsSound o × Took o []
says_nothing o (inl whole) = (whole.1, whole.0)
says_nothing o (inr front) = let never : ⊥ = omega (arith, front.1) in absurd never

pub ends_by_fault : (options : RunOptions) (o : Outside) (v : VolumeSide) (opening : DatabaseState) (text : List ℕ) (f : ReadScriptFault)
    → ReadsAs (record { left_before = o.left_before; left_after = o.left_after; faults_before = o.source_before; faults_after = o.source_after }) text (Err f)
    → SaysOnly o (line_of_fault f) → IsOpened o v opening → LeavesOpening v opening → EndsBy options o v opening text (ending_of f)
unfolding ending_of
ends_by_fault options o v opening text fault.Source reads says opened leaves = (reads, says, opened, leaves)
ends_by_fault options o v opening text fault.TooLong reads says opened leaves = (reads.0, says, reads.1, opened, leaves)
ends_by_fault options o v opening text (fault.BadLine number) reads says opened leaves = (reads.0.0, says, reads.0.1, reads.0.2, reads.1, opened, leaves)
ends_by_fault options o v opening text fault.Memory reads says opened leaves = let nothing = says_nothing o says in (reads, nothing.0, opened, inl (nothing.1, leaves))

-- a text that the words ask for
pub ends_by_telling : (options : RunOptions) (o : Outside) (v : VolumeSide) (opening : DatabaseState) (topic : Topic) (status : ℕ) → SourceIsSound o → VolumeIsSound o → v.is_unused
    → Tells o.taken_before o.taken_after o.sink_before o.sink_after (text_about topic) status
    → (ending : Ending) × (status ≡ status_of ending) × (form.About topic ≡ form_of_ending options ending) × EndsBy options o v opening [] ending
ends_by_telling options o v opening topic status sound volume unused (inl whole) = (told topic, whole.0, refl, (sound, whole.2, whole.1, refl, volume, unused))
ends_by_telling options o v opening topic status sound volume unused (inr front) = (sink_failed_telling topic, front.0, refl, (sound, front.4, (front.1, front.2, front.3), refl, volume, unused))

-- what a volume was recovered to
pub ends_by_recovering : (options : RunOptions) (o : Outside) (v : VolumeSide) (opening : DatabaseState) (status : ℕ) → IsRecovered o v opening []
    → Tells o.taken_before o.taken_after o.sink_before o.sink_after (line_of_state opening) status
    → (ending : Ending) × (status ≡ status_of ending) × (form.Recovery ≡ form_of_ending options ending) × EndsBy options o v opening [] ending
ends_by_recovering options o v opening status recovers (inl whole) = (recovered, whole.0, refl, (recovers, whole.2, whole.1))
ends_by_recovering options o v opening status recovers (inr front) = (sink_failed_recovering, front.0, refl, (recovers, front.4, (front.1, front.2, front.3)))
