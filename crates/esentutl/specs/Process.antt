-- What a process comes to.
use Rattle.std.specs.Prelude.{◌≡◌, ◌⊎◌, ℕ, Bool, true, false, List, [], ◌∷◌, drop, String, None, Result, Ok, Err}
use Rattle.std.specs.Io.KnownBytes.{prepend_known}
use Rattle.std.specs.IoError.{error_kind}
use Rattle.std.specs.Vec.Iter.{into_iter_items}
use Rattle.std.specs.declared.io.Error.{Error}
use Rattle.std.specs.declared.io.ErrorKind.{ErrorKind}
use Rattle.std.specs.declared.io.ErrorKind.TheVariants as kind
use Rattle.std.specs.declared.vec.IntoIter.{IntoIter}
use Rattle.database_state.specs.State.{DatabaseState, empty_state}
use Rattle.soft_recovery.specs.Refusals.{IsFromOutside}
use Rattle.esentutl.specs.declared.process.WordsFault.{WordsFault}
use Rattle.esentutl.specs.declared.process.WordsFault.TheVariants as fault
use Rattle.esentutl.specs.declared.words.RunOptions.{RunOptions}
use Rattle.esentutl.specs.Words.{form_of, is_in_memory, words_of}
use Rattle.esentutl.specs.TopCall.{Outside, Ending, bad_words, want_of_memory, SourceIsSound, SinkIsSound, VolumeIsSound, Took, EndsBy, status_of, form_of_ending}
use Rattle.esentutl.specs.Volumes.{VolumeSide}

-- ---- the words

-- the arguments of a process, the program's name the first, or of what kind the error is that is in their place
abbrev pub Arguments : Type 0
Arguments = Result (List (List ℕ)) ErrorKind

abbrev pub arguments_of : {A Z : Type 0} → Result (IntoIter (String A) Z) Error → Arguments
arguments_of (Ok given) = Ok (words_of (into_iter_items given))
arguments_of (Err error) = Err (error_kind error)

-- every other error is that of an argument that is not UTF-8
abbrev pub words_fault : ErrorKind → WordsFault
words_fault kind.OutOfMemory = fault.Memory
words_fault _ = fault.NotText

-- the words behind the program's name, or why there are none; there may be no memory for any
abbrev pub AreWordsOf : Arguments → Result (List (List ℕ)) WordsFault → Type 0
AreWordsOf (Ok all) (Ok words) = words ≡ drop 1 all
AreWordsOf (Ok all) (Err none) = none ≡ fault.Memory
AreWordsOf (Err kind) (Ok words) = ⊥
AreWordsOf (Err kind) (Err none) = none ≡ words_fault kind

-- ---- the volume

-- whether the volume is one in memory
abbrev pub is_over_memory : Result (List (List ℕ)) WordsFault → Bool
is_over_memory (Ok (volume ∷ others)) = is_in_memory volume
is_over_memory _ = false

-- What is known of a volume that is gone at the end: one in memory is new, so that it is not refused, and is opened with the empty state. Of
-- real files nothing is told.
abbrev pub process_volume : Bool → VolumeSide
process_volume in_memory = record {
  recovers = λ state. in_memory ≡ true → state ≡ empty_state;
  refuses = λ why. in_memory ≡ true → IsFromOutside why;
  stands = λ checkpoint stream. in_memory ≡ true → (checkpoint ≡ None) × (stream ≡ []);
  accepts = Unit {0};
  since = λ Has. Unit {0};
  now = λ Has. Unit {0};
  checkpoints = λ count. Unit {0};
  is_unwritten = Unit {0};
  is_unused = Unit {0};
}

-- ---- how a process ends

-- nothing was read or written
abbrev pub IsUntouched : Outside → List ℕ → Type 0
IsUntouched o text = SourceIsSound o × SinkIsSound o × VolumeIsSound o × Took o [] × (text ≡ [])

-- The ending is that of these words. A word that is not UTF-8 is of no form, and without memory for the words nothing is done.
abbrev pub IsEndingOf : Result (List (List ℕ)) WordsFault → RunOptions → Outside → List ℕ → Ending → Type 0
IsEndingOf (Ok words) options o text ending = form_of words ≡ form_of_ending options ending
IsEndingOf (Err fault.NotText) options o text ending = ending ≡ bad_words
IsEndingOf (Err fault.Memory) options o text ending = (ending ≡ want_of_memory) × IsUntouched o text

-- The status is that of an ending of the words, over the text that the source gave, the state that the volume was opened with and, in a run,
-- the options that the words name.
abbrev pub EndsOver : List (List ℕ) → Outside → VolumeSide → ℕ → Type 0
EndsOver words o v status =
    (text : List ℕ) × (options : RunOptions) × (opening : DatabaseState) × (ending : Ending)
    × (form_of words ≡ form_of_ending options ending)
    × (status ≡ status_of ending)
    × (o.left_before ≡ prepend_known text o.left_after)
    × EndsBy options o v opening text ending

-- The same of what the program is called with: the words, or why there are none.
abbrev pub CallEnds : Result (List (List ℕ)) WordsFault → Outside → ℕ → Type 0
CallEnds words o status =
    (text : List ℕ) × (options : RunOptions) × (opening : DatabaseState) × (ending : Ending)
    × IsEndingOf words options o text ending
    × (status ≡ status_of ending)
    × (o.left_before ≡ prepend_known text o.left_after)
    × EndsBy options o (process_volume (is_over_memory words)) opening text ending

-- the words, or there was no memory for them
abbrev pub WordsEnd : List (List ℕ) → Outside → ℕ → Type 0
WordsEnd words o status = CallEnds (Ok words) o status ⊎ CallEnds (Err fault.Memory) o status

-- A process ends as what its arguments are behind the program's name.
abbrev pub ProcessEnds : Arguments → Outside → ℕ → Type 0
ProcessEnds arguments o status = (words : Result (List (List ℕ)) WordsFault) × AreWordsOf arguments words × CallEnds words o status
