-- How a process ends.
use Rattle.std.proofs.Common.{◌≡◌, ◌<◌, ◌⊎◌, ℕ, Bool, true, false, true≢false, List, [], ◌∷◌, ◌++◌, length, take, drop, codes, Option, Some, None, Result, Ok, Err, inl, inr, refl, sym, ap, subst, ◌∙◌, append_assoc, arith}
use Rattle.std.specs.Prelude.{⊤, String}
use Rattle.std.specs.Iterator.{Yields, DrainsIf}
use Rattle.std.specs.Io.KnownBytes.{append_known, prepend_known}
use Rattle.std.specs.Vec.Iter.{into_iter_items, into_iter_len, into_iter_steps}
use Rattle.std.specs.declared.io.Error.{Error}
use Rattle.std.specs.declared.vec.IntoIter.{IntoIter}
use Rattle.std.proofs.lemmas.List.{append-nil, drop-map}
use Rattle.database_state.specs.State.{DatabaseState, empty_state}
use Rattle.session_local.specs.Run.{Line, LineOutcome}
use Rattle.soft_recovery.specs.declared.refusals.RecoverCause.{RecoverCause}
use Rattle.jet_volume.specs.Image.{Image as Files}
use Rattle.recovered_states.specs.Recovers.{Recovers}
use Rattle.soft_recovery.specs.Refusals.{IsFromOutside, Refuses}
use Rattle.ordered_run.specs.Outcomes.{AreOutcomesOf, EndsInLast, run_transcript}
use Rattle.esentutl.specs.declared.process.WordsFault.{WordsFault}
use Rattle.esentutl.specs.declared.process.WordsFault.TheVariants as fault
use Rattle.esentutl.specs.declared.words.Form.TheVariants as form
use Rattle.esentutl.specs.declared.words.RunOptions.{RunOptions}
use Rattle.esentutl.specs.Words.{words_of, last_line, bad_line}
use Rattle.esentutl.specs.About.{text_about}
use Rattle.esentutl.specs.Process.{Arguments, arguments_of, AreWordsOf, is_over_memory, process_volume, CallEnds, EndsOver, ProcessEnds, WordsEnd}
use Rattle.store_core.specs.Stands.{Checkpoint, Stands}
use Rattle.esentutl.specs.Inspections.{told_whole, told_in_part, untold, not_inspected}
use Rattle.esentutl.specs.Streams.{still_told}
use Rattle.esentutl.specs.TopCall.{Outside, Ending, done, bad_words, told, sink_failed_telling, too_long, source_failed, sink_failed, want_of_memory, bad_script, not_opened, volume_failed, recovered, sink_failed_recovering, not_recovered, inspected, IsScript, Took, Says, SaysOnly, LeavesOpening, LeavesLines, StopsAtFlush, is_unserved, line_of_cause, line_of_inspected, line_of_state, EndsBy, form_of_ending}
use Rattle.esentutl.specs.Volumes.{VolumeSide, volume_side}
use Rattle.esentutl.proofs.Endings.{append_nothing, prepend_nothing}
use Rattle.esentutl.proofs.Completeness.{only_outside}
use Rattle.esentutl.proofs.Weaker.{Tells, weaker}

-- ---- the words

-- what is left of the arguments
items_given : {X Z : Type 0} (s : IntoIter X Z) (xs : List X) (t : IntoIter X Z) → Yields into_iter_steps s xs t → into_iter_items s ≡ xs ++ into_iter_items t
items_given s [] t yields = ap into_iter_items yields
items_given s (x ∷ xs) t yields = yields.1.0 ∙ ap (λ ys. x ∷ ys) (items_given yields.0 xs t yields.2)

no_items : {X : Type 0} (xs : List X) → length xs ≡ 0 → xs ≡ []
no_items [] is = refl
no_items (x ∷ xs) is = absurd (omega arith)

none_left : {X Z : Type 0} (s : IntoIter X Z) → into_iter_len s ≡ 0 → into_iter_items s ≡ []
none_left s none = no_items (into_iter_items s) (sym s.rest.ok.0 ∙ none)

all_given : {X Z : Type 0} (s : IntoIter X Z) (xs : List X) → DrainsIf into_iter_steps ⊤ s xs → into_iter_items s ≡ xs
all_given s xs drains =
    let last = drains.2 tt in
    items_given s xs drains.0 drains.1 ∙ ap (λ ys. xs ++ ys) (none_left drains.0 last.1.0) ∙ append-nil xs

-- the first is taken off
first_off : {X Z : Type 0} (s t : IntoIter X Z) (first : Option X) → into_iter_steps s first t → into_iter_items t ≡ drop 1 (into_iter_items s)
first_off s t None steps = none_left t steps.1 ∙ sym (ap (drop 1) (none_left s steps.0))
first_off s t (Some x) steps = sym (ap (drop 1) steps.0)

-- the words are those behind the program's name
pub words_behind : {A Z : Type 0} (arguments : Result (IntoIter (String A) Z) Error) (s t : IntoIter (String A) Z) (first : Option (String A)) (words xs : List (String A)) → arguments ≡ Ok s
    → into_iter_steps s first t → DrainsIf into_iter_steps ⊤ t xs → words ≡ xs → AreWordsOf (arguments_of arguments) (Ok (words_of words))
words_behind {A = A} {Z = Z} arguments s t first words xs is steps drains same =
    subst (λ (a : Result (IntoIter (String A) Z) Error). AreWordsOf (arguments_of a) (Ok (words_of words))) (sym is)
    (ap words_of (same ∙ sym (all_given t xs drains) ∙ first_off s t first steps) ∙ sym (drop-map _ 1 (into_iter_items s)))

-- there may be no memory for any words
pub lacks_words : (arguments : Arguments) (words : List (List ℕ)) → AreWordsOf arguments (Ok words) → AreWordsOf arguments (Err fault.Memory)
lacks_words (Ok all) words are = refl
lacks_words (Err kind) words are = absurd are

-- words of no form
unknown_form : (options : RunOptions) (ending : Ending) → form.Unknown ≡ form_of_ending options ending → ending ≡ bad_words
unknown_form options bad_words is = refl
unknown_form options done is = let never : ⊥ = cc in absurd never
unknown_form options (told topic) is = let never : ⊥ = cc in absurd never
unknown_form options (sink_failed_telling topic) is = let never : ⊥ = cc in absurd never
unknown_form options too_long is = let never : ⊥ = cc in absurd never
unknown_form options source_failed is = let never : ⊥ = cc in absurd never
unknown_form options sink_failed is = let never : ⊥ = cc in absurd never
unknown_form options want_of_memory is = let never : ⊥ = cc in absurd never
unknown_form options (bad_script number) is = let never : ⊥ = cc in absurd never
unknown_form options (not_opened why) is = let never : ⊥ = cc in absurd never
unknown_form options volume_failed is = let never : ⊥ = cc in absurd never
unknown_form options recovered is = let never : ⊥ = cc in absurd never
unknown_form options sink_failed_recovering is = let never : ⊥ = cc in absurd never
unknown_form options (not_recovered why) is = let never : ⊥ = cc in absurd never
unknown_form options (inspected asked end) is = let never : ⊥ = cc in absurd never

-- ---- the volume

-- one in memory is new, and of real files nothing is told
pub tells_process : (in_memory : Bool) (v : VolumeSide) → (in_memory ≡ true → (state : DatabaseState) → v.recovers state → state ≡ empty_state) → (in_memory ≡ true → (why : RecoverCause) → v.refuses why → IsFromOutside why)
    → (in_memory ≡ true → (checkpoint : Option Checkpoint) (stream : List ℕ) → v.stands checkpoint stream → (checkpoint ≡ None) × (stream ≡ [])) → Tells v (process_volume in_memory)
tells_process in_memory v recovers refuses stands = record {
  stands = λ checkpoint stream known is. stands is checkpoint stream known;
  recovers = λ state known is. recovers is state known;
  refuses = λ why known is. refuses is why known;
  accepts = λ known. tt;
  since = λ Has known. tt;
  now = λ Has known. tt;
  checkpoints = λ count known. tt;
  is_unwritten = λ known. tt;
  is_unused = λ known. tt;
  stays = λ known state is. tt;
}

-- ---- what words end with

-- over a volume without a fault yet
pub words_end : (words : List (List ℕ)) (o : ℕ → Outside) (v : VolumeSide) (status first : ℕ) → first ≡ 0 → Tells v (process_volume (is_over_memory (Ok words))) → EndsOver words (o first) v status → CallEnds (Ok words) (o 0) status
words_end words o v status first none tells given =
    let ends = subst (λ (n : ℕ). EndsOver words (o n) v status) none given in (
      ends.0,
      ends.1,
      ends.2,
      ends.3,
      ends.4,
      ends.5,
      ends.6,
      weaker ends.1 (o 0) v (process_volume (is_over_memory (Ok words))) ends.2 ends.0 ends.3 tells ends.7,
    )

-- over one in memory, which recovers to the empty state alone and is refused for no cause
pub new_volume_ends : (tells : Type 0) {V : Type 0} (seen : V → Files) (moment : V → ℕ) (left_at : V → ℕ → Files → Type 0) (old new : V) (words : List (List ℕ)) (o : ℕ → Outside) (status first : ℕ) → tells
    → ((state : DatabaseState) → Recovers (seen old) state → state ≡ empty_state) → ((why : RecoverCause) → Refuses (seen old) why → ⊥) → ((checkpoint : Option Checkpoint) (stream : List ℕ) → Stands checkpoint stream (seen old) → (checkpoint ≡ None) × (stream ≡ [])) → first ≡ 0
    → EndsOver words (o first) (volume_side tells seen moment left_at old new) status → CallEnds (Ok words) (o 0) status
new_volume_ends tells seen moment left_at old new words o status first speaks empty never new_stands none ends =
    words_end words o (volume_side tells seen moment left_at old new) status first none
    (tells_process (is_over_memory (Ok words)) (volume_side tells seen moment left_at old new) (λ is state known. empty state (known speaks)) (λ is why known. only_outside (never why) (known speaks))
    (λ is checkpoint stream known. new_stands checkpoint stream (known speaks))) ends

-- over real files
pub files_end : (tells : Type 0) {V : Type 0} (seen : V → Files) (moment : V → ℕ) (left_at : V → ℕ → Files → Type 0) (old new : V) (words : List (List ℕ)) (o : ℕ → Outside) (status first : ℕ)
    → is_over_memory (Ok words) ≡ false → first ≡ 0 → EndsOver words (o first) (volume_side tells seen moment left_at old new) status → CallEnds (Ok words) (o 0) status
files_end tells seen moment left_at old new words o status first not none ends =
    words_end words o (volume_side tells seen moment left_at old new) status first none
    (tells_process (is_over_memory (Ok words)) (volume_side tells seen moment left_at old new) (λ is. absurd (true≢false (sym is ∙ not))) (λ is. absurd (true≢false (sym is ∙ not)))
    (λ is. absurd (true≢false (sym is ∙ not)))) ends

-- a word that is not UTF-8
pub no_words_end : (o : ℕ → Outside) (v : VolumeSide) (status first : ℕ) → first ≡ 0 → EndsOver [] (o first) v status → CallEnds (Err fault.NotText) (o 0) status
no_words_end o v status first none given =
    let ends = subst (λ (n : ℕ). EndsOver [] (o n) v status) none given in (
      ends.0,
      ends.1,
      ends.2,
      ends.3,
      unknown_form ends.1 ends.3 ends.4,
      ends.5,
      ends.6,
      weaker ends.1 (o 0) v (process_volume false) ends.2 ends.0 ends.3 (tells_process false v (λ is. absurd (true≢false (sym is))) (λ is. absurd (true≢false (sym is))) (λ is. absurd (true≢false (sym is)))) ends.7,
    )

-- so ends a process whose arguments are these words
pub process_ends : (arguments : Arguments) (words given : List (List ℕ)) (o : Outside) (status : ℕ) → AreWordsOf arguments (Ok words) → given ≡ words → WordsEnd given o status → ProcessEnds arguments o status
process_ends arguments words given o status are same (inl ends) = (Ok words, are, subst (λ (all : List (List ℕ)). CallEnds (Ok all) o status) same ends)
process_ends arguments words given o status are same (inr ends) = (Err fault.Memory, lacks_words arguments words are, ends)

-- nothing was read or written
pub ends_before_all : (left taken : Option (List ℕ)) (source sink : ℕ)
    → CallEnds (Err fault.Memory) (record { left_before = left; left_after = left; source_before = source; source_after = source; taken_before = taken; taken_after = taken; sink_before = sink; sink_after = sink; volume_before = 0; volume_after = 0 }) 7
ends_before_all left taken source sink = (
  [],
  record { span_limit = 0; depth = 0 },
  empty_state,
  want_of_memory,
  (refl, (refl, refl, refl, append_nothing taken, refl)),
  refl,
  prepend_nothing left,
  (refl, refl, (refl, λ is. refl, tt), inl (append_nothing taken, tt)),
)

-- ---- what a call writes

said : (o : Outside) (line : List ℕ) → SaysOnly o line → (bytes : List ℕ) × Took o bytes
said o line (inl whole) = (line, whole.0)
said o line (inr front) = (take front.0 line, front.2)

append_twice : (known : Option (List ℕ)) (first behind : List ℕ) → append_known (append_known known first) behind ≡ append_known known (first ++ behind)
append_twice None first behind = refl
append_twice (Some bytes) first behind = ap (λ (l : List ℕ). Some l) (append_assoc bytes first behind)

-- the last line behind these bytes, or less than these
said_behind : (o : Outside) (bytes line : List ℕ) (Less : ℕ → Type 0) → Says (append_known o.taken_before bytes) o.taken_after o.sink_before o.sink_after line
    ⊎ ((n : ℕ) × Less n × Took o (take n bytes) × (o.sink_before < o.sink_after)) → (bytes : List ℕ) × Took o bytes
said_behind o bytes line Less (inl (inl whole)) = (bytes ++ line, whole.0 ∙ append_twice o.taken_before bytes line)
said_behind o bytes line Less (inl (inr front)) = (bytes ++ take front.0 line, front.2 ∙ append_twice o.taken_before bytes (take front.0 line))
said_behind o bytes line Less (inr front) = (take front.0 bytes, front.2)

lacked : (options : RunOptions) (o : Outside) (v : VolumeSide) (opening : DatabaseState) (text : List ℕ)
    → (Took o [] × LeavesOpening v opening)
    ⊎ ((lines : List Line) × (pairs : List (Line × LineOutcome)) × (count : ℕ) × IsScript o text lines
    × (AreOutcomesOf opening options.span_limit (take count lines) pairs ⊎ StopsAtFlush is_unserved opening options.span_limit (take count lines) pairs)
    × Took o (run_transcript opening options.span_limit pairs) × LeavesLines v opening options.span_limit pairs)
    → (bytes : List ℕ) × Took o bytes
lacked options o v opening text (inl none) = ([], none.0)
lacked options o v opening text (inr run) = (run_transcript opening options.span_limit run.1, run.5)

-- whatever the ending, these bytes more
wrote : (options : RunOptions) (o : Outside) (v : VolumeSide) (opening : DatabaseState) (text : List ℕ) (ending : Ending) → EndsBy options o v opening text ending → (bytes : List ℕ) × Took o bytes
wrote options o v opening text done ends = let run = ends.3 in (run_transcript opening options.span_limit run.1, run.4)
wrote options o v opening text bad_words ends = said o (last_line (codes "words")) ends.1
wrote options o v opening text (told topic) ends = (text_about topic, ends.2)
wrote options o v opening text (sink_failed_telling topic) ends = let front = ends.2 in (take front.0 (text_about topic), front.2)
wrote options o v opening text too_long ends = said o (last_line (codes "script too long")) ends.1
wrote options o v opening text source_failed ends = said o (last_line (codes "source")) ends.1
wrote options o v opening text sink_failed ends = let run = ends.3 in (take run.3 (run_transcript opening options.span_limit run.1), run.7)
wrote options o v opening text want_of_memory ends = lacked options o v opening text ends.3
wrote options o v opening text (bad_script number) ends = said o (bad_line number) ends.1
wrote options o v opening text (not_opened why) ends = said o (line_of_cause why) ends.1
wrote options o v opening text volume_failed ends =
    let run = ends.4 in said_behind o (run_transcript opening options.span_limit run.1) (last_line (codes "volume")) (λ n. EndsInLast opening options.span_limit run.1 n) run.4
wrote options o v opening text recovered ends = (line_of_state opening, ends.2)
wrote options o v opening text sink_failed_recovering ends = let front = ends.2 in (take front.0 (line_of_state opening), front.2)
wrote options o v opening text (not_recovered why) ends = said o (line_of_cause why) ends.1
wrote options o v opening text (inspected asked told_whole) ends = let all = ends.3 in (all.0, all.2)
wrote options o v opening text (inspected asked told_in_part) ends = let front = ends.3 in (take front.1 front.0, front.4)
wrote options o v opening text (inspected asked untold) ends = ([], ends.3)
wrote options o v opening text (inspected asked (not_inspected why)) ends = said o (line_of_inspected asked why) ends.1

-- ---- the streams

-- A source that told its bytes tells them on, whatever a call made of it, and one that told none tells none.
known_by_read : (first first_after now : Option (List ℕ)) (text : List ℕ) → first ≡ prepend_known text (still_told first_after now) → still_told first_after now ≡ still_told first now
known_by_read None None now text is = refl
known_by_read None (Some bytes) None text is = refl
known_by_read None (Some bytes) (Some left) text is = let never : ⊥ = cc in absurd never
known_by_read (Some all) None now text is = let never : ⊥ = cc in absurd never
known_by_read (Some all) (Some bytes) now text is = refl

-- so does a sink
known_by_write : (first first_after now : Option (List ℕ)) (bytes : List ℕ) → still_told first_after now ≡ append_known first bytes → still_told first_after now ≡ still_told first now
known_by_write None None now bytes is = refl
known_by_write None (Some all) now bytes is = is
known_by_write (Some all) None now bytes is = let never : ⊥ = cc in absurd never
known_by_write (Some all) (Some before) now bytes is = refl

-- So what a process comes to is known by what its streams told at first.
pub ends_as_told : (arguments : Arguments) (status : ℕ) (left input input_after now : Option (List ℕ)) (taken output output_after written : Option (List ℕ)) (source_before source_after sink_before sink_after volume : ℕ)
    → left ≡ input → source_before ≡ 0 → taken ≡ output → sink_before ≡ 0
    → ProcessEnds arguments (record { left_before = left; left_after = still_told input_after now; source_before = source_before; source_after = source_after; taken_before = taken; taken_after = still_told output_after written; sink_before = sink_before; sink_after = sink_after; volume_before = 0; volume_after = volume }) status
    → ProcessEnds arguments (record { left_before = input; left_after = still_told input now; source_before = 0; source_after = source_after; taken_before = output; taken_after = still_told output written; sink_before = 0; sink_after = sink_after; volume_before = 0; volume_after = volume }) status
ends_as_told arguments status left input input_after now taken output output_after written source_before source_after sink_before sink_after volume same_left no_source same_taken no_sink ends =
    subst (λ (l : Option (List ℕ)). Ends l (still_told input now) 0 output (still_told output written) 0) same_left
    (subst (λ (l : Option (List ℕ)). Ends left l 0 output (still_told output written) 0) read
    (subst (λ (n : ℕ). Ends left (still_told input_after now) n output (still_told output written) 0) no_source
    (subst (λ (t : Option (List ℕ)). Ends left (still_told input_after now) source_before t (still_told output written) 0) same_taken
    (subst (λ (t : Option (List ℕ)). Ends left (still_told input_after now) source_before taken t 0) write
    (subst (λ (n : ℕ). Ends left (still_told input_after now) source_before taken (still_told output_after written) n) no_sink ends)))))
  where
    Ends : Option (List ℕ) → Option (List ℕ) → ℕ → Option (List ℕ) → Option (List ℕ) → ℕ → Type 0
    Ends l la s t ta k =
        ProcessEnds arguments (record { left_before = l; left_after = la; source_before = s; source_after = source_after; taken_before = t; taken_after = ta; sink_before = k; sink_after = sink_after; volume_before = 0; volume_after = volume }) status

    o : Outside
    o = record { left_before = left; left_after = still_told input_after now; source_before = source_before; source_after = source_after; taken_before = taken; taken_after = still_told output_after written; sink_before = sink_before; sink_after = sink_after; volume_before = 0; volume_after = volume }

    call : CallEnds ends.0 o status
    call = ends.2

    read : still_told input_after now ≡ still_told input now
    read = known_by_read input input_after now call.0 (sym same_left ∙ call.6)

    write : still_told output_after written ≡ still_told output written
    write =
        let more = wrote call.1 o (process_volume (is_over_memory ends.0)) call.2 call.0 call.3 call.7 in
        known_by_write output output_after written more.0 (more.1 ∙ ap (λ (t : Option (List ℕ)). append_known t more.0) same_taken)
