-- Reading the parts of a live part, one behind the other.
use Rattle.std.proofs.Common.{◌≡◌, ℕ, Bool, true, false, cond, eqb, List, length, Option, Some, None, Result, Ok, Err, refl, sym, ap, ◌∙◌}
use Rattle.std.specs.Prelude.{option_map}
use Rattle.std.specs.Int.{w32}
use Rattle.column_set.specs.NumberReading.{◌>>=◌, number_at}
use Rattle.log_grammar.specs.EntryReading.{changed}
use Rattle.log_record.specs.declared.fault.EntryFault.{EntryFault}
use Rattle.log_record.specs.declared.fault.EntryFault.TheVariants.{BadEntry, OutOfMemory}
use Rattle.log_record.specs.EntrySeen.{Fails, Gives}
use Rattle.version_cleanup.specs.LiveSessions.{LiveState}
use Rattle.version_store.specs.HeldChanges.{HeldChange}
use Rattle.live_part.specs.declared.reading.LoadedPart.{LoadedPart}
use Rattle.live_part.specs.LiveBytes.{LivePart, number_of, without_undone}
use Rattle.live_part.specs.LiveReading.{changes_at, held_at, live_in, live_read, parted, rising_at, sessions_at, undone_in, undone_of, whole_in}
use Rattle.live_part.proofs.ReadLoops.{Parts}
use Rattle.live_part.specs.Read.{loaded, opened_part, parted_live, with_changes}

-- ---- the changes behind their count

abbrev Counted : Type 0
Counted = (ℕ × List HeldChange) × List ℕ

abbrev Changes : Type 0
Changes = List HeldChange × List ℕ

abbrev with_count : ℕ → Changes → Option Counted
with_count count x = Some ((count, x.0), x.1)

abbrev without_count : Counted → Option Changes
without_count x = Some (x.0.1, x.1)

abbrev in_parts : Changes → Option Parts
in_parts x = Some (parted x.0, x.1)

counted : (count : ℕ) (read : Option Changes) → (((read >>= with_count count) >>= without_count) >>= in_parts) ≡ (read >>= in_parts)
counted count (Some x) = refl
counted count None = refl

at_count : (bytes : List ℕ) (read : Option (ℕ × List ℕ)) → number_at w32 bytes ≡ read → changed parted changes_at bytes ≡ (((read >>= λ n. rising_at number_of held_at 0 n.0 n.1 >>= with_count n.0) >>= without_count) >>= in_parts)
unfolding changes_at
at_count bytes read h = ap (λ (o : Option (ℕ × List ℕ)). ((o >>= λ n. rising_at number_of held_at 0 n.0 n.1 >>= with_count n.0) >>= without_count) >>= in_parts) h

pub changes_step : (bytes rest : List ℕ) (count : ℕ) → number_at w32 bytes ≡ Some (count, rest) → changed parted changes_at bytes ≡ changed parted (rising_at number_of held_at 0 count) rest
changes_step bytes rest count h = at_count bytes (Some (count, rest)) h ∙ counted count (rising_at number_of held_at 0 count rest)

pub changes_lack : (e : EntryFault) (bytes : List ℕ) → Fails e (number_at w32 bytes) → Fails e (changed parted changes_at bytes)
changes_lack BadEntry bytes h = at_count bytes None h
changes_lack OutOfMemory bytes h = tt

-- ---- the whole

abbrev Whole : Type 0
Whole = List LiveState × (List HeldChange × List HeldChange)

abbrev Behind : Type 0
Behind = (List LiveState × List HeldChange) × List ℕ

abbrev behind : List LiveState → Changes → Option Behind
behind sessions x = Some ((sessions, x.0), x.1)

abbrev live_end : Behind → Option LivePart
live_end x = cond (eqb (length x.1) 0) (Some (live_read x.0)) None

abbrev whole_end : List LiveState → Parts → Option Whole
whole_end sessions x = cond (eqb (length x.1) 0) (Some (sessions, x.0)) None

whole_of : (sessions : List LiveState) (read : Option Changes) → option_map parted_live ((read >>= behind sessions) >>= live_end) ≡ ((read >>= in_parts) >>= whole_end sessions)
whole_of sessions None = refl
whole_of sessions (Some x) = at (eqb (length x.1) 0)
  where
    at : (b : Bool) → option_map parted_live (cond b (Some (live_read (sessions, x.0))) None) ≡ cond b (let y : Whole = (sessions, parted x.0) in Some y) None
    at true = refl
    at false = refl

at_sessions : (bytes : List ℕ) (read : Option (List LiveState × List ℕ)) → sessions_at bytes ≡ read → whole_in bytes ≡ ((read >>= λ s. changes_at s.1 >>= behind s.0) >>= live_end)
unfolding whole_in
at_sessions bytes read h = ap (λ (o : Option (List LiveState × List ℕ)). (o >>= λ s. changes_at s.1 >>= behind s.0) >>= live_end) h

pub whole_step : (bytes rest : List ℕ) (sessions : List LiveState) → sessions_at bytes ≡ Some (sessions, rest) → option_map parted_live (whole_in bytes) ≡ with_changes sessions rest
whole_step bytes rest sessions h = ap (option_map parted_live) (at_sessions bytes (Some (sessions, rest)) h) ∙ whole_of sessions (changes_at rest)

-- ---- what is opened of it, and what is undone

abbrev opened_of : Whole → LivePart
opened_of x = record { sessions = x.0; held = x.1.0 }

abbrev gone_of : Whole → List HeldChange
gone_of x = x.1.1

opened_whole : (read : Option LivePart) → option_map opened_of (option_map parted_live read) ≡ option_map without_undone read
opened_whole (Some x) = refl
opened_whole None = refl

gone_whole : (read : Option LivePart) → option_map gone_of (option_map parted_live read) ≡ option_map (λ whole. undone_of whole.held) read
gone_whole (Some x) = refl
gone_whole None = refl

pub gives_opened : (bytes : List ℕ) (part : Result LoadedPart EntryFault) (whole : Option Whole) → Gives loaded part whole → option_map parted_live (whole_in bytes) ≡ whole → Gives opened_part part (live_in bytes)
gives_opened bytes (Ok part) whole is read = sym (opened_whole (whole_in bytes)) ∙ ap (option_map opened_of) (read ∙ is)
gives_opened bytes (Err BadEntry) whole is read = sym (opened_whole (whole_in bytes)) ∙ ap (option_map opened_of) (read ∙ is)
gives_opened bytes (Err OutOfMemory) whole is read = tt

pub gives_undone : (bytes : List ℕ) (part : Result LoadedPart EntryFault) (whole : Option Whole) → Gives loaded part whole → option_map parted_live (whole_in bytes) ≡ whole → Gives (λ p. p.undone) part (undone_in bytes)
gives_undone bytes (Ok part) whole is read = sym (gone_whole (whole_in bytes)) ∙ ap (option_map gone_of) (read ∙ is)
gives_undone bytes (Err BadEntry) whole is read = sym (gone_whole (whole_in bytes)) ∙ ap (option_map gone_of) (read ∙ is)
gives_undone bytes (Err OutOfMemory) whole is read = tt

pub none_opened : (e : EntryFault) (bytes : List ℕ) → Fails e (sessions_at bytes) → Fails e (live_in bytes)
none_opened BadEntry bytes h = ap (option_map without_undone) (at_sessions bytes None h)
none_opened OutOfMemory bytes h = tt

pub none_undone : (e : EntryFault) (bytes : List ℕ) → Fails e (sessions_at bytes) → Fails e (undone_in bytes)
none_undone BadEntry bytes h = ap (option_map (λ (whole : LivePart). undone_of whole.held)) (at_sessions bytes None h)
none_undone OutOfMemory bytes h = tt
