-- The lines of entries, one after another.
use Rattle.std.proofs.Common.{◌≡◌, ℕ, suc, ◌+◌, ◌-◌, ◌≤◌, true, List, [], ◌∷◌, ◌++◌, length, take, drop, refl, sym, ◌∙◌, ap, subst, arith, append_assoc, length-append, length-take, length-drop, take-append-drop}
use Rattle.std.specs.Prelude.{Option, Some, None, Result, Ok, Err, IfOk}
use Rattle.std.proofs.lemmas.Bool.{and_from, and_parts}
use Rattle.std.proofs.lemmas.List.{append-nil}
use Rattle.std.proofs.lemmas.List.Concat.{flat_map-append, flat_map-cons}
use Rattle.std.proofs.Math.Seq.{take_at, take-append-add, take_all}
use Rattle.jet_base.specs.declared.memory.OutOfMemory.{OutOfMemory}
use Rattle.index_derive.specs.declared.log.Entry.{Entry}
use Rattle.log_grammar.specs.EntryBytes.{BeginsWith, BeginsWithNone, entry_bytes, has_spelling}
use Rattle.log_grammar.specs.EntryStreams.{Holds, stream_bytes, stream_fits}
use Rattle.log_grammar.proofs.Streams.{cut_is_not_whole, nothing_is_cut}
use Rattle.tool_dump.specs.DumpTexts.{IsLogText, entry_line, log_text}
use Rattle.tool_dump.specs.LogSteps.{AppendsEntry, AppendsFront, AppendsLog, HasAppended}

-- ---- one entry more

stream_append : (xs ys : List Entry) → stream_bytes (xs ++ ys) ≡ stream_bytes xs ++ stream_bytes ys
stream_append xs ys = flat_map-append entry_bytes xs ys

stream_single : (x : Entry) → stream_bytes (x ∷ []) ≡ entry_bytes x
stream_single x = flat_map-cons entry_bytes x [] ∙ append-nil (entry_bytes x)

spelled_more : (done : List Entry) (entry : Entry) → stream_fits done ≡ true → has_spelling entry ≡ true → stream_fits (done ++ entry ∷ []) ≡ true
spelled_more [] entry fits h = and_from (has_spelling entry) true h refl
spelled_more (x ∷ done) entry fits h =
    let both = and_parts (has_spelling x) (stream_fits done) fits in
    and_from (has_spelling x) (stream_fits (done ++ entry ∷ [])) both.0 (spelled_more done entry both.1 h)

nine_bytes : (entry : Entry) → 9 ≤ length (entry_bytes entry)
unfolding entry_bytes
nine_bytes entry = omega arith

log_more : (number : ℕ) (done : List Entry) (entry : Entry) → log_text number (done ++ entry ∷ []) ≡ log_text number done ++ entry_line (suc (number + length done)) entry
log_more number [] entry =
    let same : number ≡ number + 0 = omega arith in
    append-nil (entry_line (suc number) entry) ∙ ap (λ (k : ℕ). entry_line (suc k) entry) same
log_more number (x ∷ done) entry =
    let same : suc number + length done ≡ number + suc (length done) = omega arith in
    ap (λ (l : List ℕ). entry_line (suc number) x ++ l) (log_more (suc number) done entry)
    ∙ sym (append_assoc (entry_line (suc number) x) (log_text (suc number) done) (entry_line (suc (suc number + length done)) entry))
    ∙ ap (λ (k : ℕ). (entry_line (suc number) x ++ log_text (suc number) done) ++ entry_line (suc k) entry) same

pub nothing_appended : (number : ℕ) (bytes text : List ℕ) → HasAppended number bytes text text 0 number
nothing_appended number bytes text = record {
  done = [];
  fits = refl;
  bytes_are = refl;
  last_is = omega arith;
  is = sym (append-nil text);
}

pub appended_more : (number : ℕ) (bytes old text new : List ℕ) (at last size : ℕ) → at ≤ length bytes → HasAppended number bytes old text at last → AppendsEntry (last + 1) (drop at bytes) text new size
    → HasAppended number bytes old new (at + size) (last + 1)
appended_more number bytes old text new at last size within had next =
    let more : List Entry = next.entry ∷ [] in
    let size_is : size ≡ length (entry_bytes next.entry) = next.size_is in
    let front_is : length (take at bytes) ≡ at = omega (arith, length-take at bytes, within) in
    let one : take size (drop at bytes) ≡ entry_bytes next.entry = ap (λ (l : List ℕ). take size l) next.begins.2 ∙ take_at (entry_bytes next.entry) next.begins.0 size (sym size_is) in
    let split : take (at + size) bytes ≡ take at bytes ++ take size (drop at bytes) =
    ap (λ (l : List ℕ). take (at + size) l) (sym (take-append-drop at bytes)) ∙ ap (λ (m : ℕ). take (m + size) (take at bytes ++ drop at bytes)) (sym front_is) ∙ take-append-add (take at bytes) (drop at bytes) size in
    let count : length (had.done ++ more) ≡ length had.done + 1 = length-append had.done more in
    let number_is : last + 1 ≡ suc (number + length had.done) = omega (arith, had.last_is) in
    record {
      done = had.done ++ more;
      fits = spelled_more had.done next.entry had.fits next.begins.1;
      bytes_are = stream_append had.done more ∙ ap (λ (l : List ℕ). stream_bytes had.done ++ l) (stream_single next.entry) ∙ ap (λ (l : List ℕ). l ++ entry_bytes next.entry) had.bytes_are
          ∙ ap (λ (l : List ℕ). take at bytes ++ l) (sym one) ∙ sym split;
      last_is = omega (arith, count, had.last_is);
      is = next.is
          ∙ ap (λ (l : List ℕ). l ++ entry_line (last + 1) next.entry) had.is
          ∙ append_assoc old (log_text number had.done) (entry_line (last + 1) next.entry)
          ∙ ap (λ (k : ℕ). old ++ (log_text number had.done ++ entry_line k next.entry)) number_is
          ∙ ap (λ (l : List ℕ). old ++ l) (sym (log_more number had.done next.entry));
    }

-- ---- the whole

-- what stands from a position on
pub rest_is : (at : ℕ) (bytes : List ℕ) → take (length bytes - at) (drop at bytes) ≡ drop at bytes
rest_is at bytes = take_all (length bytes - at) (drop at bytes) (omega (arith, length-drop at bytes))

pub front_told : (number : ℕ) (bytes old new : List ℕ) (at : ℕ) (taken is : Option ℕ) → taken ≡ is → AppendsFront number (take (length bytes - at) (drop at bytes)) old new taken → AppendsFront number (drop at bytes) old new is
front_told number bytes old new at taken is same tells =
    subst (λ (l : List ℕ). AppendsFront number l old new is) (rest_is at bytes)
    (subst (λ (o : Option ℕ). AppendsFront number (take (length bytes - at) (drop at bytes)) old new o) same tells)

-- the entry in front has nine bytes at least, and no more than there are
size_within : (bytes : List ℕ) (entry : Entry) (size : ℕ) → BeginsWith bytes entry → size ≡ length (entry_bytes entry) → (9 ≤ size) × (size ≤ length bytes)
size_within bytes entry size begins size_is =
    let whole : length bytes ≡ length (entry_bytes entry) + length begins.0 = ap (λ (l : List ℕ). length l) begins.2 ∙ length-append (entry_bytes entry) begins.0 in
    (omega (arith, size_is, nine_bytes entry), omega (arith, size_is, whole))

pub front_appended : (result : Result (Option ℕ) OutOfMemory) (number : ℕ) (bytes old new : List ℕ) (entry : Entry) (size : ℕ) → BeginsWith bytes entry × (size ≡ length (entry_bytes entry)) → IfOk result (λ taken. (taken ≡ Some size) × (new ≡ old ++ entry_line number entry))
    → IfOk result (AppendsFront number bytes old new)
front_appended (Err fault) number bytes old new entry size begins appended = tt
front_appended (Ok taken) number bytes old new entry size begins appended =
    let within = size_within bytes entry size begins.0 begins.1 in
    subst (λ (o : Option ℕ). AppendsFront number bytes old new o) (sym appended.0) (within.0, within.1, record { entry = entry; begins = begins.0; size_is = begins.1; is = appended.1 })

pub appended_all : (number : ℕ) (bytes old text : List ℕ) (at last : ℕ) → HasAppended number bytes old text at last → BeginsWithNone (drop at bytes) → AppendsLog number bytes old text
appended_all number bytes old text at last had none =
    let parts : bytes ≡ stream_bytes had.done ++ drop at bytes = sym (ap (λ (l : List ℕ). l ++ drop at bytes) had.bytes_are ∙ take-append-drop at bytes) in
    let holds : Holds bytes had.done (drop at bytes) = (had.fits, parts, none) in
    (log_text number had.done, record { entries = had.done; rest = drop at bytes; holds = holds; is = refl }, had.is)

-- no byte is left
pub none_at_end : (rest : List ℕ) → rest ≡ [] → BeginsWithNone rest
none_at_end rest none entry begins = cut_is_not_whole [] nothing_is_cut entry (subst (λ (l : List ℕ). (others : List ℕ) × (has_spelling entry ≡ true) × (l ≡ entry_bytes entry ++ others)) none begins)

pub one_text : ((bytes : List ℕ) (a b : List Entry) (s t : List ℕ) → Holds bytes a s → Holds bytes b t → (a ≡ b) × (s ≡ t)) → (number : ℕ) (bytes one other : List ℕ) → IsLogText number bytes one → IsLogText number bytes other → one ≡ other
one_text read_back number bytes one other a b =
    a.is ∙ ap (λ (l : List Entry). log_text number l) (read_back bytes a.entries b.entries a.rest b.rest a.holds b.holds).0 ∙ sym b.is
