-- Lawful entries, and those of lawful steps, can be written.
use Rattle.std.proofs.Common.{◌≡◌, ℕ, suc, ◌+◌, ◌^◌, ◌≤◌, true, ◌&&◌, List, [], ◌∷◌, length, Some, refl, ap, arith}
use Rattle.std.specs.Prelude.{nat_le, nat_lt, is_none}
use Rattle.std.specs.Int.{w32, to_le_bytes}
use Rattle.std.proofs.lemmas.Bool.{and_from}
use Rattle.std.proofs.lemmas.Bool.Decides.{nat_tests}
use Rattle.std.proofs.lemmas.List.{length-append}
use Rattle.common_lemmas.proofs.Booleans.{and_left, and_right}
use Rattle.index_derive.specs.declared.log.Entry.{Entry}
use Rattle.index_derive.specs.declared.log.EntryKind.{EntryKind}
use Rattle.index_derive.specs.declared.log.EntryKind.TheVariants as entry
use Rattle.index_derive.specs.declared.log.Step.{Step}
use Rattle.index_derive.specs.declared.log.Step.TheVariants.{One, Alone}
use Rattle.index_derive.specs.Steps.{entries_of_step}
use Rattle.database_state.specs.State.{DatabaseState, PastChange}
use Rattle.database_state.specs.Step.{state_after}
use Rattle.database_state.specs.SchemaChanges.{schema_refusal}
use Rattle.database_state.specs.Lawful.{has_next_numbers, has_number, is_lawful, is_lawful_kind, is_live}
use Rattle.laws_versions.specs.Records.{Records}
use Rattle.laws_versions.specs.KeptSteps.{base_after, dropped_after, kept_after}
use Rattle.laws_versions.proofs.KeyLemmas.BookmarkKeys.{HasOneEntry}
use Rattle.laws_versions.specs.RecordNumbers.{HasItsType}
use Rattle.laws_engine.specs.EntryTypes.{AreOfTheirTypes}
use Rattle.laws_engine.specs.LawfulSteps.{AreLawful, IsReached, IsReachedState}
use Rattle.session_local.specs.BuiltTables.{AllMakeBuilt, makes_built}
use Rattle.log_grammar.specs.EntryBytes.{entry_bytes, entry_rest, has_spelling, kind_bytes, kind_fits, schema_bytes}
use Rattle.log_grammar.specs.EntryStreams.{stream_fits}
use Rattle.loggable_steps.specs.Loggable.{fits_types, is_label, is_loggable, made_by}
use Rattle.loggable_steps.proofs.ChangeBytes.{IsAsked, change_spelled}
use Rattle.loggable_steps.proofs.SchemaBytes.{schema_spelled}

-- an entry of the kind can be written, and is short
record IsSpelled (kind : EntryKind) : Type 0 where
  fits : kind_fits kind ≡ true
  short : length (kind_bytes kind) ≤ 84890000

plain : {kind : EntryKind} → kind_fits kind ≡ true → kind_bytes kind ≡ [] → IsSpelled kind
plain {kind = kind} fits none = record { fits = fits; short = by (length (kind_bytes kind)) (ap length none) }
  where
    by : (n : ℕ) → n ≡ 0 → n ≤ 84890000
    by n e = omega (arith, e)

kind_spelled : (state : DatabaseState) → IsAsked state → (session : ℕ) (kind : EntryKind) → is_lawful_kind state session kind ≡ true → makes_built kind ≡ true → HasItsType kind → fits_types kind ≡ true → IsSpelled kind
kind_spelled state asked session entry.Enter lawful built typed sized = plain refl refl
kind_spelled state asked session entry.Leave lawful built typed sized = plain refl refl
kind_spelled state asked session (entry.Open table) lawful built typed sized = record { fits = sized; short = omega arith }
kind_spelled state asked session (entry.Shut table) lawful built typed sized = record { fits = sized; short = omega arith }
kind_spelled state asked session entry.Begin lawful built typed sized = plain refl refl
kind_spelled state asked session entry.Save lawful built typed sized = plain refl refl
kind_spelled state asked session (entry.Change change) lawful built typed sized = let is = change_spelled state asked session change lawful typed sized in record { fits = is.fits; short = is.short }
kind_spelled state asked session entry.Release lawful built typed sized = plain refl refl
kind_spelled state asked session entry.Undo lawful built typed sized = plain refl refl
kind_spelled state asked session entry.UndoAll lawful built typed sized = plain refl refl
kind_spelled state asked session entry.Commit lawful built typed sized = plain refl refl
kind_spelled state asked session (entry.Schema made) lawful built typed sized =
    let is = schema_spelled state asked session made (and_right (is_live state session) _ (and_left _ _ lawful)) (and_right (is_live state session && is_none (schema_refusal state session made)) (has_next_numbers state made) lawful) built sized in
    record { fits = is.fits; short = by (length (schema_bytes made)) is.short }
  where
    by : (n : ℕ) → n ≤ 1000 → suc n ≤ 84890000
    by n h = omega (arith, h)

rest_size : (made : Entry) → length (entry_rest made) ≡ 5 + length (kind_bytes made.kind)
rest_size made = omega (arith, length-append (to_le_bytes w32 made.session.0) (kind_bytes made.kind))

bytes_size : (made : Entry) → length (entry_bytes made) ≡ 9 + length (kind_bytes made.kind)
unfolding entry_bytes
bytes_size made = omega (arith, rest_size made, length-append (to_le_bytes w32 (length (entry_rest made))) (entry_rest made))

spelled : (made : Entry) → is_label made.session.0 ≡ true → IsSpelled made.kind → has_spelling made ≡ true
unfolding has_spelling
spelled made label is =
    and_from (nat_le 1 made.session.0 && nat_le made.session.0 99) (kind_fits made.kind && nat_lt (length (entry_rest made)) (2 ^ 32)) label
    (and_from (kind_fits made.kind) (nat_lt (length (entry_rest made)) (2 ^ 32)) is.fits (low (length (entry_rest made)) (length (kind_bytes made.kind)) (rest_size made) is.short))
  where
    low : (n k : ℕ) → n ≡ 5 + k → k ≤ 84890000 → nat_lt n (2 ^ 32) ≡ true
    low n k e h = grind (arith, nat_tests)

loggable : (made : Entry) → is_label made.session.0 ≡ true → IsSpelled made.kind → is_loggable made ≡ true
loggable made label is = and_from (has_spelling made) (nat_lt (length (entry_bytes made)) (2 ^ 27)) (spelled made label is) (low (length (entry_bytes made)) (length (kind_bytes made.kind)) (bytes_size made) is.short)
  where
    low : (n k : ℕ) → n ≡ 9 + k → k ≤ 84890000 → nat_lt n (2 ^ 27) ≡ true
    low n k e h = grind (arith, nat_tests)

-- the kind of a lawful entry is lawful
pub kind_of : (state : DatabaseState) (made : Entry) → is_lawful state made ≡ true → is_lawful_kind state made.session.0 made.kind ≡ true
unfolding is_lawful
kind_of state made e = and_right (has_number state.number made.kind) (is_lawful_kind state made.session.0 made.kind) e

pub entry_loggable : (state : DatabaseState) → IsAsked state → (made : Entry) → is_lawful state made ≡ true → makes_built made.kind ≡ true → HasItsType made.kind → is_label made.session.0 ≡ true → fits_types made.kind ≡ true → is_loggable made ≡ true
entry_loggable state asked made lawful built typed label sized = loggable made label (kind_spelled state asked made.session.0 made.kind (kind_of state made lawful) built typed sized)

-- ---- steps

abbrev pub Reaches : Type 0
Reaches = (base : Records) (dropped kept : List PastChange) (state : DatabaseState) (made : Entry) → IsReached base dropped kept state → is_lawful state made ≡ true → HasItsType made.kind
    → IsReached (base_after state made.kind base) (dropped_after made.kind dropped kept) (kept_after state made.session.0 made.kind kept) (state_after state made)

pub step_loggable : HasOneEntry → Reaches → (state : DatabaseState) (step : Step) → IsReachedState state → AreLawful state (entries_of_step (Some step)) → AllMakeBuilt (entries_of_step (Some step)) → AreOfTheirTypes (entries_of_step (Some step))
    → is_label (made_by step).session.0 ≡ true → fits_types (made_by step).kind ≡ true → is_loggable (made_by step) ≡ true
step_loggable one reaches state (One made) is lawful built typed label sized =
    entry_loggable state (record { one = one; base = is.base; dropped = is.dropped; kept = is.kept; reached = is.is_reached }) made lawful.0 built.0 typed.0 label sized
step_loggable one reaches state (Alone made) is lawful built typed label sized =
    let begin : Entry = record { session = made.session; kind = entry.Begin } in
    entry_loggable (state_after state begin)
    (record { one = one; base = base_after state begin.kind is.base; dropped = dropped_after begin.kind is.dropped is.kept; kept = kept_after state begin.session.0 begin.kind is.kept; reached = reaches is.base is.dropped is.kept state begin is.is_reached lawful.0 typed.0 })
    made lawful.1.0 built.1.0 typed.1.0 label sized

-- a begin and a commit have no field
bare_spelled : (made : Entry) (kind : EntryKind) → kind_fits kind ≡ true → kind_bytes kind ≡ [] → has_spelling made ≡ true → has_spelling (record { session = made.session; kind = kind }) ≡ true
unfolding has_spelling
bare_spelled made kind fits none h =
    spelled (record { session = made.session; kind = kind }) (and_left (nat_le 1 made.session.0 && nat_le made.session.0 99) (kind_fits made.kind && nat_lt (length (entry_rest made)) (2 ^ 32)) h) (plain fits none)

pub entries_spelled : (step : Step) → is_loggable (made_by step) ≡ true → stream_fits (entries_of_step (Some step)) ≡ true
entries_spelled (One made) h = and_from (has_spelling made) true (and_left (has_spelling made) _ h) refl
entries_spelled (Alone made) h =
    let own : has_spelling made ≡ true = and_left (has_spelling made) _ h in
    let begin : Entry = record { session = made.session; kind = entry.Begin } in
    let commit : Entry = record { session = made.session; kind = entry.Commit } in
    and_from (has_spelling begin) (stream_fits (made ∷ commit ∷ [])) (bare_spelled made entry.Begin refl refl own)
    (and_from (has_spelling made) (stream_fits (commit ∷ [])) own (and_from (has_spelling commit) true (bare_spelled made entry.Commit refl refl own) refl))
