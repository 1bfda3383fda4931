-- A log goes on with its engine, and a replay of it makes the state that the engine holds.
use Rattle.std.proofs.Common.{◌≡◌, ℕ, ◌≤◌, true, List, [], ◌∷◌, ◌++◌, length, drop, Some, refl, sym, ap, subst, ◌∙◌, arith}
use Rattle.std.proofs.lemmas.Bool.{and_from, and_parts}
use Rattle.std.proofs.lemmas.List.{append-nil}
use Rattle.std.proofs.lemmas.List.Concat.{flat_map-append}
use Rattle.common_lemmas.proofs.Lists.{all_append}
use Rattle.index_derive.specs.declared.log.Entry.{Entry}
use Rattle.index_derive.specs.declared.log.Step.{Step}
use Rattle.index_derive.specs.Steps.{entries_of_step}
use Rattle.database_state.specs.State.{DatabaseState}
use Rattle.database_state.specs.Step.{state_after, state_after_all}
use Rattle.database_state.specs.Lawful.{is_lawful}
use Rattle.laws_versions.specs.RecordNumbers.{HasItsType}
use Rattle.laws_engine.specs.EntryTypes.{AreOfTheirTypes}
use Rattle.laws_engine.specs.LawfulSteps.{AreLawful}
use Rattle.session_local.specs.BuiltTables.{AllMakeBuilt, makes_built}
use Rattle.laws_engine.specs.EngineState.{EngineState}
use Rattle.laws_engine.specs.EngineSteps.{engine_after, engine_after_step}
use Rattle.laws_engine.specs.HoldsState.{HoldsState}
use Rattle.laws_engine.proofs.EngineLemmas.AfterEntries.{entry_holds}
use Rattle.laws_engine.proofs.EngineLemmas.Cleans.{step_holds}
use Rattle.laws_engine.proofs.HeldLemmas.EquivalentRuns.{held_entries}
use Rattle.log_grammar.specs.EntryBytes.{BeginsWithNone, entry_bytes, has_spelling}
use Rattle.log_grammar.specs.EntryStreams.{Holds, stream_bytes, stream_fits}
use Rattle.entry_log.specs.LogState.{IsKeptOf, KeptStream, appended, empty_stream, stream_end, trimmed_to}
use Rattle.entry_log.specs.StreamLaws.{first_stream, goes_on, trimmed_stream}
use Rattle.loggable_steps.specs.Loggable.{is_loggable, made_by}
use Rattle.loggable_steps.specs.Replays.{HasLogged}
use Rattle.loggable_steps.proofs.Spelled.{entries_spelled}

-- ---- runs one after the other

state_after-append : (state : DatabaseState) (xs ys : List Entry) → state_after_all state (xs ++ ys) ≡ state_after_all (state_after_all state xs) ys
state_after-append state [] ys = refl
state_after-append state (x ∷ xs) ys = state_after-append (state_after state x) xs ys

lawful-append : (state : DatabaseState) (xs ys : List Entry) → AreLawful state xs → AreLawful (state_after_all state xs) ys → AreLawful state (xs ++ ys)
lawful-append state [] ys h g = g
lawful-append state (x ∷ xs) ys h g = (h.0, lawful-append (state_after state x) xs ys h.1 g)

spelled-append : (xs ys : List Entry) → stream_fits xs ≡ true → stream_fits ys ≡ true → stream_fits (xs ++ ys) ≡ true
spelled-append [] ys h g = g
spelled-append (x ∷ xs) ys h g = let both = and_parts (has_spelling x) (stream_fits xs) h in and_from (has_spelling x) (stream_fits (xs ++ ys)) both.0 (spelled-append xs ys both.1 g)

-- ---- states that one engine holds take the same entries

lawful_alike : (engine : EngineState) (one other : DatabaseState) → HoldsState engine one → HoldsState engine other → (entries : List Entry) → AllMakeBuilt entries → AreOfTheirTypes entries → AreLawful one entries → AreLawful other entries
lawful_alike engine one other h g [] built typed lawful = tt
lawful_alike engine one other h g (made ∷ entries) built typed lawful =
    let first : is_lawful other made ≡ true = sym (held_entries engine one other h g made) ∙ lawful.0 in (
      first,
      lawful_alike (engine_after engine made) (state_after one made) (state_after other made) (entry_holds engine one made h lawful.0 built.0 typed.0) (entry_holds engine other made g first built.0 typed.0) entries built.1 typed.1 lawful.1,
    )

-- ---- a log goes on

pub first_logged : (opening : DatabaseState) (engine : EngineState) → HoldsState engine opening → HasLogged opening [] engine empty_stream
first_logged opening engine h = record { lawful = tt; built = tt; typed = tt; spelled = refl; kept = first_stream; holds = h }

pub step_logged : (opening : DatabaseState) (entries : List Entry) (engine : EngineState) (stream : KeptStream) → HasLogged opening entries engine stream
    → (state : DatabaseState) (step : Step) → HoldsState engine state → AreLawful state (entries_of_step (Some step)) → AllMakeBuilt (entries_of_step (Some step)) → AreOfTheirTypes (entries_of_step (Some step)) → is_loggable (made_by step) ≡ true
    → HasLogged opening (entries ++ entries_of_step (Some step)) (engine_after_step engine step) (appended (stream_bytes (entries_of_step (Some step))) stream)
step_logged opening entries engine stream log state step h lawful built typed loggable =
    let more : List Entry = entries_of_step (Some step) in
    let own : AreLawful (state_after_all opening entries) more = lawful_alike engine state (state_after_all opening entries) h log.holds more built typed lawful in
    record {
      lawful = lawful-append opening entries more log.lawful own;
      built = all_append (λ made. makes_built made.kind ≡ true) entries more log.built built;
      typed = all_append (λ made. HasItsType made.kind) entries more log.typed typed;
      spelled = spelled-append entries more log.spelled (entries_spelled step loggable);
      kept = subst (λ (whole : List ℕ). IsKeptOf whole (appended (stream_bytes more) stream)) (sym (flat_map-append entry_bytes entries more)) (goes_on (stream_bytes entries) (stream_bytes more) stream log.kept);
      holds = subst (HoldsState (engine_after_step engine step)) (sym (state_after-append opening entries more)) (step_holds engine (state_after_all opening entries) step log.holds own built typed);
    }

pub same_logged : (opening : DatabaseState) (entries : List Entry) (engine other : EngineState) (stream : KeptStream) → HasLogged opening entries engine stream → ((state : DatabaseState) → HoldsState engine state → HoldsState other state) → HasLogged opening entries other stream
same_logged opening entries engine other stream log same = record {
  lawful = log.lawful;
  built = log.built;
  typed = log.typed;
  spelled = log.spelled;
  kept = log.kept;
  holds = same (state_after_all opening entries) log.holds;
}

pub trimmed_logged : (opening : DatabaseState) (entries : List Entry) (engine : EngineState) (stream : KeptStream) (position : ℕ) → HasLogged opening entries engine stream → position ≤ stream_end stream → HasLogged opening entries engine (trimmed_to position stream)
trimmed_logged opening entries engine stream position log le = record {
  lawful = log.lawful;
  built = log.built;
  typed = log.typed;
  spelled = log.spelled;
  kept = trimmed_stream (stream_bytes entries) position stream log.kept le;
  holds = log.holds;
}

-- ---- it is read back

has_bytes : (made : Entry) (rest : List ℕ) → 1 ≤ length (entry_bytes made ++ rest)
unfolding entry_bytes
has_bytes made rest = omega arith

-- no entry has no byte
none_begins : BeginsWithNone []
none_begins made begins = never (length (entry_bytes made ++ begins.0)) (has_bytes made begins.0) (ap length begins.2)
  where
    never : (n : ℕ) → 1 ≤ n → 0 ≡ n → ⊥
    never n h e = omega (arith, h, e)

abbrev pub ReadOnce : Type 0
ReadOnce = (bytes : List ℕ) (a b : List Entry) (s t : List ℕ) → Holds bytes a s → Holds bytes b t → (a ≡ b) × (s ≡ t)

pub read_back : ReadOnce → (opening : DatabaseState) (entries : List Entry) (engine : EngineState) (stream : KeptStream) → HasLogged opening entries engine stream → stream.from ≡ 0 → (read : List Entry) (rest : List ℕ) → Holds stream.bytes read rest → (read ≡ entries) × (rest ≡ [])
read_back once opening entries engine stream log whole read rest holds =
    let bytes : stream.bytes ≡ stream_bytes entries = log.kept.bytes_are ∙ ap (λ (n : ℕ). drop n (stream_bytes entries)) whole in
    once stream.bytes read entries rest [] holds (log.spelled, bytes ∙ sym (append-nil (stream_bytes entries)), none_begins)

pub replayed : ReadOnce → (opening : DatabaseState) (entries : List Entry) (engine : EngineState) (stream : KeptStream) → HasLogged opening entries engine stream → stream.from ≡ 0 → (read : List Entry) (rest : List ℕ) → Holds stream.bytes read rest
    → AreLawful opening read × HoldsState engine (state_after_all opening read)
replayed once opening entries engine stream log whole read rest holds =
    let same : read ≡ entries = (read_back once opening entries engine stream log whole read rest holds).0 in
    (subst (AreLawful opening) (sym same) log.lawful, subst (λ (made : List Entry). HoldsState engine (state_after_all opening made)) (sym same) log.holds)
