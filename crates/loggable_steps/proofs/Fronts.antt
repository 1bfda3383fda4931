-- A front of the bytes of a log is a log of its first entries.
use Rattle.std.proofs.Common.{◌≡◌, ℕ, true, List, [], ◌∷◌, ◌++◌, drop, refl, sym, ap, subst, ◌∙◌, arith}
use Rattle.std.specs.List.{AllByRecursion}
use Rattle.std.proofs.lemmas.Bool.{and_from, and_parts}
use Rattle.index_derive.specs.declared.log.Entry.{Entry}
use Rattle.database_state.specs.State.{DatabaseState}
use Rattle.database_state.specs.Step.{state_after}
use Rattle.laws_versions.specs.RecordNumbers.{HasItsType}
use Rattle.laws_engine.specs.EntryTypes.{AreOfTheirTypes}
use Rattle.laws_engine.specs.LawfulSteps.{AreLawful}
use Rattle.session_local.specs.BuiltTables.{AllMakeBuilt, makes_built}
use Rattle.laws_engine.specs.EngineState.{EngineState}
use Rattle.laws_engine.specs.EngineSteps.{engine_after_all}
use Rattle.laws_engine.specs.HoldsState.{HoldsState}
use Rattle.laws_engine.proofs.EngineLemmas.AfterEntries.{entries_hold}
use Rattle.log_grammar.specs.EntryBytes.{BeginsWithNone, IsCut, has_spelling}
use Rattle.log_grammar.specs.EntryStreams.{Holds, HoldsFirst, stream_bytes, stream_fits}
use Rattle.entry_log.specs.LogState.{KeptStream}
use Rattle.loggable_steps.specs.Replays.{HasLogged, IsCutLog, whole_stream}
use Rattle.loggable_steps.proofs.Replaying.{ReadOnce}

-- ---- the first of some entries

all_first : {X : Type 0} (P : X → Type 0) (xs ys : List X) → AllByRecursion P (xs ++ ys) → AllByRecursion P xs
all_first P [] ys h = tt
all_first P (x ∷ xs) ys h = (h.0, all_first P xs ys h.1)

lawful_first : (state : DatabaseState) (xs ys : List Entry) → AreLawful state (xs ++ ys) → AreLawful state xs
lawful_first state [] ys h = tt
lawful_first state (x ∷ xs) ys h = (h.0, lawful_first (state_after state x) xs ys h.1)

spelled_first : (xs ys : List Entry) → stream_fits (xs ++ ys) ≡ true → stream_fits xs ≡ true
spelled_first [] ys h = refl
spelled_first (x ∷ xs) ys h = let both = and_parts (has_spelling x) (stream_fits (xs ++ ys)) h in and_from (has_spelling x) (stream_fits xs) both.0 (spelled_first xs ys both.1)

-- ---- fronts

abbrev pub FrontsHoldTheFirst : Type 0
FrontsHoldTheFirst = (entries : List Entry) (front behind : List ℕ) → stream_fits entries ≡ true → stream_bytes entries ≡ front ++ behind → HoldsFirst front entries

abbrev pub CutBeginsWithNone : Type 0
CutBeginsWithNone = (bytes : List ℕ) → IsCut bytes → BeginsWithNone bytes

-- the laws of fronts
pub record FrontLaws : Type 0 where
  pub fronts : FrontsHoldTheFirst
  pub none : CutBeginsWithNone
  pub once : ReadOnce

whole_bytes : (opening : DatabaseState) (entries : List Entry) (engine : EngineState) (stream : KeptStream) → HasLogged opening entries engine stream → stream.from ≡ 0 → stream.bytes ≡ stream_bytes entries
whole_bytes opening entries engine stream log whole = log.kept.bytes_are ∙ ap (λ (n : ℕ). drop n (stream_bytes entries)) whole

found : FrontLaws → (opening : DatabaseState) (entries : List Entry) (engine : EngineState) (stream : KeptStream) → HasLogged opening entries engine stream → stream.from ≡ 0 → (front behind : List ℕ) → stream.bytes ≡ front ++ behind → HoldsFirst front entries
found laws opening entries engine stream log whole front behind cut = laws.fronts entries front behind log.spelled (sym (whole_bytes opening entries engine stream log whole) ∙ cut)

-- what is found is read back
holds_found : FrontLaws → (entries : List Entry) (front : List ℕ) → stream_fits entries ≡ true → (f : HoldsFirst front entries) → Holds front f.0 f.2
holds_found laws entries front spelled f =
    (spelled_first f.0 f.1 (subst (λ (made : List Entry). stream_fits made ≡ true) f.3 spelled), f.4, laws.none f.2 f.5)

pub front_read : FrontLaws → (opening : DatabaseState) (entries : List Entry) (engine : EngineState) (stream : KeptStream) → HasLogged opening entries engine stream → stream.from ≡ 0 → (front behind : List ℕ) → stream.bytes ≡ front ++ behind
    → (read : List Entry) × (rest : List ℕ) × Holds front read rest
front_read laws opening entries engine stream log whole front behind cut =
    let f = found laws opening entries engine stream log whole front behind cut in
    (f.0, f.2, holds_found laws entries front log.spelled f)

pub front_first : FrontLaws → (opening : DatabaseState) (entries : List Entry) (engine : EngineState) (stream : KeptStream) → HasLogged opening entries engine stream → stream.from ≡ 0 → (front behind : List ℕ) → stream.bytes ≡ front ++ behind
    → (read : List Entry) (rest : List ℕ) → Holds front read rest → IsCutLog entries read rest
front_first laws opening entries engine stream log whole front behind cut read rest holds =
    let f = found laws opening entries engine stream log whole front behind cut in
    let same = laws.once front f.0 read f.2 rest (holds_found laws entries front log.spelled f) holds in
    record {
      others = f.1;
      split = f.3 ∙ ap (λ (made : List Entry). made ++ f.1) same.0;
      cut = subst IsCut same.1 f.5;
    }

-- ---- they are a log of their own

first_logged : (opening : DatabaseState) (entries : List Entry) (engine : EngineState) (stream : KeptStream) → HasLogged opening entries engine stream → (read others : List Entry) → entries ≡ read ++ others
    → (first : EngineState) → HoldsState first opening → HasLogged opening read (engine_after_all first read) (whole_stream read)
first_logged opening entries engine stream log read others split first h =
    let lawful : AreLawful opening read = lawful_first opening read others (subst (AreLawful opening) split log.lawful) in
    let built : AllMakeBuilt read = all_first (λ made. makes_built made.kind ≡ true) read others (subst AllMakeBuilt split log.built) in
    let typed : AreOfTheirTypes read = all_first (λ made. HasItsType made.kind) read others (subst AreOfTheirTypes split log.typed) in
    record {
      lawful = lawful;
      built = built;
      typed = typed;
      spelled = spelled_first read others (subst (λ (made : List Entry). stream_fits made ≡ true) split log.spelled);
      kept = record { within = omega arith; bytes_are = refl };
      holds = entries_hold first opening read h lawful built typed;
    }

pub front_replayed : FrontLaws → (opening : DatabaseState) (entries : List Entry) (engine : EngineState) (stream : KeptStream) → HasLogged opening entries engine stream → stream.from ≡ 0 → (front behind : List ℕ) → stream.bytes ≡ front ++ behind
    → (read : List Entry) (rest : List ℕ) → Holds front read rest → (first : EngineState) → HoldsState first opening → HasLogged opening read (engine_after_all first read) (whole_stream read)
front_replayed laws opening entries engine stream log whole front behind cut read rest holds first h =
    let is = front_first laws opening entries engine stream log whole front behind cut read rest holds in
    first_logged opening entries engine stream log read is.others is.split first h
