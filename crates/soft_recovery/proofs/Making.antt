-- An entry that may come next is made.
use Rattle.std.proofs.Common.{◌≡◌, ◌⊎◌, inl, ⊎_elim, ℕ, ◌≤◌, ◌^◌, Bool, true, false, ◌&&◌, List, [], ◌∷◌, length, Option, Some, refl, sym, ◌∙◌, ap, subst, arith, length-append}
use Rattle.std.specs.Prelude.{nat_le, nat_lt, Result, Ok, Err}
use Rattle.std.proofs.lemmas.Bool.{and_from, and_parts}
use Rattle.std.proofs.lemmas.Bool.Decides.{nat_tests}
use Rattle.common_lemmas.proofs.Booleans.{impossible}
use Rattle.index_derive.specs.declared.log.Entry.{Entry}
use Rattle.index_derive.specs.declared.log.Step.{Step}
use Rattle.index_derive.specs.declared.log.Step.TheVariants.{One, Alone}
use Rattle.index_derive.specs.Steps.{entries_of_step}
use Rattle.database_state.specs.Lawful.{is_lawful}
use Rattle.database_state.specs.State.{DatabaseState}
use Rattle.database_state.specs.Step.{state_after, state_after_all}
use Rattle.engine_core.specs.Steps.{MayTake}
use Rattle.laws_engine.specs.EntryTypes.{AreOfTheirTypes}
use Rattle.laws_engine.specs.LawfulSteps.{AreLawful}
use Rattle.laws_engine.specs.EngineState.{EngineState, HasRoomForEnds}
use Rattle.laws_engine.specs.EngineSteps.{cleaned_for, cleans_first, engine_after_step}
use Rattle.laws_engine.specs.HoldsState.{HoldsState}
use Rattle.laws_images.specs.SoundStates.{IsLabel, IsSoundState}
use Rattle.log_grammar.specs.EntryBytes.{BeginsWith, BeginsWithNone, IsCut, entry_bytes, entry_rest, has_spelling, kind_fits}
use Rattle.log_grammar.specs.EntryStreams.{stream_fits}
use Rattle.log_grammar.proofs.FrontLaws.{one_spelling}
use Rattle.log_grammar.proofs.Streams.{cut_is_not_whole}
use Rattle.loggable_steps.specs.Loggable.{made_by}
use Rattle.session_local.specs.BuiltTables.{AllMakeBuilt, makes_built}
use Rattle.soft_recovery.specs.Replaying.{GoesOn, HasNoFront, MayReplay, TakesStep, TellsFront}
use Rattle.soft_recovery.specs.declared.fault.ReplayFault.{ReplayFault}
use Rattle.soft_recovery.specs.declared.fault.ReplayFault.TheVariants.{LogFileCorrupt, OutOfMemory}

-- ---- what a spelling tells

pub one_fits : (made : Entry) → has_spelling made ≡ true → stream_fits (made ∷ []) ≡ true
one_fits made h = and_from (has_spelling made) true h refl

above : (n : ℕ) → nat_le 1 n ≡ true → 1 ≤ n
above n h = grind (arith, nat_tests)

below : (n : ℕ) → nat_le n 99 ≡ true → n ≤ 99
below n h = grind (arith, nat_tests)

label_of : (made : Entry) → has_spelling made ≡ true → IsLabel made.session.0
unfolding has_spelling
label_of made h =
    let n = made.session.0 in
    let label = (and_parts (nat_le 1 n && nat_le n 99) (kind_fits made.kind && nat_lt (length (entry_rest made)) (2 ^ 32)) h).0 in
    (above n (and_parts (nat_le 1 n) (nat_le n 99) label).0, below n (and_parts (nat_le 1 n) (nat_le n 99) label).1)

some_byte : (made : Entry) → 1 ≤ length (entry_bytes made)
unfolding entry_bytes
some_byte made = omega arith

-- ---- the laws

abbrev pub KeepsSound : Type 0
KeepsSound = (state : DatabaseState) (made : Entry) → IsSoundState state → IsLabel made.session.0 → is_lawful state made ≡ true → IsSoundState (state_after state made)

pub sound_after : KeepsSound → (state : DatabaseState) (entries : List Entry) → AreLawful state entries → stream_fits entries ≡ true → IsSoundState state → IsSoundState (state_after_all state entries)
sound_after keeps state [] lawful fits sound = sound
sound_after keeps state (made ∷ entries) lawful fits sound =
    let both = and_parts (has_spelling made) (stream_fits entries) fits in
    sound_after keeps (state_after state made) entries lawful.1 both.1 (keeps state made sound (label_of made both.0) lawful.0)

pub record MakingLaws : Type 0 where
  pub built : (entries : List Entry) → stream_fits entries ≡ true → AllMakeBuilt entries
  pub typed : (entries : List Entry) → stream_fits entries ≡ true → AreOfTheirTypes entries
  pub sound : KeepsSound
  pub next : (engine : EngineState) (state : DatabaseState) (step : Step) → HoldsState engine state → AreLawful state (entries_of_step (Some step)) → AllMakeBuilt (entries_of_step (Some step)) → AreOfTheirTypes (entries_of_step (Some step))
      → HoldsState (engine_after_step engine step) (state_after_all state (entries_of_step (Some step)))
  pub room : (engine : EngineState) (state : DatabaseState) (step : Step) → HoldsState engine state → AreLawful state (entries_of_step (Some step)) → AllMakeBuilt (entries_of_step (Some step)) → AreOfTheirTypes (entries_of_step (Some step))
      → HasRoomForEnds engine → HasRoomForEnds (engine_after_step engine step)
  pub fresh : (engine : EngineState) (state : DatabaseState) (step : Step) → HoldsState engine state → AreLawful state (entries_of_step (Some step)) → engine.sessions ≡ [] → HasRoomForEnds engine

-- the entry that a match on a step tells
pub one_of : (step : Step) (made : Entry) → (step ≡ One made) ⊎ (step ≡ Alone made) → made_by step ≡ made
one_of step made is = ⊎_elim (λ (e : step ≡ One made). ap made_by e) (λ (e : step ≡ Alone made). ap made_by e) is

pub built_of : ((entries : List Entry) → stream_fits entries ≡ true → AllMakeBuilt entries) → (step : Step) (made : Entry) → has_spelling (made_by step) ≡ true → made_by step ≡ made → makes_built made.kind ≡ true
built_of built step made spelled is = subst (λ (e : Entry). makes_built e.kind ≡ true) is (built (made_by step ∷ []) (one_fits (made_by step) spelled)).0

same_limit : (engine : EngineState) (made : Entry) → (engine_after_step engine (One made)).limit ≡ engine.limit
same_limit engine made = by (cleans_first made.kind)
  where
    by : (b : Bool) → (cleaned_for b engine).limit ≡ engine.limit
    by true = refl
    by false = refl

module _ (laws : MakingLaws) where
  pub may_take : (engine : EngineState) (made : Entry) (may : MayReplay engine) → has_spelling made ≡ true → is_lawful may.state made ≡ true → MayTake engine (One made)
  may_take engine made may spelled lawful = record {
    state = may.state;
    holds = may.holds;
    lawful = (lawful, tt);
    built = laws.built (made ∷ []) (one_fits made spelled);
    typed = laws.typed (made ∷ []) (one_fits made spelled);
  }

  pub has_room : (engine : EngineState) (made : Entry) (may : MayReplay engine) → is_lawful may.state made ≡ true → HasRoomForEnds engine
  has_room engine made may lawful = ⊎_elim (λ (room : HasRoomForEnds engine). room) (λ (none : engine.sessions ≡ []). laws.fresh engine may.state (One made) may.holds (lawful, tt) none) may.room

  pub is_made : (old new : EngineState) (made : Entry) → MayReplay old → has_spelling made ≡ true → ((state : DatabaseState) → HoldsState old state → is_lawful state made ≡ true)
      → new ≡ engine_after_step old (One made) → (size : ℕ) → TakesStep old new made size (Ok (Some size))
  is_made old new made may spelled lawful is size =
      let comes = lawful may.state may.holds in
      let built = laws.built (made ∷ []) (one_fits made spelled) in
      let typed = laws.typed (made ∷ []) (one_fits made spelled) in
      let on : GoesOn old (engine_after_step old (One made)) = record {
        may = record {
          state = state_after may.state made;
          holds = laws.next old may.state (One made) may.holds (comes, tt) built typed;
          sound = laws.sound may.state made may.sound (label_of made spelled) comes;
          room = inl (laws.room old may.state (One made) may.holds (comes, tt) built typed (has_room old made may comes));
        };
        limit = same_limit old made;
      } in (
        refl,
        subst (λ (e : EngineState). GoesOn old e) (sym is) on,
        λ state h. record {
          lawful = lawful state h;
          holds = subst (λ (e : EngineState). HoldsState e (state_after state made)) (sym is) (laws.next old state (One made) h (lawful state h, tt) built typed);
        },
      )

-- ---- what stands in front

not_taken : (bytes : List ℕ) (made : Entry) → BeginsWith bytes made → (state : DatabaseState) → is_lawful state made ≡ false → HasNoFront bytes state
not_taken bytes made begins state refused = record {
  none = λ other also lawful. impossible (sym refused ∙ ap (λ (e : Entry). is_lawful state e) (one_spelling bytes made other begins also) ∙ lawful);
  uncut = λ cut. cut_is_not_whole bytes cut made begins;
}

same_size : (taken : Option ℕ) (old new : EngineState) (bytes : List ℕ) (size : ℕ) → taken ≡ Some size → TellsFront old new bytes (Ok (Some size)) → TellsFront old new bytes (Ok taken)
same_size taken old new bytes size is tells = subst (λ (t : Option ℕ). TellsFront old new bytes (Ok t)) (sym is) tells

pub taken : (old new : EngineState) (bytes : List ℕ) (made : Entry) (size : ℕ) (answer : Result (Option ℕ) ReplayFault) → BeginsWith bytes made → size ≡ length (entry_bytes made) → TakesStep old new made size answer → TellsFront old new bytes answer
taken old new bytes made size (Ok answer) begins size_is tells = same_size answer old new bytes size tells.0 (
  omega (arith, size_is, some_byte made),
  omega (arith, size_is, ap length begins.2, length-append (entry_bytes made) begins.0),
  tells.1,
  record { made = made; behind = begins.0; spelled = begins.1; is = begins.2; size_is = size_is; is_made = tells.2 },
)
taken old new bytes made size (Err LogFileCorrupt) begins size_is refused = λ state holds. not_taken bytes made begins state (refused state holds)
taken old new bytes made size (Err OutOfMemory) begins size_is tells = tt

pub none_begins : (bytes : List ℕ) → BeginsWithNone bytes → (IsCut bytes → ⊥) → (state : DatabaseState) → HasNoFront bytes state
none_begins bytes none uncut state = record { none = λ made begins lawful. none made begins; uncut = uncut }
