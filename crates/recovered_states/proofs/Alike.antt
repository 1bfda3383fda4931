-- States that are alike take the same entries, which leave them alike.
use Rattle.std.proofs.Common.{◌≡◌, ◌≤◌, ℕ, true, List, [], ◌∷◌, Option, Some, None, sym, ap, subst, ◌∙◌, arith}
use Rattle.index_derive.specs.declared.log.Entry.{Entry}
use Rattle.database_state.specs.Equivalence.{AreEquivalent, essence}
use Rattle.database_state.specs.Lawful.{is_lawful}
use Rattle.database_state.specs.State.{DatabaseState, empty_state}
use Rattle.database_state.specs.Step.{state_after, state_after_all}
use Rattle.laws_engine.specs.EntryTypes.{AreOfTheirTypes}
use Rattle.laws_engine.specs.LawfulSteps.{AreLawful}
use Rattle.laws_engine.specs.PlainIndexes.{read_no_sums}
use Rattle.laws_engine.specs.EngineState.{EngineState, empty_engine, engine_of}
use Rattle.laws_engine.specs.EngineSteps.{engine_after_all}
use Rattle.laws_engine.specs.HoldsState.{HoldsState}
use Rattle.laws_images.specs.Settled.{AreAlike, settled}
use Rattle.laws_versions.specs.History.{EachTwo, HasHistory, LabelsRise}
use Rattle.session_local.specs.BuiltTables.{AllMakeBuilt}
use Rattle.image_findings.specs.Findings.{engine_in}
use Rattle.loggable_steps.specs.Replays.{closed}
use Rattle.store_core.specs.Stands.{Checkpoint}
use Rattle.recovered_states.specs.Recovers.{IsHeld, MayCome, ShowsState, image_of}
use Rattle.recovered_states.proofs.Spelled.{all_built, all_typed}

-- the laws of engines and of alike states
pub record AlikeLaws : Type 0 where
  pub plain : (engine : EngineState) (state : DatabaseState) → HoldsState engine state → read_no_sums state.tables ≡ true
  pub many : (engine : EngineState) (state : DatabaseState) (entries : List Entry) → HoldsState engine state → AreLawful state entries → AllMakeBuilt entries → AreOfTheirTypes entries → HoldsState (engine_after_all engine entries) (state_after_all state entries)
  pub takes : (one other : DatabaseState) → AreAlike one other → read_no_sums one.tables ≡ true → (made : Entry) → is_lawful one made ≡ is_lawful other made
  pub stays : (one other : DatabaseState) → AreAlike one other → HasHistory one → HasHistory other → EachTwo LabelsRise one.sessions → (made : Entry) → is_lawful one made ≡ true → AreAlike (state_after one made) (state_after other made)

module _ (laws : AlikeLaws) where
  history : (engine : EngineState) (state : DatabaseState) → HoldsState engine state → HasHistory state
  history engine state h = record { base = h.base; dropped = h.dropped; kept = h.kept; is_history = h.reached.history }

  record Both (one other : DatabaseState) (entries : List Entry) : Type 0 where
    pub come : AreLawful other entries
    pub alike : AreAlike (state_after_all one entries) (state_after_all other entries)

  both : (engine second : EngineState) (one other : DatabaseState) (entries : List Entry) → HoldsState engine one → HoldsState second other → AreAlike one other
      → AreLawful one entries → AllMakeBuilt entries → AreOfTheirTypes entries → Both one other entries
  both engine second one other [] held holds alike lawful built typed = record { come = tt; alike = alike }
  both engine second one other (made ∷ entries) held holds alike lawful built typed =
      let may : is_lawful other made ≡ true = sym (laws.takes one other alike (laws.plain engine one held) made) ∙ lawful.0 in
      let after : AreAlike (state_after one made) (state_after other made) = laws.stays one other alike (history engine one held) (history second other holds) held.labels made lawful.0 in
      let rest = both (engine_after_all engine (made ∷ [])) (engine_after_all second (made ∷ [])) (state_after one made) (state_after other made) entries
      (laws.many engine one (made ∷ []) held (lawful.0, tt) (built.0, tt) (typed.0, tt)) (laws.many second other (made ∷ []) holds (may, tt) (built.0, tt) (typed.0, tt)) after lawful.1 built.1 typed.1 in
      record { come = (may, rest.come); alike = rest.alike }

  -- alike states take the same entries, and are alike afterwards
  pub comes : (one other : DatabaseState) (entries : List Entry) → IsHeld one → IsHeld other → AreAlike one other → MayCome one entries → MayCome other entries
  comes one other entries held holds alike come = record {
    lawful = (both held.0 holds.0 one other entries held.1 holds.1 alike come.lawful (all_built entries come.spelled) (all_typed entries come.spelled)).come;
    spelled = come.spelled;
  }

  pub goes : (one other : DatabaseState) (entries : List Entry) → IsHeld one → IsHeld other → AreAlike one other → MayCome one entries → AreAlike (state_after_all one entries) (state_after_all other entries)
  goes one other entries held holds alike come = (both held.0 holds.0 one other entries held.1 holds.1 alike come.lawful (all_built entries come.spelled) (all_typed entries come.spelled)).alike

  -- a state after entries is held
  pub held_after : (state : DatabaseState) (entries : List Entry) → IsHeld state → MayCome state entries → IsHeld (state_after_all state entries)
  held_after state entries held come =
      (engine_after_all held.0 entries, laws.many held.0 state entries held.1 come.lawful (all_built entries come.spelled) (all_typed entries come.spelled))

-- ---- what a checkpoint shows

abbrev pub EmptyHolds : Type 0
EmptyHolds = (limit : ℕ) → HoldsState (empty_engine limit) empty_state

pub shows_held : EmptyHolds → (checkpoint : Option Checkpoint) (state : DatabaseState) → ShowsState checkpoint state → IsHeld state
shows_held empty None state shows = subst IsHeld (sym shows) (empty_engine 0, empty 0)
shows_held empty (Some checkpoint) state shows = (engine_in 0 (image_of checkpoint), shows.1)

-- all states that it shows are alike
pub shown_alike : ((engine : EngineState) (one other : DatabaseState) → HoldsState engine one → HoldsState engine other → AreEquivalent one other) → ((one other : DatabaseState) → AreEquivalent one other → AreAlike one other)
    → (checkpoint : Option Checkpoint) (a b : DatabaseState) → ShowsState checkpoint a → ShowsState checkpoint b → AreAlike a b
shown_alike same alike None a b is also = ap (λ (s : DatabaseState). essence (settled s)) (is ∙ sym also)
shown_alike same alike (Some checkpoint) a b is also = alike a b (same (engine_in 0 (image_of checkpoint)) a b is.1 also.1)

-- what is left once all sessions are given up is held, by the engine of its tables
pub closed_held : ((engine : EngineState) (state : DatabaseState) → HoldsState engine state → (limit newest : ℕ) → newest ≤ state.number → HoldsState (engine_of limit newest (closed state)) (closed state))
    → (state : DatabaseState) → IsHeld state → IsHeld (closed state)
closed_held holds state held = (engine_of 0 0 (closed state), holds held.0 state held.1 0 0 (omega arith))
