-- An own image is consistent, and what it shows is what its engine holds.
use Rattle.std.proofs.Common.{◌≡◌, ◌≤◌, ℕ, true, List, sym, subst, ◌∙◌, arith}
use Rattle.database_state.specs.Equivalence.{AreEquivalent}
use Rattle.database_state.specs.State.{DatabaseState}
use Rattle.laws_engine.specs.EngineState.{EngineState}
use Rattle.laws_engine.specs.HoldsState.{HoldsState}
use Rattle.laws_images.proofs.SettledLemmas.HeldStates.{settled_holds}
use Rattle.laws_images.specs.Settled.{AreAlike, settled, settled_engine}
use Rattle.laws_images.specs.ShowableEngines.{state_of}
use Rattle.live_part.specs.LiveBytes.{live_bytes, live_fits}
use Rattle.version_cleanup.specs.LiveSessions.{LiveState}
use Rattle.image_findings.specs.Findings.{IsConsistent, engine_in, state_in}
use Rattle.image_findings.specs.ImageBytes.{IsOfBytes}
use Rattle.image_findings.specs.Images.{ImageContents}
use Rattle.own_images.proofs.EngineFindings.{AgainLaw, keys_left}
use Rattle.own_images.proofs.KeysFound.{own_keys}
use Rattle.own_images.proofs.OneValue.{MapLaws}
use Rattle.own_images.proofs.RowsSound.{NewestLaw}
use Rattle.own_images.proofs.SettledShown.{own_engine}
use Rattle.own_images.proofs.Walked.{WalkLaws}
use Rattle.own_images.specs.OwnEngines.{IsOwnEngine, engine_of_store, live_of_store}
use Rattle.own_images.specs.OwnStores.{OwnStore, image_of}

-- the image that an engine writes of its store
abbrev own_image : List LiveState → OwnStore → ImageContents
own_image sessions store = image_of store (live_bytes (live_of_store sessions store))

pub consistent : WalkLaws → MapLaws → NewestLaw → AgainLaw → (sessions : List LiveState) (store : OwnStore) → IsOwnEngine sessions store → live_fits (live_of_store sessions store) ≡ true → IsConsistent (own_image sessions store)
consistent walks maps law again sessions store own fits = keys_left walks maps law again sessions store own fits ∙ own_keys walks sessions store own

-- ---- the engine that is made of it

-- an engine holds the same state with another limit, and where the newest put may be the last entry
with_newest : (limit : ℕ) (engine : EngineState) (state : DatabaseState) → HoldsState engine state → HoldsState (record engine { limit = limit; newest_put = engine.number }) state
with_newest limit engine state h = record {
  base = h.base;
  dropped = h.dropped;
  kept = h.kept;
  reached = h.reached;
  holds = h.holds;
  stored = h.stored;
  number = h.number;
  greatest = h.greatest;
  newest = itself engine.number;
  sessions = h.sessions;
  labels = h.labels;
  built = h.built;
}
  where
    itself : (n : ℕ) → n ≤ n
    itself n = omega (arith)

pub holds_settled : WalkLaws → AgainLaw → (limit : ℕ) (sessions : List LiveState) (store : OwnStore) → IsOwnEngine sessions store → live_fits (live_of_store sessions store) ≡ true → HoldsState (engine_in limit (own_image sessions store)) (settled store.state)
holds_settled walks again limit sessions store own fits =
    subst (λ (engine : EngineState). HoldsState engine (settled store.state)) (sym (own_engine walks again limit sessions store own.kept fits))
    (with_newest limit (settled_engine (engine_of_store own.limit sessions store)) (settled store.state) (settled_holds (engine_of_store own.limit sessions store) store.state own.holds))

-- ---- the state that it shows

-- an own image is consistent, and the engine that is made of it holds the settled state; an engine of a consistent image holds the state
-- that this shows; and one engine holds equivalent states
pub record ShowLaws : Type 0 where
  pub consistent : (sessions : List LiveState) (store : OwnStore) → IsOwnEngine sessions store → live_fits (live_of_store sessions store) ≡ true → IsConsistent (own_image sessions store)
  pub holds : (limit : ℕ) (sessions : List LiveState) (store : OwnStore) → IsOwnEngine sessions store → live_fits (live_of_store sessions store) ≡ true → HoldsState (engine_in limit (own_image sessions store)) (settled store.state)
  pub shown : (limit : ℕ) (image : ImageContents) → IsOfBytes image → IsConsistent image → HoldsState (engine_in limit image) (state_of (engine_in limit image))
  pub same : (engine : EngineState) (one other : DatabaseState) → HoldsState engine one → HoldsState engine other → AreEquivalent one other
  pub alike : (one other : DatabaseState) → AreEquivalent one other → AreAlike one other
  pub settled_alike : (state : DatabaseState) → AreAlike state (settled state)

pub covers : ShowLaws → (sessions : List LiveState) (store : OwnStore) → IsOwnEngine sessions store → live_fits (live_of_store sessions store) ≡ true
    → (IsConsistent (own_image sessions store) × HoldsState (engine_in 0 (own_image sessions store)) (settled store.state)) × AreAlike store.state (settled store.state)
covers laws sessions store own fits = ((laws.consistent sessions store own fits, laws.holds 0 sessions store own fits), laws.settled_alike store.state)

pub shows_settled : ShowLaws → (sessions : List LiveState) (store : OwnStore) → IsOwnEngine sessions store → live_fits (live_of_store sessions store) ≡ true → IsOfBytes (own_image sessions store)
    → AreEquivalent (state_in (own_image sessions store)) (settled store.state)
shows_settled laws sessions store own fits bytes =
    laws.same (engine_in 0 (own_image sessions store)) (state_in (own_image sessions store)) (settled store.state)
    (laws.shown 0 (own_image sessions store) bytes (laws.consistent sessions store own fits)) (laws.holds 0 sessions store own fits)

pub shows_alike : ShowLaws → (sessions : List LiveState) (store : OwnStore) → IsOwnEngine sessions store → live_fits (live_of_store sessions store) ≡ true → IsOfBytes (own_image sessions store)
    → AreAlike store.state (state_in (own_image sessions store))
shows_alike laws sessions store own fits bytes =
    laws.settled_alike store.state ∙ sym (laws.alike (state_in (own_image sessions store)) (settled store.state) (shows_settled laws sessions store own fits bytes))
