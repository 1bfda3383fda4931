-- An engine that is made of an image shows its checkpoint, and a log may be replayed over it.
use Rattle.std.proofs.Common.{◌≡◌, ℕ, ◌+◌, ◌≤◌, ◌^◌, true, ◌&&◌, List, Option, Some, None, inl, refl, sym, subst, arith}
use Rattle.std.specs.Prelude.{nat_le}
use Rattle.std.specs.List.{list_all}
use Rattle.std.proofs.lemmas.Bool.{and_parts}
use Rattle.std.proofs.lemmas.Bool.Decides.{nat_tests}
use Rattle.checkpoint.specs.declared.image.Image.{Image}
use Rattle.checkpoint.specs.declared.image.Standing.{Standing}
use Rattle.database_state.specs.State.{DatabaseState, empty_state}
use Rattle.engine_image.specs.FoundFaults.{Refuses}
use Rattle.engine_image.specs.OpenedImages.{contents_of}
use Rattle.engine_image.specs.declared.fault.ImageFault.{ImageFault}
use Rattle.engine_image.specs.declared.fault.ImageFault.TheVariants as fault
use Rattle.image_findings.specs.Findings.{IsConsistent, contents_in, engine_in, finding, state_in, whole_of}
use Rattle.image_findings.specs.Images.{ImageContents}
use Rattle.image_findings.specs.LiveFindings.{are_sound_sessions, have_room, is_sound_session}
use Rattle.image_findings.specs.NoFindings.{HasNoFinding}
use Rattle.laws_engine.specs.EngineState.{EngineState, HasRoomForEnds, empty_engine, ends_in}
use Rattle.laws_engine.specs.HoldsState.{HoldsState}
use Rattle.laws_images.specs.ShowableEngines.{state_of}
use Rattle.laws_images.specs.SoundStates.{IsSoundState}
use Rattle.recovered_states.specs.Recovers.{RecoversFrom, ShowsState}
use Rattle.store_core.specs.Stands.{Checkpoint}
use Rattle.store_core.specs.Store.{checkpoint_of}
use Rattle.soft_recovery.specs.Recovering.{HoldsShown}
use Rattle.soft_recovery.specs.Refusals.{HasConsistentImage, HasCorruptLog, RefusesImage}
use Rattle.soft_recovery.specs.Replaying.{MayReplay}

-- ---- the number of the log has room for all that is to end

le_told : (a b : ℕ) → nat_le a b ≡ true → a ≤ b
le_told a b h = grind (arith, nat_tests)

room_told : (ends number most : ℕ) → (nat_le ends number && nat_le (number + ends) most) ≡ true → (ends ≤ number) × (number + ends ≤ most)
room_told ends number most h =
    let both = and_parts (nat_le ends number) (nat_le (number + ends) most) h in
    (le_told ends number both.0, le_told (number + ends) most both.1)

room_in : (limit : ℕ) (image : ImageContents) → HasNoFinding image → HasRoomForEnds (engine_in limit image)
room_in limit image none =
    let live = whole_of image in
    let tables = contents_in image in
    let sound = (and_parts (are_sound_sessions image.number tables live.sessions) _ none.live).0 in
    let room = (and_parts (list_all (is_sound_session image.number tables) live.sessions) (have_room image.number live.sessions) sound).1 in
    let both = room_told (ends_in live.sessions) image.number (2 ^ 35 + 1) room in
    record { begun = both.0; room = both.1 }

pub room_of : (limit : ℕ) (image : ImageContents) (engine : EngineState) → engine ≡ engine_in limit image → HasNoFinding image → HasRoomForEnds engine
room_of limit image engine is none = subst HasRoomForEnds (sym is) (room_in limit image none)

-- ---- the engine of an image

-- the limit of the version store's span has no part in what is held
at_limit : (limit other : ℕ) (image : ImageContents) (state : DatabaseState) → HoldsState (engine_in limit image) state → HoldsState (engine_in other image) state
at_limit limit other image state h = record {
  base = h.base;
  dropped = h.dropped;
  kept = h.kept;
  reached = h.reached;
  holds = h.holds;
  stored = h.stored;
  number = h.number;
  greatest = h.greatest;
  newest = h.newest;
  sessions = h.sessions;
  labels = h.labels;
  built = h.built;
}

-- what is known of an engine that was made of an image
pub record IsMadeOf (limit : ℕ) (image : ImageContents) (engine : EngineState) : Type 0 where
  pub is : engine ≡ engine_in limit image
  pub holds : HoldsState engine (state_of engine)
  pub consistent : IsConsistent image

held : (limit : ℕ) (image : ImageContents) (engine : EngineState) → IsMadeOf limit image engine → HoldsState (engine_in limit image) (state_in image)
held limit image engine made = subst (λ (e : EngineState). HoldsState e (state_of e)) made.is made.holds

pub may_replay_image : (limit : ℕ) (image : ImageContents) (engine : EngineState) → IsMadeOf limit image engine → HasNoFinding image → IsSoundState (state_in image) → MayReplay engine
may_replay_image limit image engine made none sound =
    subst MayReplay (sym made.is) (record { state = state_in image; holds = held limit image engine made; sound = sound; room = inl (room_in limit image none) })

pub image_shown : (limit : ℕ) (image : Image) (standing : Standing) (engine : EngineState) → IsMadeOf limit (contents_of image) engine → HoldsShown (Some (checkpoint_of standing.number standing.start image)) engine
image_shown limit image standing engine made =
    let contents = contents_of image in
    subst (HoldsShown (Some (checkpoint_of standing.number standing.start image))) (sym made.is) (record {
      shown = state_in contents;
      shows = (made.consistent, at_limit limit 0 contents (state_in contents) (held limit contents engine made));
      holds = λ state shows. at_limit 0 limit contents state shows.1;
    })

pub image_refused : (image : Image) (standing : Standing) (why : ImageFault) → Refuses (finding (contents_of image)) why → RefusesImage (Some (checkpoint_of standing.number standing.start image)) why
image_refused image standing (fault.NotSound found) refused = refused
image_refused image standing fault.OutOfMemory refused = tt

-- ---- the engine of a new volume

pub empty_shown : (limit : ℕ) → HoldsState (empty_engine limit) empty_state → HoldsShown None (empty_engine limit)
empty_shown limit holds = record { shown = empty_state; shows = refl; holds = λ state is. subst (HoldsState (empty_engine limit)) (sym is) holds }

pub may_replay_nothing : (limit : ℕ) → HoldsState (empty_engine limit) empty_state → IsSoundState empty_state → HasRoomForEnds (empty_engine limit) → MayReplay (empty_engine limit)
may_replay_nothing limit holds sound room = record { state = empty_state; holds = holds; sound = sound; room = inl room }

-- ---- a log that is refused

pub shown_consistent : (checkpoint : Option Checkpoint) (state : DatabaseState) → ShowsState checkpoint state → HasConsistentImage checkpoint
shown_consistent None state shows = tt
shown_consistent (Some c) state shows = shows.0

pub log_refused : (checkpoint : Option Checkpoint) (stream : List ℕ) (engine : EngineState) → HoldsShown checkpoint engine → ((other : Option Checkpoint) → HoldsShown other engine → (state : DatabaseState) → RecoversFrom other stream state → ⊥) → HasCorruptLog checkpoint stream
log_refused checkpoint stream engine shown none = record { consistent = shown_consistent checkpoint shown.shown shown.shows; none = none checkpoint shown }
