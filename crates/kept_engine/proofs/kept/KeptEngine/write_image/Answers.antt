use Rattle.std.proofs.Common.{◌≡◌, ◌+◌, sym, subst}
use Rattle.checkpoint.specs.declared.image.Image.{Image}
use Rattle.database_state.specs.State.{DatabaseState}
use Rattle.image_writing.specs.EngineImages.{ShowsEngine, contents_of}
use Rattle.laws_engine.specs.EngineState.{EngineState, HasRoomForEnds}
use Rattle.laws_engine.specs.HoldsState.{HoldsState}
use Rattle.laws_images.specs.Settled.{settled}
use Rattle.laws_images.specs.SoundStates.{IsSoundState}
use Rattle.store_core.specs.Store.{store_end, store_standing, checkpoint_of}
use Rattle.kept_engine.specs.Keeping.{kept_logged, kept_store}
use Rattle.kept_engine.proofs.Clashes.{fault_goes}
use Rattle.kept_engine.proofs.kept.KeptEngine.write_image.Goals as goal

-- an image of the engine that was read shows what the engine holds
shown : (engine read : EngineState) (image : Image) → read ≡ engine → ((state : DatabaseState) → HoldsState read state → IsSoundState state → HasRoomForEnds read → ShowsEngine read state (contents_of image))
    → HasRoomForEnds engine → (state : DatabaseState) → HoldsState engine state → IsSoundState state → ShowsEngine read state (contents_of image)
shown engine read image is shows room state holds sound = shows state (subst (λ (e : EngineState). HoldsState e state) (sym is) holds) sound (subst HasRoomForEnds (sym is) room)

pub returns-in-Ok-put_image-clause-puts : goal.returns-in-Ok-put_image-clause-puts
returns-in-Ok-put_image-clause-puts g c some tells state holds sound checkpoint stream written =
    let store = kept_store c.args.self.now in
    let s = shown (kept_logged c.args.self.now).engine c.engine-engine.result.now c.in-Ok.image c.engine-engine.ensures c.in-Ok.ensures.shows c.requires.room state holds sound in
    record {
      image = checkpoint_of ((store_standing store).number + 1) (store_end store) c.in-Ok.image;
      shown = settled state;
      shows = (s.consistent, s.holds 0);
      alike = c.alike_states_stay_alike.ensures.settled state;
      any_moment = c.put_image.ensures.any_moment tells checkpoint stream written;
      written = λ goes. c.in-Ok-put_image.ensures.written tells checkpoint stream written;
    }

pub returns-in-Ok-clause-puts : goal.returns-in-Ok-clause-puts
returns-in-Ok-clause-puts g c some tells state holds sound checkpoint stream written =
    let store = kept_store c.args.self.now in
    let s = shown (kept_logged c.args.self.now).engine c.engine-engine.result.now c.in-Ok.image c.engine-engine.ensures c.in-Ok.ensures.shows c.requires.room state holds sound in
    record {
      image = checkpoint_of ((store_standing store).number + 1) (store_end store) c.in-Ok.image;
      shown = settled state;
      shows = (s.consistent, s.holds 0);
      alike = c.alike_states_stay_alike.ensures.settled state;
      any_moment = c.put_image.ensures.any_moment tells checkpoint stream written;
      written = λ goes. absurd (fault_goes goes);
    }
