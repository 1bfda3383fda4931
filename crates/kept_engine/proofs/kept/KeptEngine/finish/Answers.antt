use Rattle.std.proofs.Common.{List, [], ℕ, Some, refl, sym, ◌∙◌, ap, subst, arith}
use Rattle.database_state.specs.Step.{state_after_all}
use Rattle.laws_engine.specs.EngineState.{HasRoomForEnds}
use Rattle.log_grammar.specs.EntryStreams.{stream_bytes}
use Rattle.loggable_steps.specs.Replays.{closed}
use Rattle.engine_core.specs.LoggedState.{LoggedState}
use Rattle.log_keeper.specs.Keeping.{between}
use Rattle.kept_engine.specs.Keeping.{kept_given, kept_logged, kept_span, kept_store}
use Rattle.kept_engine.specs.Spans.{LogSpan}
use Rattle.kept_engine.proofs.Clashes.{goes_made}
use Rattle.kept_engine.proofs.Making.{room_closed}
use Rattle.kept_engine.proofs.Sound.{sound_closed}
use Rattle.kept_engine.proofs.Surviving.{image_leaves_closed, image_moments, keeps_leaves, sound_now, stands_alone, stands_given}
use Rattle.kept_engine.proofs.Telling.{image_after}
use Rattle.kept_engine.proofs.kept.KeptEngine.finish.Goals as goal

pub returns-clause-ends : goal.returns-clause-ends
returns-clause-ends g c tells opening entries keeps =
    let seen = g.V.Volume.seen in
    let moment = g.V.Volume.moment in
    let left_at = g.V.Volume.left_at in
    let laws = c.what_is_kept_survives.ensures in
    let old = c.args.self.now in
    let new = c.write_image.new.self in
    let bytes : List ℕ = between keeps.base (kept_given old) (stream_bytes entries) in
    let last = state_after_all opening entries in
    let holds = c.close.ensures.holds last keeps.logged.holds in
    let sound = sound_closed last (sound_now seen moment left_at laws opening entries old keeps) in
    record {
      any_moment = image_moments seen moment left_at laws opening entries (kept_given old) (closed last) _ new keeps.checkpoint bytes c.write_image.result
          (stands_given seen moment left_at laws opening entries old keeps) (λ shown alike. laws.closes (closed last) shown alike)
          (keeps_leaves seen moment left_at laws opening entries old keeps)
          (λ some. c.write_image.ensures.puts some tells (closed last) holds sound keeps.checkpoint bytes keeps.keeps.writable) c.write_image.ensures.memory;
      done = λ goes.
          let p = c.write_image.ensures.puts (goes_made c.write_image.result goes) tells (closed last) holds sound keeps.checkpoint bytes keeps.keeps.writable in
          image_leaves_closed seen moment left_at laws opening entries new p.image p.shown p.shows (laws.closes (closed last) p.shown p.alike) (p.written goes);
      alone = λ goes.
          let p = c.write_image.ensures.puts (goes_made c.write_image.result goes) tells (closed last) holds sound keeps.checkpoint bytes keeps.keeps.writable in
          stands_alone seen moment left_at laws (kept_store new) (Some p.image) [] (kept_span old).number refl (ap (λ (s : LogSpan). s.number) (c.write_image.ensures.told.span goes)) (p.written goes);
    }

pub returns-clause-told : goal.returns-clause-told
returns-clause-told g c = image_after g.V.Volume.faults g.V.Volume.identity 0 c.args.self.now _ c.write_image.new.self c.write_image.result refl refl refl refl refl c.write_image.ensures.told

pub write_image-requires-clause-holds : goal.write_image-requires-clause-holds
write_image-requires-clause-holds g c = (closed c.requires.holds.0, c.close.ensures.holds c.requires.holds.0 c.requires.holds.1, sound_closed c.requires.holds.0 c.requires.holds.2)

pub write_image-requires-clause-room : goal.write_image-requires-clause-room
write_image-requires-clause-room g c =
    let was = (kept_logged c.args.self.now).engine in
    subst HasRoomForEnds (sym (c.close.ensures.engine c.requires.holds.0 c.requires.holds.1)) (room_closed was.limit was.newest_put was c.requires.holds.0 c.requires.holds.1.number c.requires.room)

pub write_image-requires-clause-number : goal.write_image-requires-clause-number
write_image-requires-clause-number g c = omega (arith, c.requires.bounds.number, c.requires.bounds.follows, c.requires.within, c.stream_end.ensures.bound)

pub returns-clause-engine : goal.returns-clause-engine
returns-clause-engine g c state holds = ap (λ (l : LoggedState). l.engine) c.write_image.ensures.engine ∙ c.close.ensures.engine state holds
