use Rattle.std.proofs.Common.{[], sym, ◌∙◌, subst, ap, arith}
use Rattle.jet_volume.specs.Moments.{goes_on_by, leaves_weaker, leaves_now}
use Rattle.laws_engine.specs.HoldsState.{HoldsState}
use Rattle.engine_core.specs.LoggedState.{LoggedState}
use Rattle.store_core.specs.Stands.{Stands}
use Rattle.recovered_states.specs.Recovers.{RecoversUpTo}
use Rattle.kept_engine.specs.Keeping.{kept_volume}
use Rattle.kept_engine.proofs.Clashes.{fault_goes, goes_made}
use Rattle.kept_engine.proofs.Surviving.{first_keeps, image_moments, opening_stands}
use Rattle.kept_engine.proofs.kept.KeptEngine.begin.Goals as goal

pub returns-in-Ok-clause-begins : goal.returns-in-Ok-clause-begins
returns-in-Ok-clause-begins g c tells opening holds sound checkpoint stream from opened =
    let seen = g.V.Volume.seen in
    let moment = g.V.Volume.moment in
    let left_at = g.V.Volume.left_at in
    let laws = c.what_is_kept_survives.ensures in
    let new = c.write_image.new.self in
    let writable = c.in-Ok.ensures.sealed tells checkpoint stream opened in
    let was = opening_stands seen moment left_at laws opening checkpoint stream from in
    let sealing = leaves_weaker moment left_at _ _ (Stands checkpoint stream) (RecoversUpTo opening [] 0) was (c.seal.ensures.any_moment tells checkpoint stream opened) in
    let moments = image_moments seen moment left_at laws opening [] 0 opening _ new checkpoint stream c.write_image.result was (λ shown alike. laws.closes opening shown alike)
    (leaves_now moment left_at (kept_volume c.args.self.now) _ (RecoversUpTo opening [] 0) sealing)
    (λ some. c.write_image.ensures.puts some tells opening holds sound checkpoint stream writable) c.write_image.ensures.memory in
    record {
      any_moment = goes_on_by moment left_at (kept_volume c.args.self.now) _ (kept_volume new) (RecoversUpTo opening [] 0) sealing moments;
      goes = λ goes.
          let p = c.write_image.ensures.puts (goes_made c.write_image.result goes) tells opening holds sound checkpoint stream writable in
          first_keeps seen moment left_at laws opening new (subst (λ (l : LoggedState). HoldsState l.engine opening) (sym c.write_image.ensures.engine) holds) sound
          (ap (λ (l : LoggedState). l.stream) c.write_image.ensures.engine ∙ c.requires.stream) (c.write_image.ensures.told.given goes) p.image p.shown p.shows p.alike (p.written goes);
    }

pub returns-in-Err-clause-begins : goal.returns-in-Err-clause-begins
returns-in-Err-clause-begins g c tells opening holds sound checkpoint stream from opened =
    let moment = g.V.Volume.moment in
    let left_at = g.V.Volume.left_at in
    record {
      any_moment = leaves_weaker moment left_at _ _ (Stands checkpoint stream) (RecoversUpTo opening [] 0)
          (opening_stands g.V.Volume.seen moment left_at c.what_is_kept_survives.ensures opening checkpoint stream from) (c.seal.ensures.any_moment tells checkpoint stream opened);
      goes = λ goes. absurd (fault_goes goes);
    }
