use Rattle.std.proofs.Common.{List, ℕ, ◌∙◌, subst, arith}
use Rattle.database_state.specs.Step.{state_after_all}
use Rattle.log_grammar.specs.EntryStreams.{stream_bytes}
use Rattle.log_keeper.specs.Keeping.{between}
use Rattle.kept_engine.specs.Keeping.{kept_given}
use Rattle.kept_engine.specs.Told.{TellsImage}
use Rattle.kept_engine.proofs.Clashes.{goes_made}
use Rattle.kept_engine.proofs.Surviving.{image_keeps, image_moments, keeps_leaves, sound_now, stands_given}
use Rattle.kept_engine.proofs.Telling.{ready_imaged}
use Rattle.kept_engine.proofs.kept.KeptEngine.put_image.Goals as goal

pub returns-clause-any_moment : goal.returns-clause-any_moment
returns-clause-any_moment g c tells opening entries keeps =
    let seen = g.V.Volume.seen in
    let moment = g.V.Volume.moment in
    let left_at = g.V.Volume.left_at in
    let laws = c.what_is_kept_survives.ensures in
    let old = c.args.self.now in
    let bytes : List ℕ = between keeps.base (kept_given old) (stream_bytes entries) in
    image_moments seen moment left_at laws opening entries (kept_given old) (state_after_all opening entries) old c.write_image.new.self keeps.checkpoint bytes c.write_image.result
    (stands_given seen moment left_at laws opening entries old keeps) (λ shown alike. laws.closes (state_after_all opening entries) shown alike)
    (keeps_leaves seen moment left_at laws opening entries old keeps)
    (λ some. c.write_image.ensures.puts some tells (state_after_all opening entries) keeps.logged.holds (sound_now seen moment left_at laws opening entries old keeps) keeps.checkpoint bytes keeps.keeps.writable)
    c.write_image.ensures.memory

pub returns-clause-keeps : goal.returns-clause-keeps
returns-clause-keeps g c is tells opening entries keeps =
    let seen = g.V.Volume.seen in
    let moment = g.V.Volume.moment in
    let left_at = g.V.Volume.left_at in
    let laws = c.what_is_kept_survives.ensures in
    let old = c.args.self.now in
    let bytes : List ℕ = between keeps.base (kept_given old) (stream_bytes entries) in
    let p = c.write_image.ensures.puts (goes_made c.write_image.result is) tells (state_after_all opening entries) keeps.logged.holds (sound_now seen moment left_at laws opening entries old keeps) keeps.checkpoint bytes keeps.keeps.writable in
    image_keeps seen moment left_at laws opening entries old c.write_image.new.self keeps p.image p.shown p.shows p.alike c.write_image.ensures.engine
    (c.write_image.ensures.told.given is ∙ c.stream_end-to.ensures.value) (p.written is)

pub returns-clause-told : goal.returns-clause-told
returns-clause-told g c =
    subst (λ (n : ℕ). TellsImage g.V.Volume.faults g.V.Volume.identity n c.args.self.now c.write_image.new.self c.write_image.result) c.stream_end-to.ensures.value c.write_image.ensures.told

pub returns-clause-ready : goal.returns-clause-ready
returns-clause-ready g c is =
    ready_imaged g.V.Volume.faults g.V.Volume.identity c.args.self.now c.write_image.new.self c.write_image.result c.requires.ready c.requires.number c.write_image.ensures.engine (returns-clause-told g c) is
