use Rattle.std.proofs.Common.{ap, sym, ◌∙◌}
use Rattle.std.specs.Prelude.{◌&&◌}
use Rattle.image_findings.specs.LiveFindings.{have_room, is_sound_session}
use Rattle.image_live.proofs.AllOf.{fails, goes}
use Rattle.image_live.proofs.tables.ImageTables.are_sound_sessions.Goals as goal

pub returns-then-not-is_sound_session : goal.returns-then-not-is_sound_session
returns-then-not-is_sound_session c = λ tables are.
    ap (λ b. b && have_room c.args.self.now.number c.args.sessions.now)
    (fails (is_sound_session c.args.self.now.number tables) c.args.sessions.now c.loop-place.place c.at.result.now c.at.ensures (sym (c.is_sound_session.ensures tables are) ∙ c.if-not-is_sound_session.true) (c.loop-place.invariant tables are))

pub loop-place-preserved : goal.loop-place-preserved
loop-place-preserved c = λ tables are.
    goes (is_sound_session c.args.self.now.number tables) c.args.sessions.now c.loop-place.place c.at.result.now c.at.ensures (sym (c.is_sound_session.ensures tables are) ∙ c.if-not-is_sound_session.false) (c.loop-place.invariant tables are)
