use Rattle.std.proofs.Common.{sym, ◌∙◌}
use Rattle.image_findings.specs.LiveFindings.{is_sound_change}
use Rattle.version_store.specs.Answers.{told_change}
use Rattle.image_live.proofs.AllOf.{fails, goes}
use Rattle.image_live.proofs.tables.ImageTables.are_sound_changes.Goals as goal

pub is_sound_change-requires : goal.is_sound_change-requires
is_sound_change-requires c = (c.requires.0, (c.requires.1.0, c.requires.1.1 c.loop-place.place (told_change c.change_at.result) c.change_at.ensures))

pub returns-in-Ok-false : goal.returns-in-Ok-false
returns-in-Ok-false c = λ tables are.
    fails (is_sound_change c.args.self.now.number tables c.args.sessions.now) c.args.changes.now c.loop-place.place (told_change c.change_at.result) c.change_at.ensures (sym (c.in-Ok-false.ensures tables are) ∙ c.in-Ok-false.field-0-test) (c.loop-place.invariant tables are)

pub loop-place-preserved : goal.loop-place-preserved
loop-place-preserved c = λ tables are.
    goes (is_sound_change c.args.self.now.number tables c.args.sessions.now) c.args.changes.now c.loop-place.place (told_change c.change_at.result) c.change_at.ensures (sym (c.in-Ok-true.ensures tables are) ∙ c.in-Ok-true.field-0-test) (c.loop-place.invariant tables are)
