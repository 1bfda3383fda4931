use Rattle.std.proofs.Common.{sym, ◌∙◌}
use Rattle.image_live.proofs.PartsOf.{by_undone, no_sessions, no_versions, nothing_asked}
use Rattle.image_live.proofs.tables.ImageTables.has_sound_parts.Goals as goal

pub returns-then-not-are_sound_sessions : goal.returns-then-not-are_sound_sessions
returns-then-not-are_sound_sessions c = no_sessions c.args.self.now c.args.part.now (λ tables are. sym c.if-not-are_sound_sessions.true ∙ c.are_sound_sessions.ensures tables are)

pub are_sound_changes-requires : goal.are_sound_changes-requires
are_sound_changes-requires c = (c.requires.tables, (c.requires.are_tables, c.requires.whole))

pub are_sound_changes-requires-in-Ok-true : goal.are_sound_changes-requires-in-Ok-true
are_sound_changes-requires-in-Ok-true c = (c.requires.tables, (c.requires.are_tables, λ place h is. nothing_asked c.requires.tables h (c.requires.undone place h is)))

pub returns-in-Ok-true : goal.returns-in-Ok-true
returns-in-Ok-true c =
    by_undone c.args.self.now c.args.part.now c.are_sound_changes-in-Ok-true.result (λ tables are. sym c.if-not-are_sound_sessions.false ∙ c.are_sound_sessions.ensures tables are) (λ tables are. sym c.in-Ok-true.field-0-test ∙ c.in-Ok-true.ensures tables are)
    c.are_sound_changes-in-Ok-true.ensures

pub returns-in-Ok-false : goal.returns-in-Ok-false
returns-in-Ok-false c =
    no_versions c.args.self.now c.args.part.now (λ tables are. sym c.if-not-are_sound_sessions.false ∙ c.are_sound_sessions.ensures tables are) (λ tables are. sym c.in-Ok-false.field-0-test ∙ c.in-Ok-false.ensures tables are)
