use Rattle.std.proofs.Common.{sym, ◌∙◌}
use Rattle.image_live.proofs.SoundSessions.{lacks_table, sound_transaction}
use Rattle.image_live.proofs.tables.ImageTables.is_sound_session.Goals as goal

pub returns-then-not-are_there : goal.returns-then-not-are_there
returns-then-not-are_there c = λ tables are. lacks_table c.args.self.now tables c.args.session.now c.open_tables-opened.result.now c.open_tables-opened.ensures (sym c.are_there.ensures ∙ c.if-not-are_there.true) are

pub returns : goal.returns
returns c = λ tables are.
    c.is_sound_transaction.ensures
    ∙ sound_transaction c.args.self.now tables c.args.session.now c.open_tables-opened.result.now c.transaction.result c.open_tables-opened.ensures (sym c.do_not_fall.ensures ∙ c.if-not-do_not_fall.false) (sym c.are_there.ensures ∙ c.if-not-are_there.false) c.transaction.ensures.value are
