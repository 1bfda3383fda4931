use Rattle.std.proofs.Common.{◌∙◌}
use Rattle.soft_recovery.proofs.next_entries.entries.lawful_for_session.Goals as goal

pub returns : goal.returns
returns c state h = c.may_come.ensures ∙ c.entries_of_sessions_are_told.ensures c.args.engine.now state h c.args.session.0 c.args.kind.now c.requires
