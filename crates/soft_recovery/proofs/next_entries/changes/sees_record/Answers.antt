use Rattle.std.proofs.Common.{◌∙◌}
use Rattle.soft_recovery.proofs.next_entries.changes.sees_record.Goals as goal

pub returns : goal.returns
returns c state h = c.has_record.ensures ∙ c.a_session_is_shown_the_records_of_its_view.ensures c.args.engine.now state h c.args.session.0 c.args.table.0 c.args.bookmark.now
