use Rattle.std.proofs.Common.{sym, ap, ◌∙◌}
use Rattle.std.specs.Prelude.{option_copied}
use Rattle.soft_recovery.proofs.Placing.{hidden_bookmark, own_bookmark}
use Rattle.soft_recovery.proofs.next_entries.puts.is_bookmark_of.Goals as goal

pub returns-in-Some : goal.returns-in-Some
returns-in-Some c schema values own =
    own_bookmark c.args.engine.now c.args.session.0 c.args.table.0 schema c.args.bookmark.now c.in-Some.key.now values c.is_key.result (ap option_copied (sym c.in-Some.is) ∙ own) c.is_key.ensures

pub returns-in-None : goal.returns-in-None
returns-in-None c schema values own =
    hidden_bookmark c.args.engine.now c.args.session.0 c.args.table.0 schema c.args.bookmark.now values c.is_hidden_key.result (ap option_copied (sym c.in-None.is) ∙ own) c.is_hidden_key.ensures
