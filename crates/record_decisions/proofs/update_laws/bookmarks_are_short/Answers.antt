use Rattle.record_decisions.proofs.UpdateTold.{bookmarks-short}
use Rattle.record_decisions.proofs.update_laws.bookmarks_are_short.Goals as goal

pub returns : goal.returns
returns c = bookmarks-short c.every_record_seen_has_its_bookmark.ensures
