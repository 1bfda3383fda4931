use Rattle.laws_versions.proofs.RecordLemmas.Standing.{bookmarks_seen}
use Rattle.laws_versions.proofs.records.bookmarks.every_record_seen_has_its_bookmark.Goals as goal

pub returns : goal.returns
returns c = bookmarks_seen
