use Rattle.laws_versions.proofs.RecordLemmas.Standing.{bookmarks_cleaned}
use Rattle.laws_versions.proofs.records.bookmarks.a_clean_keeps_bookmarks.Goals as goal

pub returns : goal.returns
returns c = bookmarks_cleaned
