use Rattle.laws_versions.proofs.RecordLemmas.Standing.{bookmarks_begun}
use Rattle.laws_versions.proofs.records.bookmarks.bookmarks_begin_with_those_of_tables.Goals as goal

pub returns : goal.returns
returns c = bookmarks_begun
