use Rattle.laws_versions.proofs.KeyLemmas.OneEntry.{one_entry}
use Rattle.laws_versions.proofs.RecordLemmas.Standing.{bookmarks_kept}
use Rattle.laws_versions.proofs.records.bookmarks.lawful_entries_keep_bookmarks.Goals as goal

pub returns : goal.returns
returns c = bookmarks_kept one_entry
