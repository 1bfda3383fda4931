use Rattle.laws_versions.proofs.RecordLemmas.EntryNumbers.{entry_number-later, entry_number-own}
use Rattle.laws_versions.proofs.records.bookmarks.numbers_of_later_entries_are_new.Goals as goal

pub returns-clause-own : goal.returns-clause-own
returns-clause-own c = entry_number-own

pub returns-clause-later : goal.returns-clause-later
returns-clause-later c = entry_number-later
