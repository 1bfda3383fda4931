-- Entries that the worked examples speak of.
use Rattle.std.specs.Prelude.{ℕ}
use Rattle.jet_base.specs.Ids.{session_id}
use Rattle.index_derive.specs.declared.log.Entry.{Entry}
use Rattle.index_derive.specs.declared.log.EntryKind.{EntryKind}

abbrev pub of_session : ℕ → EntryKind → Entry
of_session session kind = record { session = session_id session; kind = kind }
