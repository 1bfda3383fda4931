-- Changes of one record, for worked examples.
use Rattle.std.specs.Prelude.{ℕ, pos, List, [], ◌∷◌, Option, Some}
use Rattle.column_set.specs.declared.changes.Change.{Change}
use Rattle.column_set.specs.declared.changes.Change.TheVariants as change
use Rattle.jet_base.specs.Ids.{column_id, session_id, table_id}
use Rattle.database_state.specs.State.{Status}
use Rattle.version_store.specs.declared.calls.By.{By}
use Rattle.version_store.specs.declared.calls.ChangeKind.{ChangeKind}
use Rattle.version_store.specs.declared.calls.ChangeKind.TheVariants as kind
use Rattle.version_store.specs.declared.calls.Reader.{Reader}
use Rattle.version_store.specs.HeldChanges.{HeldChange}

-- a change of record 1 of table 1, of this session at this level
abbrev pub sample_at : ℕ → ℕ → ChangeKind → Option (List ℕ) → Status → HeldChange
sample_at session level what row status = record { number = 3; session = session; level = level; kind = what; table = 1; bookmark = 1 ∷ []; before = row; status = status }

abbrev pub sample : ℕ → ChangeKind → Option (List ℕ) → Status → HeldChange
sample session what row status = sample_at session 1 what row status

abbrev pub reader_of : ℕ → Option ℕ → Reader
reader_of session begin = record { session = session_id session; begin = begin }

-- session 1 in a transaction that began at 2, with this limit
abbrev pub by_first : ℕ → By
by_first limit = record { number = 3; session = session_id 1; begin = 2; level = 1; limit = limit; oldest = Some 2 }

abbrev pub dropped : Change
dropped = change.Drop (table_id 1) (1 ∷ [])

abbrev pub added : Change
added = change.Add (table_id 1) (1 ∷ []) (column_id 2) (pos 5)

abbrev pub sum : ChangeKind
sum = kind.Add (column_id 2) (pos 5)
