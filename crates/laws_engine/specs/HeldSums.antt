-- The sums among the held changes, and those of a record that a reader does not see.
use Rattle.std.specs.Prelude.{◌≡◌, ℕ, ℤ, ◌&&◌, List, [], ◌∷◌, filter, flat_map}
use Rattle.laws_versions.specs.Readers.{until}
use Rattle.version_store.specs.declared.calls.ChangeKind.{ChangeKind}
use Rattle.version_store.specs.declared.calls.ChangeKind.TheVariants as kind
use Rattle.version_store.specs.declared.calls.Reader.{Reader}
use Rattle.version_store.specs.HeldChanges.{HeldChange}
use Rattle.laws_engine.specs.HeldRecords.{HeldRecord, hides, is_change_at, is_unseen}

-- the sum that a held change made, if it is one: its column, and the amount that was added
abbrev pub sums_by : ChangeKind → List (ℕ × ℤ)
sums_by kind.Put = []
sums_by kind.Drop = []
sums_by kind.Hold = []
sums_by (kind.Add column amount) = (column.0, amount) ∷ []

-- The sums of a record that a reader does not see and that stand before the oldest put or drop of it that the reader does not
-- see: the record that it is shown has them.
abbrev pub unseen_sums : ℕ → List ℕ → Reader → List HeldRecord → List (ℕ × ℤ)
unseen_sums table bookmark reader changes =
    flat_map (λ held. sums_by held.kind) (filter (λ held. is_unseen reader held && is_change_at table bookmark held) (until (hides table bookmark reader) changes))

-- ---- held changes with rows

-- A held change with the row before it, and the one with the record before it, are of one session, kind, record and state.
pub record IsSameChange (row : HeldChange) (held : HeldRecord) : Type 0 where
  pub session : held.session ≡ row.session
  pub kind : held.kind ≡ row.kind
  pub table : held.table ≡ row.table
  pub bookmark : held.bookmark ≡ row.bookmark
  pub status : held.status ≡ row.status
