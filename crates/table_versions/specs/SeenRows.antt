-- The row of a record that a reader sees.
use Rattle.std.specs.Prelude.{ℕ, List, Option, Some, None}
use Rattle.version_store.specs.HeldChanges.{SeenRow, current, row_before, absent}

-- the newest row where no held change is hidden, else the row before the oldest one that is
abbrev pub row_seen : Option (List ℕ) → SeenRow → Option (List ℕ)
row_seen newest current = newest
row_seen newest (row_before row) = Some row
row_seen newest absent = None
