-- A table with one record, which session 2 replaces, for worked examples.
use Rattle.std.specs.Prelude.{ℕ, List, [], ◌∷◌, codes, Some}
use Rattle.jet_base.specs.declared.ids.Session.{Session}
use Rattle.column_set.specs.declared.changes.Change.{Change}
use Rattle.laws_versions.specs.ChangeSamples.{counting, put}
use Rattle.version_store.specs.declared.calls.By.{By}
use Rattle.version_store.specs.declared.calls.Reader.{Reader}
use Rattle.laws_engine.specs.VersionedTables.{VersionedTables, with_change}

abbrev pub old_bytes : List ℕ
old_bytes = 1 ∷ 0 ∷ 0 ∷ 0 ∷ []

abbrev pub new_bytes : List ℕ
new_bytes = 2 ∷ 0 ∷ 0 ∷ 0 ∷ []

abbrev pub stored : VersionedTables
stored = record {
  tables = record { id = 1; name = codes "t"; columns = []; indexes = []; greatest = record { fixed = 2; variable = 127; tagged = 255 }; rows = (7 ∷ [], counting old_bytes) ∷ [] } ∷ [];
  held = [];
}

abbrev pub session : ℕ → Session
session label = record { 0 = label }

-- session 1 began at entry 3, session 2 at entry 4
abbrev pub early_reader : Reader
early_reader = record { session = session 1; begin = Some 3 }

-- session 3 begins at entry 7, after session 2 has committed at entry 6
abbrev pub late_reader : Reader
late_reader = record { session = session 3; begin = Some 7 }

abbrev pub replacement : Change
replacement = put new_bytes

abbrev pub by_second : By
by_second = record { number = 5; session = session 2; begin = 4; level = 1; limit = 4194304; oldest = Some 3 }

abbrev pub replaced : VersionedTables
replaced = with_change by_second replacement stored
