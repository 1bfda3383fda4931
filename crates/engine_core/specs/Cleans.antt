-- What a clean gives up.
use Rattle.std.specs.Prelude.{◌≡◌, ℕ, false, List, drop, take, Option}
use Rattle.std.specs.List.{AllByRecursion}
use Rattle.version_cleanup.specs.LiveSessions.{oldest_begin}
use Rattle.version_store.specs.HeldChanges.{is_kept_status}
use Rattle.laws_engine.specs.HeldRecords.{HeldRecord, from_oldest_kept}
use Rattle.laws_engine.specs.VersionedTables.{VersionedTables}
use Rattle.laws_engine.specs.EngineState.{EngineState}

-- a held change that no reader needs, given where the oldest open transaction began
abbrev pub IsUnneeded : Option ℕ → HeldRecord → Type 0
IsUnneeded oldest held = is_kept_status oldest held.status ≡ false

-- none of so many changes, the oldest ones, is needed
abbrev pub AreUnneeded : Option ℕ → ℕ → List HeldRecord → Type 0
AreUnneeded oldest count held = AllByRecursion (IsUnneeded oldest) (take count held)

-- without so many of the held changes, the oldest ones
abbrev pub without_first : ℕ → VersionedTables → VersionedTables
without_first count store = record store { held = drop count store.held }

-- without the held changes before the oldest one that is needed
abbrev pub without_unneeded : Option ℕ → VersionedTables → VersionedTables
without_unneeded oldest store = record store { held = from_oldest_kept oldest store.held }

-- ---- an engine

abbrev pub without_oldest_held : ℕ → EngineState → EngineState
without_oldest_held count engine = record engine { store = without_first count engine.store }

-- so many of the engine's held changes, the oldest ones, are needed by no reader
abbrev pub CanGo : ℕ → EngineState → Type 0
CanGo count engine = AreUnneeded (oldest_begin engine.sessions) count engine.store.held
