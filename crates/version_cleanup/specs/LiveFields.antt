-- The open tables of a session.
use Rattle.std.specs.Prelude.{ℕ, ◌≤◌, List, map, IfSome}
use Rattle.jet_base.specs.declared.ids.TableId.{TableId}
use Rattle.version_cleanup.specs.LiveSessions.{LiveState}
use Rattle.version_cleanup.specs.declared.live.Live.TheInside.{Inside}

abbrev pub table_ids : List TableId → List ℕ
table_ids tables = map (λ table. table.0) tables

abbrev pub live : Inside → LiveState
live a = record { label = a.label.0; open_tables = table_ids a.open_tables.items; transaction = a.transaction }

-- a transaction has 1 to 7 levels
abbrev pub HasLevels : Inside → Type 0
HasLevels a = IfSome a.transaction (λ t. (1 ≤ t.levels) × (t.levels ≤ 7))
