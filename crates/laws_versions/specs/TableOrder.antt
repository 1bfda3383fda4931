-- The order of tables, and of the records in each.
use Rattle.std.specs.Prelude.{◌≡◌, ◌<◌, ◌≤◌, true}
use Rattle.std.specs.List.{AllByRecursion}
use Rattle.cursor_nav.specs.Places.{are_sorted}
use Rattle.index_derive.specs.Entries.{own_order}
use Rattle.database_state.specs.Table.{Table}
use Rattle.database_state.specs.State.{DatabaseState}
use Rattle.laws_versions.specs.History.{EachTwo}

abbrev pub IdsRise : Table → Table → Type 0
IdsRise earlier later = earlier.id < later.id

-- Table ids rise, from 1 to the greatest that was ever given at most. The records of each table stand in the order of their bookmarks.
pub record HasTablesInOrder (state : DatabaseState) : Type 0 where
  pub ids : EachTwo IdsRise state.tables
  pub given : AllByRecursion (λ table. (0 < table.id) × (table.id ≤ state.greatest_table)) state.tables
  pub rows : AllByRecursion (λ table. are_sorted (own_order table.rows) ≡ true) state.tables
