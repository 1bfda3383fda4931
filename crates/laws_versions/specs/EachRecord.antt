-- What every record of a history has under its bookmark.
use Rattle.std.specs.Prelude.{ℕ, List, IfSome}
use Rattle.std.specs.List.{AllByRecursion}
use Rattle.column_set.specs.RecordValues.{RecordFields}
use Rattle.index_derive.specs.declared.rules.Schema.{Schema}
use Rattle.database_state.specs.Table.{schema_of, table_with_id}
use Rattle.column_set.specs.ChangedRecords.{changed_table, changed_bookmark}
use Rattle.database_state.specs.State.{DatabaseState, PastChange}
use Rattle.laws_versions.specs.Records.{Records}

-- the records before and after a change
abbrev pub HasBoth : (ℕ → Schema → List ℕ → RecordFields → Type 0) → ℕ → Schema → PastChange → Type 0
HasBoth P number schema item = IfSome item.before (P number schema (changed_bookmark item.change)) × IfSome item.after (P number schema (changed_bookmark item.change))

-- Each record of a table, at first and before and after each kept change, has something under its bookmark. It is told by the
-- number of entries so far and by the schema of the table.
pub record EachRecordHas (P : ℕ → Schema → List ℕ → RecordFields → Type 0) (base : Records) (kept : List PastChange) (state : DatabaseState) : Type 0 where
  pub at_first : (id : ℕ) → IfSome (table_with_id state.tables id) (λ table. (bookmark : List ℕ) → IfSome (base id bookmark) (P state.number (schema_of table) bookmark))
  pub changes : AllByRecursion (λ item. IfSome (table_with_id state.tables (changed_table item.change)) (λ table. HasBoth P state.number (schema_of table) item)) kept
