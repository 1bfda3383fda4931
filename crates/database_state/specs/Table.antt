-- A table: its numbers, its columns and indexes, and its records by bookmark.
use Rattle.std.specs.Prelude.{ℕ, ◌==◌, not, List, [], ◌++◌, map, filter, find, Option, Some, None, option_map, unwrap_or, if◌then◌else◌, bytes_eq}
use Rattle.column_set.specs.declared.columns.Column.{Column}
use Rattle.index_derive.specs.declared.rules.IndexRule.{IndexRule}
use Rattle.index_derive.specs.declared.rules.Schema.{Schema}
use Rattle.column_set.specs.RecordValues.{RecordFields, lookup_by_key, put_by_key, remove_by_key}
use Rattle.index_derive.specs.Schemas.{primary_rule, rule_with_id}
use Rattle.index_derive.specs.Entries.{derive, own_order}

-- The greatest column id of each kind that the table ever gave: 0, 127 and 255 where it gave none.
pub record GreatestColumns : Type 0 where
  pub fixed : ℕ
  pub variable : ℕ
  pub tagged : ℕ

-- The columns stand by rising id, the indexes in their order of making, the records in the order of their bookmarks.
pub record Table : Type 0 where
  pub id : ℕ
  pub name : List ℕ
  pub columns : List Column
  pub indexes : List IndexRule
  pub greatest : GreatestColumns
  pub rows : List (List ℕ × RecordFields)

-- ---- records by bookmark

abbrev pub Rows : Type 0
Rows = List (List ℕ × RecordFields)

abbrev pub row_at : Rows → List ℕ → Option RecordFields
row_at rows bookmark = lookup_by_key bookmark rows

abbrev pub with_row : Rows → List ℕ → RecordFields → Rows
with_row rows bookmark values = put_by_key bookmark values rows

abbrev pub without_row : Rows → List ℕ → Rows
without_row rows bookmark = remove_by_key bookmark rows

-- ---- indexes

-- the primary index first, then the others in their order of making
abbrev pub primary_first : List IndexRule → List IndexRule
primary_first rules = filter (λ r. r.flags.primary) rules ++ filter (λ r. not r.flags.primary) rules

abbrev pub schema_of : Table → Schema
schema_of table = record { columns = table.columns; indexes = primary_first table.indexes }

-- the number of the primary index, or 0, which stands for the order of the hidden keys
abbrev pub primary_order : Schema → ℕ
primary_order schema = unwrap_or (option_map (λ r. r.id.0) (primary_rule schema)) 0

-- The sorted entries of an index over these records. The primary order and the hidden order pair each bookmark with itself.
abbrev pub entries_of_rule : Schema → Rows → Option IndexRule → List (List ℕ × List ℕ)
entries_of_rule schema rows None = own_order rows
entries_of_rule schema rows (Some rule) = if rule.flags.primary then own_order rows else derive rule schema rows

unfoldable pub index_entries : Schema → Rows → ℕ → List (List ℕ × List ℕ)
index_entries schema rows index = entries_of_rule schema rows (rule_with_id schema index)

-- ---- lists of tables, by id

abbrev pub table_with_id : List Table → ℕ → Option Table
table_with_id tables id = find (λ t. t.id == id) tables

abbrev pub table_named : List Table → List ℕ → Option Table
table_named tables name = find (λ t. bytes_eq t.name name) tables

-- the records of a table, none where there is no such table
abbrev pub rows_of : Option Table → Rows
rows_of None = []
rows_of (Some table) = table.rows

abbrev pub record_in : List Table → ℕ → List ℕ → Option RecordFields
record_in tables id bookmark = row_at (rows_of (table_with_id tables id)) bookmark

-- the tables with the one of this id changed
abbrev pub with_table : ℕ → (Table → Table) → List Table → List Table
with_table id change tables = map (λ t. if t.id == id then change t else t) tables
