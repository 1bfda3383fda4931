-- The tables of an image as they were opened, and what the rows of one are read with.
use Rattle.std.specs.Prelude.{◌≡◌, ℕ, false, true, List, map, Option, Some, None, IfSome, ⊤}
use Rattle.std.specs.List.{AllByRecursion}
use Rattle.btree_inplace.specs.Trees.{nodes_of}
use Rattle.column_set.specs.RowReading.{row_in}
use Rattle.database_state.specs.State.{is_undone}
use Rattle.database_state.specs.Table.{schema_of}
use Rattle.image_contents.specs.FirstParts.{HaveFirstParts}
use Rattle.image_contents.specs.LegalRules.{HasLegalRules}
use Rattle.image_contents.specs.RowsRead.{AreReadable}
use Rattle.image_contents.specs.declared.rows.table.TableRows.{TableRows}
use Rattle.image_findings.specs.TableContents.{TableContents, contents_with_id, long_values}
use Rattle.image_opening.specs.OpenedTrees.{EachWith, HasContents}
use Rattle.image_live.specs.declared.tables.ImageTables.{ImageTables}
use Rattle.long_rows.specs.WholeRows.{is_whole}
use Rattle.long_value.specs.Values.{Values}
use Rattle.version_store.specs.HeldChanges.{HeldChange}

-- The first bytes of a table's long values can be read, and the keys of its indexes be derived.
pub record IsReadable (t : TableContents) : Type 0 where
  pub parts : HaveFirstParts t.value_nodes
  pub rules : HasLegalRules (schema_of t.table)

-- The catalog and the opened trees are those of these tables, and their rows can be read.
pub record AreTablesOf (image : ImageTables) (tables : List TableContents) : Type 0 where
  pub catalog : image.catalog.now.tables ≡ map (λ (t : TableContents). t.table) tables
  pub trees : EachWith (HasContents image.space.now) image.trees.now tables
  pub readable : AllByRecursion IsReadable tables

-- Rows are read with the columns, the indexes and the long values of a table.
pub record AreRowsOf (number : ℕ) (t : TableContents) (rows : TableRows) : Type 0 where
  pub table_is : rows.table.now ≡ t.table
  pub values_are : nodes_of rows.space.now rows.long_values.now ≡ t.value_nodes
  pub number_is : rows.number ≡ number
  pub readable : AreReadable rows

abbrev pub FindsRows : ℕ → Option TableContents → Option TableRows → Type 0
FindsRows number None None = ⊤
FindsRows number None (Some rows) = ⊥
FindsRows number (Some t) None = ⊥
FindsRows number (Some t) (Some rows) = AreRowsOf number t rows

-- The row before a change that stands names long values that are there.
abbrev pub HasWholeBefore : Values → HeldChange → Type 0
HasWholeBefore values h = is_undone h.status ≡ false → IfSome h.before (λ bytes. is_whole values (row_in bytes) ≡ true)

abbrev pub NamesWholeValues : List TableContents → HeldChange → Type 0
NamesWholeValues tables h = IfSome (contents_with_id tables h.table) (λ t. HasWholeBefore (long_values t) h)
