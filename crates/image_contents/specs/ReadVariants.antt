-- The variants of a table's records, as they are read, and the keys that its indexes derive of them.
use Rattle.std.specs.Prelude.{◌≡◌, ℕ, List, [], IfSome, IsTrue}
use Rattle.std.specs.List.{AllByRecursion}
use Rattle.btree_inplace.specs.Trees.{IsTree, nodes_of}
use Rattle.column_set.specs.RowReading.{row_in}
use Rattle.column_set.specs.Rows.{IsRowBytes}
use Rattle.database_state.specs.Table.{schema_of}
use Rattle.image_contents.specs.FirstParts.{HaveFirstParts}
use Rattle.image_contents.specs.LegalRules.{HasLegalRules}
use Rattle.image_contents.specs.declared.entries.variants.TableVariants.{TableVariants}
use Rattle.image_findings.specs.TableContents.{TableContents, long_values}
use Rattle.long_rows.specs.WholeRows.{is_whole}
use Rattle.long_value.specs.Values.{Values}
use Rattle.page_image.specs.Page.{Node}
use Rattle.stored_variants.specs.RecordRows.{row_in_node}
use Rattle.version_store.specs.HeldChanges.{HeldChange}

-- the table with the nodes of its trees but those of its indexes
abbrev pub contents_of : TableVariants → TableContents
contents_of v = record {
  table = v.table.now;
  nodes = nodes_of v.space.now v.opened.now.nodes;
  value_nodes = nodes_of v.space.now v.opened.now.long_values;
  indexes = [];
}

-- ---- rows that can be read

-- The bytes are those of a row, and each long value that it names is there.
abbrev pub IsReadableRow : Values → List ℕ → Type 0
IsReadableRow values row = IsRowBytes row × IsTrue (is_whole values (row_in row))

-- So is the row of a node, and the row before a held change of the table, where there is one.
abbrev pub HasReadableRow : Values → Node → Type 0
HasReadableRow values n = IfSome (row_in_node n.data) (IsReadableRow values)

abbrev pub HasReadableBefore : Values → ℕ → HeldChange → Type 0
HasReadableBefore values table h = h.table ≡ table → IfSome h.before (IsReadableRow values)

-- The trees of the records and of the long values are trees, each row of a record can be read, and the keys of each index can be derived.
pub record AreReadableVariants (v : TableVariants) : Type 0 where
  pub nodes_tree : IsTree v.space.now v.opened.now.nodes
  pub values_tree : IsTree v.space.now v.opened.now.long_values
  pub parts : HaveFirstParts (nodes_of v.space.now v.opened.now.long_values)
  pub rules : HasLegalRules (schema_of v.table.now)
  pub newest : AllByRecursion (HasReadableRow (long_values (contents_of v))) (nodes_of v.space.now v.opened.now.nodes)
  pub before : AllByRecursion (HasReadableBefore (long_values (contents_of v)) v.table.now.id) v.versions.now
