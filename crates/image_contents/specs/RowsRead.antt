-- The rows of a table, as they are read.
use Rattle.std.specs.Prelude.{◌≡◌, ℕ, true, not, List, [], find, Option, option_map, IfSome}
use Rattle.std.specs.List.{AllByRecursion}
use Rattle.btree_inplace.specs.Trees.{IsTree, nodes_of}
use Rattle.column_set.specs.RowReading.{row_in}
use Rattle.database_state.specs.Table.{schema_of}
use Rattle.image_findings.specs.RowFindings.{is_sound_node}
use Rattle.image_findings.specs.TableContents.{TableContents, long_values}
use Rattle.image_contents.specs.declared.rows.table.TableRows.{TableRows}
use Rattle.image_contents.specs.FirstParts.{HaveFirstParts}
use Rattle.image_contents.specs.LegalRules.{HasLegalRules}
use Rattle.long_rows.specs.WholeRows.{is_whole}
use Rattle.long_value.specs.Shown.{shown_values}
use Rattle.long_value.specs.Values.{Values}
use Rattle.page_image.specs.Page.{Node}
use Rattle.stored_variants.specs.RecordRows.{row_in_node}
use Rattle.version_store.specs.HeldChanges.{HeldChange}

abbrev pub values_read : TableRows → Values
values_read rows = shown_values (nodes_of rows.space.now rows.long_values.now)

-- The tree of the long values is one, their first bytes can be read, and so can the keys of each index be derived.
pub record AreReadable (rows : TableRows) : Type 0 where
  pub tree : IsTree rows.space.now rows.long_values.now
  pub parts : HaveFirstParts (nodes_of rows.space.now rows.long_values.now)
  pub rules : HasLegalRules (schema_of rows.table.now)

-- the table with some nodes
abbrev pub contents_read : TableRows → List Node → TableContents
contents_read rows nodes = record { table = rows.table.now; nodes = nodes; value_nodes = nodes_of rows.space.now rows.long_values.now; indexes = [] }

-- ---- the rows of a table of an image

-- Each long value that the row of a node names is there.
abbrev pub HasWholeRow : Values → Node → Type 0
HasWholeRow values n = IfSome (row_in_node n.data) (λ bytes. is_whole values (row_in bytes) ≡ true)

abbrev pub HaveWholeRows : Values → List Node → Type 0
HaveWholeRows values nodes = AllByRecursion (HasWholeRow values) nodes

-- What the rows of a table name can be read, and the keys of each index be derived.
pub record HasReadableRows (t : TableContents) : Type 0 where
  pub parts : HaveFirstParts t.value_nodes
  pub whole : HaveWholeRows (long_values t) t.nodes
  pub rules : HasLegalRules (schema_of t.table)

-- ---- the first node that is not sound

abbrev pub first_unsound : ℕ → List HeldChange → TableContents → List Node → Option (List ℕ)
first_unsound number held t nodes = option_map (λ (n : Node). n.key) (find (λ n. not (is_sound_node number held t n)) nodes)

abbrev pub unsound_read : TableRows → List HeldChange → List Node → Option (List ℕ)
unsound_read rows held nodes = first_unsound rows.number held (contents_read rows []) nodes
