-- What an image has of its tables, as a store has it.
use Rattle.std.specs.Prelude.{◌≡◌, ◌≤◌, ℕ, ◌==◌, true, List, [], map, All}
use Rattle.std.specs.List.{AllByRecursion}
use Rattle.cursor_nav.specs.Places.{are_sorted}
use Rattle.index_derive.specs.declared.rules.IndexRule.{IndexRule}
use Rattle.index_tree.specs.Entries.{AreApart, IsShort, entry_of_node, node_of_entry}
use Rattle.column_set.specs.NumberReading.{IsBytes}
use Rattle.page_image.specs.Page.{HasRisingKeys, Node}
use Rattle.long_value.specs.Values.{LongValue}
use Rattle.laws_engine.specs.Holding.{AllRise}
use Rattle.laws_versions.specs.History.{EachTwo}
use Rattle.laws_versions.specs.TableOrder.{IdsRise}
use Rattle.stored_variants.specs.VersionsKept.{IsStoredRule, secondary_rules}
use Rattle.table_trees.specs.StoredNodes.{IsShortNode, bookmark_entries}
use Rattle.table_trees.specs.StoredTables.{StoredIndex, StoredTable, part_of}
use Rattle.version_store.specs.HeldChanges.{HeldChange}
use Rattle.image_findings.specs.Findings.{contents_in, live_of, whole_of}
use Rattle.image_findings.specs.Images.{ImageContents}
use Rattle.image_findings.specs.NoFindings.{HasNoFinding}
use Rattle.image_findings.specs.OwnRules.{HasIndexTrees, IsOwnRule}
use Rattle.image_findings.specs.SoundChanges.{IsSoundChange}
use Rattle.image_findings.specs.SoundRows.{HasOwnRecords, HasRowsUnder, HasSoundRows}
use Rattle.image_findings.specs.TableContents.{TableContents, long_values, newest_table}
use Rattle.image_findings.specs.ValueFindings.{broken_values, missing_values}

-- the nodes of the index of a number
abbrev pub nodes_of_index : TableContents → ℕ → List Node
nodes_of_index t id = part_of (λ (index : IndexRule × List Node). index.0.id.0 == id) (λ index. index.1) t.indexes

abbrev pub stored_index : TableContents → IndexRule → StoredIndex
stored_index t rule = (rule.id.0, map entry_of_node (nodes_of_index t rule.id.0))

-- the indexes that have a tree stand in the order of their making
abbrev pub stored_of : TableContents → StoredTable
stored_of t = record { number = t.table.id; nodes = t.nodes; indexes = map (stored_index t) (secondary_rules t.table); long_values = long_values t }

-- The nodes of an index are those of entries that stand in order, of which no key begins another.
pub record AreIndexNodes (nodes : List Node) : Type 0 where
  pub nodes_are : nodes ≡ map node_of_entry (map entry_of_node nodes)
  pub in_order : are_sorted (map entry_of_node nodes) ≡ true
  pub short : All IsShort (map entry_of_node nodes)
  pub apart : AreApart (map entry_of_node nodes)

-- what is known of the nodes of a tree: their keys rise and are bytes
pub record AreTreeNodes (nodes : List Node) : Type 0 where
  pub rising : HasRisingKeys nodes
  pub keys : AllByRecursion (λ (n : Node). IsBytes n.key) nodes

-- so it is of the trees of a table's records and of its indexes
pub record HaveTreeNodes (t : TableContents) : Type 0 where
  pub records : AreTreeNodes t.nodes
  pub indexes : AllByRecursion (λ (index : IndexRule × List Node). AreTreeNodes index.1) t.indexes

-- The trees of a table are as a store asks: nodes are short, and those of its indexes are of entries in order.
pub record HasStoredTrees (t : TableContents) : Type 0 where
  pub rising : are_sorted (bookmark_entries t.nodes) ≡ true
  pub short : All IsShortNode t.nodes
  pub indexes : AllByRecursion (λ (index : IndexRule × List Node). AreIndexNodes index.1) t.indexes
  pub counted : AllByRecursion (λ (row : List ℕ × LongValue). 1 ≤ row.1.count) (long_values t)

-- ---- a consistent image

abbrev pub held_of : ImageContents → List HeldChange
held_of image = (live_of image).held

-- none of its long values is broken, and none that a row names is missing
pub record HasWholeValues (number : ℕ) (held : List HeldChange) (t : TableContents) : Type 0 where
  pub broken : broken_values number t ≡ []
  pub missing : missing_values held t ≡ []

-- What the laws of consistent images say of one, part by part.
pub record HasStoredParts (image : ImageContents) : Type 0 where
  pub none : HasNoFinding image
  pub ids : EachTwo IdsRise (map newest_table (contents_in image))
  pub rise : AllRise (map newest_table (contents_in image))
  pub rules : AllByRecursion (λ (t : TableContents). AllByRecursion (IsStoredRule t.table) t.table.indexes) (contents_in image)
  pub trees : AllByRecursion HasIndexTrees (contents_in image)
  pub own : AllByRecursion (λ (t : TableContents). AllByRecursion (IsOwnRule t.table) t.indexes) (contents_in image)
  pub values : AllByRecursion (HasWholeValues image.number (held_of image)) (contents_in image)
  pub rows : AllByRecursion (HasSoundRows image.number (held_of image)) (contents_in image)
  pub under : AllByRecursion HasRowsUnder (contents_in image)
  pub records : AllByRecursion HasOwnRecords (contents_in image)
  pub changes : AllByRecursion (IsSoundChange image.number (contents_in image) (whole_of image).sessions) (held_of image)
