-- The tables of a store, made of the opened trees of an image.
use Rattle.std.specs.Prelude.{◌≡◌, ℕ, ◌==◌, Bool, true, false, List, [], ◌∷◌, ◌++◌, find, length, Option, Some, None}
use Rattle.std.specs.List.{AllByRecursion, flat_map}
use Rattle.btree_inplace.specs.declared.Tree.{Tree}
use Rattle.jet_base.specs.declared.ids.IndexId.{IndexId}
use Rattle.index_derive.specs.declared.rules.IndexRule.{IndexRule}
use Rattle.image_opening.specs.OpenedTrees.{EachWith, index_pages as opened_index_pages}
use Rattle.image_opening.specs.declared.opened.OpenedIndex.{OpenedIndex}
use Rattle.image_opening.specs.declared.opened.OpenedTable.{OpenedTable}
use Rattle.laws_versions.specs.History.{EachTwo}
use Rattle.page_space.specs.Frames.{Frames}
use Rattle.stored_variants.specs.VersionsKept.{secondary_rules}
use Rattle.database_state.specs.Table.{Table, primary_first}
use Rattle.table_trees.specs.Pages.{copies}
use Rattle.table_trees.specs.TableParts.{index_pages}
use Rattle.table_trees.specs.declared.table.Table.{Table as Trees}
use Rattle.table_trees.specs.declared.table.TableIndex.{TableIndex}

abbrev pub has_number : ℕ → OpenedIndex → Bool
has_number index x = x.index.0 == index

-- The tree of the first of some indexes that has a number is taken out.
pub record IsTaken (index : ℕ) (old : List OpenedIndex) (tree : Tree) (new : List OpenedIndex) : Type 0 where
  pub x : OpenedIndex
  pub front : List OpenedIndex
  pub back : List OpenedIndex
  pub old_is : old ≡ front ++ x ∷ back
  pub new_is : new ≡ front ++ back
  pub found : find (has_number index) old ≡ Some x
  pub tree_is : x.tree ≡ tree

abbrev pub TakesTree : ℕ → List OpenedIndex → Option Tree → List OpenedIndex → Type 0
TakesTree index old None new = (find (has_number index) old ≡ None) × (new ≡ old)
TakesTree index old (Some tree) new = IsTaken index old tree new

-- The tree of a rule is taken out, if it is not the primary index's, which has none.
abbrev pub TakesUnless : Bool → ℕ → List OpenedIndex → Option Tree → List OpenedIndex → Type 0
TakesUnless true index old tree new = (tree ≡ None) × (new ≡ old)
TakesUnless false index old tree new = TakesTree index old tree new

-- An index of this number with a tree is put at the end, if there is a tree.
abbrev pub PutsIndex : IndexId → Option Tree → List TableIndex → List TableIndex → Type 0
PutsIndex index None old new = new ≡ old
PutsIndex index (Some tree) old new = (i : TableIndex) × (i.index ≡ index) × (i.tree.tree ≡ tree) × (new ≡ old ++ i ∷ [])

-- One rule's tree goes from the opened ones to the made ones.
pub record MovesTree (rule : IndexRule) (opened : List OpenedIndex) (made : List TableIndex) (left : List OpenedIndex) (more : List TableIndex) : Type 0 where
  pub tree : Option Tree
  pub takes : TakesUnless rule.flags.primary rule.id.0 opened tree left
  pub puts : PutsIndex rule.id tree made more

-- So do those of some rules, one after another.
abbrev pub MoveTrees : List IndexRule → List OpenedIndex → List TableIndex → List OpenedIndex → List TableIndex → Type 0
MoveTrees [] opened made left more = (left ≡ opened) × (more ≡ made)
MoveTrees (rule ∷ rules) opened made left more = (o : List OpenedIndex) × (m : List TableIndex) × MovesTree rule opened made o m × MoveTrees rules o m left more

-- An index has the number of a rule, and the tree that was opened for it.
pub record IsMadeIndex (opened : List OpenedIndex) (rule : IndexRule) (made : TableIndex) : Type 0 where
  pub x : OpenedIndex
  pub found : find (has_number rule.id.0) opened ≡ Some x
  pub index_is : made.index ≡ rule.id
  pub tree_is : made.tree.tree ≡ x.tree

-- The indexes that have a tree are made, in the order of their making, and no tree is left.
pub record AreMadeIndexes (rules : List IndexRule) (opened : List OpenedIndex) (made : List TableIndex) : Type 0 where
  pub each : EachWith (IsMadeIndex opened) rules made
  pub pages : (frames : Frames) (p : ℕ) → copies p (flat_map (index_pages frames) made) ≡ copies p (flat_map (opened_index_pages frames) opened)

-- A table has the trees that were opened for it.
pub record IsMadeTable (table : Table) (opened : OpenedTable) (made : Trees) : Type 0 where
  pub table_is : made.table ≡ opened.table
  pub nodes_is : made.nodes.tree ≡ opened.nodes
  pub longs_is : made.long_values.store.tree ≡ opened.long_values
  pub indexes : AreMadeIndexes (secondary_rules table) opened.indexes.items made.indexes.items

-- ---- what is asked of the opened trees of a table

abbrev pub Differ : IndexRule → IndexRule → Type 0
Differ rule other = (rule.id.0 == other.id.0) ≡ false

-- the indexes of all rules but the primary one were opened
abbrev pub HaveTrees : List OpenedIndex → List IndexRule → Type 0
HaveTrees opened rules = AllByRecursion (λ (rule : IndexRule). rule.flags.primary ≡ false → (x : OpenedIndex) × (find (has_number rule.id.0) opened ≡ Some x)) rules

-- Each index but the primary one has its tree, and there is no other.
pub record HasItsTrees (table : Table) (opened : OpenedTable) : Type 0 where
  pub differ : EachTwo Differ (primary_first table.indexes)
  pub have : HaveTrees opened.indexes.items (primary_first table.indexes)
  pub many : length (secondary_rules table) ≡ length opened.indexes.items

-- So each table has its own.
abbrev pub HaveTheirTrees : List Table → List OpenedTable → Type 0
HaveTheirTrees tables opened = EachWith HasItsTrees tables opened

-- ---- all tables

-- Each of the first tables has the trees that were opened for it.
abbrev pub AreMadeTables : List OpenedTable → List Trees → List Table → Type 0
AreMadeTables [] [] tables = Unit {0}
AreMadeTables [] (m ∷ made) tables = ⊥
AreMadeTables (o ∷ opened) [] tables = ⊥
AreMadeTables (o ∷ opened) (m ∷ made) [] = ⊥
AreMadeTables (o ∷ opened) (m ∷ made) (table ∷ tables) = IsMadeTable table o m × AreMadeTables opened made tables
