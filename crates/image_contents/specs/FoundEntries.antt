-- An entry that is stored and not wanted, or wanted and not stored, as it is found and as it is told.
use Rattle.std.specs.Prelude.{◌≡◌, ℕ, List, [], Option, Some, None, if◌then◌else◌}
use Rattle.std.specs.List.{AllByRecursion}
use Rattle.btree_inplace.specs.Trees.{nodes_of}
use Rattle.cursor_nav.specs.Places.{Pair, pair_lt}
use Rattle.database_state.specs.Table.{Table, schema_of}
use Rattle.index_derive.specs.Schemas.{rule_with_id}
use Rattle.index_derive.specs.declared.rules.IndexRule.{IndexRule}
use Rattle.image_contents.specs.ReadVariants.{contents_of}
use Rattle.image_contents.specs.declared.entries.differing.Difference.{Difference}
use Rattle.image_contents.specs.declared.entries.indexes.DifferingEntry.{DifferingEntry}
use Rattle.image_contents.specs.declared.entries.variants.TableVariants.{TableVariants}
use Rattle.image_findings.specs.EntryFindings.{index_finding}
use Rattle.image_findings.specs.Images.{Finding}
use Rattle.image_findings.specs.Images.Finding.{Index}
use Rattle.image_findings.specs.OwnRules.{IsOwnRule}
use Rattle.image_findings.specs.TableContents.{TableContents}
use Rattle.image_opening.specs.OpenedTrees.{HasContents}
use Rattle.image_opening.specs.declared.opened.OpenedIndex.{OpenedIndex}
use Rattle.page_image.specs.Page.{Node}
use Rattle.version_store.specs.HeldChanges.{HeldChange}

-- ---- where two lists differ

abbrev pub found_as : (Pair → ℕ → ℕ → Finding) → Difference → Finding
found_as found d = found (d.key.now, d.bookmark.now) (if d.is_stored then 1 else 0) (if d.is_stored then 0 else 1)

-- the lesser of two entries that are not the same; each is less than none
abbrev pub lesser : (Pair → ℕ → ℕ → Finding) → Option Pair → Option Pair → Option Finding
lesser found None None = None
lesser found None (Some q) = Some (found q 0 1)
lesser found (Some p) None = Some (found p 1 0)
lesser found (Some p) (Some q) = if pair_lt p q then Some (found p 1 0) else Some (found q 0 1)

-- ---- of a table

abbrev pub name_of_rule : Option IndexRule → List ℕ
name_of_rule None = []
name_of_rule (Some rule) = rule.name

-- an entry of an index that is told by its number, with the names of the table and of the index
abbrev pub finding_in : Table → DifferingEntry → Finding
finding_in table d = Index table.name (name_of_rule (rule_with_id (schema_of table) d.index.0)) d.key.items (if d.is_stored then 1 else 0) (if d.is_stored then 0 else 1)

-- what is found of the index that has this rule, if there is one
abbrev pub finding_by : List HeldChange → TableContents → Option IndexRule → List Node → Option Finding
finding_by held t None nodes = None
finding_by held t (Some rule) nodes = index_finding held t (rule, nodes)

-- what is found of an opened index
abbrev pub opened_finding : TableVariants → OpenedIndex → Option Finding
opened_finding v index = finding_by v.versions.now (contents_of v) (rule_with_id (schema_of v.table.now) index.index.0) (nodes_of v.space.now index.tree)

-- What an image has of a table: its contents, its catalog's table, and its own rules.
pub record IsShown (v : TableVariants) (t : TableContents) : Type 0 where
  pub contents : HasContents v.space.now v.opened.now t
  pub table : v.table.now ≡ t.table
  pub rules : AllByRecursion (IsOwnRule t.table) t.indexes
