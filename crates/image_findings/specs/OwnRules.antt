-- The indexes that an image has of a table, and the rules of the table.
use Rattle.std.specs.Prelude.{◌≡◌, ◌==◌, false, List, Some, find}
use Rattle.std.specs.List.{AllByRecursion}
use Rattle.database_state.specs.Table.{Table, schema_of}
use Rattle.index_derive.specs.Schemas.{rule_with_id}
use Rattle.index_derive.specs.declared.rules.IndexRule.{IndexRule}
use Rattle.page_image.specs.Page.{Node}
use Rattle.image_findings.specs.TableContents.{TableContents}

-- The rule of an index with a tree is the one that the table has under its number.
abbrev pub IsOwnRule : Table → IndexRule × List Node → Type 0
IsOwnRule table index = rule_with_id (schema_of table) index.0.id.0 ≡ Some index.0

-- The nodes of an index are found by its number.
pub record HasItsNodes (t : TableContents) (rule : IndexRule) : Type 0 where
  pub nodes : List Node
  pub found : find (λ (index : IndexRule × List Node). index.0.id.0 == rule.id.0) t.indexes ≡ Some (rule, nodes)

-- so it is of each index of a table but the primary one, whose order is that of the records
abbrev pub HasIndexTrees : TableContents → Type 0
HasIndexTrees t = AllByRecursion (λ (rule : IndexRule). rule.flags.primary ≡ false → HasItsNodes t rule) t.table.indexes
