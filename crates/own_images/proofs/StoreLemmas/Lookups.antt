-- The trees of a table, found by its number.
use Rattle.std.proofs.Common.{◌≡◌, ℕ, List, [], Option, Some, None, refl, ap, ◌∙◌}
use Rattle.std.specs.Prelude.{◌==◌, find, map, option_map, unwrap_or}
use Rattle.common_lemmas.proofs.Finding.{find_map}
use Rattle.database_state.specs.Table.{Table, table_with_id}
use Rattle.table_trees.specs.StoredTables.{StoredTable, is_table, table_indexes, table_long_values, table_nodes}
use Rattle.image_findings.specs.Findings.{values_by_table}
use Rattle.image_findings.specs.TableContents.{TableContents, contents_with_id, long_values}
use Rattle.own_images.specs.StoredContents.{stored_of}

abbrev pub trees_of : List TableContents → List StoredTable
trees_of tables = map stored_of tables

abbrev pub plain_tables : List TableContents → List Table
plain_tables tables = map (λ (t : TableContents). t.table) tables

pub found_tree : (tables : List TableContents) (id : ℕ) → find (is_table id) (trees_of tables) ≡ option_map stored_of (contents_with_id tables id)
found_tree tables id = find_map stored_of (is_table id) tables

pub found_plain : (tables : List TableContents) (id : ℕ) → table_with_id (plain_tables tables) id ≡ option_map (λ (t : TableContents). t.table) (contents_with_id tables id)
found_plain tables id = find_map (λ (t : TableContents). t.table) (λ (t : Table). t.id == id) tables

abbrev part : {Y : Type 0} → (StoredTable → List Y) → Option StoredTable → List Y
part f o = unwrap_or (option_map f o) []

pub nodes_found : (tables : List TableContents) (id : ℕ) (t : TableContents) → contents_with_id tables id ≡ Some t → table_nodes (trees_of tables) id ≡ t.nodes
nodes_found tables id t e = ap (part (λ x. x.nodes)) (found_tree tables id ∙ ap (option_map stored_of) e)

pub indexes_found : (tables : List TableContents) (id : ℕ) (t : TableContents) → contents_with_id tables id ≡ Some t → table_indexes (trees_of tables) id ≡ (stored_of t).indexes
indexes_found tables id t e = ap (part (λ x. x.indexes)) (found_tree tables id ∙ ap (option_map stored_of) e)

pub longs_found : (tables : List TableContents) (id : ℕ) (t : TableContents) → contents_with_id tables id ≡ Some t → table_long_values (trees_of tables) id ≡ long_values t
longs_found tables id t e = ap (part (λ x. x.long_values)) (found_tree tables id ∙ ap (option_map stored_of) e)

pub nodes_none : (tables : List TableContents) (id : ℕ) → contents_with_id tables id ≡ None → table_nodes (trees_of tables) id ≡ []
nodes_none tables id e = ap (part (λ x. x.nodes)) (found_tree tables id ∙ ap (option_map stored_of) e)

pub longs_none : (tables : List TableContents) (id : ℕ) → contents_with_id tables id ≡ None → table_long_values (trees_of tables) id ≡ []
longs_none tables id e = ap (part (λ x. x.long_values)) (found_tree tables id ∙ ap (option_map stored_of) e)

-- the long values of each table, as the store and as the image has them
pub same_longs : (tables : List TableContents) (id : ℕ) → table_long_values (trees_of tables) id ≡ values_by_table tables id
same_longs tables id = by (contents_with_id tables id) refl
  where
    by : (o : Option TableContents) → contents_with_id tables id ≡ o → table_long_values (trees_of tables) id ≡ (elim o [ Some t ↦ long_values t | None ↦ [] ])
    by None e = longs_none tables id e
    by (Some t) e = longs_found tables id t e
