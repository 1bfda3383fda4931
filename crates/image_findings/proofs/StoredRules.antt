-- The indexes of a sound catalog are as a store keeps them.
use Rattle.std.proofs.Common.{◌≡◌, true, ◌&&◌, List, [], ◌∷◌, Some}
use Rattle.std.specs.Prelude.{map, nat_le}
use Rattle.std.specs.List.{AllByRecursion, list_all}
use Rattle.std.proofs.lemmas.Bool.{leb-true}
use Rattle.catalog_grammar.specs.Catalogs.{CatalogTable}
use Rattle.common_lemmas.proofs.Booleans.{and_left, and_right}
use Rattle.database_state.specs.Lawful.{is_name}
use Rattle.database_state.specs.SchemaChanges.{has_column, rule_columns}
use Rattle.database_state.specs.Table.{Table, schema_of}
use Rattle.index_derive.specs.Entries.{is_legal}
use Rattle.index_derive.specs.declared.rules.IndexRule.{IndexRule}
use Rattle.laws_engine.specs.ColumnNumbers.{has_own_numbers}
use Rattle.laws_images.specs.SoundStates.{is_sound_index}
use Rattle.laws_versions.specs.UniqueKeys.{IsSoundIndex}
use Rattle.page_image.specs.Page.{Node}
use Rattle.page_space.specs.Frames.{Frames}
use Rattle.session_local.specs.BuiltTables.{is_built_column, is_built_rule, is_built_table}
use Rattle.stored_variants.specs.VersionsKept.{IsStoredRule}
use Rattle.image_findings.specs.CatalogFindings.{CatalogTold, catalog_told, has_sound_columns, has_sound_indexes, is_sound_catalog, is_sound_table, table_of}
use Rattle.image_findings.specs.TableContents.{TableContents, contents_below}
use Rattle.image_findings.proofs.Built.{told_are_built}
use Rattle.image_findings.proofs.Lists.{each_passes}
use Rattle.image_findings.proofs.SoundIndexes.{HaveOwnNumbers, all_of_two, each_own, sound_indexes}
use Rattle.image_findings.proofs.Tables.{sound_tables}
use Rattle.image_findings.proofs.Told.{is_told}

-- it passes the test of an index, and has keys of the length that is built
abbrev IsTested : Table → IndexRule → Type 0
IsTested table rule = (is_sound_index table rule ≡ true) × (is_built_rule rule ≡ true)

stored_rule : (table : Table) (rule : IndexRule) → IsSoundIndex table rule → IsTested table rule → IsStoredRule table rule
stored_rule table rule is tested = record {
  found = is.0;
  primary = λ p. (is.2 p).0;
  legal = and_right (is_name rule.name && nat_le 1 rule.id.0 && list_all (has_column table) (rule_columns rule)) (is_legal rule (schema_of table)) tested.0;
  columns = is.1;
  short = leb-true rule.key_most 255 tested.1;
}

stored_rules : (table : Table) → is_sound_table table ≡ true → is_built_table table ≡ true → HaveOwnNumbers table.indexes → AllByRecursion (IsStoredRule table) table.indexes
stored_rules table sound built own =
    let tests = list_all (is_sound_index table) table.indexes in
    let indexes = and_right (has_sound_columns table) (has_sound_indexes table) (and_right (has_own_numbers table) (has_sound_columns table && has_sound_indexes table) sound) in
    all_of_two (IsSoundIndex table) (IsTested table) (IsStoredRule table) (stored_rule table) table.indexes (sound_indexes table sound own)
    (all_of_two (λ rule. is_sound_index table rule ≡ true) (λ rule. is_built_rule rule ≡ true) (IsTested table) (λ rule a b. (a, b)) table.indexes (each_passes (is_sound_index table) table.indexes (and_left tests _ indexes))
    (each_passes is_built_rule table.indexes (and_right (list_all is_built_column table.columns) (list_all is_built_rule table.indexes) built)))

each_stored : (frames : Frames) (xs : List CatalogTable) → list_all is_sound_table (map table_of xs) ≡ true → list_all is_built_table (map table_of xs) ≡ true → AllByRecursion (λ (t : TableContents). HaveOwnNumbers t.table.indexes) (map (contents_below frames) xs)
    → AllByRecursion (λ (t : TableContents). AllByRecursion (IsStoredRule t.table) t.table.indexes) (map (contents_below frames) xs)
each_stored frames [] sound built own = tt
each_stored frames (x ∷ xs) sound built own = (
  stored_rules (table_of x) (and_left (is_sound_table (table_of x)) (list_all is_sound_table (map table_of xs)) sound) (and_left (is_built_table (table_of x)) (list_all is_built_table (map table_of xs)) built) own.0,
  each_stored frames xs (and_right (is_sound_table (table_of x)) (list_all is_sound_table (map table_of xs)) sound) (and_right (is_built_table (table_of x)) (list_all is_built_table (map table_of xs)) built) own.1,
)

pub all_stored : (frames : Frames) (nodes : List Node) (told : CatalogTold) → catalog_told nodes ≡ Some told → is_sound_catalog told.greatest (map table_of told.tables) ≡ true
    → AllByRecursion (λ (t : TableContents). AllByRecursion (IsStoredRule t.table) t.table.indexes) (map (contents_below frames) told.tables)
all_stored frames nodes told e sound =
    let is = is_told nodes told e in
    each_stored frames told.tables (sound_tables told.greatest (map table_of told.tables) sound) (told_are_built told is sound) (each_own frames told is)
