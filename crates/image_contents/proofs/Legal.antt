-- The rules of a sound table are legal.
use Rattle.std.proofs.Common.{◌≡◌, ℕ, Bool, true, ◌&&◌, List, [], ◌∷◌, ◌++◌, filter, map}
use Rattle.std.specs.Prelude.{nat_le, not}
use Rattle.std.specs.List.{AllByRecursion, list_all}
use Rattle.std.proofs.lemmas.Bool.{and_from, leb-true}
use Rattle.catalog_grammar.specs.Catalogs.{CatalogTable}
use Rattle.common_lemmas.proofs.Booleans.{and_left, and_right}
use Rattle.common_lemmas.proofs.Lists.{all_at, all_filtered}
use Rattle.database_state.specs.Lawful.{is_name}
use Rattle.database_state.specs.SchemaChanges.{has_column, rule_columns}
use Rattle.database_state.specs.Table.{Table, primary_first, schema_of}
use Rattle.image_findings.specs.CatalogFindings.{are_given, has_sound_columns, has_sound_indexes, have_own_names, is_sound_catalog, is_sound_table, table_of}
use Rattle.index_derive.specs.Entries.{is_legal}
use Rattle.index_derive.specs.declared.rules.IndexRule.{IndexRule}
use Rattle.laws_engine.specs.ColumnNumbers.{has_own_numbers}
use Rattle.laws_images.specs.SoundStates.{is_sound_index}
use Rattle.session_local.specs.BuiltTables.{is_built_column, is_built_rule, is_built_table}
use Rattle.image_contents.specs.LegalRules.{HasLegalRules}

all_joined : {X : Type 0} (p : X → Bool) (xs ys : List X) → list_all p xs ≡ true → list_all p ys ≡ true → list_all p (xs ++ ys) ≡ true
all_joined p [] ys h g = g
all_joined p (x ∷ xs) ys h g = and_from (p x) (list_all p (xs ++ ys)) (and_left (p x) (list_all p xs) h) (all_joined p xs ys (and_right (p x) (list_all p xs) h) g)

-- the primary index first
all_first : (p : IndexRule → Bool) (rules : List IndexRule) → list_all p rules ≡ true → list_all p (primary_first rules) ≡ true
all_first p rules h = all_joined p (filter (λ r. r.flags.primary) rules) (filter (λ r. not r.flags.primary) rules) (all_filtered p (λ r. r.flags.primary) rules h) (all_filtered p (λ r. not r.flags.primary) rules h)

legal_index : (table : Table) (rule : IndexRule) → is_sound_index table rule ≡ true → is_legal rule (schema_of table) ≡ true
legal_index table rule h = and_right (is_name rule.name && nat_le 1 rule.id.0 && list_all (has_column table) (rule_columns rule)) (is_legal rule (schema_of table)) h

legal_rules : (table : Table) → list_all (is_sound_index table) table.indexes ≡ true → list_all is_built_rule table.indexes ≡ true → HasLegalRules (schema_of table)
legal_rules table sound built place rule is = (
  legal_index table rule (all_at (is_sound_index table) (primary_first table.indexes) place rule (all_first (is_sound_index table) table.indexes sound) is),
  leb-true rule.key_most 255 (all_at is_built_rule (primary_first table.indexes) place rule (all_first is_built_rule table.indexes built) is),
)

legal_table : (table : Table) → is_sound_table table ≡ true → is_built_table table ≡ true → HasLegalRules (schema_of table)
legal_table table sound built =
    let indexes = and_right (has_sound_columns table) (has_sound_indexes table) (and_right (has_own_numbers table) (has_sound_columns table && has_sound_indexes table) sound) in
    legal_rules table (and_left (list_all (is_sound_index table) table.indexes) _ indexes) (and_right (list_all is_built_column table.columns) (list_all is_built_rule table.indexes) built)

each_legal : (tables : List CatalogTable) → list_all is_sound_table (map table_of tables) ≡ true → list_all is_built_table (map table_of tables) ≡ true → AllByRecursion (λ (x : CatalogTable). HasLegalRules (schema_of (table_of x))) tables
each_legal [] sound built = tt
each_legal (x ∷ tables) sound built = (
  legal_table (table_of x) (and_left (is_sound_table (table_of x)) (list_all is_sound_table (map table_of tables)) sound) (and_left (is_built_table (table_of x)) (list_all is_built_table (map table_of tables)) built),
  each_legal tables (and_right (is_sound_table (table_of x)) (list_all is_sound_table (map table_of tables)) sound) (and_right (is_built_table (table_of x)) (list_all is_built_table (map table_of tables)) built),
)

pub all_legal : (greatest : ℕ) (tables : List CatalogTable) → is_sound_catalog greatest (map table_of tables) ≡ true → list_all is_built_table (map table_of tables) ≡ true → AllByRecursion (λ (x : CatalogTable). HasLegalRules (schema_of (table_of x))) tables
all_legal greatest tables sound built =
    let all = map table_of tables in
    each_legal tables (and_right (are_given greatest all) (list_all is_sound_table all) (and_right (have_own_names all) (are_given greatest all && list_all is_sound_table all) sound)) built
