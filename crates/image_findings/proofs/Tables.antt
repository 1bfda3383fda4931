-- The tables of the engine that is made of a consistent image.
use Rattle.std.proofs.Common.{◌≡◌, ℕ, Bool, true, false, ◌&&◌, ◌||◌, List, [], ◌∷◌, refl, ap, ◌∙◌}
use Rattle.std.specs.Prelude.{not, ◌==◌, map, bytes_eq, IfSome}
use Rattle.std.specs.List.{AllByRecursion, list_all}
use Rattle.column_set.specs.declared.columns.Column.{Column}
use Rattle.catalog_grammar.specs.Catalogs.{CatalogTable}
use Rattle.common_lemmas.proofs.Booleans.{and_left, and_right}
use Rattle.common_lemmas.proofs.Lists.{all_stronger}
use Rattle.database_state.specs.SchemaChanges.{is_long_column, is_type_long}
use Rattle.database_state.specs.Table.{Table, table_with_id}
use Rattle.laws_engine.specs.ColumnNumbers.{has_own_numbers, have_own_numbers}
use Rattle.laws_images.specs.SoundStates.{is_number_of_kind, is_sound_column}
use Rattle.database_state.specs.Lawful.{is_name}
use Rattle.laws_versions.specs.RecordNumbers.{HasSingleSums}
use Rattle.page_space.specs.Frames.{Frames}
use Rattle.image_findings.specs.CatalogFindings.{are_given, differ, has_sound_columns, has_sound_indexes, have_own_names, is_sound_catalog, is_sound_table, table_of}
use Rattle.image_findings.specs.TableContents.{TableContents, contents_below, newest_table}
use Rattle.image_findings.proofs.Lists.{each_passes, if_found}

-- the tables with their newest records
abbrev pub shown : Frames → List CatalogTable → List Table
shown frames xs = map newest_table (map (contents_below frames) xs)

pub sound_tables : (greatest : ℕ) (tables : List Table) → is_sound_catalog greatest tables ≡ true → list_all is_sound_table tables ≡ true
sound_tables greatest tables h = and_right (are_given greatest tables) (list_all is_sound_table tables) (and_right (have_own_names tables) _ h)

pub given_tables : (greatest : ℕ) (tables : List Table) → is_sound_catalog greatest tables ≡ true → are_given greatest tables ≡ true
given_tables greatest tables h = and_left (are_given greatest tables) (list_all is_sound_table tables) (and_right (have_own_names tables) (are_given greatest tables && list_all is_sound_table tables) h)

-- A test that sees no records answers of a shown table as of the catalog's.
pub shown_tests : (frames : Frames) (p : Table → Bool) → ((x : CatalogTable) → p (newest_table (contents_below frames x)) ≡ p (table_of x)) → (xs : List CatalogTable) → list_all p (map table_of xs) ≡ true → list_all p (shown frames xs) ≡ true
shown_tests frames p same [] h = refl
shown_tests frames p same (x ∷ xs) h =
    ap (λ b. b && list_all p (shown frames xs)) (same x ∙ and_left (p (table_of x)) (list_all p (map table_of xs)) h) ∙ shown_tests frames p same xs (and_right (p (table_of x)) (list_all p (map table_of xs)) h)

-- ---- columns

pub own_numbers : (frames : Frames) (greatest : ℕ) (xs : List CatalogTable) → is_sound_catalog greatest (map table_of xs) ≡ true → have_own_numbers (shown frames xs) ≡ true
own_numbers frames greatest xs h =
    shown_tests frames has_own_numbers (λ x. refl) xs (all_stronger is_sound_table has_own_numbers (λ t sound. and_left (has_own_numbers t) (has_sound_columns t && has_sound_indexes t) sound) (map table_of xs) (sound_tables greatest (map table_of xs) h))

single_of : (escrow type tagged multi : Bool) → (not escrow || (type && (not tagged && not multi))) ≡ true → (not escrow || not multi) ≡ true
single_of false type tagged multi h = refl
single_of true type tagged multi h = and_right (not tagged) (not multi) (and_right type (not tagged && not multi) h)

single_sum : (c : Column) → is_sound_column c ≡ true → (not c.escrow || not c.multi) ≡ true
single_sum c h =
    single_of c.escrow (is_type_long c.kind) c.tagged c.multi
    (and_right (is_name c.name && is_number_of_kind c.kind c.tagged c.id.0 && (c.tagged || not (is_long_column c)) && (not c.multi || c.tagged)) (not c.escrow || (is_type_long c.kind && (not c.tagged && not c.multi))) h)

abbrev has_single_sums : Table → Bool
has_single_sums t = list_all (λ (c : Column). not c.escrow || not c.multi) t.columns

pub all_sound_columns : (t : Table) → is_sound_table t ≡ true → list_all is_sound_column t.columns ≡ true
all_sound_columns t h =
    let columns = and_left (has_sound_columns t) (has_sound_indexes t) (and_right (has_own_numbers t) (has_sound_columns t && has_sound_indexes t) h) in
    and_left (list_all is_sound_column t.columns) (differ (λ (c d : Column). bytes_eq c.name d.name) t.columns) columns

sound_columns : (t : Table) → is_sound_table t ≡ true → has_single_sums t ≡ true
sound_columns t h = all_stronger is_sound_column (λ (c : Column). not c.escrow || not c.multi) single_sum t.columns (all_sound_columns t h)

pub single_sums : (frames : Frames) (greatest : ℕ) (xs : List CatalogTable) → is_sound_catalog greatest (map table_of xs) ≡ true → (id : ℕ) → IfSome (table_with_id (shown frames xs) id) HasSingleSums
single_sums frames greatest xs h id =
    if_found HasSingleSums (λ t. t.id == id) (shown frames xs)
    (each_passes has_single_sums (shown frames xs) (shown_tests frames has_single_sums (λ x. refl) xs (all_stronger is_sound_table has_single_sums sound_columns (map table_of xs) (sound_tables greatest (map table_of xs) h))))

-- ---- tables with their contents

pub each_sound_table : (frames : Frames) (greatest : ℕ) (xs : List CatalogTable) → is_sound_catalog greatest (map table_of xs) ≡ true → AllByRecursion (λ (t : TableContents). is_sound_table t.table ≡ true) (map (contents_below frames) xs)
each_sound_table frames greatest xs h = by xs (sound_tables greatest (map table_of xs) h)
  where
    by : (xs : List CatalogTable) → list_all is_sound_table (map table_of xs) ≡ true → AllByRecursion (λ (t : TableContents). is_sound_table t.table ≡ true) (map (contents_below frames) xs)
    by [] all = tt
    by (x ∷ xs) all = (and_left (is_sound_table (table_of x)) (list_all is_sound_table (map table_of xs)) all, by xs (and_right (is_sound_table (table_of x)) (list_all is_sound_table (map table_of xs)) all))
