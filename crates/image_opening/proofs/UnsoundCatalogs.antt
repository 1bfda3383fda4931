-- Catalogs that are not sound.
use Rattle.std.proofs.Common.{◌≡◌, ℕ, Bool, true, false, Some, None, List, [], ◌∷◌, length, map, refl, sym, ap, ◌∙◌}
use Rattle.std.specs.Prelude.{◌==◌, ◌&&◌, bytes_eq, filter, nat_le, not, if◌then◌else◌}
use Rattle.std.specs.List.{list_all}
use Rattle.std.proofs.lemmas.Bool.{and_from}
use Rattle.std.proofs.lemmas.List.{length-map}
use Rattle.common_lemmas.proofs.Booleans.{and_left, and_right, by_test, impossible}
use Rattle.database_state.specs.Table.{Table}
use Rattle.index_derive.specs.declared.rules.IndexRule.{IndexRule}
use Rattle.laws_engine.specs.ColumnNumbers.{has_own_numbers}
use Rattle.laws_images.specs.SoundStates.{is_sound_index}
use Rattle.catalog_grammar.specs.Catalogs.{CatalogTable}
use Rattle.image_findings.specs.CatalogFindings.{CatalogTold, are_given, differ, has_sound_columns, has_sound_indexes, have_own_names, is_sound_catalog, is_sound_table, table_of}
use Rattle.image_findings.specs.Images.Finding.{Catalog}
use Rattle.image_opening.specs.OpenedCatalogs.{is_sound, told_finding}
use Rattle.image_opening.proofs.Ordered.{length-in_order}

pub unsound : (told : CatalogTold) → is_sound told ≡ false → told_finding (Some told) ≡ Some Catalog
unsound told refuted = ap (λ (b : Bool). if b then None else Some Catalog) refuted

-- more than 64 indexes of a table are too many
few_of_one : (x : CatalogTable) → is_sound_table (table_of x) ≡ true → nat_le (length x.indexes) 64 ≡ true
few_of_one x h =
    ap (λ (n : ℕ). nat_le n 64) (sym (length-in_order rules ∙ length-map x.indexes (λ (index : ℕ × IndexRule). index.1)))
    ∙ and_left (nat_le (length t.indexes) 64) (nat_le (length (filter (λ (r : IndexRule). r.flags.primary) t.indexes)) 1)
    (and_right (differ (λ (r s : IndexRule). bytes_eq r.name s.name) t.indexes && differ (λ (r s : IndexRule). r.order == s.order) t.indexes) (nat_le (length t.indexes) 64 && nat_le (length (filter (λ (r : IndexRule). r.flags.primary) t.indexes)) 1)
    (and_right (list_all (is_sound_index t) t.indexes) ((differ (λ (r s : IndexRule). bytes_eq r.name s.name) t.indexes && differ (λ (r s : IndexRule). r.order == s.order) t.indexes) && (nat_le (length t.indexes) 64 && nat_le (length (filter (λ (r : IndexRule). r.flags.primary) t.indexes)) 1))
    (and_right (has_sound_columns t) (has_sound_indexes t) (and_right (has_own_numbers t) (has_sound_columns t && has_sound_indexes t) h))))
  where
    rules : List IndexRule
    rules = map (λ (index : ℕ × IndexRule). index.1) x.indexes

    t : Table
    t = table_of x

few_of_each : (tables : List CatalogTable) → list_all is_sound_table (map table_of tables) ≡ true → list_all (λ (x : CatalogTable). nat_le (length x.indexes) 64) tables ≡ true
few_of_each [] h = refl
few_of_each (x ∷ tables) h =
    and_from (nat_le (length x.indexes) 64) (list_all (λ (y : CatalogTable). nat_le (length y.indexes) 64) tables) (few_of_one x (and_left (is_sound_table (table_of x)) (list_all is_sound_table (map table_of tables)) h))
    (few_of_each tables (and_right (is_sound_table (table_of x)) (list_all is_sound_table (map table_of tables)) h))

pub too_many_indexes : (told : CatalogTold) → list_all (λ (x : CatalogTable). nat_le (length x.indexes) 64) told.tables ≡ false → is_sound told ≡ false
too_many_indexes told many = by_test (is_sound told) (λ sound. impossible (sym many ∙ few_of_each told.tables (parts told.greatest (map table_of told.tables) sound))) (λ refuted. refuted)
  where
    parts : (greatest : ℕ) (tables : List Table) → is_sound_catalog greatest tables ≡ true → list_all is_sound_table tables ≡ true
    parts greatest tables h = and_right (are_given greatest tables) (list_all is_sound_table tables) (and_right (have_own_names tables) (are_given greatest tables && list_all is_sound_table tables) h)

pub many_found : (told : CatalogTold) → not (list_all (λ (x : CatalogTable). nat_le (length x.indexes) 64) told.tables) ≡ true → told_finding (Some told) ≡ Some Catalog
many_found told many = unsound told (too_many_indexes told (not_all (list_all (λ (x : CatalogTable). nat_le (length x.indexes) 64) told.tables) many))
  where
    not_all : (b : Bool) → not b ≡ true → b ≡ false
    not_all true h = impossible h
    not_all false h = refl
