-- The rules of a sound catalog are found under their numbers.
use Rattle.std.proofs.Common.{◌≡◌, ℕ, Bool, true, false, ◌&&◌, List, [], ◌∷◌, map, Some}
use Rattle.std.specs.Prelude.{nat_lt, not, if◌then◌else◌}
use Rattle.std.specs.List.{AllByRecursion, list_all}
use Rattle.catalog_grammar.specs.Catalogs.{CatalogTable}
use Rattle.common_lemmas.proofs.Booleans.{and_left, and_right}
use Rattle.common_lemmas.proofs.Lists.{all_filter, all_map, all_weaker}
use Rattle.database_state.specs.Table.{Table, schema_of}
use Rattle.index_derive.specs.Schemas.{rule_with_id}
use Rattle.index_derive.specs.declared.rules.IndexRule.{IndexRule}
use Rattle.image_findings.specs.CatalogFindings.{CatalogTold, are_given, catalog_told, have_own_names, in_order_of_making, is_sound_catalog, is_sound_table, rooted_indexes, table_of, with_order}
use Rattle.image_findings.specs.OwnRules.{IsOwnRule}
use Rattle.image_findings.specs.TableContents.{TableContents, contents_below}
use Rattle.image_findings.specs.TreeFindings.{nodes_below}
use Rattle.image_findings.proofs.SoundIndexes.{HaveOwnNumbers, each_own, sound_indexes}
use Rattle.image_findings.proofs.Told.{is_told}
use Rattle.laws_versions.specs.UniqueKeys.{IsSoundIndex}
use Rattle.page_image.specs.Page.{Node}
use Rattle.page_space.specs.Frames.{Frames}

-- ---- what holds of all rules in their order of making holds of all

with_order_back : (P : IndexRule → Type 0) (rule : IndexRule) (rules : List IndexRule) → AllByRecursion P (with_order rule rules) → P rule × AllByRecursion P rules
with_order_back P rule [] all = (all.0, tt)
with_order_back P rule (other ∷ rules) all = by (nat_lt rule.order other.order) all (with_order_back P rule rules)
  where
    by : (b : Bool) → AllByRecursion P (if b then rule ∷ other ∷ rules else other ∷ with_order rule rules) → (AllByRecursion P (with_order rule rules) → P rule × AllByRecursion P rules) → P rule × AllByRecursion P (other ∷ rules)
    by true all rest = (all.0, all.1)
    by false all rest = let back = rest all.1 in (back.0, (all.0, back.1))

in_order_back : (P : IndexRule → Type 0) (rules : List IndexRule) → AllByRecursion P (in_order_of_making rules) → AllByRecursion P rules
in_order_back P [] all = tt
in_order_back P (rule ∷ rules) all = let back = with_order_back P rule (in_order_of_making rules) all in (back.0, in_order_back P rules back.1)

pub unmapped : {X Y : Type 0} (P : Y → Type 0) (f : X → Y) (xs : List X) → AllByRecursion P (map f xs) → AllByRecursion (λ x. P (f x)) xs
unmapped P f [] all = tt
unmapped P f (x ∷ xs) all = (all.0, unmapped P f xs all.1)

-- ---- under their numbers

abbrev IsNumbered : Table → IndexRule → Type 0
IsNumbered table rule = rule_with_id (schema_of table) rule.id.0 ≡ Some rule

own_rules : (frames : Frames) (x : CatalogTable) → is_sound_table (table_of x) ≡ true → HaveOwnNumbers (table_of x).indexes → AllByRecursion (IsOwnRule (table_of x)) (contents_below frames x).indexes
own_rules frames x sound own =
    let table : Table = table_of x in
    let numbered : AllByRecursion (IsNumbered table) table.indexes = all_weaker (IsSoundIndex table) (IsNumbered table) (λ rule is. is.0) table.indexes (sound_indexes table sound own) in
    all_map (IsOwnRule table) (λ (index : ℕ × IndexRule). (index.1, nodes_below frames index.0)) (rooted_indexes x)
    (all_filter (λ (index : ℕ × IndexRule). IsNumbered table index.1) (λ (index : ℕ × IndexRule). not index.1.flags.primary) x.indexes
    (unmapped (IsNumbered table) (λ (index : ℕ × IndexRule). index.1) x.indexes (in_order_back (IsNumbered table) (map (λ (index : ℕ × IndexRule). index.1) x.indexes) numbered)))

each_own_rules : (frames : Frames) (tables : List CatalogTable) → list_all is_sound_table (map table_of tables) ≡ true → AllByRecursion (λ (t : TableContents). HaveOwnNumbers t.table.indexes) (map (contents_below frames) tables)
    → AllByRecursion (λ (t : TableContents). AllByRecursion (IsOwnRule t.table) t.indexes) (map (contents_below frames) tables)
each_own_rules frames [] sound own = tt
each_own_rules frames (x ∷ tables) sound own = (
  own_rules frames x (and_left (is_sound_table (table_of x)) (list_all is_sound_table (map table_of tables)) sound) own.0,
  each_own_rules frames tables (and_right (is_sound_table (table_of x)) (list_all is_sound_table (map table_of tables)) sound) own.1,
)

pub all_own_rules : (frames : Frames) (nodes : List Node) (told : CatalogTold) → catalog_told nodes ≡ Some told → is_sound_catalog told.greatest (map table_of told.tables) ≡ true
    → AllByRecursion (λ (t : TableContents). AllByRecursion (IsOwnRule t.table) t.indexes) (map (contents_below frames) told.tables)
all_own_rules frames nodes told is sound =
    let all = map table_of told.tables in
    each_own_rules frames told.tables (and_right (are_given told.greatest all) (list_all is_sound_table all) (and_right (have_own_names all) (are_given told.greatest all && list_all is_sound_table all) sound)) (each_own frames told (is_told nodes told is))
