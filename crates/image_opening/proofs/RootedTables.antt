-- The tables of a database with the roots that were read of their catalog: the tables of the catalog again, where a primary index has the root 0.
use Rattle.std.proofs.Common.{◌≡◌, ℕ, ◌<◌, Bool, true, false, Option, Some, List, [], ◌∷◌, map, refl, sym, ap, ◌∙◌, arith}
use Rattle.std.specs.Prelude.{◌==◌, filter, find, nat_lt, not, unwrap_or, if◌then◌else◌}
use Rattle.std.specs.List.{AllByRecursion, list_all}
use Rattle.std.specs.Option.{option_map}
use Rattle.std.proofs.lemmas.Bool.Decides.{nat_tests}
use Rattle.common_lemmas.proofs.Booleans.{and_left, and_right, by_test}
use Rattle.common_lemmas.proofs.Numbers.{self_equal}
use Rattle.column_set.specs.declared.columns.Column.{Column}
use Rattle.index_derive.specs.declared.rules.IndexRule.{IndexRule}
use Rattle.catalog_grammar.specs.Catalogs.{CatalogTable, TableRoots, by_number, catalog_table, has_rising_parts, rise_above}
use Rattle.catalog_grammar.specs.CatalogSteps.{Roots, rooted, rooted_tables}
use Rattle.table_trees.specs.StoredTrees.{StoredRoots, are_roots_of, no_roots, root_behind, roots_by_number, told_roots}
use Rattle.image_findings.specs.CatalogFindings.{in_order_of_making, table_of}
use Rattle.image_opening.specs.OpenedCatalogs.{stored_roots}
use Rattle.image_opening.proofs.Ordered.{by_number_again, rise_over, unequal}

lower_unequal : (m n : ℕ) → m < n → (m == n) ≡ false
lower_unequal m n lt = grind (arith, nat_tests, lt)

-- ---- the roots of a table

abbrev id_of_table : CatalogTable → ℕ
id_of_table x = x.table.id.0

-- the roots found by a table's number are its own
abbrev HasOwn : List StoredRoots → CatalogTable → Type 0
HasOwn all x = find (are_roots_of (id_of_table x)) all ≡ Some (stored_roots x)

own_later : (y : CatalogTable) (all : List StoredRoots) (rest : List CatalogTable) → AllByRecursion (λ x. id_of_table y < id_of_table x) rest → AllByRecursion (HasOwn all) rest → AllByRecursion (HasOwn (stored_roots y ∷ all)) rest
own_later y all [] lt h = tt
own_later y all (x ∷ rest) lt h =
    (ap (λ (b : Bool). if b then Some (stored_roots y) else find (are_roots_of (id_of_table x)) all) (lower_unequal (id_of_table y) (id_of_table x) lt.0) ∙ h.0, own_later y all rest lt.1 h.1)

own_all : (low : ℕ) (tables : List CatalogTable) → rise_above low (map id_of_table tables) ≡ true → AllByRecursion (HasOwn (map stored_roots tables)) tables
own_all low [] h = tt
own_all low (x ∷ tables) h =
    let rest = and_right (nat_lt low (id_of_table x)) (rise_above (id_of_table x) (map id_of_table tables)) h in (
      ap (λ (b : Bool). if b then Some (stored_roots x) else find (are_roots_of (id_of_table x)) (map stored_roots tables)) (self_equal (id_of_table x)),
      own_later x (map stored_roots tables) tables (rise_over id_of_table (id_of_table x) (id_of_table x) tables (omega arith) rest) (own_all (id_of_table x) tables rest),
    )

-- ---- the roots of its indexes

abbrev Rooted : Type 0
Rooted = ℕ × IndexRule

abbrev id_of_index : Rooted → ℕ
id_of_index index = index.1.id.0

abbrev is_rooted : Rooted → Bool
is_rooted index = not index.1.flags.primary

abbrev root_of_index : Rooted → ℕ × ℕ
root_of_index index = (index.1.id.0, index.0)

-- the index with the root of its tree, or with 0
abbrev pub kept_root : Rooted → Rooted
kept_root index = (if index.1.flags.primary then 0 else index.0, index.1)

abbrev pub with_kept_roots : CatalogTable → CatalogTable
with_kept_roots x = record x { indexes = map kept_root x.indexes }

abbrev index_roots : List Rooted → List (ℕ × ℕ)
index_roots indexes = map root_of_index (filter is_rooted indexes)

-- what is found where the first has a tree, and where it has none
abbrev behind_first : ℕ → Rooted → List Rooted → Bool → ℕ
behind_first id index indexes primary = root_behind id (map root_of_index (if not primary then index ∷ filter is_rooted indexes else filter is_rooted indexes))

abbrev behind_root : ℕ → Rooted → List Rooted → Bool → ℕ
behind_root id index indexes same = unwrap_or (option_map (λ (x : ℕ × ℕ). x.1) (if same then Some (root_of_index index) else find (λ (x : ℕ × ℕ). x.0 == id) (index_roots indexes))) 0

-- another index is not the one that is found
other_behind : (id : ℕ) (index : Rooted) (indexes : List Rooted) → (id_of_index index == id) ≡ false → root_behind id (index_roots (index ∷ indexes)) ≡ root_behind id (index_roots indexes)
other_behind id index indexes other =
    by_test index.1.flags.primary
    (λ primary. ap (behind_first id index indexes) primary)
    (λ refuted. ap (behind_first id index indexes) refuted ∙ ap (behind_root id index indexes) other)

none_behind : (id : ℕ) (indexes : List Rooted) → AllByRecursion (λ index. id < id_of_index index) indexes → root_behind id (index_roots indexes) ≡ 0
none_behind id [] h = refl
none_behind id (index ∷ indexes) h = other_behind id index indexes (unequal id (id_of_index index) h.0) ∙ none_behind id indexes h.1

abbrev HasRoot : List Rooted → Rooted → Type 0
HasRoot all index = root_behind (id_of_index index) (index_roots all) ≡ (kept_root index).0

root_first : (index : Rooted) (indexes : List Rooted) → AllByRecursion (λ other. id_of_index index < id_of_index other) indexes → HasRoot (index ∷ indexes) index
root_first index indexes lt =
    let id = id_of_index index in
    by_test index.1.flags.primary
    (λ primary. ap (behind_first id index indexes) primary ∙ none_behind id indexes lt ∙ sym (ap (λ (b : Bool). if b then 0 else index.0) primary))
    (λ refuted. ap (behind_first id index indexes) refuted ∙ ap (behind_root id index indexes) (self_equal id) ∙ sym (ap (λ (b : Bool). if b then 0 else index.0) refuted))

roots_later : (y : Rooted) (all rest : List Rooted) → AllByRecursion (λ index. id_of_index y < id_of_index index) rest → AllByRecursion (HasRoot all) rest → AllByRecursion (HasRoot (y ∷ all)) rest
roots_later y all [] lt h = tt
roots_later y all (index ∷ rest) lt h = (other_behind (id_of_index index) y all (lower_unequal (id_of_index y) (id_of_index index) lt.0) ∙ h.0, roots_later y all rest lt.1 h.1)

roots_all : (low : ℕ) (indexes : List Rooted) → rise_above low (map id_of_index indexes) ≡ true → AllByRecursion (HasRoot indexes) indexes
roots_all low [] h = tt
roots_all low (index ∷ indexes) h =
    let rest = and_right (nat_lt low (id_of_index index)) (rise_above (id_of_index index) (map id_of_index indexes)) h in
    let lt = rise_over id_of_index (id_of_index index) (id_of_index index) indexes (omega arith) rest in
    (root_first index indexes lt, roots_later index indexes indexes lt (roots_all (id_of_index index) indexes rest))

indexes_again : (roots : ℕ → ℕ) (indexes : List Rooted) → AllByRecursion (λ index. roots (id_of_index index) ≡ (kept_root index).0) indexes → map (λ (rule : IndexRule). (roots rule.id.0, rule)) (map (λ (index : Rooted). index.1) indexes) ≡ map kept_root indexes
indexes_again roots [] h = refl
indexes_again roots (index ∷ indexes) h =
    let rest = indexes_again roots indexes h.1 in
    λ i. (h.0 i, index.1) ∷ rest i

rule_numbers : (indexes : List Rooted) → map (λ (rule : IndexRule). rule.id.0) (map (λ (index : Rooted). index.1) indexes) ≡ map id_of_index indexes
rule_numbers [] = refl
rule_numbers (index ∷ indexes) = ap (λ (l : List ℕ). id_of_index index ∷ l) (rule_numbers indexes)

-- ---- one table, and all of them

one_again : (x : CatalogTable) → has_rising_parts x ≡ true → catalog_table (table_of x, told_roots (stored_roots x)) ≡ with_kept_roots x
one_again x rise =
    let rules : List IndexRule = map (λ (index : Rooted). index.1) x.indexes in
    let rising = and_right (rise_above 0 (map (λ (column : Column). column.id.0) x.columns)) (rise_above 0 (map id_of_index x.indexes)) rise in
    let again : by_number (in_order_of_making rules) ≡ rules = by_number_again 0 rules (ap (rise_above 0) (rule_numbers x.indexes) ∙ rising) in
    let roots : ℕ → ℕ = λ id. root_behind id (index_roots x.indexes) in
    let whole : map (λ (rule : IndexRule). (roots rule.id.0, rule)) (by_number (in_order_of_making rules)) ≡ map kept_root x.indexes =
    ap (map (λ (rule : IndexRule). (roots rule.id.0, rule))) again ∙ indexes_again roots x.indexes (roots_all 0 x.indexes rising) in
    λ i. record x { indexes = whole i }

rooted_one : (roots : Roots) (x : CatalogTable) → roots (id_of_table x) ≡ told_roots (stored_roots x) → has_rising_parts x ≡ true → rooted roots (table_of x) ≡ with_kept_roots x
rooted_one roots x is rise = ap (λ (r : TableRoots). catalog_table (table_of x, r)) is ∙ one_again x rise

rooted_each : (all : List StoredRoots) (rest : List CatalogTable) → AllByRecursion (HasOwn all) rest → list_all has_rising_parts rest ≡ true → rooted_tables (roots_by_number all) (map table_of rest) ≡ map with_kept_roots rest
rooted_each all [] own rise = refl
rooted_each all (x ∷ rest) own rise =
    let first = rooted_one (roots_by_number all) x (ap (λ (o : Option StoredRoots). unwrap_or (option_map told_roots o) no_roots) own.0) (and_left (has_rising_parts x) (list_all has_rising_parts rest) rise) in
    let others = rooted_each all rest own.1 (and_right (has_rising_parts x) (list_all has_rising_parts rest) rise) in
    λ i. first i ∷ others i

pub rooted_again : (tables : List CatalogTable) → rise_above 0 (map id_of_table tables) ≡ true → list_all has_rising_parts tables ≡ true → rooted_tables (roots_by_number (map stored_roots tables)) (map table_of tables) ≡ map with_kept_roots tables
rooted_again tables numbers rise = rooted_each (map stored_roots tables) tables (own_all 0 tables numbers) rise
