-- A catalog of a state within the limits of an image keeps the rules of one.
use Rattle.std.proofs.Common.{◌≡◌, ◌≤◌, ◌<◌, ℕ, Bool, true, false, ◌&&◌, List, [], ◌∷◌, Some, length, refl, sym, ap, subst, ◌∙◌, arith}
use Rattle.std.specs.Prelude.{◌==◌, bytes_eq, filter, map, nat_le, IfSome, if◌then◌else◌}
use Rattle.std.specs.List.{AllByRecursion, list_all}
use Rattle.std.proofs.lemmas.Bool.{and_from}
use Rattle.std.proofs.lemmas.Bool.Decides.{nat_tests}
use Rattle.std.proofs.lemmas.List.{length-map}
use Rattle.column_set.specs.declared.columns.Column.{Column}
use Rattle.common_lemmas.proofs.Booleans.{impossible}
use Rattle.common_lemmas.proofs.Lists.{all_listed, all_map, all_weaker, filter_none}
use Rattle.database_state.specs.State.{DatabaseState}
use Rattle.database_state.specs.Table.{Table, table_with_id}
use Rattle.index_derive.specs.declared.rules.IndexRule.{IndexRule}
use Rattle.jet_catalog.specs.Catalog.{CatalogState, catalog_of, without_rows}
use Rattle.laws_engine.specs.ColumnNumbers.{has_own_numbers}
use Rattle.laws_images.specs.SoundStates.{HasSoundCatalog, IndexesDiffer, IsSoundTable, TableNamesDiffer, is_sound_column, is_sound_index}
use Rattle.laws_versions.proofs.HistoryLemmas.Lists.{each_weaker}
use Rattle.laws_versions.specs.History.{EachTwo}
use Rattle.laws_versions.specs.TableOrder.{IdsRise}
use Rattle.image_findings.specs.CatalogFindings.{are_given, differ, has_sound_columns, has_sound_indexes, have_own_names, is_sound_catalog, is_sound_table}
use Rattle.own_images.proofs.Differing.{all_both, differ_each, each_mapped, each_passes, found_each}

-- what a catalog has of a sound state
pub record HasSoundParts (catalog : CatalogState) : Type 0 where
  pub ids : EachTwo IdsRise catalog.tables
  pub given : AllByRecursion (λ (t : Table). (0 < t.id) × (t.id ≤ catalog.greatest_table)) catalog.tables
  pub numbers : AllByRecursion (λ t. has_own_numbers t ≡ true) catalog.tables
  pub most : length catalog.tables ≤ 64
  pub names : EachTwo TableNamesDiffer catalog.tables
  pub tables : AllByRecursion IsSoundTable catalog.tables

unequal : (m n : ℕ) → m < n → (m == n) ≡ false
unequal m n h = grind (arith, nat_tests, h)

pub ids_differ : (tables : List Table) → EachTwo IdsRise tables → EachTwo (λ (t u : Table). (t.id == u.id) ≡ false) tables
ids_differ tables h = each_weaker IdsRise (λ (t u : Table). (t.id == u.id) ≡ false) (λ t u lt. unequal t.id u.id lt) tables h

each_of_found : (P : Table → Type 0) (tables : List Table) → EachTwo IdsRise tables → ((id : ℕ) → IfSome (table_with_id tables id) P) → AllByRecursion P tables
each_of_found P tables rise found =
    all_weaker (λ (t : Table). table_with_id tables t.id ≡ Some t) P (λ t e. subst (λ o. IfSome o P) e (found t.id)) tables (found_each (λ (t : Table). t.id) tables (ids_differ tables rise))

bare : (t : Table) → IsSoundTable t → IsSoundTable (without_rows t)
bare t s = record { name = s.name; columns = s.columns; column_names = s.column_names; indexes = s.indexes; indexes_differ = s.indexes_differ; most = s.most; orders = s.orders }

parts_of : (state : DatabaseState) → HasSoundCatalog state → HasSoundParts (catalog_of state)
parts_of state s = record {
  ids = each_mapped IdsRise without_rows state.tables s.indexes.order.ids;
  given = all_map (λ (t : Table). (0 < t.id) × (t.id ≤ state.greatest_table)) without_rows state.tables s.indexes.order.given;
  numbers = all_map (λ t. has_own_numbers t ≡ true) without_rows state.tables (each_passes has_own_numbers state.tables s.indexes.numbers);
  most = subst (λ (n : ℕ). n ≤ 64) (sym (length-map state.tables without_rows)) s.most;
  names = each_mapped TableNamesDiffer without_rows state.tables s.names;
  tables = all_map IsSoundTable without_rows state.tables (all_weaker IsSoundTable (λ t. IsSoundTable (without_rows t)) bare state.tables (each_of_found IsSoundTable state.tables s.indexes.order.ids s.tables));
}

pub sound_parts : (state : DatabaseState) (catalog : CatalogState) → catalog_of state ≡ catalog → HasSoundCatalog state → HasSoundParts catalog
sound_parts state catalog e s = subst HasSoundParts e (parts_of state s)

-- ---- one table

at_most : (m n : ℕ) → m ≤ n → nat_le m n ≡ true
at_most m n h = grind (arith, nat_tests, h)

abbrev is_primary : IndexRule → Bool
is_primary rule = rule.flags.primary

other_primary : (a b : Bool) → (b ≡ true → a ≡ false) → a ≡ true → b ≡ false
other_primary a true h e = impossible (sym (h refl) ∙ e)
other_primary a false h e = refl

one_primary : (rules : List IndexRule) → EachTwo IndexesDiffer rules → length (filter is_primary rules) ≤ 1
one_primary [] h = omega arith
one_primary (rule ∷ rules) h = count (is_primary rule) refl (one_primary rules h.1)
  where
    count : (b : Bool) → is_primary rule ≡ b → length (filter is_primary rules) ≤ 1 → length (if b then rule ∷ filter is_primary rules else filter is_primary rules) ≤ 1
    count true e rest =
        let others = filter_none is_primary rules (all_weaker (IndexesDiffer rule) (λ other. is_primary other ≡ false) (λ other d. other_primary (is_primary rule) (is_primary other) d.primary e) rules h.0) in
        omega (arith, ap (λ (l : List IndexRule). length l) others)
    count false e rest = rest

columns_sound : (t : Table) → IsSoundTable t → has_sound_columns t ≡ true
columns_sound t s =
    and_from (list_all is_sound_column t.columns) (differ (λ (c d : Column). bytes_eq c.name d.name) t.columns) (all_listed is_sound_column t.columns s.columns) (differ_each (λ (c d : Column). bytes_eq c.name d.name) t.columns s.column_names)

indexes_sound : (t : Table) → IsSoundTable t → has_sound_indexes t ≡ true
indexes_sound t s =
    let names = differ_each (λ (r q : IndexRule). bytes_eq r.name q.name) t.indexes (each_weaker IndexesDiffer (λ (r q : IndexRule). bytes_eq r.name q.name ≡ false) (λ r q d. d.names) t.indexes s.indexes_differ) in
    let orders = differ_each (λ (r q : IndexRule). r.order == q.order) t.indexes (each_weaker IndexesDiffer (λ (r q : IndexRule). (r.order == q.order) ≡ false) (λ r q d. unequal r.order q.order d.orders) t.indexes s.indexes_differ) in
    and_from (list_all (is_sound_index t) t.indexes) _ (all_listed (is_sound_index t) t.indexes s.indexes)
    (and_from (differ (λ (r q : IndexRule). bytes_eq r.name q.name) t.indexes && differ (λ (r q : IndexRule). r.order == q.order) t.indexes) _
    (and_from (differ (λ (r q : IndexRule). bytes_eq r.name q.name) t.indexes) (differ (λ (r q : IndexRule). r.order == q.order) t.indexes) names orders)
    (and_from (nat_le (length t.indexes) 64) (nat_le (length (filter is_primary t.indexes)) 1) (at_most (length t.indexes) 64 s.most) (at_most (length (filter is_primary t.indexes)) 1 (one_primary t.indexes s.indexes_differ))))

table_sound : (t : Table) → has_own_numbers t ≡ true → IsSoundTable t → is_sound_table t ≡ true
table_sound t numbers s = and_from (has_own_numbers t) (has_sound_columns t && has_sound_indexes t) numbers (and_from (has_sound_columns t) (has_sound_indexes t) (columns_sound t s) (indexes_sound t s))

-- ---- the catalog

pub sound_catalog : (catalog : CatalogState) → HasSoundParts catalog → is_sound_catalog catalog.greatest_table catalog.tables ≡ true
sound_catalog catalog s =
    let given = all_listed (λ (t : Table). nat_le t.id catalog.greatest_table) catalog.tables (all_weaker (λ (t : Table). (0 < t.id) × (t.id ≤ catalog.greatest_table)) (λ (t : Table). nat_le t.id catalog.greatest_table ≡ true) (λ t h. at_most t.id catalog.greatest_table h.1) catalog.tables s.given) in
    let names = and_from (nat_le (length catalog.tables) 64) (differ (λ (t u : Table). bytes_eq t.name u.name) catalog.tables) (at_most (length catalog.tables) 64 s.most) (differ_each (λ (t u : Table). bytes_eq t.name u.name) catalog.tables s.names) in
    let tables = all_listed is_sound_table catalog.tables (all_both (λ t. has_own_numbers t ≡ true) IsSoundTable (λ t. is_sound_table t ≡ true) table_sound catalog.tables s.numbers s.tables) in
    and_from (have_own_names catalog.tables) (are_given catalog.greatest_table catalog.tables && list_all is_sound_table catalog.tables) names
    (and_from (are_given catalog.greatest_table catalog.tables) (list_all is_sound_table catalog.tables) given tables)
