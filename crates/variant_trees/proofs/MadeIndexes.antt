-- An index goes.
use Rattle.std.proofs.Common.{◌≡◌, ◌≢◌, ℕ, Bool, true, false, not, ◌||◌, cond, List, [], ◌∷◌, ◌++◌, Option, Some, None, filter, find, map, option_map, refl, sym, ap, subst, ◌∙◌}
use Rattle.std.specs.Prelude.{◌==◌, IfSome, IsSomeAnd, is_some, unwrap_or}
use Rattle.std.specs.List.{AllByRecursion, list_any}
use Rattle.std.proofs.lemmas.Bool.{eqb-true, not-true}
use Rattle.common_lemmas.proofs.Lists.{all_each, all_filter, all_weaker, filter_swap}
use Rattle.common_lemmas.proofs.Booleans.{impossible}
use Rattle.common_lemmas.proofs.Finding.{find_none}
use Rattle.database_state.specs.SchemaChanges.{without_index}
use Rattle.database_state.specs.Table.{Table, primary_first, row_at, schema_of, table_with_id, with_table}
use Rattle.index_derive.specs.Schemas.{primary_rule, rule_with_id}
use Rattle.laws_versions.specs.KeptEntries.{has_entry}
use Rattle.index_derive.specs.declared.rules.IndexRule.{IndexRule}
use Rattle.index_derive.specs.declared.schema_calls.SchemaStep.{SchemaStep}
use Rattle.index_derive.specs.declared.schema_calls.SchemaStep.TheVariants as step
use Rattle.jet_base.specs.declared.ids.IndexId.{IndexId}
use Rattle.jet_base.specs.declared.ids.TableId.{TableId}
use Rattle.jet_catalog.specs.Catalog.{CatalogState, IsNumbered, catalog_after, ids_rise}
use Rattle.page_image.specs.Page.{Node}
use Rattle.table_trees.specs.StoredTables.{table_long_values, StoredIndex, StoredTable, has_index, index_entries, is_index, is_table, table_indexes, table_nodes, with_indexes, without_index as without_tree, without_where}
use Rattle.laws_versions.proofs.KeyLemmas.IndexNumbers.{all_primary_first, found_without}
use Rattle.laws_engine.specs.Variants.{HoldsVariants}
use Rattle.stored_variants.specs.RecordRows.{TableValues, record_of, row_under, rows_of_nodes}
use Rattle.stored_variants.specs.SchemaSteps.{IsMade}
use Rattle.stored_variants.specs.VersionsKept.{AreKeptWith, IsKeptTable, IsRowUnder, IsStoredRule, needed_trees, only_secondary, secondary_rule, secondary_rules, tree_numbers}
use Rattle.stored_variants.specs.VersionsView.{with_newest_by}
use Rattle.variant_trees.proofs.OtherRules.{Takes, row_as, rule_as, yields_as}
use Rattle.variant_trees.proofs.Stepping.{IsSettled, StepsTo, changed_at, made_with_values, kept_of, map_filter, map_same, map_table, moved, newest_same, plain_table, settled_of, apart_from}
use Rattle.stored_variants.proofs.Tables.{found_number, others}
use Rattle.variant_trees.proofs.TreeNumbers.{changed_numbers, first_or_none, index_numbers}
use Rattle.stored_variants.specs.CountedValues.{AreCounted}
use Rattle.variant_trees.specs.GoneKeys.{KeepsValues}

-- ---- lists

pub filtered : {X : Type 0} (P R : X → Type 0) (q : X → Bool) → ((x : X) → q x ≡ true → P x → R x) → (xs : List X) → AllByRecursion P xs → AllByRecursion R (filter q xs)
filtered P R q f [] h = tt
filtered P R q f (x ∷ xs) h = by (q x) refl (filtered P R q f xs h.1)
  where
    by : (b : Bool) → q x ≡ b → AllByRecursion R (filter q xs) → AllByRecursion R (cond b (x ∷ filter q xs) (filter q xs))
    by true e rest = (f x e h.0, rest)
    by false e rest = rest

-- ---- the indexes that have trees

listed_at : (d : ℕ) (tables : List Table) (trees : List StoredTable) → map tree_numbers trees ≡ map needed_trees tables → (t : Table) → table_with_id tables d ≡ Some t → index_numbers (table_indexes trees d) ≡ (needed_trees t).1
listed_at d [] trees same t e = cc
listed_at d (x ∷ tables) [] same t e = impossible (sym (ap is_empty same))
  where
    is_empty : List (ℕ × List ℕ) → Bool
    is_empty [] = true
    is_empty (x ∷ xs) = false
listed_at d (x ∷ tables) (y ∷ trees) same t e = by (x.id == d) refl e (listed_at d tables trees (ap others same) t)
  where
    number : y.number ≡ x.id
    number = ap (λ (p : ℕ × List ℕ). p.0) (ap first_or_none same)

    table_or : Option Table → Table
    table_or None = x
    table_or (Some z) = z

    found : (b : Bool) → (x.id == d) ≡ b → table_indexes (y ∷ trees) d ≡ unwrap_or (option_map (λ (z : StoredTable). z.indexes) (cond b (Some y) (find (is_table d) trees))) []
    found b f = ap (λ c. unwrap_or (option_map (λ (z : StoredTable). z.indexes) (cond c (Some y) (find (is_table d) trees))) []) (ap (λ n. n == d) number ∙ f)

    by : (b : Bool) → (x.id == d) ≡ b → cond b (Some x) (table_with_id tables d) ≡ Some t → (table_with_id tables d ≡ Some t → index_numbers (table_indexes trees d) ≡ (needed_trees t).1)
        → index_numbers (table_indexes (y ∷ trees) d) ≡ (needed_trees t).1
    by true f g rest = ap index_numbers (found true f) ∙ ap (λ (p : ℕ × List ℕ). p.1) (ap first_or_none same) ∙ ap (λ (o : Option Table). (needed_trees (table_or o)).1) g
    by false f g rest = ap index_numbers (found false f) ∙ rest g

any_of_numbers : (index : ℕ) (xs : List StoredIndex) → list_any (is_index index) xs ≡ list_any (λ n. n == index) (index_numbers xs)
any_of_numbers index [] = refl
any_of_numbers index (x ∷ xs) = ap (λ b. (x.0 == index) || b) (any_of_numbers index xs)

any_of_rules : (index : ℕ) (rules : List IndexRule) → list_any (λ n. n == index) (map (λ rule. rule.id.0) rules) ≡ list_any (λ rule. rule.id.0 == index) rules
any_of_rules index [] = refl
any_of_rules index (rule ∷ rules) = ap (λ b. (rule.id.0 == index) || b) (any_of_rules index rules)

-- an index has a tree where it is one of those that need one
pub tree_of_index : (d : ℕ) (tables : List Table) (trees : List StoredTable) → map tree_numbers trees ≡ map needed_trees tables → (t : Table) → table_with_id tables d ≡ Some t → (index : ℕ)
    → has_index trees d index ≡ list_any (λ rule. rule.id.0 == index) (secondary_rules t)
tree_of_index d tables trees same t e index =
    any_of_numbers index (table_indexes trees d) ∙ ap (list_any (λ n. n == index)) (listed_at d tables trees same t e) ∙ any_of_rules index (secondary_rules t)

found_any : (p : IndexRule → Bool) (rules : List IndexRule) (rule : IndexRule) → find p rules ≡ Some rule → list_any p rules ≡ true
found_any p [] rule e = cc
found_any p (r ∷ rules) rule e = by (p r) e (found_any p rules rule)
  where
    by : (b : Bool) → cond b (Some r) (find p rules) ≡ Some rule → (find p rules ≡ Some rule → list_any p rules ≡ true) → (b || list_any p rules) ≡ true
    by true e rest = refl
    by false e rest = rest e

found_behind : (p : IndexRule → Bool) (xs ys : List IndexRule) (rule : IndexRule) → AllByRecursion (λ r. r.flags.primary ≡ true) xs → find p (xs ++ ys) ≡ Some rule → rule.flags.primary ≡ false → list_any p ys ≡ true
found_behind p [] ys rule all e plain = found_any p ys rule e
found_behind p (x ∷ xs) ys rule all e plain = by (p x) e (λ found. found_behind p xs ys rule all.1 found plain)
  where
    primary_or : Option IndexRule → Bool
    primary_or None = true
    primary_or (Some r) = r.flags.primary

    by : (b : Bool) → cond b (Some x) (find p (xs ++ ys)) ≡ Some rule → (find p (xs ++ ys) ≡ Some rule → list_any p ys ≡ true) → list_any p ys ≡ true
    by true e rest = impossible (sym plain ∙ sym (ap primary_or e) ∙ all.0)
    by false e rest = rest e

is_plain : (rule : IndexRule) (b : Bool) → is_some (cond b None (Some rule)) ≡ true → b ≡ false
is_plain rule true e = impossible e
is_plain rule false e = refl

-- the secondary index of a number is one of those that need a tree
pub needs_tree : (t : Table) (index : ℕ) → is_some (secondary_rule t index) ≡ true → list_any (λ rule. rule.id.0 == index) (secondary_rules t) ≡ true
needs_tree t index there = by (rule_with_id (schema_of t) index) refl there
  where
    by : (o : Option IndexRule) → rule_with_id (schema_of t) index ≡ o → is_some (only_secondary o) ≡ true → list_any (λ rule. rule.id.0 == index) (secondary_rules t) ≡ true
    by None e h = impossible h
    by (Some rule) e h =
        found_behind (λ r. r.id.0 == index) (filter (λ r. r.flags.primary) t.indexes) (secondary_rules t) rule
        (filtered (λ r. Unit {0}) (λ r. r.flags.primary ≡ true) (λ r. r.flags.primary) (λ r f u. f) t.indexes (all_each (λ r. Unit {0}) (λ r. tt) t.indexes)) e (is_plain rule rule.flags.primary h)

-- ---- an index goes

pub record OldIndexLaws : Type 0 where
  pub others : (tables : List StoredTable) (table index other : ℕ) → other ≢ index → index_entries (without_tree table index tables) table other ≡ index_entries tables table other
  pub nodes : (tables : List StoredTable) (table other : ℕ) (indexes : List StoredIndex) → table_nodes (with_indexes table indexes tables) other ≡ table_nodes tables other
  pub tables : (tables : List StoredTable) (table other : ℕ) (indexes : List StoredIndex) → other ≢ table → table_indexes (with_indexes table indexes tables) other ≡ table_indexes tables other

abbrev leaves : ℕ → IndexRule → Bool
leaves index r = not (r.id.0 == index)

index_gone : (longs : TableValues) → OldIndexLaws → (trees : List StoredTable) (index : ℕ) (t : Table) → is_some (secondary_rule t index) ≡ true → IsSettled longs trees t → IsSettled longs (without_tree t.id index trees) (without_index index t)
index_gone longs laws trees index t there k = subst (λ (n : List Node). IsKeptTable other (longs t.id) n [] (without_index index t)) (sym (laws.nodes trees t.id t.id (without_where (is_index index) (table_indexes trees t.id)))) (record {
  rules = filtered (IsStoredRule t) (IsStoredRule (without_index index t)) (leaves index) rule t.indexes k.rules;
  rows = λ bookmark. row bookmark (row_under (table_nodes trees t.id) bookmark) (k.rows bookmark);
  stands = k.stands;
  entries = λ i. each i (i == index) refl;
})
  where
    other : List StoredTable
    other = without_tree t.id index trees

    rest : List IndexRule
    rest = filter (leaves index) t.indexes

    stays : AllByRecursion (λ r. r.flags.primary ≡ true → leaves index r ≡ true) t.indexes
    stays = all_weaker (IsStoredRule t) (λ r. r.flags.primary ≡ true → leaves index r ≡ true) (λ r is primary. by r is primary (r.id.0 == index) refl) t.indexes k.rules
      where
        by : (r : IndexRule) → IsStoredRule t r → r.flags.primary ≡ true → (b : Bool) → (r.id.0 == index) ≡ b → not b ≡ true
        by r is primary false e = refl
        by r is primary true e =
            impossible (sym (is_plain r r.flags.primary (sym (ap (λ o. is_some (only_secondary o)) (ap (rule_with_id (schema_of t)) (sym (eqb-true r.id.0 index e)) ∙ is.found)) ∙ there)) ∙ primary)

    same_primary : primary_rule (schema_of (without_index index t)) ≡ primary_rule (schema_of t)
    same_primary = found_without (λ r. r.flags.primary) (leaves index) t.indexes stays

    found : (i : ℕ) → (i == index) ≡ false → rule_with_id (schema_of (without_index index t)) i ≡ rule_with_id (schema_of t) i
    found i e = found_without (λ r. r.id.0 == i) (leaves index) t.indexes (all_each (λ r. (r.id.0 == i) ≡ true → leaves index r ≡ true) (λ r f. ap (λ n. not (n == index)) (eqb-true r.id.0 i f) ∙ ap not e) t.indexes)

    rule : (r : IndexRule) → leaves index r ≡ true → IsStoredRule t r → IsStoredRule (without_index index t) r
    rule r left is = rule_as t rest r (found r.id.0 (not-true (r.id.0 == index) left) ∙ is.found) (λ primary. same_primary ∙ is.primary primary) is.legal is.columns is.short

    row : (bookmark : List ℕ) (o : Option (List ℕ)) → IfSome o (IsRowUnder (longs t.id) t bookmark) → IfSome o (IsRowUnder (longs t.id) (without_index index t) bookmark)
    row bookmark None is = tt
    row bookmark (Some bytes) is = row_as (longs t.id) t rest bookmark bytes same_primary (all_filter (Takes (schema_of t) (record_of (longs t.id) bytes)) (leaves index) t.indexes) is

    none : (i : ℕ) → (i == index) ≡ true → rule_with_id (schema_of (without_index index t)) i ≡ None
    none i e =
        find_none (λ r. r.id.0 == i) (primary_first rest)
        (all_primary_first (λ r. (r.id.0 == i) ≡ false) rest
        (filtered (λ r. Unit {0}) (λ r. (r.id.0 == i) ≡ false) (leaves index) (λ r left u. ap (λ n. r.id.0 == n) (eqb-true i index e) ∙ not-true (r.id.0 == index) left) t.indexes (all_each (λ r. Unit {0}) (λ r. tt) t.indexes)))

    held : (i : ℕ) → (i == index) ≡ false → (o : Option IndexRule) → IfSome (only_secondary o) (λ r. HoldsVariants (rows_of_nodes (longs t.id) (table_nodes trees t.id)) [] r (schema_of t) t.id (index_entries trees t.id i))
        → IfSome (only_secondary o) (λ r. HoldsVariants (rows_of_nodes (longs t.id) (table_nodes trees t.id)) [] r (schema_of (without_index index t)) t.id (index_entries other t.id i))
    held i e None h = tt
    held i e (Some r) h = by r.flags.primary h
      where
        by : (b : Bool) → IfSome (cond b None (Some r)) (λ r. HoldsVariants (rows_of_nodes (longs t.id) (table_nodes trees t.id)) [] r (schema_of t) t.id (index_entries trees t.id i))
            → IfSome (cond b None (Some r)) (λ r. HoldsVariants (rows_of_nodes (longs t.id) (table_nodes trees t.id)) [] r (schema_of (without_index index t)) t.id (index_entries other t.id i))
        by true h = tt
        by false h = λ key bookmark.
            ap (has_entry key bookmark) (laws.others trees t.id index i (apart_from i index e)) ∙ h key bookmark
            ∙ ap (λ b. b || false) (sym (yields_as t rest r key (row_at (rows_of_nodes (longs t.id) (table_nodes trees t.id)) bookmark)))

    each : (i : ℕ) (b : Bool) → (i == index) ≡ b → IfSome (secondary_rule (without_index index t) i) (λ r. HoldsVariants (rows_of_nodes (longs t.id) (table_nodes trees t.id)) [] r (schema_of (without_index index t)) t.id (index_entries other t.id i))
    each i true e =
        subst (λ (o : Option IndexRule). IfSome (only_secondary o) (λ r. HoldsVariants (rows_of_nodes (longs t.id) (table_nodes trees t.id)) [] r (schema_of (without_index index t)) t.id (index_entries other t.id i))) (sym (none i e)) tt
    each i false e =
        subst (λ (o : Option IndexRule). IfSome (only_secondary o) (λ r. HoldsVariants (rows_of_nodes (longs t.id) (table_nodes trees t.id)) [] r (schema_of (without_index index t)) t.id (index_entries other t.id i))) (sym (found i e))
        (held i e (rule_with_id (schema_of t) i) (k.entries i))

pub index_goes : (longs : TableValues) → OldIndexLaws → (id : TableId) (index : IndexId) (greatest : ℕ) (tables : List Table) (trees : List StoredTable) → ids_rise 0 greatest tables ≡ true
    → ((t : Table) → table_with_id tables id.0 ≡ Some t → is_some (secondary_rule t index.0) ≡ true) → AreKeptWith longs tables trees [] → StepsTo longs (step.DeleteIndex id index) tables trees (without_tree id.0 index.0 trees)
index_goes longs laws id index greatest tables trees rise there kept = record {
  kept = kept_of longs (with_table id.0 (without_index index.0) tables) other
      (plain_table id.0 (without_index index.0) (λ t. refl) tables kept.plain)
      (changed_numbers id.0 (filter stays) (without_index index.0) needs (without_where (is_index index.0)) (map_filter (λ x. x.0) stays) 0 greatest tables trees rise kept.numbers)
      (changed_at (IsSettled longs trees) (IsSettled longs other) id.0 (without_index index.0) (λ t. refl) tables
      (λ t found k. subst (λ (n : ℕ). IsSettled longs (without_tree n index.0 trees) (without_index index.0 t)) (found_number id.0 tables t found) (index_gone longs laws trees index.0 t (there t found) k))
      (λ t apart k. moved longs trees other t (laws.nodes trees id.0 t.id gone) (laws.tables trees id.0 t.id gone (apart_from t.id id.0 apart)) k)
      (settled_of longs tables trees kept));
  shown =
      map_table (with_newest_by longs other) id.0 (without_index index.0) (without_index index.0) (λ t. refl) (λ t e. refl) tables
      ∙ ap (with_table id.0 (without_index index.0)) (map_same (with_newest_by longs other) (with_newest_by longs trees) (λ t. newest_same longs trees other t (laws.nodes trees id.0 t.id gone)) tables);
}
  where
    gone : List StoredIndex
    gone = without_where (is_index index.0) (table_indexes trees id.0)

    other : List StoredTable
    other = without_tree id.0 index.0 trees

    stays : ℕ → Bool
    stays n = not (n == index.0)

    needs : (t : Table) → needed_trees (without_index index.0 t) ≡ (t.id, filter stays (needed_trees t).1)
    needs t = λ i. (t.id, (ap (map (λ rule. rule.id.0)) (filter_swap (λ rule. not rule.flags.primary) (leaves index.0) t.indexes) ∙ map_filter (λ (rule : IndexRule). rule.id.0) stays (secondary_rules t)) i)

-- in a catalog
pub index_deleted : OldIndexLaws → (made : SchemaStep) (id : TableId) (index : IndexId) → made ≡ step.DeleteIndex id index → (was : CatalogState) (trees : List StoredTable) → IsNumbered was
    → IsSomeAnd (table_with_id was.tables id.0) (λ t. is_some (secondary_rule t index.0) ≡ true) → AreKeptWith (table_long_values trees) was.tables trees [] → (is : CatalogState) → is ≡ catalog_after was made → (other : List StoredTable) → other ≡ without_tree id.0 index.0 trees
    → KeepsValues trees other → AreCounted other [] → IsMade made was trees is other
index_deleted laws made id index step_is was trees rise there kept is is_after other other_is keeps counts =
    made_with_values made was trees is other is_after
    (subst (λ (s : SchemaStep). StepsTo (table_long_values trees) s was.tables trees other) (sym step_is)
    (subst (λ (o : List StoredTable). StepsTo (table_long_values trees) (step.DeleteIndex id index) was.tables trees o) (sym other_is)
    (index_goes (table_long_values trees) laws id index was.greatest_table was.tables trees rise (λ t found. subst (λ (o : Option Table). IsSomeAnd o (λ t. is_some (secondary_rule t index.0) ≡ true)) found there) kept))) keeps counts

-- it has a tree
pub index_there : (longs : TableValues) (tables : List Table) (trees : List StoredTable) → AreKeptWith longs tables trees [] → (id index : ℕ) → IsSomeAnd (table_with_id tables id) (λ t. is_some (secondary_rule t index) ≡ true) → has_index trees id index ≡ true
index_there longs tables trees kept id index there = by (table_with_id tables id) refl there
  where
    by : (o : Option Table) → table_with_id tables id ≡ o → IsSomeAnd o (λ t. is_some (secondary_rule t index) ≡ true) → has_index trees id index ≡ true
    by None e h = absurd h
    by (Some t) e h = tree_of_index id tables trees kept.numbers t e index ∙ needs_tree t index h
