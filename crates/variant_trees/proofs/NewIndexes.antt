-- An index comes.
use Rattle.std.proofs.Common.{◌≡◌, ℕ, Bool, true, false, not, ◌||◌, cond, List, [], ◌∷◌, ◌++◌, Option, Some, None, map, option_map, refl, sym, ap, subst, ◌∙◌, arith}
use Rattle.std.specs.Prelude.{◌==◌, IfSome, IsSomeAnd}
use Rattle.std.specs.List.{AllByRecursion, list_any}
use Rattle.std.specs.Ordering.{eq_by_cmp, nat_cmp}
use Rattle.std.specs.Cmp.Lexicographic.{slice_cmp}
use Rattle.std.proofs.lemmas.Bool.Decides.{nat_tests}
use Rattle.std.proofs.lemmas.List.Elements.{filter-append}
use Rattle.std.proofs.lemmas.Bool.{eqb-true}
use Rattle.common_lemmas.proofs.Lists.{all_append}
use Rattle.common_lemmas.proofs.Numbers.{self_equal}
use Rattle.common_lemmas.proofs.Booleans.{impossible}
use Rattle.common_lemmas.proofs.Finding.{find_none}
use Rattle.column_set.specs.RecordValues.{RecordFields}
use Rattle.cursor_nav.specs.Places.{are_sorted}
use Rattle.database_state.specs.Conflicts.{yields_key}
use Rattle.database_state.specs.Puts.{is_cut_refusal, is_null_refusal}
use Rattle.database_state.specs.SchemaChanges.{with_index}
use Rattle.database_state.specs.Table.{Rows, Table, primary_first, row_at, schema_of, table_with_id, with_table}
use Rattle.index_derive.specs.Schemas.{primary_rule, rule_with_id}
use Rattle.laws_versions.specs.KeptEntries.{has_entry}
use Rattle.index_derive.specs.declared.rules.IndexRule.{IndexRule}
use Rattle.index_derive.specs.declared.schema_calls.SchemaStep.{SchemaStep}
use Rattle.index_derive.specs.declared.schema_calls.SchemaStep.TheVariants as step
use Rattle.index_derive.specs.Entries.{entries}
use Rattle.jet_base.specs.declared.ids.TableId.{TableId}
use Rattle.jet_catalog.specs.Catalog.{CatalogState, catalog_after}
use Rattle.page_image.specs.Page.{Node}
use Rattle.laws_versions.proofs.ChangeLemmas.Tests.{or_first, or_second}
use Rattle.table_trees.specs.StoredNodes.{bookmark_entries}
use Rattle.table_trees.specs.StoredTables.{table_long_values, StoredTable, index_entries, table_indexes, table_nodes}
use Rattle.laws_versions.proofs.KeyLemmas.IndexNumbers.{all_primary_first, found_alone, found_with, none_of}
use Rattle.laws_engine.specs.Variants.{HoldsVariants}
use Rattle.stored_variants.specs.RecordRows.{TableValues, record_of, row_under, rows_of_nodes}
use Rattle.stored_variants.specs.SchemaSteps.{IsIndexFor, IsMade}
use Rattle.stored_variants.specs.VersionsKept.{AreKeptWith, IsKeptTable, IsRowUnder, IsStoredRule, needed_trees, only_secondary, secondary_rule, secondary_rules, tree_numbers}
use Rattle.stored_variants.specs.VersionsView.{with_newest_by}
use Rattle.variant_trees.proofs.MadeColumns.{no_rows_left}
use Rattle.stored_variants.proofs.NodeRecords.{record_at}
use Rattle.variant_trees.proofs.OtherRules.{Takes, row_as, rule_as, yields_as}
use Rattle.variant_trees.proofs.Stepping.{IsSettled, StepsTo, changed_at, made_with_values, kept_of, map_same, map_table, moved, newest_same, plain_table, settled_of}
use Rattle.stored_variants.proofs.Tables.{found_number, table_at}
use Rattle.stored_variants.specs.CountedValues.{AreCounted}
use Rattle.variant_trees.specs.GoneKeys.{KeepsValues}

-- what no record of some has is not that of the one under a bookmark
none_at : (q : RecordFields → Bool) (rows : Rows) (bookmark : List ℕ) (values : RecordFields) → list_any (λ row. q row.1) rows ≡ false → row_at rows bookmark ≡ Some values → q values ≡ false
none_at q [] bookmark values none e = cc
none_at q (row ∷ rows) bookmark values none e = by (eq_by_cmp (slice_cmp nat_cmp) bookmark row.0) e (none_at q rows bookmark values (or_second (q row.1) _ none))
  where
    values_or : Option RecordFields → RecordFields
    values_or None = values
    values_or (Some v) = v

    by : (b : Bool) → cond b (Some row.1) (row_at rows bookmark) ≡ Some values → (row_at rows bookmark ≡ Some values → q values ≡ false) → q values ≡ false
    by true e rest = ap q (sym (ap values_or e)) ∙ or_first (q row.1) _ none
    by false e rest = rest e

-- the index takes each row that stands
pub row_taken : (longs : TableValues) (trees : List StoredTable) (t : Table) (rule : IndexRule) → are_sorted (bookmark_entries (table_nodes trees t.id)) ≡ true → IsIndexFor rule (with_newest_by longs trees t) → (bookmark bytes : List ℕ) → row_under (table_nodes trees t.id) bookmark ≡ Some bytes
    → Takes (schema_of t) (record_of (longs t.id) bytes) rule
row_taken longs trees t rule sorted fit bookmark bytes e =
    let nodes : List Node = table_nodes trees t.id in
    let at : row_at (rows_of_nodes (longs t.id) nodes) bookmark ≡ Some (record_of (longs t.id) bytes) = record_at (longs t.id) nodes sorted bookmark ∙ ap (option_map (record_of (longs t.id))) e in (
      none_at (λ values. is_null_refusal (entries rule (schema_of t) values)) (rows_of_nodes (longs t.id) nodes) bookmark (record_of (longs t.id) bytes) fit.not_null at,
      none_at (λ values. is_cut_refusal (entries rule (schema_of t) values)) (rows_of_nodes (longs t.id) nodes) bookmark (record_of (longs t.id) bytes) fit.not_cut at,
    )

-- the trees beside those before: the same nodes and indexes, and the entries of the new index
pub record HasNewIndex (longs : TableValues) (trees other : List StoredTable) (t : Table) (rule : IndexRule) : Type 0 where
  pub nodes : table_nodes other t.id ≡ table_nodes trees t.id
  pub others : (index : ℕ) → (index == rule.id.0) ≡ false → index_entries other t.id index ≡ index_entries trees t.id index
  pub own : rule.flags.primary ≡ false → (key bookmark : List ℕ) → has_entry key bookmark (index_entries other t.id rule.id.0) ≡ yields_key rule (schema_of t) key (row_at (rows_of_nodes (longs t.id) (table_nodes trees t.id)) bookmark)

pub index_made : (longs : TableValues) (trees other : List StoredTable) (t : Table) (rule : IndexRule) → are_sorted (bookmark_entries (table_nodes trees t.id)) ≡ true → IsIndexFor rule (with_newest_by longs trees t) → HasNewIndex longs trees other t rule → IsSettled longs trees t → IsSettled longs other (with_index rule t)
index_made longs trees other t rule sorted fit has k = subst (λ (n : List Node). IsKeptTable other (longs t.id) n [] (with_index rule t)) (sym has.nodes) (record {
  rules = all_append (IsStoredRule (with_index rule t)) t.indexes (rule ∷ []) (olds t.indexes k.rules new_number) (own_rule, tt);
  rows = λ bookmark. row bookmark (row_under nodes bookmark) refl (k.rows bookmark);
  stands = k.stands;
  entries = λ i. each i (i == rule.id.0) refl;
})
  where
    nodes : List Node
    nodes = table_nodes trees t.id

    rules : List IndexRule
    rules = t.indexes ++ rule ∷ []

    new_number : AllByRecursion (λ r. (r.id.0 == rule.id.0) ≡ false) t.indexes
    new_number = none_of (λ r. r.id.0 == rule.id.0) t.indexes fit.number

    turned : (a b : ℕ) → (a == b) ≡ false → (b == a) ≡ false
    turned a b e = grind (arith, nat_tests)

    found_other : (i : ℕ) → (i == rule.id.0) ≡ false → rule_with_id (schema_of (with_index rule t)) i ≡ rule_with_id (schema_of t) i
    found_other i e = found_with (λ r. r.id.0 == i) t.indexes rule (turned i rule.id.0 e)

    same_primary : rule.flags.primary ≡ false → primary_rule (schema_of (with_index rule t)) ≡ primary_rule (schema_of t)
    same_primary plain = found_with (λ r. r.flags.primary) t.indexes rule plain

    primary_stays : (r : IndexRule) → IsStoredRule t r → r.flags.primary ≡ true → (b : Bool) → rule.flags.primary ≡ b → primary_rule (schema_of (with_index rule t)) ≡ Some r
    primary_stays r is primary false e = same_primary e ∙ is.primary primary
    primary_stays r is primary true e = no (sym (is.primary primary) ∙ none)
      where
        none : primary_rule (schema_of t) ≡ None
        none = find_none (λ r. r.flags.primary) (primary_first t.indexes) (all_primary_first (λ r. r.flags.primary ≡ false) t.indexes (none_of (λ r. r.flags.primary) t.indexes (fit.primary e).first))

        no : {A : Type 0} → Some r ≡ None → A
        no f = cc

    old : (r : IndexRule) → IsStoredRule t r → (r.id.0 == rule.id.0) ≡ false → IsStoredRule (with_index rule t) r
    old r is apart = rule_as t rules r (found_other r.id.0 apart ∙ is.found) (λ primary. primary_stays r is primary rule.flags.primary refl) is.legal is.columns is.short

    olds : (rs : List IndexRule) → AllByRecursion (IsStoredRule t) rs → AllByRecursion (λ r. (r.id.0 == rule.id.0) ≡ false) rs → AllByRecursion (IsStoredRule (with_index rule t)) rs
    olds [] h g = tt
    olds (r ∷ rs) h g = (old r h.0 g.0, olds rs h.1 g.1)

    own_rule : IsStoredRule (with_index rule t) rule
    own_rule = rule_as t rules rule (found_alone (λ r. r.id.0 == rule.id.0) t.indexes rule new_number (self_equal rule.id.0))
        (λ primary. found_alone (λ r. r.flags.primary) t.indexes rule (none_of (λ r. r.flags.primary) t.indexes (fit.primary primary).first) primary) fit.legal fit.columns fit.short

    takes : (bookmark bytes : List ℕ) → row_under nodes bookmark ≡ Some bytes → Takes (schema_of t) (record_of (longs t.id) bytes) rule
    takes bookmark bytes e = row_taken longs trees t rule sorted fit bookmark bytes e

    row : (bookmark : List ℕ) (o : Option (List ℕ)) → row_under nodes bookmark ≡ o → IfSome o (IsRowUnder (longs t.id) t bookmark) → IfSome o (IsRowUnder (longs t.id) (with_index rule t) bookmark)
    row bookmark None e is = tt
    row bookmark (Some bytes) e is = by rule.flags.primary refl
      where
        no : {A : Type 0} → Some bytes ≡ None → A
        no f = cc

        by : (b : Bool) → rule.flags.primary ≡ b → IsRowUnder (longs t.id) (with_index rule t) bookmark bytes
        by true primary = no (sym e ∙ no_rows_left (longs t.id) nodes sorted (fit.primary primary).empty bookmark)
        by false plain =
            row_as (longs t.id) t rules bookmark bytes (same_primary plain)
            (λ all. all_append (Takes (schema_of t) (record_of (longs t.id) bytes)) t.indexes (rule ∷ []) all (takes bookmark bytes e, tt)) is

    held : (i : ℕ) → (i == rule.id.0) ≡ false → (o : Option IndexRule) → IfSome (only_secondary o) (λ r. HoldsVariants (rows_of_nodes (longs t.id) nodes) [] r (schema_of t) t.id (index_entries trees t.id i))
        → IfSome (only_secondary o) (λ r. HoldsVariants (rows_of_nodes (longs t.id) nodes) [] r (schema_of (with_index rule t)) t.id (index_entries other t.id i))
    held i e None h = tt
    held i e (Some r) h = by r.flags.primary h
      where
        by : (b : Bool) → IfSome (cond b None (Some r)) (λ r. HoldsVariants (rows_of_nodes (longs t.id) nodes) [] r (schema_of t) t.id (index_entries trees t.id i))
            → IfSome (cond b None (Some r)) (λ r. HoldsVariants (rows_of_nodes (longs t.id) nodes) [] r (schema_of (with_index rule t)) t.id (index_entries other t.id i))
        by true h = tt
        by false h = λ key bookmark.
            ap (has_entry key bookmark) (has.others i e) ∙ h key bookmark ∙ ap (λ b. b || false) (sym (yields_as t rules r key (row_at (rows_of_nodes (longs t.id) nodes) bookmark)))

    own_held : (b : Bool) → rule.flags.primary ≡ b → IfSome (cond b None (Some rule)) (λ r. HoldsVariants (rows_of_nodes (longs t.id) nodes) [] r (schema_of (with_index rule t)) t.id (index_entries other t.id rule.id.0))
    own_held true e = tt
    own_held false e = λ key bookmark.
        has.own e key bookmark ∙ sym (yields_as t rules rule key (row_at (rows_of_nodes (longs t.id) nodes) bookmark)) ∙ sym (or_false (yields_key rule (schema_of (with_index rule t)) key (row_at (rows_of_nodes (longs t.id) nodes) bookmark)))
      where
        or_false : (b : Bool) → (b || false) ≡ b
        or_false true = refl
        or_false false = refl

    each : (i : ℕ) (b : Bool) → (i == rule.id.0) ≡ b → IfSome (secondary_rule (with_index rule t) i) (λ r. HoldsVariants (rows_of_nodes (longs t.id) nodes) [] r (schema_of (with_index rule t)) t.id (index_entries other t.id i))
    each i true e =
        subst (λ (n : ℕ). IfSome (secondary_rule (with_index rule t) n) (λ r. HoldsVariants (rows_of_nodes (longs t.id) nodes) [] r (schema_of (with_index rule t)) t.id (index_entries other t.id n))) (sym (eqb-true i rule.id.0 e))
        (subst (λ (o : Option IndexRule). IfSome (only_secondary o) (λ r. HoldsVariants (rows_of_nodes (longs t.id) nodes) [] r (schema_of (with_index rule t)) t.id (index_entries other t.id rule.id.0))) (sym own_rule.found) (own_held rule.flags.primary refl))
    each i false e =
        subst (λ (o : Option IndexRule). IfSome (only_secondary o) (λ r. HoldsVariants (rows_of_nodes (longs t.id) nodes) [] r (schema_of (with_index rule t)) t.id (index_entries other t.id i))) (sym (found_other i e))
        (held i e (rule_with_id (schema_of t) i) (k.entries i))

-- ---- in a catalog

-- the trees with an index more, and its entries
pub record AreWithIndex (longs : TableValues) (id : ℕ) (rule : IndexRule) (tables : List Table) (trees other : List StoredTable) : Type 0 where
  pub nodes : (table : ℕ) → table_nodes other table ≡ table_nodes trees table
  pub tables_stay : (table : ℕ) → (table == id) ≡ false → table_indexes other table ≡ table_indexes trees table
  pub others : (index : ℕ) → (index == rule.id.0) ≡ false → index_entries other id index ≡ index_entries trees id index
  pub own : (t : Table) → table_with_id tables id ≡ Some t → rule.flags.primary ≡ false → (key bookmark : List ℕ)
      → has_entry key bookmark (index_entries other id rule.id.0) ≡ yields_key rule (schema_of t) key (row_at (rows_of_nodes (longs id) (table_nodes trees id)) bookmark)
  pub numbers : map tree_numbers other ≡ map needed_trees (with_table id (with_index rule) tables)

has_new : (longs : TableValues) (id : ℕ) (rule : IndexRule) (tables : List Table) (trees other : List StoredTable) → AreWithIndex longs id rule tables trees other → (t : Table) → table_with_id tables id ≡ Some t → HasNewIndex longs trees other t rule
has_new longs id rule tables trees other has t found =
    let same : t.id ≡ id = found_number id tables t found in
    record {
      nodes = has.nodes t.id;
      others = λ index e. subst (λ (n : ℕ). index_entries other n index ≡ index_entries trees n index) (sym same) (has.others index e);
      own = λ plain key bookmark.
          subst (λ (n : ℕ). has_entry key bookmark (index_entries other n rule.id.0) ≡ yields_key rule (schema_of t) key (row_at (rows_of_nodes (longs n) (table_nodes trees n)) bookmark)) (sym same)
          (has.own t found plain key bookmark);
    }

pub index_comes : (longs : TableValues) (id : TableId) (rule : IndexRule) (tables : List Table) (trees other : List StoredTable) → ((table : ℕ) → are_sorted (bookmark_entries (table_nodes trees table)) ≡ true)
    → ((t : Table) → table_with_id tables id.0 ≡ Some t → IsIndexFor rule (with_newest_by longs trees t)) → AreWithIndex longs id.0 rule tables trees other → AreKeptWith longs tables trees [] → StepsTo longs (step.CreateIndex id rule) tables trees other
index_comes longs id rule tables trees other sorted fit has kept = record {
  kept = kept_of longs (with_table id.0 (with_index rule) tables) other
      (plain_table id.0 (with_index rule) (λ t. refl) tables kept.plain) has.numbers
      (changed_at (IsSettled longs trees) (IsSettled longs other) id.0 (with_index rule) (λ t. refl) tables
      (λ t found k. index_made longs trees other t rule (sorted t.id) (fit t found) (has_new longs id.0 rule tables trees other has t found) k)
      (λ t apart k. moved longs trees other t (has.nodes t.id) (has.tables_stay t.id apart) k) (settled_of longs tables trees kept));
  shown =
      map_table (with_newest_by longs other) id.0 (with_index rule) (with_index rule) (λ t. refl) (λ t e. refl) tables
      ∙ ap (with_table id.0 (with_index rule)) (map_same (with_newest_by longs other) (with_newest_by longs trees) (λ t. newest_same longs trees other t (has.nodes t.id)) tables);
}

for_found : (longs : TableValues) (rule : IndexRule) (id : ℕ) (tables : List Table) (trees : List StoredTable) → IsSomeAnd (table_with_id (map (with_newest_by longs trees) tables) id) (IsIndexFor rule) → (t : Table) → table_with_id tables id ≡ Some t → IsIndexFor rule (with_newest_by longs trees t)
for_found longs rule id tables trees is t found = subst (λ (o : Option Table). IsSomeAnd o (IsIndexFor rule)) (table_at longs trees tables id ∙ ap (option_map (with_newest_by longs trees)) found) is

pub index_created : (made : SchemaStep) (id : TableId) (rule : IndexRule) → made ≡ step.CreateIndex id rule → (was : CatalogState) (trees : List StoredTable) → ((table : ℕ) → are_sorted (bookmark_entries (table_nodes trees table)) ≡ true)
    → IsSomeAnd (table_with_id (map (with_newest_by (table_long_values trees) trees) was.tables) id.0) (IsIndexFor rule) → AreKeptWith (table_long_values trees) was.tables trees [] → (is : CatalogState) → is ≡ catalog_after was made → (other : List StoredTable) → AreWithIndex (table_long_values trees) id.0 rule was.tables trees other
    → KeepsValues trees other → AreCounted other [] → IsMade made was trees is other
index_created made id rule step_is was trees sorted fit kept is is_after other has keeps counts =
    made_with_values made was trees is other is_after
    (subst (λ (s : SchemaStep). StepsTo (table_long_values trees) s was.tables trees other) (sym step_is)
    (index_comes (table_long_values trees) id rule was.tables trees other sorted (for_found (table_long_values trees) rule id.0 was.tables trees fit) has kept)) keeps counts

-- a primary index needs no tree
pub no_tree_more : (longs : TableValues) (id : ℕ) (rule : IndexRule) (tables : List Table) (trees : List StoredTable) → rule.flags.primary ≡ true → map tree_numbers trees ≡ map needed_trees tables → AreWithIndex longs id rule tables trees trees
no_tree_more longs id rule tables trees primary numbers = record {
  nodes = λ table. refl;
  tables_stay = λ table e. refl;
  others = λ index e. refl;
  own = λ t found plain key bookmark. impossible (sym plain ∙ primary);
  numbers = numbers ∙ sym (same tables);
}
  where
    needs : (t : Table) → needed_trees (with_index rule t) ≡ needed_trees t
    needs t = λ i. (t.id, map (λ (r : IndexRule). r.id.0) ((filter-append (λ r. not r.flags.primary) t.indexes (rule ∷ []) ∙ ap (λ b. secondary_rules t ++ cond (not b) (rule ∷ []) []) primary ∙ last (secondary_rules t)) i))
      where
        last : (xs : List IndexRule) → xs ++ [] ≡ xs
        last [] = refl
        last (x ∷ xs) = ap (λ ys. x ∷ ys) (last xs)

    same : (ts : List Table) → map needed_trees (with_table id (with_index rule) ts) ≡ map needed_trees ts
    same [] = refl
    same (t ∷ ts) = λ i. by (t.id == id) i ∷ same ts i
      where
        by : (b : Bool) → needed_trees (cond b (with_index rule t) t) ≡ needed_trees t
        by true = needs t
        by false = refl
