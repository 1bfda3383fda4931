-- A table comes or goes.
use Rattle.std.proofs.Common.{◌≡◌, ◌≢◌, ◌<◌, ℕ, Bool, true, false, not, ◌||◌, cond, List, [], ◌∷◌, ◌++◌, Option, Some, None, filter, map, refl, sym, ap, subst, ◌∙◌, arith}
use Rattle.std.specs.Prelude.{◌==◌, IfSome, is_some, nat_le, nat_lt}
use Rattle.std.proofs.lemmas.Bool.Decides.{nat_tests}
use Rattle.std.proofs.lemmas.Bool.{eqb-true}
use Rattle.common_lemmas.proofs.Booleans.{and_left, and_right}
use Rattle.common_lemmas.proofs.Numbers.{self_equal}
use Rattle.common_lemmas.proofs.Lists.{all_each}
use Rattle.database_state.specs.SchemaChanges.{new_table}
use Rattle.database_state.specs.Table.{Table, table_with_id}
use Rattle.index_derive.specs.declared.schema_calls.SchemaStep.{SchemaStep}
use Rattle.index_derive.specs.declared.schema_calls.SchemaStep.TheVariants as step
use Rattle.jet_base.specs.declared.ids.TableId.{TableId}
use Rattle.jet_catalog.specs.Catalog.{CatalogState, IsNumbered, catalog_after, ids_rise, without_rows}
use Rattle.page_image.specs.Page.{Node}
use Rattle.laws_versions.proofs.ChangeLemmas.Tests.{or_first, or_second}
use Rattle.table_trees.specs.StoredTables.{table_long_values, StoredTable, has_table, is_table, new_table as new_tree, table_indexes, table_nodes, without_table}
use Rattle.laws_versions.proofs.KeyLemmas.IndexNumbers.{found_in_filter}
use Rattle.laws_versions.proofs.KeyLemmas.SchemaKeys.{with_last}
use Rattle.stored_variants.specs.RecordRows.{TableValues, rows_of_nodes}
use Rattle.stored_variants.specs.SchemaSteps.{IsMade}
use Rattle.stored_variants.specs.VersionsKept.{AreKeptWith, IsKeptTable, needed_trees, tree_numbers}
use Rattle.stored_variants.specs.VersionsView.{with_newest_by}
use Rattle.stored_variants.proofs.Dropped.{has_trees}
use Rattle.variant_trees.proofs.Stepping.{IsSettled, StepsTo, if_some, is_made, made_with_values, kept_of, map_filter, map_last, map_same, moved, newest_same, settled_of, apart_from}
use Rattle.stored_variants.proofs.Tables.{found_number, no_nodes}
use Rattle.stored_variants.specs.CountedValues.{BringsNoValue, newest_rows, AreCounted}
use Rattle.variant_trees.specs.GoneKeys.{KeepsValues}
use Rattle.long_rows.specs.ReferenceCounts.{HasCounts}
use Rattle.long_value.specs.Values.{value_of, Values}

-- ---- numbers of tables

none_above : (low high : ℕ) (tables : List Table) → ids_rise low high tables ≡ true → (id : ℕ) → high < id → table_with_id tables id ≡ None
none_above low high [] rise id lt = refl
none_above low high (t ∷ tables) rise id lt =
    ap (λ b. cond b (Some t) (table_with_id tables id)) (apart t.id high id (within t.id high tables (and_right (nat_lt low t.id) _ rise)) lt)
    ∙ none_above t.id high tables (and_right (nat_lt low t.id) _ rise) id lt
  where
    apart : (n high id : ℕ) → nat_le n high ≡ true → high < id → (n == id) ≡ false
    apart n high id le lt = grind (arith, nat_tests)

    lower : (low n high : ℕ) → nat_lt low n ≡ true → nat_le n high ≡ true → nat_le low high ≡ true
    lower low n high lt le = grind (arith, nat_tests)

    within : (low high : ℕ) (tables : List Table) → ids_rise low high tables ≡ true → nat_le low high ≡ true
    within low high [] h = h
    within low high (t ∷ tables) h = lower low t.id high (and_left (nat_lt low t.id) _ h) (within t.id high tables (and_right (nat_lt low t.id) _ h))

-- a number above all that were given is that of no table
pub none_new : (greatest : ℕ) (tables : List Table) → ids_rise 0 greatest tables ≡ true → (id : ℕ) → greatest < id → table_with_id tables id ≡ None
none_new greatest tables rise id lt = none_above 0 greatest tables rise id lt

pub no_tree : (longs : TableValues) (tables : List Table) (trees : List StoredTable) → AreKeptWith longs tables trees [] → (id : ℕ) → table_with_id tables id ≡ None → has_table trees id ≡ false
no_tree longs tables trees kept id none = has_trees trees tables id kept.numbers ∙ ap is_some none

pub a_tree : (longs : TableValues) (tables : List Table) (trees : List StoredTable) → AreKeptWith longs tables trees [] → (id : ℕ) → is_some (table_with_id tables id) ≡ true → has_table trees id ≡ true
a_tree longs tables trees kept id there = has_trees trees tables id kept.numbers ∙ there

-- ---- a table comes

pub record NewTableLaws : Type 0 where
  pub nodes : (tables : List StoredTable) (table other : ℕ) → table_nodes (tables ++ new_tree table ∷ []) other ≡ table_nodes tables other
  pub indexes : (tables : List StoredTable) (table other : ℕ) → table_indexes (tables ++ new_tree table ∷ []) other ≡ table_indexes tables other

new_is_settled : (longs : TableValues) (other : List StoredTable) (id : ℕ) (name : List ℕ) → table_nodes other id ≡ [] → IsSettled longs other (new_table id name)
new_is_settled longs other id name nodes = subst (λ (n : List Node). IsKeptTable other (longs id) n [] (new_table id name)) (sym nodes) (record {
  rules = tt;
  rows = λ bookmark. tt;
  stands = λ bookmark. refl;
  entries = λ index. tt;
})

pub table_comes : (longs : TableValues) → NewTableLaws → (id : TableId) (name : List ℕ) (tables : List Table) (trees : List StoredTable) → AreKeptWith longs tables trees [] → table_with_id tables id.0 ≡ None → StepsTo longs (step.CreateTable id name) tables trees (trees ++ new_tree id.0 ∷ [])
table_comes longs laws id name tables trees kept none = record {
  kept = kept_of longs (tables ++ new_table id.0 name ∷ []) other
      (map_last without_rows tables (new_table id.0 name) ∙ ap (λ (ts : List Table). ts ++ new_table id.0 name ∷ []) kept.plain)
      (map_last tree_numbers trees (new_tree id.0) ∙ ap (λ (ns : List (ℕ × List ℕ)). ns ++ (id.0, []) ∷ []) kept.numbers ∙ sym (map_last needed_trees tables (new_table id.0 name)))
      (λ n. with_last (IsSettled longs other) (new_table id.0 name) (new_is_settled longs other id.0 name empty) tables n
      (if_some (IsSettled longs trees) (IsSettled longs other) (λ t k. moved longs trees other t (laws.nodes trees id.0 t.id) (laws.indexes trees id.0 t.id) k) (table_with_id tables n) (settled_of longs tables trees kept n)));
  shown =
      map_last (with_newest_by longs other) tables (new_table id.0 name)
      ∙ (λ i. map_same (with_newest_by longs other) (with_newest_by longs trees) (λ t. newest_same longs trees other t (laws.nodes trees id.0 t.id)) tables i ++ record (new_table id.0 name) { rows = rows_of_nodes (longs id.0) (empty i) } ∷ []);
}
  where
    other : List StoredTable
    other = trees ++ new_tree id.0 ∷ []

    empty : table_nodes other id.0 ≡ []
    empty = laws.nodes trees id.0 id.0 ∙ no_nodes trees tables id.0 kept.numbers none

pub new_there : (trees : List StoredTable) (id : ℕ) → has_table (trees ++ new_tree id ∷ []) id ≡ true
new_there [] id = ap (λ b. b || false) (self_equal id)
new_there (x ∷ trees) id = ap (λ b. is_table id x || b) (new_there trees id) ∙ or_true (is_table id x)
  where
    or_true : (b : Bool) → (b || true) ≡ true
    or_true true = refl
    or_true false = refl

-- and goes again where it may not stay
pub given_back : (trees : List StoredTable) (id : ℕ) → has_table trees id ≡ false → without_table id (trees ++ new_tree id ∷ []) ≡ trees
given_back [] id h = ap (λ b. cond (not b) (new_tree id ∷ []) []) (self_equal id)
given_back (x ∷ trees) id h =
    ap (λ b. cond (not b) (x ∷ without_table id (trees ++ new_tree id ∷ [])) (without_table id (trees ++ new_tree id ∷ []))) (or_first (is_table id x) _ h)
    ∙ ap (λ rest. x ∷ rest) (given_back trees id (or_second (is_table id x) _ h))

-- ---- a table goes

pub record OldTableLaws : Type 0 where
  pub nodes : (tables : List StoredTable) (table other : ℕ) → other ≢ table → table_nodes (without_table table tables) other ≡ table_nodes tables other
  pub indexes : (tables : List StoredTable) (table other : ℕ) → other ≢ table → table_indexes (without_table table tables) other ≡ table_indexes tables other

abbrev stays : ℕ → Table → Bool
stays id t = not (t.id == id)

pub gone : (id : ℕ) (tables : List Table) → table_with_id (filter (stays id) tables) id ≡ None
gone id [] = refl
gone id (t ∷ tables) = by (t.id == id) refl (gone id tables)
  where
    by : (b : Bool) → (t.id == id) ≡ b → table_with_id (filter (stays id) tables) id ≡ None → table_with_id (cond (not b) (t ∷ filter (stays id) tables) (filter (stays id) tables)) id ≡ None
    by true e rest = rest
    by false e rest = ap (λ b. cond b (Some t) (table_with_id (filter (stays id) tables) id)) e ∙ rest

left_at : (P R : Table → Type 0) (d : ℕ) (tables : List Table) → ((t : Table) → (t.id == d) ≡ false → P t → R t) → ((id : ℕ) → IfSome (table_with_id tables id) P) → (id : ℕ) → IfSome (table_with_id (filter (stays d) tables) id) R
left_at P R d tables g h id = cases (id == d) refl
  where
    other : (o : Option Table) → table_with_id tables id ≡ o → (id == d) ≡ false → IfSome o P → IfSome o R
    other None e apart p = tt
    other (Some t) e apart p = g t (ap (λ n. n == d) (found_number id tables t e) ∙ apart) p

    cases : (b : Bool) → (id == d) ≡ b → IfSome (table_with_id (filter (stays d) tables) id) R
    cases true e =
        subst (λ (n : ℕ). IfSome (table_with_id (filter (stays d) tables) n) R) (sym (eqb-true id d e))
        (subst (λ (o : Option Table). IfSome o R) (sym (gone d tables)) tt)
    cases false e =
        subst (λ (o : Option Table). IfSome o R)
        (sym (found_in_filter (λ t. t.id == id) (stays d) tables (all_each (λ t. (t.id == id) ≡ true → stays d t ≡ true) (λ t f. ap (λ n. not (n == d)) (eqb-true t.id id f) ∙ ap not e) tables)))
        (other (table_with_id tables id) refl e (h id))

left_shown : (longs : TableValues) → OldTableLaws → (trees : List StoredTable) (id : ℕ) (tables : List Table) → map (with_newest_by longs (without_table id trees)) (filter (stays id) tables) ≡ filter (stays id) (map (with_newest_by longs trees) tables)
left_shown longs laws trees id [] = refl
left_shown longs laws trees id (t ∷ tables) = by (t.id == id) refl (left_shown longs laws trees id tables)
  where
    by : (b : Bool) → (t.id == id) ≡ b → map (with_newest_by longs (without_table id trees)) (filter (stays id) tables) ≡ filter (stays id) (map (with_newest_by longs trees) tables)
        → map (with_newest_by longs (without_table id trees)) (cond (not b) (t ∷ filter (stays id) tables) (filter (stays id) tables)) ≡ cond (not b) (with_newest_by longs trees t ∷ filter (stays id) (map (with_newest_by longs trees) tables)) (filter (stays id) (map (with_newest_by longs trees) tables))
    by true e rest = rest
    by false e rest = λ i. newest_same longs trees (without_table id trees) t (laws.nodes trees id t.id (apart_from t.id id e)) i ∷ rest i

pub table_goes : (longs : TableValues) → OldTableLaws → (id : TableId) (tables : List Table) (trees : List StoredTable) → AreKeptWith longs tables trees [] → StepsTo longs (step.DeleteTable id) tables trees (without_table id.0 trees)
table_goes longs laws id tables trees kept = record {
  kept = kept_of longs (filter (stays id.0) tables) (without_table id.0 trees)
      (map_filter without_rows (stays id.0) tables ∙ ap (filter (stays id.0)) kept.plain)
      (map_filter tree_numbers (λ p. not (p.0 == id.0)) trees ∙ ap (filter (λ p. not (p.0 == id.0))) kept.numbers ∙ sym (map_filter needed_trees (λ p. not (p.0 == id.0)) tables))
      (left_at (IsSettled longs trees) (IsSettled longs (without_table id.0 trees)) id.0 tables
      (λ t apart k. moved longs trees (without_table id.0 trees) t (laws.nodes trees id.0 t.id (apart_from t.id id.0 apart)) (laws.indexes trees id.0 t.id (apart_from t.id id.0 apart)) k)
      (settled_of longs tables trees kept));
  shown = left_shown longs laws trees id.0 tables;
}

-- ---- in a catalog

pub lower : (a b : ℕ) → a < b → nat_lt a b ≡ true
lower a b lt = grind (arith, nat_tests)

pub create_made : NewTableLaws → (made : SchemaStep) (id : TableId) (name : List ℕ) → made ≡ step.CreateTable id name → (was : CatalogState) (trees : List StoredTable) → AreKeptWith (table_long_values trees) was.tables trees [] → IsNumbered was → was.greatest_table < id.0
    → (is : CatalogState) → is ≡ catalog_after was made → (other : List StoredTable) → other ≡ trees ++ new_tree id.0 ∷ [] → KeepsValues trees other → AreCounted other [] → IsMade made was trees is other
create_made laws made id name step_is was trees kept rise lt is is_after other other_is keeps counts =
    made_with_values made was trees is other is_after
    (subst (λ (s : SchemaStep). StepsTo (table_long_values trees) s was.tables trees other) (sym step_is)
    (subst (λ (o : List StoredTable). StepsTo (table_long_values trees) (step.CreateTable id name) was.tables trees o) (sym other_is)
    (table_comes (table_long_values trees) laws id name was.tables trees kept (none_new was.greatest_table was.tables rise id.0 lt)))) keeps counts

-- the tables that are left read the same long values
left_kept : (longs other_longs : TableValues) (id : ℕ) (other : List StoredTable) → ((table : ℕ) → table ≢ id → other_longs table ≡ longs table) → (tables : List Table) → table_with_id tables id ≡ None → AreKeptWith longs tables other [] → AreKeptWith other_longs tables other []
left_kept longs other_longs id other same tables none kept = record {
  plain = kept.plain;
  numbers = kept.numbers;
  each = λ table. by table (id == table) refl;
  changes = tt;
}
  where
    by : (table : ℕ) (b : Bool) → (id == table) ≡ b → IfSome (table_with_id tables table) (IsKeptTable other (other_longs table) (table_nodes other table) [])
    by table true e = subst (λ (o : Option Table). IfSome o (IsKeptTable other (other_longs table) (table_nodes other table) [])) (sym (ap (table_with_id tables) (sym (eqb-true id table e)) ∙ none)) tt
    by table false e = subst (λ (v : Values). IfSome (table_with_id tables table) (IsKeptTable other v (table_nodes other table) [])) (sym (same table (λ is. apart_from id table e (sym is)))) (kept.each table)

left_read : (longs other_longs : TableValues) (id : ℕ) (other : List StoredTable) → ((table : ℕ) → table ≢ id → other_longs table ≡ longs table) → (tables : List Table) → map (with_newest_by other_longs other) (filter (stays id) tables) ≡ map (with_newest_by longs other) (filter (stays id) tables)
left_read longs other_longs id other same [] = refl
left_read longs other_longs id other same (t ∷ tables) = by (t.id == id) refl (left_read longs other_longs id other same tables)
  where
    by : (b : Bool) → (t.id == id) ≡ b → map (with_newest_by other_longs other) (filter (stays id) tables) ≡ map (with_newest_by longs other) (filter (stays id) tables)
        → map (with_newest_by other_longs other) (cond (not b) (t ∷ filter (stays id) tables) (filter (stays id) tables)) ≡ map (with_newest_by longs other) (cond (not b) (t ∷ filter (stays id) tables) (filter (stays id) tables))
    by true e rest = rest
    by false e rest = λ i. record t { rows = rows_of_nodes (same t.id (apart_from t.id id e) i) (table_nodes other t.id) } ∷ rest i

-- what becomes of the long values
pub record OldValues (id : ℕ) (trees other : List StoredTable) : Type 0 where
  pub own : table_long_values other id ≡ []
  pub others : (table : ℕ) → table ≢ id → table_long_values other table ≡ table_long_values trees table
  pub own_nodes : table_nodes other id ≡ []
  pub nodes : (table : ℕ) → table ≢ id → table_nodes other table ≡ table_nodes trees table

left_counted : (id : ℕ) (trees other : List StoredTable) → OldValues id trees other → AreCounted trees [] → AreCounted other []
left_counted id trees other old counts = λ table. by table (id == table) refl
  where
    by : (table : ℕ) (b : Bool) → (id == table) ≡ b → HasCounts (table_long_values other table) (newest_rows (table_nodes other table)) []
    by table true e =
        subst (λ (n : ℕ). HasCounts (table_long_values other n) (newest_rows (table_nodes other n)) []) (eqb-true id table e)
        (subst (λ (v : Values). HasCounts v (newest_rows (table_nodes other id)) []) (sym old.own) (subst (λ (ns : List Node). HasCounts [] (newest_rows ns) []) (sym old.own_nodes) (λ x. refl)))
    by table false e =
        let apart : table ≢ id = λ is. apart_from id table e (sym is) in
        subst (λ (v : Values). HasCounts v (newest_rows (table_nodes other table)) []) (sym (old.others table apart))
        (subst (λ (ns : List Node). HasCounts (table_long_values trees table) (newest_rows ns) []) (sym (old.nodes table apart)) (counts table))

left_without : (id : ℕ) (trees other : List StoredTable) → OldValues id trees other → BringsNoValue trees other
left_without id trees other old = λ table x none. by table x none (id == table) refl
  where
    by : (table : ℕ) (x : List ℕ) → value_of x (table_long_values trees table) ≡ None → (b : Bool) → (id == table) ≡ b → value_of x (table_long_values other table) ≡ None
    by table x none true e = ap (λ n. value_of x (table_long_values other n)) (sym (eqb-true id table e)) ∙ ap (value_of x) old.own
    by table x none false e = ap (value_of x) (old.others table (λ is. apart_from id table e (sym is))) ∙ none

pub delete_made : OldTableLaws → (made : SchemaStep) (id : TableId) → made ≡ step.DeleteTable id → (was : CatalogState) (trees : List StoredTable) → AreKeptWith (table_long_values trees) was.tables trees []
    → (is : CatalogState) → is ≡ catalog_after was made → (other : List StoredTable) → other ≡ without_table id.0 trees → OldValues id.0 trees other → AreCounted trees [] → IsMade made was trees is other
delete_made laws made id step_is was trees kept is is_after other other_is old counts =
    subst (λ (s : SchemaStep). IsMade s was trees is other) (sym step_is)
    (is_made (step.DeleteTable id) was trees is other (is_after ∙ ap (catalog_after was) step_is)
    (left_kept (table_long_values trees) (table_long_values other) id.0 other old.others (filter (stays id.0) was.tables) (gone id.0 was.tables) steps.kept)
    (left_read (table_long_values trees) (table_long_values other) id.0 other old.others was.tables ∙ steps.shown)
    (left_counted id.0 trees other old counts) (left_without id.0 trees other old))
  where
    steps : StepsTo (table_long_values trees) (step.DeleteTable id) was.tables trees other
    steps = subst (λ (o : List StoredTable). StepsTo (table_long_values trees) (step.DeleteTable id) was.tables trees o) (sym other_is) (table_goes (table_long_values trees) laws id was.tables trees kept)
