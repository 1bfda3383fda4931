-- What a schema step makes of the tables of the catalog beside their trees, while no change is held.
use Rattle.std.proofs.Common.{◌≡◌, ℕ, Bool, true, false, cond, List, [], ◌∷◌, ◌++◌, Option, Some, None, filter, map, option_map, refl, sym, ap, subst, ◌∙◌, ◌≢◌}
use Rattle.std.specs.Prelude.{◌==◌, IfSome}
use Rattle.std.proofs.lemmas.Bool.{eqb-true}
use Rattle.database_state.specs.SchemaChanges.{tables_after_step}
use Rattle.database_state.specs.Table.{Table, schema_of, table_with_id, with_table}
use Rattle.laws_versions.specs.KeptEntries.{has_entry}
use Rattle.index_derive.specs.declared.rules.IndexRule.{IndexRule}
use Rattle.index_derive.specs.declared.schema_calls.SchemaStep.{SchemaStep}
use Rattle.jet_catalog.specs.Catalog.{CatalogState, catalog_after, without_rows}
use Rattle.page_image.specs.Page.{Node}
use Rattle.table_trees.specs.StoredTables.{table_long_values, StoredIndex, StoredTable, index_entries, is_index, part_of, table_indexes, table_nodes}
use Rattle.laws_versions.proofs.KeyLemmas.SchemaKeys.{other_table, this_table}
use Rattle.laws_engine.specs.Variants.{HoldsVariants}
use Rattle.stored_variants.specs.RecordRows.{TableValues, rows_of_nodes}
use Rattle.stored_variants.specs.SchemaSteps.{IsMade}
use Rattle.stored_variants.specs.VersionsKept.{AreKept, AreKeptWith, IsKeptTable, needed_trees, secondary_rule, tree_numbers}
use Rattle.stored_variants.specs.VersionsView.{with_newest, with_newest_by}
use Rattle.stored_variants.proofs.Tables.{found_number}
use Rattle.long_value.specs.Values.{value_of, Values}
use Rattle.stored_variants.specs.CountedValues.{newest_rows, BringsNoValue, AreCounted}
use Rattle.variant_trees.specs.GoneKeys.{KeepsValues}
use Rattle.long_rows.specs.ReferenceCounts.{HasCounts}
use Rattle.common_lemmas.proofs.Booleans.{impossible}
use Rattle.common_lemmas.proofs.Numbers.{self_equal}

pub apart_from : (a b : ℕ) → (a == b) ≡ false → a ≢ b
apart_from a b e same = impossible (sym e ∙ ap (λ n. n == b) same ∙ self_equal b)

-- ---- tables while no change is held

abbrev pub IsSettled : TableValues → List StoredTable → Table → Type 0
IsSettled longs trees t = IsKeptTable trees (longs t.id) (table_nodes trees t.id) [] t

pub settled_of : (longs : TableValues) (tables : List Table) (trees : List StoredTable) → AreKeptWith longs tables trees [] → (id : ℕ) → IfSome (table_with_id tables id) (IsSettled longs trees)
settled_of longs tables trees kept id = by (table_with_id tables id) refl (kept.each id)
  where
    by : (o : Option Table) → table_with_id tables id ≡ o → IfSome o (IsKeptTable trees (longs id) (table_nodes trees id) []) → IfSome o (IsSettled longs trees)
    by None e k = tt
    by (Some t) e k = subst (λ (n : ℕ). IsKeptTable trees (longs n) (table_nodes trees n) [] t) (sym (found_number id tables t e)) k

pub kept_of : (longs : TableValues) (tables : List Table) (trees : List StoredTable) → map without_rows tables ≡ tables → map tree_numbers trees ≡ map needed_trees tables → ((id : ℕ) → IfSome (table_with_id tables id) (IsSettled longs trees)) → AreKeptWith longs tables trees []
kept_of longs tables trees plain numbers each = record {
  plain = plain;
  numbers = numbers;
  each = λ id. by id (table_with_id tables id) refl (each id);
  changes = tt;
}
  where
    by : (id : ℕ) (o : Option Table) → table_with_id tables id ≡ o → IfSome o (IsSettled longs trees) → IfSome o (IsKeptTable trees (longs id) (table_nodes trees id) [])
    by id None e k = tt
    by id (Some t) e k = subst (λ (n : ℕ). IsKeptTable trees (longs n) (table_nodes trees n) [] t) (found_number id tables t e) k

-- a table with the same nodes and the same indexes in other trees
pub moved : (longs : TableValues) (trees other : List StoredTable) (t : Table) → table_nodes other t.id ≡ table_nodes trees t.id → table_indexes other t.id ≡ table_indexes trees t.id → IsSettled longs trees t → IsSettled longs other t
moved longs trees other t nodes indexes k = subst (λ (n : List Node). IsKeptTable other (longs t.id) n [] t) (sym nodes) (record {
  rules = k.rules;
  rows = k.rows;
  stands = k.stands;
  entries = λ index. each index (secondary_rule t index) (k.entries index);
})
  where
    each : (index : ℕ) (rule : Option IndexRule)
        → IfSome rule (λ rule. HoldsVariants (rows_of_nodes (longs t.id) (table_nodes trees t.id)) [] rule (schema_of t) t.id (index_entries trees t.id index))
        → IfSome rule (λ rule. HoldsVariants (rows_of_nodes (longs t.id) (table_nodes trees t.id)) [] rule (schema_of t) t.id (index_entries other t.id index))
    each index None h = tt
    each index (Some rule) h = λ key bookmark. ap (λ (xs : List StoredIndex). has_entry key bookmark (part_of (is_index index) (λ x. x.1) xs)) indexes ∙ h key bookmark

-- ---- tables by their ids

pub if_some : {X : Type 0} (P R : X → Type 0) → ((x : X) → P x → R x) → (o : Option X) → IfSome o P → IfSome o R
if_some P R f None h = tt
if_some P R f (Some x) h = f x h

-- what holds of the tables where one of them is changed
pub changed_at : (P R : Table → Type 0) (d : ℕ) (change : Table → Table) → ((t : Table) → (change t).id ≡ t.id) → (tables : List Table)
    → ((t : Table) → table_with_id tables d ≡ Some t → P t → R (change t)) → ((t : Table) → (t.id == d) ≡ false → P t → R t)
    → ((id : ℕ) → IfSome (table_with_id tables id) P) → (id : ℕ) → IfSome (table_with_id (with_table d change tables) id) R
changed_at P R d change keeps tables f g h id = cases (id == d) refl
  where
    named : (o : Option Table) → table_with_id tables d ≡ o → IfSome o P → IfSome (option_map change o) R
    named None e p = tt
    named (Some t) e p = f t e p

    other : (o : Option Table) → table_with_id tables id ≡ o → (id == d) ≡ false → IfSome o P → IfSome o R
    other None e apart p = tt
    other (Some t) e apart p = g t (ap (λ n. n == d) (found_number id tables t e) ∙ apart) p

    cases : (b : Bool) → (id == d) ≡ b → IfSome (table_with_id (with_table d change tables) id) R
    cases true e =
        subst (λ (n : ℕ). IfSome (table_with_id (with_table d change tables) n) R) (sym (eqb-true id d e))
        (subst (λ (o : Option Table). IfSome o R) (sym (this_table d change keeps tables)) (named (table_with_id tables d) refl (h d)))
    cases false e = subst (λ (o : Option Table). IfSome o R) (sym (other_table d change keeps tables id e)) (other (table_with_id tables id) refl e (h id))

-- ---- lists

pub map_same : {X Y : Type 0} (f g : X → Y) → ((x : X) → f x ≡ g x) → (xs : List X) → map f xs ≡ map g xs
map_same f g same [] = refl
map_same f g same (x ∷ xs) = λ i. same x i ∷ map_same f g same xs i

pub map_last : {X Y : Type 0} (f : X → Y) (xs : List X) (x : X) → map f (xs ++ x ∷ []) ≡ map f xs ++ f x ∷ []
map_last f [] x = refl
map_last f (y ∷ xs) x = ap (λ rest. f y ∷ rest) (map_last f xs x)

pub map_filter : {X Y : Type 0} (f : X → Y) (q : Y → Bool) (xs : List X) → map f (filter (λ x. q (f x)) xs) ≡ filter q (map f xs)
map_filter f q [] = refl
map_filter f q (x ∷ xs) = by (q (f x)) (map_filter f q xs)
  where
    by : (b : Bool) → map f (filter (λ x. q (f x)) xs) ≡ filter q (map f xs) → map f (cond b (x ∷ filter (λ x. q (f x)) xs) (filter (λ x. q (f x)) xs)) ≡ cond b (f x ∷ filter q (map f xs)) (filter q (map f xs))
    by true rest = ap (λ ys. f x ∷ ys) rest
    by false rest = rest

-- a change of one table beside a function of each
pub map_table : (f : Table → Table) (d : ℕ) (change other : Table → Table) → ((t : Table) → (f t).id ≡ t.id) → ((t : Table) → (t.id == d) ≡ true → f (change t) ≡ other (f t)) → (tables : List Table)
    → map f (with_table d change tables) ≡ with_table d other (map f tables)
map_table f d change other keeps same [] = refl
map_table f d change other keeps same (t ∷ tables) = λ i. by (t.id == d) refl i ∷ map_table f d change other keeps same tables i
  where
    by : (b : Bool) → (t.id == d) ≡ b → f (cond b (change t) t) ≡ cond ((f t).id == d) (other (f t)) (f t)
    by true e = same t e ∙ sym (ap (λ c. cond c (other (f t)) (f t)) (ap (λ n. n == d) (keeps t) ∙ e))
    by false e = sym (ap (λ c. cond c (other (f t)) (f t)) (ap (λ n. n == d) (keeps t) ∙ e))

-- without records the changed tables are plain again
pub plain_table : (d : ℕ) (change : Table → Table) → ((t : Table) → without_rows (change t) ≡ change (without_rows t)) → (tables : List Table) → map without_rows tables ≡ tables → map without_rows (with_table d change tables) ≡ with_table d change tables
plain_table d change same tables plain = map_table without_rows d change change (λ t. refl) (λ t e. same t) tables ∙ ap (with_table d change) plain

-- ---- the newest records of tables

pub newest_same : (longs : TableValues) (trees other : List StoredTable) (t : Table) → table_nodes other t.id ≡ table_nodes trees t.id → with_newest_by longs other t ≡ with_newest_by longs trees t
newest_same longs trees other t nodes = ap (λ (n : List Node). record t { rows = rows_of_nodes (longs t.id) n }) nodes

-- ---- catalog and trees

-- the tables and the trees after a step
pub record StepsTo (longs : TableValues) (made : SchemaStep) (tables : List Table) (trees other : List StoredTable) : Type 0 where
  pub kept : AreKeptWith longs (tables_after_step tables made) other []
  pub shown : map (with_newest_by longs other) (tables_after_step tables made) ≡ tables_after_step (map (with_newest_by longs trees) tables) made

-- where the nodes and the long values stay, each value has as many references
pub counts_stay : (trees other : List StoredTable) → KeepsValues trees other → ((table : ℕ) → table_nodes other table ≡ table_nodes trees table) → AreCounted trees [] → AreCounted other []
counts_stay trees other keeps nodes counts = λ table.
    subst (λ (v : Values). HasCounts v (newest_rows (table_nodes other table)) []) (sym (keeps table))
    (subst (λ (ns : List Node). HasCounts (table_long_values trees table) (newest_rows ns) []) (sym (nodes table)) (counts table))

pub is_made : (made : SchemaStep) (was : CatalogState) (trees : List StoredTable) (is : CatalogState) (other : List StoredTable) → is ≡ catalog_after was made → AreKept (tables_after_step was.tables made) other []
    → map (with_newest other) (tables_after_step was.tables made) ≡ tables_after_step (map (with_newest trees) was.tables) made → AreCounted other [] → BringsNoValue trees other → IsMade made was trees is other
is_made made was trees is other same kept shown counts values = subst (λ (c : CatalogState). IsMade made was trees c other) (sym same) (record {
  kept = kept;
  counts = counts;
  values = values;
  shown = λ newest. λ i. record { greatest_table = (catalog_after was made).greatest_table; newest_put = newest; store = record { tables = shown i; held = [] } };
})

-- the same where all long values stay
pub made_with_values : (made : SchemaStep) (was : CatalogState) (trees : List StoredTable) (is : CatalogState) (other : List StoredTable) → is ≡ catalog_after was made → StepsTo (table_long_values trees) made was.tables trees other
    → KeepsValues trees other → AreCounted other [] → IsMade made was trees is other
made_with_values made was trees is other same steps keeps counts =
    is_made made was trees is other same
    (subst (λ (longs : TableValues). AreKeptWith longs (tables_after_step was.tables made) other []) (λ i table. sym (keeps table) i) steps.kept)
    (ap (λ (longs : TableValues). map (with_newest_by longs other) (tables_after_step was.tables made)) (λ i table. keeps table i) ∙ steps.shown)
    counts (λ table x none. ap (value_of x) (keeps table) ∙ none)
