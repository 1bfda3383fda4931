-- The catalog beside the trees, through a schema step.
use Rattle.std.proofs.Common.{◌≡◌, ℕ, Bool, true, false, not, ◌||◌, cond, List, [], ◌∷◌, ◌++◌, Option, Some, None, filter, find, map, option_map, refl, sym, ap, subst, ◌∙◌}
use Rattle.std.specs.Prelude.{◌==◌, IfSome, IsSomeAnd, is_some, unwrap_or}
use Rattle.std.specs.List.{list_any}
use Rattle.std.proofs.lemmas.Bool.{eqb-true}
use Rattle.common_lemmas.proofs.Numbers.{self_equal}
use Rattle.jet_base.specs.Ids.{table_id}
use Rattle.jet_base.specs.declared.ids.ColumnId.{ColumnId}
use Rattle.jet_base.specs.declared.ids.IndexId.{IndexId}
use Rattle.jet_base.specs.declared.ids.TableId.{TableId}
use Rattle.column_set.specs.declared.columns.Column.{Column}
use Rattle.index_derive.specs.declared.rules.IndexRule.{IndexRule}
use Rattle.index_derive.specs.declared.schema_calls.SchemaStep.{SchemaStep}
use Rattle.index_derive.specs.declared.schema_calls.SchemaStep.TheVariants as step
use Rattle.database_state.specs.SchemaChanges.{has_column, with_column_id, with_index, without_index}
use Rattle.database_state.specs.Table.{GreatestColumns, Table, table_with_id, with_table}
use Rattle.jet_catalog.specs.Catalog.{CatalogState, IsNumbered, catalog_after}
use Rattle.catalog_grammar.specs.CatalogSteps.{has_index, has_nodes}
use Rattle.catalog_record.specs.CatalogsKept.{HasColumn, HasIndex}
use Rattle.laws_versions.proofs.ChangeLemmas.Tests.{or_first, or_second}
use Rattle.table_trees.specs.ShownCatalogs.{IsNewColumn, IsNewIndex, ShowsCatalog, ShowsStep}
use Rattle.table_trees.specs.StoredTables.{StoredTable, has_index as has_tree, has_table, is_index, is_table}
use Rattle.table_trees.specs.StoredTrees.{StoredCatalog, StoredRoots, roots_by_number}
use Rattle.laws_versions.proofs.KeyLemmas.SchemaKeys.{this_table}
use Rattle.stored_variants.specs.SchemaSteps.{IsColumnFor, IsIndexFor}
use Rattle.stored_variants.specs.VersionsKept.{secondary_rule}
use Rattle.stored_variants.specs.VersionsView.{with_newest_by}
use Rattle.stored_variants.proofs.Tables.{found_number, table_at}
use Rattle.variant_trees.specs.LeftVariants.{DistinctIds}
use Rattle.variant_trees.proofs.Forgotten.{distinct_ids}
use Rattle.variant_trees.proofs.IndexTrees.{for_table}
use Rattle.variant_trees.proofs.MadeIndexes.{needs_tree}
use Rattle.stored_variants.specs.RecordRows.{TableValues}

-- it is shown by what was kept, and before it was by the same roots
pub step_kept : (was is : StoredCatalog) (catalog : CatalogState) (made : SchemaStep) → ShowsCatalog was catalog → is.roots ≡ was.roots → ShowsCatalog is (catalog_after catalog made) → ShowsStep is catalog made
step_kept was is catalog made shows roots after = record {
  after = after;
  before = subst (λ (list : List StoredRoots). has_nodes (roots_by_number list) catalog ≡ true) (sym roots) shows.writable;
}

pub shows_after : (stored : StoredCatalog) (catalog other : CatalogState) (made step : SchemaStep) → made ≡ step → other ≡ catalog_after catalog made → ShowsCatalog stored (catalog_after catalog step) → ShowsCatalog stored other
shows_after stored catalog other made step is e shows =
    subst (λ (c : CatalogState). ShowsCatalog stored c) (sym e) (subst (λ (s : SchemaStep). ShowsCatalog stored (catalog_after catalog s)) (sym is) shows)

pub shows_other : (stored : StoredCatalog) (catalog other : CatalogState) → other ≡ catalog → ShowsCatalog stored catalog → ShowsCatalog stored other
shows_other stored catalog other e shows = subst (λ (c : CatalogState). ShowsCatalog stored c) (sym e) shows

pub shows_in : (was is : StoredCatalog) (catalog : CatalogState) → is ≡ was → ShowsCatalog was catalog → ShowsCatalog is catalog
shows_in was is catalog e shows = subst (λ (s : StoredCatalog). ShowsCatalog s catalog) (sym e) shows

-- ---- a new column

-- the step of the table that was found
pub found_step : (id : TableId) (t : Table) (tables : List Table) → Some t ≡ table_with_id tables id.0 → table_id t.id ≡ id
found_step id t tables found = ap table_id (found_number id.0 tables t (sym found))

pub found_there : (id : ℕ) (t : Table) (tables : List Table) (trees : List StoredTable) → Some t ≡ table_with_id tables id → has_table trees id ≡ true → has_table trees t.id ≡ true
found_there id t tables trees found there = ap (has_table trees) (found_number id tables t (sym found)) ∙ there

pub found_itself : (id : ℕ) (t : Table) (tables : List Table) → Some t ≡ table_with_id tables id → table_with_id tables t.id ≡ Some t
found_itself id t tables found = ap (table_with_id tables) (found_number id tables t (sym found)) ∙ sym found

pub new_column : (was : CatalogState) (id : ℕ) (t : Table) (column : Column) (greatest : GreatestColumns) → Some t ≡ table_with_id was.tables id → IsSomeAnd (table_with_id was.tables id) (IsColumnFor column) → greatest ≡ with_column_id t.greatest column.id.0 → IsNewColumn was t column greatest
new_column was id t column greatest found fits given =
    let is : IsColumnFor column t = subst (λ (o : Option Table). IsSomeAnd o (IsColumnFor column)) (sym found) fits in
    record { there = found_itself id t was.tables found; new = is.new; number = is.positive; fits = is.fits; greatest_is = sym given }

-- what is asked of the table in the store is asked of the one in the catalog
pub column_for : (longs : TableValues) (column : Column) (id : ℕ) (tables : List Table) (trees : List StoredTable) → IsSomeAnd (table_with_id (map (with_newest_by longs trees) tables) id) (IsColumnFor column) → IsSomeAnd (table_with_id tables id) (IsColumnFor column)
column_for longs column id tables trees fit = by (table_with_id tables id) (subst (λ (o : Option Table). IsSomeAnd o (IsColumnFor column)) (table_at longs trees tables id) fit)
  where
    by : (o : Option Table) → IsSomeAnd (option_map (with_newest_by longs trees) o) (IsColumnFor column) → IsSomeAnd o (IsColumnFor column)
    by None h = absurd h
    by (Some t) h = record { new = h.new; positive = h.positive; fits = h.fits }

pub some_of : {X : Type 0} (P : X → Type 0) (o : Option X) → IsSomeAnd o P → is_some o ≡ true
some_of P None h = absurd h
some_of P (Some x) h = refl

-- ---- a column that goes

pub old_column : (was : CatalogState) (id : TableId) (column : ColumnId) → IsSomeAnd (table_with_id was.tables id.0) (λ t. has_column t column.0 ≡ true) → HasColumn was id column
old_column was id column there = by (table_with_id was.tables id.0) refl there
  where
    by : (o : Option Table) → table_with_id was.tables id.0 ≡ o → IsSomeAnd o (λ t. has_column t column.0 ≡ true) → HasColumn was id column
    by None e h = absurd h
    by (Some t) e h = record { t = t; there = e; has = h }

-- ---- a new index

pub new_index : (longs : TableValues) (id : TableId) (rule : IndexRule) (was : CatalogState) (trees : List StoredTable) → IsSomeAnd (table_with_id (map (with_newest_by longs trees) was.tables) id.0) (IsIndexFor rule) → IsNewIndex was id rule
new_index longs id rule was trees fit = by (table_with_id was.tables id.0) refl (for_table longs rule id.0 was.tables trees fit)
  where
    by : (o : Option Table) → table_with_id was.tables id.0 ≡ o → IsSomeAnd o (λ t. IsIndexFor rule (with_newest_by longs trees t)) → IsNewIndex was id rule
    by None e h = absurd h
    by (Some t) e h = record { t = t; there = e; new = h.number; number = h.positive; fits = h.fits }

-- no table of this number has the index
abbrev pub LacksIndex : ℕ → Option Table → Type 0
LacksIndex index o = IfSome o (λ t. has_index t index ≡ false)

pub none_yet : (was : CatalogState) (id : TableId) (rule : IndexRule) → IsNewIndex was id rule → LacksIndex rule.id.0 (table_with_id was.tables id.0)
none_yet was id rule new = subst (LacksIndex rule.id.0) (sym new.there) new.new

has_last : (rule : IndexRule) (rules : List IndexRule) → list_any (λ made. made.id.0 == rule.id.0) (rules ++ rule ∷ []) ≡ true
has_last rule [] = ap (λ b. b || false) (self_equal rule.id.0)
has_last rule (r ∷ rules) = ap (λ b. (r.id.0 == rule.id.0) || b) (has_last rule rules) ∙ or_true (r.id.0 == rule.id.0)
  where
    or_true : (b : Bool) → (b || true) ≡ true
    or_true true = refl
    or_true false = refl

pub index_came : (was : CatalogState) (id : TableId) (rule : IndexRule) → IsNewIndex was id rule → HasIndex (catalog_after was (step.CreateIndex id rule)) id rule.id
index_came was id rule new = record {
  t = with_index rule new.t;
  there = this_table id.0 (with_index rule) (λ t. refl) was.tables ∙ ap (option_map (with_index rule)) new.there;
  has = has_last rule new.t.indexes;
}

-- it goes again, and the catalog is as it was

last_gone : (rule : IndexRule) (rules : List IndexRule) → list_any (λ made. made.id.0 == rule.id.0) rules ≡ false → filter (λ made. not (made.id.0 == rule.id.0)) (rules ++ rule ∷ []) ≡ rules
last_gone rule [] h = ap (λ b. cond (not b) (rule ∷ []) []) (self_equal rule.id.0)
last_gone rule (r ∷ rules) h =
    let rest : List IndexRule = filter (λ made. not (made.id.0 == rule.id.0)) (rules ++ rule ∷ []) in
    ap (λ b. cond (not b) (r ∷ rest) rest) (or_first (r.id.0 == rule.id.0) _ h) ∙ ap (λ (rs : List IndexRule). r ∷ rs) (last_gone rule rules (or_second (r.id.0 == rule.id.0) _ h))

none_in : (id : ℕ) (tables : List Table) → list_any (λ (x : Table). x.id == id) tables ≡ false → table_with_id tables id ≡ None
none_in id [] h = refl
none_in id (t ∷ tables) h = ap (λ b. cond b (Some t) (table_with_id tables id)) (or_first (t.id == id) _ h) ∙ none_in id tables (or_second (t.id == id) _ h)

abbrev with_and_without : ℕ → IndexRule → List Table → List Table
with_and_without id rule tables = with_table id (without_index rule.id.0) (with_table id (with_index rule) tables)

tables_back : (id : ℕ) (rule : IndexRule) (tables : List Table) → DistinctIds tables → LacksIndex rule.id.0 (table_with_id tables id) → with_and_without id rule tables ≡ tables
tables_back id rule [] distinct lacks = refl
tables_back id rule (t ∷ tables) distinct lacks = by (t.id == id) refl lacks (tables_back id rule tables distinct.1)
  where
    back : Table → Table
    back u = cond (u.id == id) (without_index rule.id.0 u) u

    none : (t.id == id) ≡ true → table_with_id tables id ≡ None
    none e = none_in id tables (ap (λ n. list_any (λ (x : Table). x.id == n) tables) (sym (eqb-true t.id id e)) ∙ distinct.0)

    by : (b : Bool) → (t.id == id) ≡ b → LacksIndex rule.id.0 (cond b (Some t) (table_with_id tables id)) → (LacksIndex rule.id.0 (table_with_id tables id) → with_and_without id rule tables ≡ tables)
        → back (cond b (with_index rule t) t) ∷ with_and_without id rule tables ≡ t ∷ tables
    by true e h rest =
        λ i. (ap (λ b. cond b (without_index rule.id.0 (with_index rule t)) (with_index rule t)) e ∙ ap (λ (rules : List IndexRule). record t { indexes = rules }) (last_gone rule t.indexes h)) i
        ∷ rest (subst (LacksIndex rule.id.0) (sym (none e)) tt) i
    by false e h rest = λ i. ap (λ b. cond b (without_index rule.id.0 t) t) e i ∷ rest h i

pub index_back : (was : CatalogState) (id : TableId) (rule : IndexRule) → IsNumbered was → IsNewIndex was id rule → catalog_after (catalog_after was (step.CreateIndex id rule)) (step.DeleteIndex id rule.id) ≡ was
index_back was id rule numbered new = ap (λ (tables : List Table). record was { tables = tables }) (tables_back id.0 rule was.tables (distinct_ids was numbered) (none_yet was id rule new))

-- ---- an index that goes

none_left : (index : ℕ) (rules : List IndexRule) → list_any (λ made. made.id.0 == index) (filter (λ made. not (made.id.0 == index)) rules) ≡ false
none_left index [] = refl
none_left index (r ∷ rules) = by (r.id.0 == index) refl (none_left index rules)
  where
    rest : List IndexRule
    rest = filter (λ made. not (made.id.0 == index)) rules

    by : (b : Bool) → (r.id.0 == index) ≡ b → list_any (λ made. made.id.0 == index) rest ≡ false → list_any (λ made. made.id.0 == index) (cond (not b) (r ∷ rest) rest) ≡ false
    by true e h = h
    by false e h = ap (λ b. b || list_any (λ made. made.id.0 == index) rest) e ∙ h

pub index_gone : (was : CatalogState) (id : TableId) (index : IndexId) → LacksIndex index.0 (table_with_id (catalog_after was (step.DeleteIndex id index)).tables id.0)
index_gone was id index = subst (LacksIndex index.0) (sym (this_table id.0 (without_index index.0) (λ t. refl) was.tables)) (by (table_with_id was.tables id.0))
  where
    by : (o : Option Table) → LacksIndex index.0 (option_map (without_index index.0) o)
    by None = tt
    by (Some t) = none_left index.0 t.indexes

in_whole : (p q : IndexRule → Bool) (rules : List IndexRule) → list_any p (filter q rules) ≡ true → list_any p rules ≡ true
in_whole p q [] h = h
in_whole p q (r ∷ rules) h = by (q r) h (in_whole p q rules)
  where
    behind : (b : Bool) → list_any p rules ≡ true → (b || list_any p rules) ≡ true
    behind true g = refl
    behind false g = g

    either : (b : Bool) → (b || list_any p (filter q rules)) ≡ true → (list_any p (filter q rules) ≡ true → list_any p rules ≡ true) → (b || list_any p rules) ≡ true
    either true g rest = refl
    either false g rest = rest g

    by : (b : Bool) → list_any p (cond b (r ∷ filter q rules) (filter q rules)) ≡ true → (list_any p (filter q rules) ≡ true → list_any p rules ≡ true) → (p r || list_any p rules) ≡ true
    by true g rest = either (p r) g rest
    by false g rest = behind (p r) (rest g)

pub old_index : (was : CatalogState) (id : TableId) (index : IndexId) → IsSomeAnd (table_with_id was.tables id.0) (λ t. is_some (secondary_rule t index.0) ≡ true) → HasIndex was id index
old_index was id index there = by (table_with_id was.tables id.0) refl there
  where
    by : (o : Option Table) → table_with_id was.tables id.0 ≡ o → IsSomeAnd o (λ t. is_some (secondary_rule t index.0) ≡ true) → HasIndex was id index
    by None e h = absurd h
    by (Some t) e h = record { t = t; there = e; has = in_whole (λ rule. rule.id.0 == index.0) (λ rule. not rule.flags.primary) t.indexes (needs_tree t index.0 h) }

-- an index that has a tree is of a table that has trees
pub tree_of_table : (trees : List StoredTable) (id index : ℕ) → has_tree trees id index ≡ true → has_table trees id ≡ true
tree_of_table [] id index h = h
tree_of_table (x ∷ trees) id index h = by (is_table id x) h (tree_of_table trees id index)
  where
    by : (b : Bool) → list_any (is_index index) (unwrap_or (option_map (λ (t : StoredTable). t.indexes) (cond b (Some x) (find (is_table id) trees))) []) ≡ true → (has_tree trees id index ≡ true → has_table trees id ≡ true) → (b || has_table trees id) ≡ true
    by true g rest = refl
    by false g rest = rest g
