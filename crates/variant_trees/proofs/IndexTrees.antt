-- The trees with a new index, and without it again.
use Rattle.std.proofs.Common.{◌≡◌, ◌≢◌, ℕ, Bool, true, false, not, ◌&&◌, ◌||◌, cond, List, [], ◌∷◌, ◌++◌, Option, Some, None, filter, find, map, option_map, refl, sym, ap, subst, ◌∙◌}
use Rattle.std.specs.Prelude.{◌==◌, nat_lt, IfSome, IsSomeAnd, is_some, unwrap_or}
use Rattle.std.specs.List.{list_any}
use Rattle.std.proofs.lemmas.List.Elements.{filter-append}
use Rattle.common_lemmas.proofs.Numbers.{self_equal}
use Rattle.column_set.specs.RecordValues.{RecordFields}
use Rattle.cursor_nav.specs.Places.{are_sorted}
use Rattle.database_state.specs.Conflicts.{yields_key}
use Rattle.database_state.specs.SchemaChanges.{with_index}
use Rattle.database_state.specs.Table.{Table, schema_of, table_with_id, with_table}
use Rattle.index_derive.specs.declared.rules.IndexRule.{IndexRule}
use Rattle.index_derive.specs.declared.schema_calls.SchemaStep.{SchemaStep}
use Rattle.index_derive.specs.declared.schema_calls.SchemaStep.TheVariants as step
use Rattle.index_derive.specs.Entries.{entries}
use Rattle.jet_base.specs.declared.ids.TableId.{TableId}
use Rattle.jet_catalog.specs.Catalog.{CatalogState, IsNumbered, catalog_after, ids_rise}
use Rattle.page_image.specs.Page.{Node}
use Rattle.laws_versions.proofs.ChangeLemmas.Tests.{or_first, or_second}
use Rattle.table_trees.specs.StoredNodes.{bookmark_entries}
use Rattle.table_trees.specs.StoredTables.{table_long_values, StoredIndex, StoredTable, has_index, has_table, index_entries, is_index, is_table, put_indexes, table_indexes, table_nodes, with_indexes, with_new_index, without_index as without_tree, without_where}
use Rattle.variant_trees.specs.NewEntries.{CanFill, HasNewestKeys, IsTakenRow, OnlyEntries, is_newest_key}
use Rattle.stored_variants.specs.RecordRows.{TableValues, record_of, row_under}
use Rattle.stored_variants.specs.SchemaSteps.{IsIndexFor, IsMade}
use Rattle.stored_variants.specs.VersionsKept.{AreKeptWith, IsKeptTable, IsRowUnder, needed_trees, secondary_rules, tree_numbers}
use Rattle.stored_variants.specs.VersionsView.{with_newest_by}
use Rattle.variant_trees.proofs.Forgotten.{distinct_ids}
use Rattle.variant_trees.proofs.LeftNodes.{numbers_needed}
use Rattle.variant_trees.proofs.MadeIndexes.{tree_of_index}
use Rattle.variant_trees.proofs.NewEntries.{changed_twice}
use Rattle.variant_trees.proofs.NewIndexes.{AreWithIndex, index_created, row_taken}
use Rattle.stored_variants.proofs.NodeRecords.{record_at}
use Rattle.variant_trees.proofs.Stepping.{map_last, apart_from}
use Rattle.stored_variants.proofs.Tables.{found_number, table_at}
use Rattle.variant_trees.proofs.TreeNumbers.{changed_numbers, same_indexes}
use Rattle.stored_variants.specs.CountedValues.{AreCounted}
use Rattle.variant_trees.specs.GoneKeys.{KeepsValues}
use Rattle.stored_variants.proofs.TakenRecords.{no_refusal}

-- ---- laws of trees

abbrev pub IsNamed : Type 0
IsNamed = (tables : List StoredTable) (table : ℕ) (indexes : List StoredIndex) → has_table tables table ≡ true → table_indexes (with_indexes table indexes tables) table ≡ indexes

abbrev pub NodesStay : Type 0
NodesStay = (tables : List StoredTable) (table other : ℕ) (indexes : List StoredIndex) → table_nodes (with_indexes table indexes tables) other ≡ table_nodes tables other

abbrev pub EntriesStay : Type 0
EntriesStay = (tables : List StoredTable) (table index other : ℕ) → index_entries (with_new_index table index tables) table other ≡ index_entries tables table other

abbrev pub HoldsSession : Type 0
HoldsSession = (tables : List StoredTable) (table index other : ℕ) → has_table tables table ≡ true → has_index (with_new_index table index tables) table other ≡ (has_index tables table other || (index == other))

pub record NewIndexLaws : Type 0 where
  pub others : (tables : List StoredTable) (table other : ℕ) (indexes : List StoredIndex) → other ≢ table → table_indexes (with_indexes table indexes tables) other ≡ table_indexes tables other
  pub nodes : NodesStay
  pub entries : EntriesStay
  pub without : (tables : List StoredTable) (table index other : ℕ) → other ≢ index → index_entries (without_tree table index tables) table other ≡ index_entries tables table other

-- ---- the table that an index comes to

-- what is asked of the table in the store is asked of the one in the catalog
pub for_table : (longs : TableValues) (rule : IndexRule) (id : ℕ) (tables : List Table) (trees : List StoredTable) → IsSomeAnd (table_with_id (map (with_newest_by longs trees) tables) id) (IsIndexFor rule) → IsSomeAnd (table_with_id tables id) (λ t. IsIndexFor rule (with_newest_by longs trees t))
for_table longs rule id tables trees fit = by (table_with_id tables id) (subst (λ (o : Option Table). IsSomeAnd o (IsIndexFor rule)) (table_at longs trees tables id) fit)
  where
    by : (o : Option Table) → IsSomeAnd (option_map (with_newest_by longs trees) o) (IsIndexFor rule) → IsSomeAnd o (λ t. IsIndexFor rule (with_newest_by longs trees t))
    by None h = absurd h
    by (Some t) h = h

pub in_trees : (longs : TableValues) (id : ℕ) (rule : IndexRule) (tables : List Table) (trees : List StoredTable) → IsSomeAnd (table_with_id (map (with_newest_by longs trees) tables) id) (IsIndexFor rule) → is_some (table_with_id tables id) ≡ true
in_trees longs id rule tables trees fit = by (table_with_id tables id) (for_table longs rule id tables trees fit)
  where
    by : (o : Option Table) → IsSomeAnd o (λ t. IsIndexFor rule (with_newest_by longs trees t)) → is_some o ≡ true
    by None h = absurd h
    by (Some t) h = refl

-- ---- an index that has no tree yet

none_left : (p q : IndexRule → Bool) (rules : List IndexRule) → list_any p rules ≡ false → list_any p (filter q rules) ≡ false
none_left p q [] h = refl
none_left p q (r ∷ rules) h = by (q r) (none_left p q rules (or_second (p r) _ h))
  where
    by : (b : Bool) → list_any p (filter q rules) ≡ false → list_any p (cond b (r ∷ filter q rules) (filter q rules)) ≡ false
    by true rest = ap (λ b. b || list_any p (filter q rules)) (or_first (p r) _ h) ∙ rest
    by false rest = rest

pub no_index : (longs : TableValues) (id : ℕ) (rule : IndexRule) (tables : List Table) (trees : List StoredTable) → AreKeptWith longs tables trees [] → IsSomeAnd (table_with_id (map (with_newest_by longs trees) tables) id) (IsIndexFor rule) → has_index trees id rule.id.0 ≡ false
no_index longs id rule tables trees kept fit = by (table_with_id tables id) refl (for_table longs rule id tables trees fit)
  where
    by : (o : Option Table) → table_with_id tables id ≡ o → IsSomeAnd o (λ t. IsIndexFor rule (with_newest_by longs trees t)) → has_index trees id rule.id.0 ≡ false
    by None e h = absurd h
    by (Some t) e h = tree_of_index id tables trees kept.numbers t e rule.id.0 ∙ none_left (λ r. r.id.0 == rule.id.0) (λ r. not r.flags.primary) t.indexes h.number

no_entries : (index : ℕ) (indexes : List StoredIndex) → list_any (is_index index) indexes ≡ false → unwrap_or (option_map (λ (x : StoredIndex). x.1) (find (is_index index) indexes)) [] ≡ []
no_entries index [] h = refl
no_entries index (x ∷ indexes) h =
    ap (λ b. unwrap_or (option_map (λ (y : StoredIndex). y.1) (cond b (Some x) (find (is_index index) indexes))) []) (or_first (is_index index x) _ h)
    ∙ no_entries index indexes (or_second (is_index index x) _ h)

-- ---- its tree, before it is filled

pub new_is_there : (longs : TableValues) → HoldsSession → (id : ℕ) (rule : IndexRule) (tables : List Table) (trees : List StoredTable) → has_table trees id ≡ true → AreKeptWith longs tables trees [] → IsSomeAnd (table_with_id (map (with_newest_by longs trees) tables) id) (IsIndexFor rule)
    → has_index (with_new_index id rule.id.0 trees) id rule.id.0 ≡ true
new_is_there longs beside id rule tables trees there kept fit =
    beside trees id rule.id.0 rule.id.0 there ∙ ap (λ b. b || (rule.id.0 == rule.id.0)) (no_index longs id rule tables trees kept fit) ∙ self_equal rule.id.0

pub new_is_empty : (longs : TableValues) → EntriesStay → (id : ℕ) (rule : IndexRule) (tables : List Table) (trees : List StoredTable) → AreKeptWith longs tables trees [] → IsSomeAnd (table_with_id (map (with_newest_by longs trees) tables) id) (IsIndexFor rule)
    → index_entries (with_new_index id rule.id.0 trees) id rule.id.0 ≡ []
new_is_empty longs stay id rule tables trees kept fit = stay trees id rule.id.0 rule.id.0 ∙ no_entries rule.id.0 (table_indexes trees id) (no_index longs id rule tables trees kept fit)

pub new_nodes : NodesStay → (trees : List StoredTable) (id index table : ℕ) → table_nodes (with_new_index id index trees) table ≡ table_nodes trees table
new_nodes stay trees id index table = stay trees id table (table_indexes trees id ++ (index, []) ∷ [])

-- no record that stands is refused
pub can_fill : (longs : TableValues) (id : ℕ) (rule : IndexRule) (tables : List Table) (trees other : List StoredTable) → ((table : ℕ) → are_sorted (bookmark_entries (table_nodes trees table)) ≡ true) → ((table : ℕ) → table_nodes other table ≡ table_nodes trees table)
    → AreKeptWith longs tables trees [] → IsSomeAnd (table_with_id (map (with_newest_by longs trees) tables) id) (IsIndexFor rule) → IsSomeAnd (table_with_id tables id) (CanFill (longs id) rule (table_nodes other id))
can_fill longs id rule tables trees other sorted same kept fit = by (table_with_id tables id) refl (for_table longs rule id tables trees fit) (kept.each id)
  where
    rows : (t : Table) → IsIndexFor rule (with_newest_by longs trees t) → IsKeptTable trees (longs t.id) (table_nodes trees t.id) [] t → (bookmark : List ℕ) (row : Option (List ℕ)) → row_under (table_nodes trees t.id) bookmark ≡ row → IfSome row (IsRowUnder (longs t.id) t bookmark)
        → IfSome row (IsTakenRow (longs t.id) rule (schema_of t))
    rows t h k bookmark None e is = tt
    rows t h k bookmark (Some bytes) e is =
        let takes = row_taken longs trees t rule (sorted t.id) h bookmark bytes e in
        record { row = is.fits.row; columns = is.fits.columns; taken = no_refusal (entries rule (schema_of t) (record_of (longs t.id) bytes)) takes.0 takes.1 }

    by : (o : Option Table) → table_with_id tables id ≡ o → IsSomeAnd o (λ t. IsIndexFor rule (with_newest_by longs trees t)) → IfSome o (IsKeptTable trees (longs id) (table_nodes trees id) []) → IsSomeAnd o (CanFill (longs id) rule (table_nodes other id))
    by None e h k = absurd h
    by (Some t) e h k =
        let number : t.id ≡ id = found_number id tables t e in
        let here : IsKeptTable trees (longs t.id) (table_nodes trees t.id) [] t = subst (λ (n : ℕ). IsKeptTable trees (longs n) (table_nodes trees n) [] t) (sym number) k in
        subst (λ (nodes : List Node). CanFill (longs id) rule nodes t) (sym (same id))
        (subst (λ (n : ℕ). CanFill (longs n) rule (table_nodes trees n) t) number
        (record { legal = h.legal; short = h.short; rows = λ bookmark. rows t h here bookmark (row_under (table_nodes trees t.id) bookmark) refl (here.rows bookmark) }))

-- ---- the trees with the new one

needs_one : (rule : IndexRule) → rule.flags.primary ≡ false → (t : Table) → needed_trees (with_index rule t) ≡ (t.id, (needed_trees t).1 ++ rule.id.0 ∷ [])
needs_one rule plain t =
    λ i. (t.id, (ap (map (λ (r : IndexRule). r.id.0)) (filter-append (λ r. not r.flags.primary) t.indexes (rule ∷ []) ∙ ap (λ b. secondary_rules t ++ cond (not b) (rule ∷ []) []) plain) ∙ map_last (λ (r : IndexRule). r.id.0) (secondary_rules t) rule) i)

ids_stay : (id : ℕ) (rule : IndexRule) (low high : ℕ) (tables : List Table) → ids_rise low high (with_table id (with_index rule) tables) ≡ ids_rise low high tables
ids_stay id rule low high [] = refl
ids_stay id rule low high (t ∷ tables) =
    ap (λ n. nat_lt low n && ids_rise n high (with_table id (with_index rule) tables)) (same (t.id == id)) ∙ ap (λ b. nat_lt low t.id && b) (ids_stay id rule t.id high tables)
  where
    same : (b : Bool) → (cond b (with_index rule t) t).id ≡ t.id
    same true = refl
    same false = refl

new_numbers : (id : ℕ) (rule : IndexRule) (greatest : ℕ) (tables : List Table) (trees other : List StoredTable) → ids_rise 0 greatest tables ≡ true → rule.flags.primary ≡ false → map tree_numbers trees ≡ map needed_trees tables
    → OnlyEntries id rule.id.0 (with_new_index id rule.id.0 trees) other → map tree_numbers other ≡ map needed_trees (with_table id (with_index rule) tables)
new_numbers id rule greatest tables trees other rise plain numbers only =
    numbers_needed other (with_new_index id rule.id.0 trees) (with_table id (with_index rule) tables)
    (distinct_ids (record { greatest_table = greatest; tables = with_table id (with_index rule) tables }) (ids_stay id rule 0 greatest tables ∙ rise))
    (changed_numbers id (λ ns. ns ++ rule.id.0 ∷ []) (with_index rule) (needs_one rule plain) (λ xs. xs ++ (rule.id.0, []) ∷ []) (λ xs. map_last (λ (x : StoredIndex). x.0) xs (rule.id.0, [])) 0 greatest tables trees rise numbers)
    only.changes.numbers only.changes.indexes

pub with_new : (longs : TableValues) → NewIndexLaws → (id : ℕ) (rule : IndexRule) (greatest : ℕ) (tables : List Table) (trees other : List StoredTable) → ((table : ℕ) → are_sorted (bookmark_entries (table_nodes trees table)) ≡ true) → ids_rise 0 greatest tables ≡ true → rule.flags.primary ≡ false
    → AreKeptWith longs tables trees [] → OnlyEntries id rule.id.0 (with_new_index id rule.id.0 trees) other
    → IfSome (table_with_id tables id) (λ t. HasNewestKeys (longs id) rule (table_nodes (with_new_index id rule.id.0 trees) id) (index_entries other id rule.id.0) (schema_of t)) → AreWithIndex longs id rule tables trees other
with_new longs laws id rule greatest tables trees other sorted rise plain kept only filled = record {
  nodes = λ table. only.changes.nodes table ∙ laws.nodes trees id table more;
  tables_stay = λ table apart.
      sym (laws.others other id table (without_where (is_index rule.id.0) (table_indexes other id)) (apart_from table id apart))
      ∙ ap (λ (t : List StoredTable). table_indexes t table) only.rest
      ∙ laws.others base id table (without_where (is_index rule.id.0) (table_indexes base id)) (apart_from table id apart)
      ∙ laws.others trees id table more (apart_from table id apart);
  others = λ index apart.
      sym (laws.without other id rule.id.0 index (apart_from index rule.id.0 apart)) ∙ ap (λ (t : List StoredTable). index_entries t id index) only.rest
      ∙ laws.without base id rule.id.0 index (apart_from index rule.id.0 apart) ∙ laws.entries trees id rule.id.0 index;
  own = λ t found plain key bookmark.
      has t found key bookmark
      ∙ ap (λ (nodes : List Node). is_newest_key (longs id) rule (schema_of t) nodes key bookmark) (laws.nodes trees id id more)
      ∙ sym (ap (λ (values : Option RecordFields). yields_key rule (schema_of t) key values) (record_at (longs id) (table_nodes trees id) (sorted id) bookmark));
  numbers = new_numbers id rule greatest tables trees other rise plain kept.numbers only;
}
  where
    more : List StoredIndex
    more = table_indexes trees id ++ (rule.id.0, []) ∷ []

    base : List StoredTable
    base = with_new_index id rule.id.0 trees

    has : (t : Table) → table_with_id tables id ≡ Some t → HasNewestKeys (longs id) rule (table_nodes base id) (index_entries other id rule.id.0) (schema_of t)
    has t found = subst (λ (o : Option Table). IfSome o (λ t. HasNewestKeys (longs id) rule (table_nodes base id) (index_entries other id rule.id.0) (schema_of t))) found filled

-- ---- and without it again

last_gone : (index : ℕ) (indexes : List StoredIndex) → list_any (is_index index) indexes ≡ false → without_where (is_index index) (indexes ++ (index, []) ∷ []) ≡ indexes
last_gone index [] h = ap (λ b. cond (not b) ((index, []) ∷ []) []) (self_equal index)
last_gone index (x ∷ indexes) h =
    ap (λ b. cond (not b) (x ∷ without_where (is_index index) (indexes ++ (index, []) ∷ [])) (without_where (is_index index) (indexes ++ (index, []) ∷ []))) (or_first (is_index index x) _ h)
    ∙ ap (λ (ys : List StoredIndex). x ∷ ys) (last_gone index indexes (or_second (is_index index x) _ h))

pub taken_back : (longs : TableValues) → IsNamed → (id index : ℕ) (greatest : ℕ) (tables : List Table) (trees other : List StoredTable) → ids_rise 0 greatest tables ≡ true → AreKeptWith longs tables trees [] → has_table trees id ≡ true → has_index trees id index ≡ false
    → OnlyEntries id index (with_new_index id index trees) other → without_tree id index other ≡ trees
taken_back longs named id index greatest tables trees other rise kept there absent only =
    only.rest
    ∙ ap (λ (l : List StoredIndex). with_indexes id (without_where (is_index index) l) (with_new_index id index trees)) (named trees id more there)
    ∙ ap (λ (l : List StoredIndex). with_indexes id l (with_new_index id index trees)) (last_gone index (table_indexes trees id) absent)
    ∙ changed_twice (is_table id) (put_indexes more) (put_indexes (table_indexes trees id)) (λ x. refl) (λ x. refl) trees
    ∙ same_indexes id 0 greatest tables trees rise kept.numbers
  where
    more : List StoredIndex
    more = table_indexes trees id ++ (index, []) ∷ []

-- ---- in a catalog

pub new_created : NewIndexLaws → (made : SchemaStep) (id : TableId) (rule : IndexRule) → made ≡ step.CreateIndex id rule → (was : CatalogState) (trees : List StoredTable) → ((table : ℕ) → are_sorted (bookmark_entries (table_nodes trees table)) ≡ true) → IsNumbered was
    → rule.flags.primary ≡ false → IsSomeAnd (table_with_id (map (with_newest_by (table_long_values trees) trees) was.tables) id.0) (IsIndexFor rule) → AreKeptWith (table_long_values trees) was.tables trees [] → (is : CatalogState) → is ≡ catalog_after was made → (base other : List StoredTable) → base ≡ with_new_index id.0 rule.id.0 trees
    → OnlyEntries id.0 rule.id.0 base other → IfSome (table_with_id was.tables id.0) (λ t. HasNewestKeys (table_long_values trees id.0) rule (table_nodes base id.0) (index_entries other id.0 rule.id.0) (schema_of t)) → KeepsValues trees other → AreCounted other [] → IsMade made was trees is other
new_created laws made id rule step_is was trees sorted rise plain fit kept is is_after base other base_is only filled keeps counts =
    index_created made id rule step_is was trees sorted fit kept is is_after other
    (with_new (table_long_values trees) laws id.0 rule was.greatest_table was.tables trees other sorted rise plain kept (subst (λ (b : List StoredTable). OnlyEntries id.0 rule.id.0 b other) base_is only)
    (subst (λ (b : List StoredTable). IfSome (table_with_id was.tables id.0) (λ t. HasNewestKeys (table_long_values trees id.0) rule (table_nodes b id.0) (index_entries other id.0 rule.id.0) (schema_of t))) base_is filled)) keeps counts
