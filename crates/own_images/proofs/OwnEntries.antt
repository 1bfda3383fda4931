-- The entries of the indexes of a store are those of all variants of its records.
use Rattle.std.proofs.Common.{◌≡◌, ℕ, Bool, true, false, not, ◌||◌, List, [], ◌∷◌, Option, Some, None, refl, sym, ap, subst, ◌∙◌, ◌&&◌, bytes_eq}
use Rattle.std.specs.Prelude.{filter, map, IfSome, if◌then◌else◌}
use Rattle.std.specs.List.{AllByRecursion, flat_map, list_any}
use Rattle.std.specs.Option.{option_or}
use Rattle.std.proofs.lemmas.Grind.{flat_map-append}
use Rattle.std.proofs.lemmas.List.Folds.{list_any-append}
use Rattle.catalog_grammar.specs.CatalogSteps.{Roots, rooted}
use Rattle.catalog_grammar.specs.Catalogs.{CatalogTable, TableRoots, by_number, catalog_table}
use Rattle.common_lemmas.proofs.Lists.{all_map, all_weaker}
use Rattle.cursor_nav.specs.Places.{Pair, are_sorted}
use Rattle.database_state.specs.Conflicts.{yields_key}
use Rattle.database_state.specs.Table.{Rows, Table, row_at, schema_of, table_with_id}
use Rattle.index_derive.specs.declared.rules.IndexRule.{IndexRule}
use Rattle.index_tree.specs.Entries.{entry_of_node, node_of_entry}
use Rattle.laws_engine.proofs.TableLemmas.ShownEntries.{order_is}
use Rattle.laws_engine.specs.Variants.{HoldsVariants, is_variant_key}
use Rattle.laws_images.specs.SoundStates.{IsSoundTable}
use Rattle.laws_versions.proofs.IndexLemmas.SameEntries.{same_sorted}
use Rattle.laws_versions.specs.KeptEntries.{has_entry}
use Rattle.live_part.specs.LiveBytes.{standing}
use Rattle.long_value.specs.Values.{Values}
use Rattle.page_image.specs.Page.{Node}
use Rattle.page_space.specs.Frames.{Frames}
use Rattle.stored_variants.proofs.RisingRows.{rows_rise}
use Rattle.stored_variants.specs.RecordRows.{held_record_in, rows_of_nodes}
use Rattle.stored_variants.specs.VersionsKept.{IsKeptChange, IsKeptTable, IsStoredRule, only_secondary, secondary_rule}
use Rattle.table_trees.specs.StoredNodes.{bookmark_entries}
use Rattle.table_trees.specs.StoredTables.{index_entries, table_long_values, table_nodes}
use Rattle.table_trees.specs.StoredTrees.{roots_by_number}
use Rattle.version_store.specs.HeldChanges.{HeldChange}
use Rattle.image_findings.specs.CatalogFindings.{is_same_node}
use Rattle.image_findings.specs.EntryFindings.{differing, entry_finding, found_entry, in_order, index_finding, pairs_of, row_before, stored_entries, stored_entry, variants_of, wanted_entries}
use Rattle.image_findings.specs.Images.{Finding, first_of}
use Rattle.image_findings.specs.TableContents.{TableContents, contents_below, long_values}
use Rattle.own_images.proofs.Contents.{own_contents, shown}
use Rattle.own_images.proofs.Differing.{all_both, found_each}
use Rattle.own_images.proofs.EntryLists.{HoldsOwn, any_in_order, entries_before, entries_of_rows, nothing_differs, sorted_in_order}
use Rattle.own_images.proofs.Making.{all_numbered, table_again}
use Rattle.own_images.proofs.Missing.{IsOfCatalog, of_catalog}
use Rattle.own_images.proofs.ReadBack.{parts, same_node}
use Rattle.own_images.proofs.SoundParts.{ids_differ}
use Rattle.own_images.proofs.Walked.{WalkLaws}
use Rattle.own_images.specs.OwnContents.{AreNodesOf, HasOwnContents}
use Rattle.own_images.specs.OwnStores.{IsOwnStore, OwnStore, contents_of}

-- ---- the rules of the indexes that are shown

abbrev pub IsSecondary : Table → IndexRule × List Node → Type 0
IsSecondary table index = secondary_rule table index.0.id.0 ≡ Some index.0

abbrev IsSecondaryRule : Table → IndexRule → Type 0
IsSecondaryRule table rule = rule.flags.primary ≡ false → secondary_rule table rule.id.0 ≡ Some rule

found_rule : (table : Table) (rule : IndexRule) → IsStoredRule table rule → IsSecondaryRule table rule
found_rule table rule stored e = ap only_secondary stored.found ∙ ap (λ (b : Bool). if b then None else Some rule) e

shown_rules : (frames : Frames) (root : ℕ → ℕ) (table : Table) (rules : List IndexRule) → AllByRecursion (IsSecondaryRule table) rules
    → AllByRecursion (IsSecondary table) (map (shown frames) (filter (λ (index : ℕ × IndexRule). not index.1.flags.primary) (map (λ (rule : IndexRule). (root rule.id.0, rule)) rules)))
shown_rules frames root table [] h = tt
shown_rules frames root table (rule ∷ rules) h = at rule.flags.primary h.0 (shown_rules frames root table rules h.1)
  where
    at : (b : Bool) → (b ≡ false → secondary_rule table rule.id.0 ≡ Some rule)
        → AllByRecursion (IsSecondary table) (map (shown frames) (filter (λ (index : ℕ × IndexRule). not index.1.flags.primary) (map (λ (r : IndexRule). (root r.id.0, r)) rules)))
        → AllByRecursion (IsSecondary table) (map (shown frames) (if not b then (root rule.id.0, rule) ∷ filter (λ (index : ℕ × IndexRule). not index.1.flags.primary) (map (λ (r : IndexRule). (root r.id.0, r)) rules) else filter (λ (index : ℕ × IndexRule). not index.1.flags.primary) (map (λ (r : IndexRule). (root r.id.0, r)) rules)))
    at true one rest = rest
    at false one rest = (one refl, rest)

abbrev pub HasRules : TableContents → Type 0
HasRules t = AllByRecursion (IsSecondary t.table) t.indexes

table_rules : (frames : Frames) (roots : TableRoots) (table : Table) → IsSoundTable table → AllByRecursion (IsStoredRule table) table.indexes → HasRules (contents_below frames (catalog_table (table, roots)))
table_rules frames roots table sound rules =
    subst (λ (u : Table). AllByRecursion (IsSecondary u) (contents_below frames (catalog_table (table, roots))).indexes) (sym (table_again table roots sound.indexes_differ))
    (shown_rules frames roots.indexes table (by_number table.indexes) (all_numbered (IsSecondaryRule table) table.indexes (all_weaker (IsStoredRule table) (IsSecondaryRule table) (found_rule table) table.indexes rules)))

pub own_rules : (store : OwnStore) → IsOwnStore store → AllByRecursion HasRules (contents_of store)
own_rules store own =
    let roots = roots_by_number store.trees.catalog.roots in
    let trees = store.trees.tables in
    let tables = store.catalog.tables in
    all_map HasRules (contents_below store.frames) (map (rooted roots) tables)
    (all_map (λ (x : CatalogTable). HasRules (contents_below store.frames x)) (rooted roots) tables
    (all_both IsSoundTable (λ (t : Table). table_with_id tables t.id ≡ Some t) (λ (t : Table). HasRules (contents_below store.frames (rooted roots t)))
    (λ t sound found. table_rules store.frames (roots t.id) t sound
    (subst (λ (o : Option Table). IfSome o (IsKeptTable trees (table_long_values trees t.id) (table_nodes trees t.id) (map (held_record_in (table_long_values trees)) store.held))) found (own.kept.kept.each t.id)).rules)
    tables (parts store own).tables (found_each (λ (t : Table). t.id) tables (ids_differ tables (parts store own).ids))))

-- ---- stored entries

abbrev pair_first : Pair → List Pair → Pair
pair_first d [] = d
pair_first d (p ∷ pairs) = p

abbrev pairs_rest : List Pair → List Pair
pairs_rest [] = []
pairs_rest (p ∷ pairs) = pairs

read_again : (entries : List Pair) → map entry_of_node (map node_of_entry entries) ≡ entries → map stored_entry (map node_of_entry entries) ≡ entries
read_again [] h = refl
read_again (e ∷ entries) h =
    let same : entry_of_node (node_of_entry e) ≡ e = ap (pair_first e) h in
    let own : is_same_node (node_of_entry (entry_of_node (node_of_entry e))) (node_of_entry e) ≡ true = ap (λ (x : Pair). is_same_node (node_of_entry x) (node_of_entry e)) same ∙ same_node (node_of_entry e) in
    let first : stored_entry (node_of_entry e) ≡ e = ap (λ (b : Bool). if b then entry_of_node (node_of_entry e) else ((node_of_entry e).key, [])) own ∙ same in
    λ i. first i ∷ read_again entries (ap pairs_rest h) i

in_order_again : (entries : List Pair) → are_sorted entries ≡ true → in_order entries ≡ entries
in_order_again entries sorted = same_sorted (in_order entries) entries (sorted_in_order entries) sorted (λ key bookmark. any_in_order key bookmark entries)

stored_are : (nodes : List Node) (entries : List Pair) → AreNodesOf nodes entries → are_sorted entries ≡ true → stored_entries nodes ≡ entries
stored_are nodes entries h sorted =
    ap in_order (ap (map stored_entry) h.0 ∙ read_again entries (ap (map entry_of_node) (sym h.0) ∙ h.1)) ∙ in_order_again entries sorted

-- ---- one table

pub first_none : {X : Type 0} (f : X → Option Finding) (xs : List X) → AllByRecursion (λ x. f x ≡ None) xs → first_of (map f xs) ≡ None
first_none f [] h = refl
first_none f (x ∷ xs) h = ap (λ (o : Option Finding). option_or o (first_of (map f xs))) h.0 ∙ first_none f xs h.1

all_own : (store : OwnStore) (held : List HeldChange) → AllByRecursion (IsKeptChange (table_long_values store.trees.tables) store.catalog.tables store.trees.tables) held → AllByRecursion HoldsOwn held
all_own store held all = all_weaker (IsKeptChange (table_long_values store.trees.tables) store.catalog.tables store.trees.tables) HoldsOwn (λ h kept. kept.other) held all

none_of_index : (store : OwnStore) → IsOwnStore store → (t : TableContents) → HasOwnContents store.trees.tables t → IsOfCatalog store t → (index : IndexRule × List Node) → AreNodesOf index.1 (index_entries store.trees.tables t.table.id index.0.id.0) → IsSecondary t.table index
    → index_finding (standing store.held) t index ≡ None
none_of_index store own t contents is index nodes rule_is =
    let entries = index_entries store.trees.tables t.table.id index.0.id.0 in
    let sorted = own.entries t.table.id index.0.id.0 in
    ap (λ (stored : List Pair). differing (found_entry t index.0) stored (wanted_entries (standing store.held) t index.0)) (stored_are index.1 entries nodes sorted)
    ∙ ap (differing (found_entry t index.0) entries) (same_sorted (wanted_entries (standing store.held) t index.0) entries (sorted_in_order wanted) sorted (λ key bookmark. any_in_order key bookmark wanted ∙ variants key bookmark ∙ sym (holds key bookmark)))
    ∙ nothing_differs (found_entry t index.0) entries
  where
    wanted : List Pair
    wanted = flat_map (pairs_of index.0 (schema_of t.table)) (variants_of (standing store.held) t)

    kept : IsKeptTable store.trees.tables (table_long_values store.trees.tables t.table.id) (table_nodes store.trees.tables t.table.id) (map (held_record_in (table_long_values store.trees.tables)) store.held) t.table
    kept = subst (λ (o : Option Table). IfSome o (IsKeptTable store.trees.tables (table_long_values store.trees.tables t.table.id) (table_nodes store.trees.tables t.table.id) (map (held_record_in (table_long_values store.trees.tables)) store.held))) is (own.kept.kept.each t.table.id)

    rows_are : rows_of_nodes (table_long_values store.trees.tables t.table.id) (table_nodes store.trees.tables t.table.id) ≡ rows_of_nodes (long_values t) t.nodes
    rows_are = ap (λ (v : Values). rows_of_nodes v (table_nodes store.trees.tables t.table.id)) (sym contents.long_values) ∙ ap (rows_of_nodes (long_values t)) (sym contents.nodes)

    holds : HoldsVariants (rows_of_nodes (long_values t) t.nodes) (map (held_record_in (table_long_values store.trees.tables)) store.held) index.0 (schema_of t.table) t.table.id (index_entries store.trees.tables t.table.id index.0.id.0)
    holds =
        subst (λ (rows : Rows). HoldsVariants rows (map (held_record_in (table_long_values store.trees.tables)) store.held) index.0 (schema_of t.table) t.table.id (index_entries store.trees.tables t.table.id index.0.id.0)) rows_are
        (subst (λ (o : Option IndexRule). IfSome o (λ rule. HoldsVariants (rows_of_nodes (table_long_values store.trees.tables t.table.id) (table_nodes store.trees.tables t.table.id)) (map (held_record_in (table_long_values store.trees.tables)) store.held) rule (schema_of t.table) t.table.id (index_entries store.trees.tables t.table.id index.0.id.0))) rule_is (kept.entries index.0.id.0))

    rows_sorted : are_sorted (bookmark_entries t.nodes) ≡ true
    rows_sorted = ap (λ (nodes : List Node). are_sorted (bookmark_entries nodes)) contents.nodes ∙ own.nodes t.table.id

    variants : (key bookmark : List ℕ) → has_entry key bookmark (flat_map (pairs_of index.0 (schema_of t.table)) (variants_of (standing store.held) t))
        ≡ is_variant_key (row_at (rows_of_nodes (long_values t) t.nodes) bookmark) (map (held_record_in (table_long_values store.trees.tables)) store.held) index.0 (schema_of t.table) t.table.id key bookmark
    variants key bookmark =
        let pairs = pairs_of index.0 (schema_of t.table) in
        let rows = rows_of_nodes (long_values t) t.nodes in
        let befores = flat_map (row_before t) (standing store.held) in
        ap (has_entry key bookmark) (flat_map-append pairs rows befores)
        ∙ list_any-append (λ (p : Pair). bytes_eq p.0 key && bytes_eq p.1 bookmark) (flat_map pairs rows) (flat_map pairs befores)
        ∙ ap (λ (b : Bool). b || has_entry key bookmark (flat_map pairs befores)) (entries_of_rows index.0 (schema_of t.table) rows key bookmark (order_is rows (rows_rise (long_values t) t.nodes rows_sorted)))
        ∙ ap (λ (b : Bool). yields_key index.0 (schema_of t.table) key (row_at rows bookmark) || b)
        (entries_before (table_long_values store.trees.tables) t index.0 (schema_of t.table) key bookmark store.held (sym contents.long_values) (all_own store store.held own.kept.kept.changes))

none_of_table : (store : OwnStore) → IsOwnStore store → (t : TableContents) → HasOwnContents store.trees.tables t → IsOfCatalog store t → HasRules t → entry_finding (standing store.held) t ≡ None
none_of_table store own t contents is rules =
    first_none (index_finding (standing store.held) t) t.indexes
    (all_both (λ (index : IndexRule × List Node). AreNodesOf index.1 (index_entries store.trees.tables t.table.id index.0.id.0)) (IsSecondary t.table) (λ (index : IndexRule × List Node). index_finding (standing store.held) t index ≡ None)
    (none_of_index store own t contents is) t.indexes contents.indexes rules)

pub own_entries : WalkLaws → (store : OwnStore) → IsOwnStore store → AllByRecursion (λ t. entry_finding (standing store.held) t ≡ None) (contents_of store)
own_entries laws store own =
    all_both (λ (t : TableContents). HasOwnContents store.trees.tables t × IsOfCatalog store t) HasRules (λ t. entry_finding (standing store.held) t ≡ None)
    (λ t known rules. none_of_table store own t known.0 known.1 rules) (contents_of store)
    (all_both (HasOwnContents store.trees.tables) (IsOfCatalog store) (λ (t : TableContents). HasOwnContents store.trees.tables t × IsOfCatalog store t) (λ t contents is. (contents, is)) (contents_of store) (own_contents laws store own) (of_catalog store own))
    (own_rules store own)
