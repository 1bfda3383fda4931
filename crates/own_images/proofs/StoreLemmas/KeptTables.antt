-- The tables of a consistent image are those of a store.
use Rattle.std.proofs.Common.{◌≡◌, ℕ, Bool, true, false, not, ◌&&◌, ◌||◌, List, Option, Some, None, refl, sym, ap, subst, ◌∙◌, bytes_eq}
use Rattle.std.specs.Prelude.{◌==◌, map, option_map, IfSome}
use Rattle.std.specs.List.{AllByRecursion, flat_map}
use Rattle.std.proofs.lemmas.Bool.{eqb-true}
use Rattle.std.proofs.lemmas.Grind.{flat_map-append}
use Rattle.std.proofs.lemmas.List.Folds.{list_any-append}
use Rattle.common_lemmas.proofs.Found.{found_passes, of_found}
use Rattle.common_lemmas.proofs.Lists.{all_filter, all_weaker, filter_all}
use Rattle.cursor_nav.specs.Places.{Pair}
use Rattle.database_state.specs.Conflicts.{yields_key}
use Rattle.database_state.specs.State.{is_undone}
use Rattle.database_state.specs.Table.{Table, row_at, schema_of, table_with_id}
use Rattle.index_derive.specs.declared.rules.IndexRule.{IndexRule}
use Rattle.index_tree.specs.Entries.{entry_of_node}
use Rattle.laws_engine.proofs.TableLemmas.ShownEntries.{order_is}
use Rattle.laws_engine.specs.Holding.{RowsRise}
use Rattle.laws_engine.specs.Variants.{HoldsVariants, is_variant_key}
use Rattle.laws_versions.specs.KeptEntries.{has_entry}
use Rattle.live_part.specs.LiveBytes.{standing}
use Rattle.long_value.specs.Values.{Values}
use Rattle.page_image.specs.Page.{Node}
use Rattle.stored_variants.specs.RecordRows.{TableValues, held_record_in, rows_of_nodes}
use Rattle.stored_variants.specs.VersionsKept.{IsKeptTable, IsStoredRule, secondary_rule, secondary_rules}
use Rattle.table_trees.specs.StoredTables.{index_entries, table_long_values, table_nodes}
use Rattle.version_store.specs.HeldChanges.{HeldChange}
use Rattle.image_findings.specs.EntryFindings.{index_finding, pairs_of, row_before, variants_of}
use Rattle.image_findings.specs.OwnRules.{HasIndexTrees, HasItsNodes}
use Rattle.image_findings.specs.SoundRows.{HasOwnRecords, HasRowsUnder, HasSoundRows}
use Rattle.image_findings.specs.TableContents.{TableContents, contents_with_id, long_values}
use Rattle.own_images.proofs.EntryLists.{HoldsOwn, entries_before, entries_of_rows}
use Rattle.own_images.proofs.StoreLemmas.IndexNodes.{entries_are_wanted}
use Rattle.own_images.proofs.StoreLemmas.KeptRows.{IsKnownBeside, each_row_under, stands, variant_rows}
use Rattle.own_images.proofs.StoreLemmas.Lookups.{found_plain, longs_found, nodes_found, plain_tables, trees_of}
use Rattle.own_images.proofs.StoreLemmas.IndexRules.{IsSecondary, among_secondary, entries_are, is_secondary, nodes_are}

-- What is known of a table of a consistent image.
pub record IsKnownTable (number : ℕ) (held : List HeldChange) (tables : List TableContents) (t : TableContents) : Type 0 where
  pub found : contents_with_id tables t.table.id ≡ Some t
  pub rules : AllByRecursion (IsStoredRule t.table) t.table.indexes
  pub trees : HasIndexTrees t
  pub sorted : RowsRise (rows_of_nodes (long_values t) t.nodes)
  pub records : HasOwnRecords t
  pub under : HasRowsUnder t
  pub rows : HasSoundRows number held t
  pub beside : AllByRecursion (IsKnownBeside t) held
  pub entries : AllByRecursion (λ (index : IndexRule × List Node). index_finding held t index ≡ None) t.indexes

-- ---- entries

-- no change is undone, and one that is no put and no drop has no row before it
pub record IsPlainChange (h : HeldChange) : Type 0 where
  pub stands : is_undone h.status ≡ false
  pub own : HoldsOwn h

all_stand : (held : List HeldChange) → AllByRecursion IsPlainChange held → standing held ≡ held
all_stand held all = filter_all (λ (h : HeldChange). not (is_undone h.status)) held (all_weaker IsPlainChange (λ (h : HeldChange). not (is_undone h.status) ≡ true) (λ h p. ap not p.stands) held all)

variants_are : (longs : TableValues) (held : List HeldChange) (t : TableContents) (rule : IndexRule) → longs t.table.id ≡ long_values t → RowsRise (rows_of_nodes (long_values t) t.nodes) → AllByRecursion IsPlainChange held → (key bookmark : List ℕ)
    → has_entry key bookmark (flat_map (pairs_of rule (schema_of t.table)) (variants_of held t))
    ≡ is_variant_key (row_at (rows_of_nodes (long_values t) t.nodes) bookmark) (map (held_record_in longs) held) rule (schema_of t.table) t.table.id key bookmark
variants_are longs held t rule same sorted plain key bookmark =
    let pairs = pairs_of rule (schema_of t.table) in
    let rows = rows_of_nodes (long_values t) t.nodes in
    let befores = flat_map (row_before t) held in
    ap (has_entry key bookmark) (flat_map-append pairs rows befores)
    ∙ list_any-append (λ (p : Pair). bytes_eq p.0 key && bytes_eq p.1 bookmark) (flat_map pairs rows) (flat_map pairs befores)
    ∙ ap (λ (b : Bool). b || has_entry key bookmark (flat_map pairs befores)) (entries_of_rows rule (schema_of t.table) rows key bookmark (order_is rows sorted))
    ∙ ap (λ (b : Bool). yields_key rule (schema_of t.table) key (row_at rows bookmark) || b)
    (ap (λ (l : List HeldChange). has_entry key bookmark (flat_map pairs (flat_map (row_before t) l))) (sym (all_stand held plain))
    ∙ entries_before longs t rule (schema_of t.table) key bookmark held same (all_weaker IsPlainChange HoldsOwn (λ h p. p.own) held plain))

rule_of_table : (t : Table) (index : ℕ) (rule : IndexRule) (P : IndexRule → Type 0) → IsSecondary t index rule → AllByRecursion P t.indexes → P rule
rule_of_table t index rule P is all = of_found P (λ (r : IndexRule). r.id.0 == index) (secondary_rules t) rule (among_secondary t index rule is) (all_filter P (λ (r : IndexRule). not r.flags.primary) t.indexes all)

holds_entries : (number : ℕ) (held : List HeldChange) (tables : List TableContents) (t : TableContents) (index : ℕ) (rule : IndexRule) → IsKnownTable number held tables t → AllByRecursion IsPlainChange held → IsSecondary t.table index rule
    → HoldsVariants (rows_of_nodes (long_values t) t.nodes) (map (held_record_in (table_long_values (trees_of tables))) held) rule (schema_of t.table) t.table.id (index_entries (trees_of tables) t.table.id index)
holds_entries number held tables t index rule k plain is key bookmark =
    let has : HasItsNodes t rule = rule_of_table t.table index rule (λ (r : IndexRule). r.flags.primary ≡ false → HasItsNodes t r) is k.trees is.plain in
    let none : index_finding held t (rule, has.nodes) ≡ None = of_found (λ (x : IndexRule × List Node). index_finding held t x ≡ None) (λ (x : IndexRule × List Node). x.0.id.0 == rule.id.0) t.indexes (rule, has.nodes) has.found k.entries in
    ap (has_entry key bookmark) (entries_are tables t index rule k.found is ∙ ap (map entry_of_node) (nodes_are t rule has))
    ∙ entries_are_wanted held t rule has.nodes (variant_rows number held t k.rows k.beside) none key bookmark
    ∙ variants_are (table_long_values (trees_of tables)) held t rule (longs_found tables t.table.id t k.found) k.sorted plain key bookmark

-- ---- a table

kept_by_contents : (number : ℕ) (held : List HeldChange) (tables : List TableContents) (t : TableContents) → IsKnownTable number held tables t → AllByRecursion IsPlainChange held
    → IsKeptTable (trees_of tables) (long_values t) t.nodes (map (held_record_in (table_long_values (trees_of tables))) held) t.table
kept_by_contents number held tables t k plain = record {
  rules = k.rules;
  rows = each_row_under t k.under;
  stands = stands number (table_long_values (trees_of tables)) held t k.records k.rows;
  entries = λ index. by index (secondary_rule t.table index) refl;
}
  where
    by : (index : ℕ) (o : Option IndexRule) → secondary_rule t.table index ≡ o
        → IfSome o (λ rule. HoldsVariants (rows_of_nodes (long_values t) t.nodes) (map (held_record_in (table_long_values (trees_of tables))) held) rule (schema_of t.table) t.table.id (index_entries (trees_of tables) t.table.id index))
    by index None e = tt
    by index (Some rule) e = holds_entries number held tables t index rule k plain (is_secondary t.table index rule e)

pub kept_table : (number : ℕ) (held : List HeldChange) (tables : List TableContents) (t : TableContents) → IsKnownTable number held tables t → AllByRecursion IsPlainChange held
    → IsKeptTable (trees_of tables) (table_long_values (trees_of tables) t.table.id) (table_nodes (trees_of tables) t.table.id) (map (held_record_in (table_long_values (trees_of tables))) held) t.table
kept_table number held tables t k plain =
    subst (λ (v : Values). IsKeptTable (trees_of tables) v (table_nodes (trees_of tables) t.table.id) (map (held_record_in (table_long_values (trees_of tables))) held) t.table) (sym (longs_found tables t.table.id t k.found))
    (subst (λ (l : List Node). IsKeptTable (trees_of tables) (long_values t) l (map (held_record_in (table_long_values (trees_of tables))) held) t.table) (sym (nodes_found tables t.table.id t k.found)) (kept_by_contents number held tables t k plain))

id_of : (tables : List TableContents) (id : ℕ) (t : TableContents) → contents_with_id tables id ≡ Some t → t.table.id ≡ id
id_of tables id t e = eqb-true t.table.id id (found_passes (λ (u : TableContents). u.table.id == id) tables t e)

pub each_kept : (number : ℕ) (held : List HeldChange) (tables : List TableContents) → AllByRecursion (IsKnownTable number held tables) tables → AllByRecursion IsPlainChange held → (id : ℕ)
    → IfSome (table_with_id (plain_tables tables) id) (IsKeptTable (trees_of tables) (table_long_values (trees_of tables) id) (table_nodes (trees_of tables) id) (map (held_record_in (table_long_values (trees_of tables))) held))
each_kept number held tables known plain id = subst (λ (o : Option Table). IfSome o (IsKeptTable (trees_of tables) (table_long_values (trees_of tables) id) (table_nodes (trees_of tables) id) (map (held_record_in (table_long_values (trees_of tables))) held))) (sym (found_plain tables id)) (by (contents_with_id tables id) refl)
  where
    by : (o : Option TableContents) → contents_with_id tables id ≡ o → IfSome (option_map (λ (t : TableContents). t.table) o) (IsKeptTable (trees_of tables) (table_long_values (trees_of tables) id) (table_nodes (trees_of tables) id) (map (held_record_in (table_long_values (trees_of tables))) held))
    by None e = tt
    by (Some t) e =
        subst (λ (k : ℕ). IsKeptTable (trees_of tables) (table_long_values (trees_of tables) k) (table_nodes (trees_of tables) k) (map (held_record_in (table_long_values (trees_of tables))) held) t.table) (id_of tables id t e)
        (kept_table number held tables t (of_found (IsKnownTable number held tables) (λ (u : TableContents). u.table.id == id) tables t e known) plain)
