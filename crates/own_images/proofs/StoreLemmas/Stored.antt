-- The trees of the tables of a consistent image are those of a store.
use Rattle.std.proofs.Common.{◌≡◌, ◌≤◌, ℕ, List, [], ◌∷◌, None, ap}
use Rattle.std.specs.Prelude.{◌==◌, map}
use Rattle.std.specs.List.{AllByRecursion}
use Rattle.std.specs.List.Sorted.{IsStrictlySortedBy}
use Rattle.std.specs.Ordering.{ordering_then}
use Rattle.std.specs.declared.cmp.Ordering.{Ordering}
use Rattle.std.specs.declared.cmp.Ordering.TheVariants.{Less}
use Rattle.std.proofs.lemmas.List.Elements.{All-from_recursion}
use Rattle.btree_inplace.specs.Shape.{entries}
use Rattle.catalog_grammar.specs.Catalogs.{CatalogTable}
use Rattle.common_lemmas.proofs.Lists.{all_weaker}
use Rattle.cursor_nav.specs.Places.{Pair}
use Rattle.common_lemmas.proofs.Found.{of_found}
use Rattle.database_state.specs.Table.{primary_first}
use Rattle.index_derive.specs.declared.rules.IndexRule.{IndexRule}
use Rattle.laws_versions.proofs.KeyLemmas.IndexNumbers.{all_primary_first}
use Rattle.laws_versions.proofs.IndexLemmas.PairOrder.{IsRising, pair_cmp, sorted-rising}
use Rattle.long_value.specs.Values.{LongValue}
use Rattle.page_image.specs.Page.{DataFits, HasRisingKeys, IsBelow, Node}
use Rattle.page_space.specs.Frames.{Frames}
use Rattle.stored_variants.specs.VersionsKept.{IsStoredRule}
use Rattle.table_trees.specs.StoredNodes.{IsShortNode, bookmark_entries}
use Rattle.tree_check.specs.Walks.{tree_depth}
use Rattle.version_store.specs.HeldChanges.{HeldChange}
use Rattle.image_findings.specs.CountFindings.{count_finding}
use Rattle.image_findings.specs.EntryFindings.{index_finding}
use Rattle.image_findings.specs.Findings.{contents_in, told_in}
use Rattle.image_findings.specs.ImageBytes.{IsOfBytes}
use Rattle.image_findings.specs.Images.{ImageContents}
use Rattle.image_findings.specs.OwnRules.{IsOwnRule}
use Rattle.image_findings.specs.TableContents.{TableContents, contents_below, long_values}
use Rattle.own_images.proofs.Differing.{all_both}
use Rattle.own_images.proofs.StoreLemmas.Consistent.{known_tables}
use Rattle.own_images.proofs.StoreLemmas.Counts.{IsCounted, each_counted}
use Rattle.own_images.proofs.StoreLemmas.IndexNodes.{first_below, index_nodes, rest_rises}
use Rattle.own_images.proofs.StoreLemmas.KeptRows.{IsSoundNode, sound_nodes, variant_rows}
use Rattle.own_images.proofs.StoreLemmas.KeptTables.{IsKnownTable}
use Rattle.own_images.proofs.StoreLemmas.TreeNodes.{below, data_fit}
use Rattle.own_images.specs.StoredContents.{AreIndexNodes, AreTreeNodes, HasStoredParts, HasStoredTrees, HaveTreeNodes, held_of}

-- ---- nodes by their bookmarks

twice : (o : Ordering) → o ≡ Less → ordering_then o o ≡ Less
twice o e = ap (λ (p : Ordering). ordering_then p p) e

own_pairs_above : (m : Node) (nodes : List Node) → AllByRecursion (λ (n : Node). IsBelow m.key n.key) nodes → AllByRecursion (λ (q : Pair). pair_cmp (m.key, m.key) q ≡ Less) (bookmark_entries nodes)
own_pairs_above m [] all = tt
own_pairs_above m (n ∷ nodes) all = (twice _ all.0, own_pairs_above m nodes all.1)

own_pairs_rise : (nodes : List Node) → HasRisingKeys nodes → IsRising (bookmark_entries nodes)
unfolding IsStrictlySortedBy
own_pairs_rise [] h = tt
own_pairs_rise (m ∷ nodes) h = (own_pairs_above m nodes (first_below m nodes h), own_pairs_rise nodes (rest_rises m nodes h))

short_node : (held : List HeldChange) (t : TableContents) (n : Node) → IsSoundNode held t n → DataFits n → IsShortNode n
short_node held t n sound fits = record { some = sound.some; bookmark = sound.most; row = fits; extent = sound.extent }

fit_below : (frames : Frames) (x : CatalogTable) → AllByRecursion DataFits (entries (tree_depth frames x.table.records) frames x.table.records) → AllByRecursion DataFits (contents_below frames x).nodes
fit_below frames x h = h

each_fits : (frames : Frames) → ((depth page : ℕ) → AllByRecursion DataFits (entries depth frames page)) → (xs : List CatalogTable) → AllByRecursion (λ (t : TableContents). AllByRecursion DataFits t.nodes) (map (contents_below frames) xs)
each_fits frames h [] = tt
each_fits frames h (x ∷ xs) = (fit_below frames x (h (tree_depth frames x.table.records) x.table.records), each_fits frames h xs)

-- ---- the indexes

own_rule : (t : TableContents) (index : IndexRule × List Node) → AllByRecursion (IsStoredRule t.table) t.table.indexes → IsOwnRule t.table index → IsStoredRule t.table index.0
own_rule t index all own = of_found (IsStoredRule t.table) (λ (r : IndexRule). r.id.0 == index.0.id.0) (primary_first t.table.indexes) index.0 own (all_primary_first (IsStoredRule t.table) t.table.indexes all)

index_trees_stored : (number : ℕ) (held : List HeldChange) (tables : List TableContents) (t : TableContents) → IsKnownTable number held tables t → AllByRecursion (λ (index : IndexRule × List Node). AreTreeNodes index.1) t.indexes → AllByRecursion (IsOwnRule t.table) t.indexes
    → AllByRecursion (λ (index : IndexRule × List Node). AreIndexNodes index.1) t.indexes
index_trees_stored number held tables t k nodes own =
    all_both (λ (index : IndexRule × List Node). AreTreeNodes index.1) (λ (index : IndexRule × List Node). IsOwnRule t.table index × (index_finding held t index ≡ None)) (λ (index : IndexRule × List Node). AreIndexNodes index.1)
    (λ index tree known. let rule = own_rule t index k.rules known.0 in index_nodes held t index.0 index.1 rule.legal rule.short (variant_rows number held t k.rows k.beside) tree known.1) t.indexes nodes
    (all_both (IsOwnRule t.table) (λ (index : IndexRule × List Node). index_finding held t index ≡ None) (λ (index : IndexRule × List Node). IsOwnRule t.table index × (index_finding held t index ≡ None)) (λ index a b. (a, b)) t.indexes own k.entries)

-- ---- the whole

record IsHere (image : ImageContents) (t : TableContents) : Type 0 where
  known : IsKnownTable image.number (held_of image) (contents_in image) t
  fits : AllByRecursion DataFits t.nodes
  counts : count_finding (held_of image) t ≡ None
  own : AllByRecursion (IsOwnRule t.table) t.indexes

stored : (image : ImageContents) (t : TableContents) → IsHere image t → HaveTreeNodes t → HasStoredTrees t
stored image t here nodes = record {
  rising = sorted-rising (bookmark_entries t.nodes) (own_pairs_rise t.nodes nodes.records.rising);
  short = All-from_recursion IsShortNode t.nodes (all_both (IsSoundNode (held_of image) t) DataFits IsShortNode (short_node (held_of image) t) t.nodes (sound_nodes image.number (held_of image) t here.known.rows) here.fits);
  indexes = index_trees_stored image.number (held_of image) (contents_in image) t here.known nodes.indexes here.own;
  counted = all_weaker (λ (row : List ℕ × LongValue). IsCounted (held_of image) t row.0 row.1) (λ (row : List ℕ × LongValue). 1 ≤ row.1.count) (λ row c. c.some) (long_values t) (each_counted (held_of image) t here.counts);
}

all_here : (image : ImageContents) → IsOfBytes image → HasStoredParts image → AllByRecursion (IsHere image) (contents_in image)
all_here image bytes parts =
    let tables = contents_in image in
    all_both (IsKnownTable image.number (held_of image) tables) (λ (t : TableContents). AllByRecursion DataFits t.nodes × ((count_finding (held_of image) t ≡ None) × AllByRecursion (IsOwnRule t.table) t.indexes)) (IsHere image)
    (λ t known rest. record { known = known; fits = rest.0; counts = rest.1.0; own = rest.1.1 }) tables (known_tables image parts)
    (all_both (λ (t : TableContents). AllByRecursion DataFits t.nodes) (λ (t : TableContents). (count_finding (held_of image) t ≡ None) × AllByRecursion (IsOwnRule t.table) t.indexes)
    (λ (t : TableContents). AllByRecursion DataFits t.nodes × ((count_finding (held_of image) t ≡ None) × AllByRecursion (IsOwnRule t.table) t.indexes)) (λ t a b. (a, b)) tables
    (each_fits image.pages (below DataFits image.pages (data_fit image.pages bytes.pages)) (told_in image).tables)
    (all_both (λ (t : TableContents). count_finding (held_of image) t ≡ None) (λ (t : TableContents). AllByRecursion (IsOwnRule t.table) t.indexes) (λ (t : TableContents). (count_finding (held_of image) t ≡ None) × AllByRecursion (IsOwnRule t.table) t.indexes) (λ t a b. (a, b)) tables
    parts.none.counts parts.own))

pub stored_trees : (image : ImageContents) → IsOfBytes image → HasStoredParts image → AllByRecursion HaveTreeNodes (contents_in image) → AllByRecursion HasStoredTrees (contents_in image)
stored_trees image bytes parts nodes = all_both (IsHere image) HaveTreeNodes HasStoredTrees (stored image) (contents_in image) (all_here image bytes parts) nodes
