-- The store that is made of the opened trees of a consistent image.
use Rattle.std.proofs.Common.{◌≡◌, ◌+◌, ℕ, true, List, [], ◌∷◌, ◌++◌, cond, Option, Some, None, refl, sym, ap, subst, ◌∙◌}
use Rattle.std.specs.Prelude.{◌==◌, find, map, option_map, unwrap_or, All}
use Rattle.std.specs.List.{AllByRecursion, flat_map}
use Rattle.std.proofs.lemmas.List.Elements.{recursion_from_All}
use Rattle.btree_inplace.specs.Trees.{IsTree, nodes_of, pages_of}
use Rattle.btree_inplace.specs.declared.Tree.{Tree}
use Rattle.std.proofs.lemmas.List.Sums.{sum_by-append}
use Rattle.cursor_nav.specs.Places.{are_sorted}
use Rattle.database_state.specs.Table.{Table}
use Rattle.common_lemmas.proofs.Finding.{find_map}
use Rattle.common_lemmas.proofs.Found.{of_found}
use Rattle.common_lemmas.proofs.Options.{none_some, same_some}
use Rattle.image_findings.specs.TableContents.{TableContents, long_values}
use Rattle.image_opening.specs.OpenedTrees.{EachWith, HasContents, index_opened, index_shown, opened_pages}
use Rattle.image_opening.specs.OpenedTrees as opened
use Rattle.image_opening.specs.declared.opened.OpenedIndex.{OpenedIndex}
use Rattle.image_opening.specs.declared.opened.OpenedTable.{OpenedTable}
use Rattle.own_images.specs.StoredContents.{AreIndexNodes, HasStoredTrees, nodes_of_index, stored_index, stored_of}
use Rattle.index_derive.specs.declared.rules.IndexRule.{IndexRule}
use Rattle.index_tree.specs.Entries.{entry_of_node}
use Rattle.index_tree.specs.IndexTrees.{IsIndexTree}
use Rattle.jet_base.specs.declared.ids.IndexId.{IndexId}
use Rattle.jet_base.specs.declared.ids.TableId.{TableId}
use Rattle.long_value.specs.Shown.{shown_values}
use Rattle.page_image.specs.Page.{Node}
use Rattle.page_space.specs.Frames.{Frames}
use Rattle.stored_variants.specs.VersionsKept.{secondary_rules}
use Rattle.table_trees.specs.NodeTrees.{IsNodeTree}
use Rattle.table_trees.specs.Pages.{copies}
use Rattle.table_trees.specs.StoredNodes.{IsShortNode, bookmark_entries}
use Rattle.table_trees.specs.TableParts as parts
use Rattle.table_trees.specs.declared.table.Table.{Table as Trees}
use Rattle.table_trees.specs.declared.table.TableIndex.{TableIndex}
use Rattle.engine_image.specs.MadeTables.{IsMadeIndex, IsMadeTable, has_number}

-- ---- the nodes of an index

-- the index of a number is opened with the nodes that the image has of it
index_nodes : (frames : Frames) (x : OpenedIndex) (id : ℕ) (opened-list : List OpenedIndex) (shown : List (IndexRule × List Node)) → map (index_opened frames) opened-list ≡ map index_shown shown → find (has_number id) opened-list ≡ Some x
    → Some (nodes_of frames x.tree) ≡ option_map (λ (i : IndexRule × List Node). i.1) (find (λ (i : IndexRule × List Node). i.0.id.0 == id) shown)
index_nodes frames x id list shown same found =
    ap (option_map (λ (p : ℕ × List Node). p.1)) (ap (option_map (index_opened frames)) (sym found) ∙ sym (find_map (index_opened frames) (λ (p : ℕ × List Node). p.0 == id) list) ∙ ap (find (λ (p : ℕ × List Node). p.0 == id)) same
    ∙ find_map index_shown (λ (p : ℕ × List Node). p.0 == id) shown)
    ∙ again (find (λ (i : IndexRule × List Node). i.0.id.0 == id) shown)
  where
    again : (o : Option (IndexRule × List Node)) → option_map (λ (p : ℕ × List Node). p.1) (option_map index_shown o) ≡ option_map (λ (i : IndexRule × List Node). i.1) o
    again None = refl
    again (Some i) = refl

nodes_are : (frames : Frames) (opened-table : OpenedTable) (t : TableContents) (rule : IndexRule) (made : TableIndex) → HasContents frames opened-table t → IsMadeIndex opened-table.indexes.items rule made → nodes_of frames made.tree.tree ≡ nodes_of_index t rule.id.0
nodes_are frames o t rule made has is =
    ap (nodes_of frames) is.tree_is ∙ ap (λ (n : Option (List Node)). unwrap_or n []) (index_nodes frames is.x rule.id.0 o.indexes.items t.indexes has.indexes_are is.found)

pub same_indexes : (frames : Frames) (o : OpenedTable) (t : TableContents) (rules : List IndexRule) (made : List TableIndex) → HasContents frames o t → EachWith (IsMadeIndex o.indexes.items) rules made → map (parts.stored_index frames) made ≡ map (stored_index t) rules
same_indexes frames o t [] [] has each = refl
same_indexes frames o t [] (i ∷ made) has each = absurd each
same_indexes frames o t (rule ∷ rules) [] has each = absurd each
same_indexes frames o t (rule ∷ rules) (i ∷ made) has each =
    let number : i.index.0 ≡ rule.id.0 = ap (λ (x : IndexId). x.0) each.0.index_is in
    let nodes : nodes_of frames i.tree.tree ≡ nodes_of_index t rule.id.0 = nodes_are frames o t rule i has each.0 in
    λ k. (number k, map entry_of_node (nodes k)) ∷ same_indexes frames o t rules made has each.1 k

pub stored_is : (frames : Frames) (o : OpenedTable) (t : TableContents) (made : Trees) → HasContents frames o t → IsMadeTable t.table o made → parts.stored_table frames made ≡ stored_of t
stored_is frames o t made has is =
    let number : made.table.0 ≡ t.table.id = ap (λ (x : TableId). x.0) is.table_is ∙ has.number in
    let nodes : nodes_of frames made.nodes.tree ≡ t.nodes = ap (nodes_of frames) is.nodes_is ∙ has.nodes_are in
    let longs : shown_values (nodes_of frames made.long_values.store.tree) ≡ long_values t = ap shown_values (ap (nodes_of frames) is.longs_is ∙ has.values_are) in
    let indexes : map (parts.stored_index frames) made.indexes.items ≡ map (stored_index t) (secondary_rules t.table) = same_indexes frames o t (secondary_rules t.table) made.indexes.items has is.indexes.each in
    λ k. record { number = number k; nodes = nodes k; indexes = indexes k; long_values = longs k }

-- ---- its trees

pub node_tree : (frames : Frames) (o : OpenedTable) (t : TableContents) (made : Trees) → HasContents frames o t → HasStoredTrees t → made.nodes.tree ≡ o.nodes → IsNodeTree frames made.nodes
node_tree frames o t made has stored same =
    let nodes : nodes_of frames made.nodes.tree ≡ t.nodes = ap (nodes_of frames) same ∙ has.nodes_are in
    record {
      tree = subst (IsTree frames) (sym same) has.nodes_tree;
      in_order = subst (λ (l : List Node). are_sorted (bookmark_entries l) ≡ true) (sym nodes) stored.rising;
      short = subst (λ (l : List Node). All IsShortNode l) (sym nodes) stored.short;
    }

index_tree : (frames : Frames) (made : TableIndex) → IsTree frames made.tree.tree → AreIndexNodes (nodes_of frames made.tree.tree) → IsIndexTree frames made.tree
index_tree frames made tree nodes = record { tree = tree; nodes = nodes.nodes_are; in_order = nodes.in_order; short = nodes.short; apart = nodes.apart }

-- the nodes of a made index are those of an index of the image, which are of entries in order
its_nodes : (frames : Frames) (o : OpenedTable) (t : TableContents) (rule : IndexRule) (made : TableIndex) → HasContents frames o t → HasStoredTrees t → IsMadeIndex o.indexes.items rule made → AreIndexNodes (nodes_of frames made.tree.tree)
its_nodes frames o t rule made has stored is =
    subst (λ (tree : Tree). AreIndexNodes (nodes_of frames tree)) (sym is.tree_is)
    (by (find (λ (i : IndexRule × List Node). i.0.id.0 == rule.id.0) t.indexes) refl (index_nodes frames is.x rule.id.0 o.indexes.items t.indexes has.indexes_are is.found))
  where
    by : (found : Option (IndexRule × List Node)) → find (λ (i : IndexRule × List Node). i.0.id.0 == rule.id.0) t.indexes ≡ found → Some (nodes_of frames is.x.tree) ≡ option_map (λ (i : IndexRule × List Node). i.1) found → AreIndexNodes (nodes_of frames is.x.tree)
    by None e same = none_some (nodes_of frames is.x.tree) (sym same)
    by (Some i) e same =
        subst AreIndexNodes (sym (same_some (nodes_of frames is.x.tree) i.1 same)) (of_found (λ (j : IndexRule × List Node). AreIndexNodes j.1) (λ (j : IndexRule × List Node). j.0.id.0 == rule.id.0) t.indexes i e stored.indexes)

pub each_index : (frames : Frames) (o : OpenedTable) (t : TableContents) (rules : List IndexRule) (made : List TableIndex) → HasContents frames o t → HasStoredTrees t → EachWith (IsMadeIndex o.indexes.items) rules made → AllByRecursion (parts.IsIndex frames) made
each_index frames o t [] [] has stored each = tt
each_index frames o t [] (i ∷ made) has stored each = absurd each
each_index frames o t (rule ∷ rules) [] has stored each = absurd each
each_index frames o t (rule ∷ rules) (i ∷ made) has stored each = (
  index_tree frames i
      (subst (IsTree frames) (sym each.0.tree_is) (of_found (λ (x : OpenedIndex). IsTree frames x.tree) (has_number rule.id.0) o.indexes.items each.0.x each.0.found (recursion_from_All (λ (x : OpenedIndex). IsTree frames x.tree) o.indexes.items has.index_trees)))
      (its_nodes frames o t rule i has stored each.0),
  each_index frames o t rules made has stored each.1,
)

-- ---- its pages

-- the pages of a made table are those of its opened trees
pub same_pages : (frames : Frames) (table : Table) (o : OpenedTable) (made : Trees) (p : ℕ) → IsMadeTable table o made → copies p (parts.table_pages frames made) ≡ copies p (opened_pages frames o)
same_pages frames table o made p is =
    joined_copies p (parts.record_pages frames made) (flat_map (parts.index_pages frames) made.indexes.items)
    ∙ ap (λ (n : ℕ). copies p (pages_of frames made.nodes.tree ++ pages_of frames made.long_values.store.tree) + n) (is.indexes.pages frames p)
    ∙ ap (λ (tree : Tree). copies p (pages_of frames tree ++ pages_of frames made.long_values.store.tree) + copies p (flat_map (opened.index_pages frames) o.indexes.items)) is.nodes_is
    ∙ ap (λ (tree : Tree). copies p (pages_of frames o.nodes ++ pages_of frames tree) + copies p (flat_map (opened.index_pages frames) o.indexes.items)) is.longs_is
    ∙ sym (joined_copies p (pages_of frames o.nodes ++ pages_of frames o.long_values) (flat_map (opened.index_pages frames) o.indexes.items))
  where
    joined_copies : (p : ℕ) (xs ys : List ℕ) → copies p (xs ++ ys) ≡ copies p xs + copies p ys
    joined_copies p xs ys = sum_by-append (λ (q : ℕ). cond (q == p) 1 0) xs ys
