-- The root pages of made tables are those that the nodes of the catalog name.
use Rattle.std.proofs.Common.{◌≡◌, ℕ, Bool, true, false, List, [], ◌∷◌, cond, Option, Some, None, refl, sym, ap, ◌∙◌}
use Rattle.std.specs.Prelude.{◌==◌, find, map, option_map, unwrap_or}
use Rattle.std.proofs.lemmas.Bool.{eqb-true}
use Rattle.btree_inplace.specs.declared.Tree.{Tree}
use Rattle.catalog_grammar.specs.Catalogs.{CatalogTable}
use Rattle.image_findings.specs.CatalogFindings.{rooted_indexes, table_of}
use Rattle.image_findings.specs.TableContents.{contents_below}
use Rattle.image_opening.specs.OpenedCatalogs.{root_told, stored_roots}
use Rattle.image_opening.specs.OpenedTrees.{AreTreesBelow, EachWith, HasContents, IsIndexBelow}
use Rattle.image_opening.specs.declared.opened.OpenedIndex.{OpenedIndex}
use Rattle.image_opening.specs.declared.opened.OpenedTable.{OpenedTable}
use Rattle.index_derive.specs.declared.rules.IndexRule.{IndexRule}
use Rattle.jet_base.specs.declared.ids.IndexId.{IndexId}
use Rattle.jet_base.specs.declared.ids.TableId.{TableId}
use Rattle.page_space.specs.Frames.{Frames}
use Rattle.stored_variants.specs.VersionsKept.{secondary_rules}
use Rattle.table_trees.specs.StoredTrees.{are_roots_of, no_roots, root_behind, roots_by_number, told_roots}
use Rattle.table_trees.specs.TableParts.{index_root, tree_roots}
use Rattle.table_trees.specs.declared.table.Table.{Table as Trees}
use Rattle.table_trees.specs.declared.table.TableIndex.{TableIndex}
use Rattle.engine_image.proofs.RuleNumbers.{is_rule, none_any, not_found, numbers_same}
use Rattle.engine_image.specs.MadeTables.{IsMadeIndex, IsMadeTable, has_number}

-- ---- the root of an index

abbrev tree_root : Option OpenedIndex → ℕ
tree_root o = unwrap_or (option_map (λ (x : OpenedIndex). x.tree.root) o) 0

abbrev root_in : Option (ℕ × ℕ) → ℕ
root_in o = unwrap_or (option_map (λ (x : ℕ × ℕ). x.1) o) 0

roots_below : (frames : Frames) (index : ℕ) (roots : List (ℕ × ℕ)) (opened : List OpenedIndex) → EachWith (IsIndexBelow frames) roots opened → root_behind index roots ≡ tree_root (find (has_number index) opened)
roots_below frames index [] [] e = refl
roots_below frames index [] (o ∷ opened) e = absurd e
roots_below frames index (r ∷ roots) [] e = absurd e
roots_below frames index (r ∷ roots) (o ∷ opened) e =
    by (r.0 == index) (roots_below frames index roots opened e.1) ∙ ap (λ (n : ℕ). tree_root (cond (n == index) (Some o) (find (has_number index) opened))) (sym e.0.0)
  where
    by : (b : Bool) → root_behind index roots ≡ tree_root (find (has_number index) opened) → root_in (cond b (Some r) (find (λ (x : ℕ × ℕ). x.0 == index) roots)) ≡ tree_root (cond b (Some o) (find (has_number index) opened))
    by true rest = sym e.0.1.root_is
    by false rest = rest

roots_made : (index : ℕ) (all : List OpenedIndex) (rules : List IndexRule) (made : List TableIndex) → EachWith (IsMadeIndex all) rules made → (find (is_rule index) rules ≡ None → find (has_number index) all ≡ None)
    → root_behind index (map index_root made) ≡ tree_root (find (has_number index) all)
roots_made index all [] [] e none = ap tree_root (sym (none refl))
roots_made index all [] (i ∷ made) e none = absurd e
roots_made index all (rule ∷ rules) [] e none = absurd e
roots_made index all (rule ∷ rules) (i ∷ made) e none =
    ap (λ (n : ℕ). root_in (cond (n == index) (Some (index_root i)) (find (λ (x : ℕ × ℕ). x.0 == index) (map index_root made)))) (ap (λ (x : IndexId). x.0) e.0.index_is)
    ∙ by (is_rule index rule) refl (roots_made index all rules made e.1)
  where
    by : (b : Bool) → is_rule index rule ≡ b → ((find (is_rule index) rules ≡ None → find (has_number index) all ≡ None) → root_behind index (map index_root made) ≡ tree_root (find (has_number index) all))
        → root_in (cond b (Some (index_root i)) (find (λ (x : ℕ × ℕ). x.0 == index) (map index_root made))) ≡ tree_root (find (has_number index) all)
    by true t rest = ap (λ (tree : Tree). tree.root) e.0.tree_is ∙ sym (ap tree_root (ap (λ (n : ℕ). find (has_number n) all) (sym (eqb-true rule.id.0 index t)) ∙ e.0.found))
    by false t rest = rest (λ f. none (ap (λ (b : Bool). cond b (Some rule) (find (is_rule index) rules)) t ∙ f))

-- ---- the roots of a table

-- a made table has the number and the roots of the told one
pub record SameRoots (x : CatalogTable) (m : Trees) : Type 0 where
  pub number : m.table.0 ≡ x.table.id.0
  pub roots : told_roots (tree_roots m) ≡ told_roots (stored_roots x)

pub same_roots : (frames new : Frames) (x : CatalogTable) (o : OpenedTable) (m : Trees) → HasContents new o (contents_below frames x) → AreTreesBelow frames (stored_roots x) o → IsMadeTable (table_of x) o m → SameRoots x m
same_roots frames new x o m has below made =
    let records : m.nodes.tree.root ≡ x.table.records = ap (λ (t : Tree). t.root) made.nodes_is ∙ below.nodes.root_is in
    let longs : m.long_values.store.tree.root ≡ x.table.long_values = ap (λ (t : Tree). t.root) made.longs_is ∙ below.long_values.root_is in
    record {
      number = ap (λ (t : TableId). t.0) made.table_is ∙ below.number;
      roots = λ k. record { records = records k; long_values = longs k; indexes = λ index. indexes index k };
    }
  where
    none : (index : ℕ) → find (is_rule index) (secondary_rules (table_of x)) ≡ None → find (has_number index) o.indexes.items ≡ None
    none index e = not_found (has_number index) o.indexes.items (sym (numbers_same frames new x o has index) ∙ none_any (is_rule index) (secondary_rules (table_of x)) e)

    indexes : (index : ℕ) → root_behind index (map index_root m.indexes.items) ≡ root_behind index (map root_told (rooted_indexes x))
    indexes index =
        roots_made index o.indexes.items (secondary_rules (table_of x)) m.indexes.items made.indexes.each (none index)
        ∙ sym (roots_below frames index (map root_told (rooted_indexes x)) o.indexes.items below.indexes)

-- ---- the roots by the numbers of the tables

by_number : (n : ℕ) (xs : List CatalogTable) (ms : List Trees) → EachWith SameRoots xs ms
    → option_map told_roots (find (are_roots_of n) (map tree_roots ms)) ≡ option_map told_roots (find (are_roots_of n) (map stored_roots xs))
by_number n [] [] e = refl
by_number n [] (m ∷ ms) e = absurd e
by_number n (x ∷ xs) [] e = absurd e
by_number n (x ∷ xs) (m ∷ ms) e =
    ap (λ (k : ℕ). option_map told_roots (cond (k == n) (Some (tree_roots m)) (find (are_roots_of n) (map tree_roots ms)))) e.0.number ∙ by (x.table.id.0 == n) (by_number n xs ms e.1)
  where
    by : (b : Bool) → option_map told_roots (find (are_roots_of n) (map tree_roots ms)) ≡ option_map told_roots (find (are_roots_of n) (map stored_roots xs))
        → option_map told_roots (cond b (Some (tree_roots m)) (find (are_roots_of n) (map tree_roots ms))) ≡ option_map told_roots (cond b (Some (stored_roots x)) (find (are_roots_of n) (map stored_roots xs)))
    by true rest = ap Some e.0.roots
    by false rest = rest

pub roots_same : (xs : List CatalogTable) (ms : List Trees) → EachWith SameRoots xs ms → roots_by_number (map tree_roots ms) ≡ roots_by_number (map stored_roots xs)
roots_same xs ms e = λ k n. unwrap_or (by_number n xs ms e k) no_roots
