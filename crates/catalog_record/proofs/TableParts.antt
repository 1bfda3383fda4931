-- The nodes of a table's parts, taken out one after the other.
use Rattle.std.proofs.Common.{◌≡◌, ℕ, suc, ◌+◌, ◌<◌, true, inl, Some, List, [], ◌∷◌, ◌++◌, length, take, drop, get_or, refl, sym, ap, subst, ◌∙◌}
use Rattle.std.specs.Prelude.{IsSome, map}
use Rattle.std.proofs.Math.Seq.{drop-cons}
use Rattle.std.proofs.lemmas.List.{map-append, take-append-drop, take_more}
use Rattle.jet_base.specs.Ids.{table_id}
use Rattle.jet_base.specs.declared.ids.TableId.{TableId}
use Rattle.column_set.specs.declared.columns.Column.{Column}
use Rattle.index_derive.specs.declared.rules.IndexRule.{IndexRule}
use Rattle.index_derive.specs.declared.schema_calls.SchemaStep.TheVariants as step
use Rattle.database_state.specs.Table.{Table, table_with_id}
use Rattle.jet_catalog.specs.Catalog.{CatalogState, catalog_after}
use Rattle.page_image.specs.Page.{Node}
use Rattle.page_space.specs.Frames.{Frames}
use Rattle.btree_inplace.specs.Changes.{without_key}
use Rattle.btree_inplace.specs.Order.{get_in}
use Rattle.catalog_grammar.specs.CatalogBytes.{catalog_key, item_key}
use Rattle.catalog_grammar.specs.declared.items.CatalogItem.{CatalogItem}
use Rattle.catalog_grammar.specs.declared.items.CatalogItem.TheVariants as item
use Rattle.catalog_grammar.specs.CatalogSteps.{Roots, has_nodes, item_of_index, items_of_columns, items_of_indexes, nodes_of_catalog, without_indexes, without_items, without_parts}
use Rattle.catalog_grammar.proofs.Nodes.{one_more_goes}
use Rattle.catalog_grammar.proofs.StepNodes.{columns_go, indexes_go, table_goes, tables_left}
use Rattle.catalog_record.specs.CatalogTrees.{CatalogBecomes, IsCatalogTree, nodes_in}
use Rattle.catalog_record.specs.CatalogsKept.{GoOneByOne}
use Rattle.catalog_record.specs.declared.tree.CatalogTree.{CatalogTree}
use Rattle.catalog_record.proofs.Keeping.{Follows, becomes_as, becomes_then, follows}

-- ---- a loop that takes nodes out

pub none_out : (frames : Frames) (tree : CatalogTree) → IsCatalogTree frames tree → CatalogBecomes frames tree frames tree (nodes_in frames tree)
none_out frames tree is = record {
  tree = is;
  nodes = refl;
  pages = record { taken = λ p h. inl h; given_back = λ p h not. absurd (not h); others = λ p h not. refl };
  root = refl;
}

pub one_more_out : {X : Type 0} (named : X → CatalogItem) (a b c : Frames) (s t u : CatalogTree) (list : List X) (k : ℕ) (x : X) (key : List ℕ) → k < length list → key ≡ item_key (named (get_or list k x)) → CatalogBecomes a s b t (without_items (map named (take k list)) (nodes_in a s)) → CatalogBecomes b t c u (without_key (nodes_in b t) key)
    → CatalogBecomes a s c u (without_items (map named (take (k + 1) list)) (nodes_in a s))
one_more_out {X} named a b c s t u list k x key lt same before now =
    let y = get_or list k x in
    let nodes = nodes_in a s in
    let so_far = without_items (map named (take k list)) nodes in
    let items : map named (take (k + 1) list) ≡ map named (take k list) ++ named y ∷ [] = ap (map named) (take_more list k x lt) ∙ map-append named (take k list) (y ∷ []) in
    becomes_as a s c u (without_key (nodes_in b t) key) (without_items (map named (take (k + 1) list)) nodes)
    (ap (without_key (nodes_in b t)) same ∙ ap (λ (l : List Node). without_key l (item_key (named y))) before.nodes ∙ sym (one_more_goes (map named (take k list)) (named y) nodes) ∙ ap (λ (l : List CatalogItem). without_items l nodes) (sym items))
    (becomes_then a b c s t u so_far (without_key (nodes_in b t) key) before now)

-- ---- the parts of a table

parted : {X : Type 0} (list : List X) (k : ℕ) (x : X) → k < length list → list ≡ take k list ++ get_or list k x ∷ drop (suc k) list
parted {X} list k x lt = sym (take-append-drop k list) ∙ ap (λ (l : List X). take k list ++ l) (drop-cons list k x lt)

-- of an index only the key is asked
index_keys : (roots : Roots) (t : Table) (rules : List IndexRule) (nodes : List Node) → without_items (map (item.Index (table_id t.id) 0) rules) nodes ≡ without_items (items_of_indexes roots t rules) nodes
index_keys roots t [] nodes = refl
index_keys roots t (rule ∷ rules) nodes = index_keys roots t rules (without_key nodes (item_key (item_of_index roots t rule)))

pub indexes_there : (roots : Roots) (catalog : CatalogState) (t : Table) (id : TableId) (rules : List IndexRule) (nodes : List Node) → table_with_id catalog.tables t.id ≡ Some t → has_nodes roots catalog ≡ true → id.0 ≡ t.id → rules ≡ t.indexes → nodes ≡ nodes_of_catalog roots catalog → GoOneByOne (item.Index id 0) rules nodes
indexes_there roots catalog t id rules nodes found fits e r n =
    let P : TableId → Type 0 = λ i. GoOneByOne (item.Index i 0) t.indexes (nodes_of_catalog roots catalog) in
    let all : P (table_id t.id) = λ k x lt.
    let done = take k t.indexes in
    let rule = get_or t.indexes k x in
    subst (λ (l : List Node). IsSome (get_in l (item_key (item_of_index roots t rule)))) (sym (index_keys roots t done (nodes_of_catalog roots catalog)))
    (indexes_go roots catalog t done (drop (suc k) t.indexes) rule found fits (parted t.indexes k x lt)) in
    subst (λ (l : List Node). GoOneByOne (item.Index id 0) rules l) (sym n)
    (subst (λ (l : List IndexRule). GoOneByOne (item.Index id 0) l (nodes_of_catalog roots catalog)) (sym r) (subst P (sym (ap table_id e)) all))

pub indexes_gone : (roots : Roots) (catalog : CatalogState) (t : Table) (id : TableId) (rules : List IndexRule) (nodes : List Node) → id.0 ≡ t.id → rules ≡ t.indexes → nodes ≡ nodes_of_catalog roots catalog → without_items (map (item.Index id 0) rules) nodes ≡ without_indexes roots catalog t
indexes_gone roots catalog t id rules nodes e r n =
    ap (λ m. without_items (map (item.Index (table_id m) 0) rules) nodes) e ∙ ap (λ (l : List IndexRule). without_items (map (item.Index (table_id t.id) 0) l) nodes) r
    ∙ ap (without_items (map (item.Index (table_id t.id) 0) t.indexes)) n ∙ index_keys roots t t.indexes (nodes_of_catalog roots catalog)

pub columns_there : (roots : Roots) (catalog : CatalogState) (t : Table) (id : TableId) (columns : List Column) (nodes : List Node) → table_with_id catalog.tables t.id ≡ Some t → has_nodes roots catalog ≡ true → id.0 ≡ t.id → columns ≡ t.columns → nodes ≡ without_indexes roots catalog t → GoOneByOne (item.Column id) columns nodes
columns_there roots catalog t id columns nodes found fits e r n =
    let P : TableId → Type 0 = λ i. GoOneByOne (item.Column i) t.columns (without_indexes roots catalog t) in
    let all : P (table_id t.id) = λ k x lt. columns_go roots catalog t (take k t.columns) (drop (suc k) t.columns) (get_or t.columns k x) found fits (parted t.columns k x lt) in
    subst (λ (l : List Node). GoOneByOne (item.Column id) columns l) (sym n)
    (subst (λ (l : List Column). GoOneByOne (item.Column id) l (without_indexes roots catalog t)) (sym r) (subst P (sym (ap table_id e)) all))

pub columns_gone : (roots : Roots) (catalog : CatalogState) (t : Table) (id : TableId) (columns : List Column) (nodes : List Node) → id.0 ≡ t.id → columns ≡ t.columns → nodes ≡ without_indexes roots catalog t → without_items (map (item.Column id) columns) nodes ≡ without_parts roots catalog t
columns_gone roots catalog t id columns nodes e r n =
    ap (λ m. without_items (map (item.Column (table_id m)) columns) nodes) e ∙ ap (λ (l : List Column). without_items (map (item.Column (table_id t.id)) l) nodes) r
    ∙ ap (without_items (items_of_columns t t.columns)) n

-- the next one is there in the tree
pub next_there : {X : Type 0} (named : X → CatalogItem) (a b : Frames) (s t : CatalogTree) (list : List X) (k : ℕ) (x : X) (key : List ℕ) → key ≡ item_key (named (get_or list k x)) → CatalogBecomes a s b t (without_items (map named (take k list)) (nodes_in a s)) → IsSome (get_in (without_items (map named (take k list)) (nodes_in a s)) (item_key (named (get_or list k x)))) → IsSome (get_in (nodes_in b t) key)
next_there named a b s t list k x key same before there =
    subst (λ (l : List ℕ). IsSome (get_in (nodes_in b t) l)) (sym same) (subst (λ (l : List Node). IsSome (get_in l (item_key (named (get_or list k x))))) (sym before.nodes) there)

-- ---- the table itself

-- the nodes once those of its indexes and columns are out
pub parts_out : (roots : Roots) (catalog : CatalogState) (t : Table) (a b c : Frames) (s u v : CatalogTree) (id : TableId) (rules : List IndexRule) (columns : List Column) → id.0 ≡ t.id → rules ≡ t.indexes → columns ≡ t.columns → nodes_in a s ≡ nodes_of_catalog roots catalog
    → CatalogBecomes a s b u (without_items (map (item.Index id 0) rules) (nodes_in a s)) → CatalogBecomes b u c v (without_items (map (item.Column id) columns) (nodes_in b u)) → CatalogBecomes a s c v (without_parts roots catalog t)
parts_out roots catalog t a b c s u v id rules columns e r d n x y =
    becomes_as a s c v (without_items (map (item.Column id) columns) (nodes_in b u)) (without_parts roots catalog t)
    (columns_gone roots catalog t id columns (nodes_in b u) e d (x.nodes ∙ indexes_gone roots catalog t id rules (nodes_in a s) e r n))
    (becomes_then a b c s u v (without_items (map (item.Index id 0) rules) (nodes_in a s)) (without_items (map (item.Column id) columns) (nodes_in b u)) x y)

-- its own node is there
pub table_there : (roots : Roots) (catalog : CatalogState) (t : Table) (a b : Frames) (s u : CatalogTree) (id : TableId) (key : List ℕ) → table_with_id catalog.tables t.id ≡ Some t → has_nodes roots catalog ≡ true → id.0 ≡ t.id → key ≡ catalog_key 1 id.0 0 → CatalogBecomes a s b u (without_parts roots catalog t) → IsSome (get_in (nodes_in b u) key)
table_there roots catalog t a b s u id key found fits e k x =
    subst (λ (l : List ℕ). IsSome (get_in (nodes_in b u) l)) (sym (k ∙ ap (λ n. catalog_key 1 n 0) e))
    (subst (λ (l : List Node). IsSome (get_in l (catalog_key 1 t.id 0))) (sym x.nodes) (table_goes roots catalog (table_id t.id) t found fits).there)

pub table_out : (roots : Roots) (catalog : CatalogState) (t : Table) (a b c : Frames) (s u v : CatalogTree) (id : TableId) (key : List ℕ) → table_with_id catalog.tables t.id ≡ Some t → has_nodes roots catalog ≡ true → id.0 ≡ t.id → key ≡ catalog_key 1 id.0 0 → CatalogBecomes a s b u (without_parts roots catalog t) → CatalogBecomes b u c v (without_key (nodes_in b u) key)
    → Follows a s c v roots (catalog_after catalog (step.DeleteTable (table_id t.id)))
table_out roots catalog t a b c s u v id key found fits e k x y =
    follows a s c v roots (catalog_after catalog (step.DeleteTable (table_id t.id))) (without_key (nodes_in b u) key)
    (ap (without_key (nodes_in b u)) (k ∙ ap (λ n. catalog_key 1 n 0) e) ∙ ap (λ (l : List Node). without_key l (catalog_key 1 t.id 0)) x.nodes ∙ (table_goes roots catalog (table_id t.id) t found fits).nodes)
    (becomes_then a b c s u v (without_parts roots catalog t) (without_key (nodes_in b u) key) x y)
    (tables_left roots catalog (table_id t.id) t found fits)
