-- Nodes of a catalog that are written again, one after the other.
use Rattle.std.proofs.Common.{◌≡◌, ℕ, zero, suc, ◌+◌, ◌<◌, Bool, true, false, Option, Some, List, [], ◌∷◌, ◌++◌, get_or, length, take, refl, sym, ap, subst, ◌∙◌, add-one, arith}
use Rattle.std.specs.Prelude.{find, if◌then◌else◌}
use Rattle.std.specs.List.{flat_map}
use Rattle.std.specs.Option.{option_map}
use Rattle.jet_base.specs.Ids.{table_id}
use Rattle.jet_base.specs.declared.ids.TableId.{TableId}
use Rattle.column_set.specs.declared.columns.Column.{Column}
use Rattle.index_derive.specs.declared.rules.IndexRule.{IndexRule}
use Rattle.database_state.specs.Table.{Table}
use Rattle.page_image.specs.Page.{Node}
use Rattle.page_space.specs.Frames.{Frames}
use Rattle.btree_inplace.specs.Changes.{with_data_at}
use Rattle.btree_inplace.specs.ExchangeLaws.{exchanges_then}
use Rattle.btree_inplace.specs.Order.{extent_in, has_key}
use Rattle.catalog_grammar.specs.CatalogBytes.{item_data, item_key}
use Rattle.catalog_grammar.specs.declared.items.CatalogItem.{CatalogItem}
use Rattle.catalog_record.specs.CatalogTrees.{CatalogBecomes, nodes_in, own_pages}
use Rattle.catalog_record.specs.declared.tree.CatalogTree.{CatalogTree}
use Rattle.image_opening.specs.KeptNodes.{HaveRoom, column_again, index_again, items_again, with_items}
use Rattle.image_opening.proofs.Lists.{flat_next}

-- ---- room stays

abbrev extent_of : Node → ℕ
extent_of n = n.extent

extent_found : (b : Bool) (m n : Node) (o p : Option Node) → m.extent ≡ n.extent → option_map extent_of o ≡ option_map extent_of p → option_map extent_of (if b then Some m else o) ≡ option_map extent_of (if b then Some n else p)
extent_found true m n o p e rest = ap Some e
extent_found false m n o p e rest = rest

extent_stays : (nodes : List Node) (at bytes key : List ℕ) → extent_in (with_data_at nodes at bytes) key ≡ extent_in nodes key
extent_stays [] at bytes key = refl
extent_stays (n ∷ nodes) at bytes key = first (has_key at n) (extent_stays nodes at bytes key)
  where
    rest : Option Node
    rest = find (has_key key) (with_data_at nodes at bytes)

    first : (b : Bool) → extent_in (with_data_at nodes at bytes) key ≡ extent_in nodes key → extent_in ((if b then record n { «data» = bytes } else n) ∷ with_data_at nodes at bytes) key ≡ extent_in (n ∷ nodes) key
    first true e = extent_found (has_key key n) (record n { «data» = bytes }) n rest (find (has_key key) nodes) refl e
    first false e = extent_found (has_key key n) n n rest (find (has_key key) nodes) refl e

room_stays : (nodes : List Node) (at bytes : List ℕ) (items : List CatalogItem) → HaveRoom nodes items → HaveRoom (with_data_at nodes at bytes) items
room_stays nodes at bytes [] h = tt
room_stays nodes at bytes (x ∷ items) h = (record { fits = h.0.fits; room = extent_stays nodes at bytes (item_key x) ∙ h.0.room }, room_stays nodes at bytes items h.1)

room_after : (done items : List CatalogItem) (nodes : List Node) → HaveRoom nodes items → HaveRoom (with_items done nodes) items
room_after [] items nodes h = h
room_after (x ∷ done) items nodes h = room_after done items (with_data_at nodes (item_key x) (item_data x)) (room_stays nodes (item_key x) (item_data x) items h)

room_left : (nodes : List Node) (xs ys : List CatalogItem) → HaveRoom nodes (xs ++ ys) → HaveRoom nodes xs
room_left nodes [] ys h = tt
room_left nodes (x ∷ xs) ys h = (h.0, room_left nodes xs ys h.1)

room_right : (nodes : List Node) (xs ys : List CatalogItem) → HaveRoom nodes (xs ++ ys) → HaveRoom nodes ys
room_right nodes [] ys h = h
room_right nodes (x ∷ xs) ys h = room_right nodes xs ys h.1

room_at : {X : Type 0} (f : X → List CatalogItem) (nodes : List Node) (list : List X) (k : ℕ) (x : X) → k < length list → x ≡ get_or list k x → HaveRoom nodes (flat_map f list) → HaveRoom nodes (f x)
room_at f nodes [] k x within is h = absurd (omega (arith, within))
room_at f nodes (y ∷ list) zero x within is h = subst (λ z. HaveRoom nodes (f z)) (sym is) (room_left nodes (f y) (flat_map f list) h)
room_at f nodes (y ∷ list) (suc k) x within is h = room_at f nodes list k x (omega (arith, within)) is (room_right nodes (f y) (flat_map f list) h)

with_both : (xs ys : List CatalogItem) (nodes : List Node) → with_items (xs ++ ys) nodes ≡ with_items ys (with_items xs nodes)
with_both [] ys nodes = refl
with_both (x ∷ xs) ys nodes = with_both xs ys (with_data_at nodes (item_key x) (item_data x))

-- ---- a tree that changes

pub becomes_as : (old : Frames) (was : CatalogTree) (new : Frames) (is : CatalogTree) (list list' : List Node) → list ≡ list' → CatalogBecomes old was new is list → CatalogBecomes old was new is list'
becomes_as old was new is list list' e b = record { tree = b.tree; nodes = b.nodes ∙ e; pages = b.pages; root = b.root }

-- items written behind others
written_then : (a b c : Frames) (s t u : CatalogTree) (xs ys : List CatalogItem) → CatalogBecomes a s b t (with_items xs (nodes_in a s)) → CatalogBecomes b t c u (with_items ys (nodes_in b t)) → CatalogBecomes a s c u (with_items (xs ++ ys) (nodes_in a s))
written_then a b c s t u xs ys before now = record {
  tree = now.tree;
  nodes = now.nodes ∙ ap (with_items ys) before.nodes ∙ sym (with_both xs ys (nodes_in a s));
  pages = exchanges_then a b c (own_pages a s) (own_pages b t) (own_pages c u) before.pages now.pages;
  root = now.root ∙ before.root;
}

room_then : (a b : Frames) (s t : CatalogTree) (done items : List CatalogItem) → CatalogBecomes a s b t (with_items done (nodes_in a s)) → HaveRoom (nodes_in a s) items → HaveRoom (nodes_in b t) items
room_then a b s t done items before h = subst (λ (l : List Node). HaveRoom l items) (sym before.nodes) (room_after done items (nodes_in a s) h)

-- ---- a loop

pub next_room : {X : Type 0} (f : X → List CatalogItem) (a b : Frames) (s t : CatalogTree) (list : List X) (k : ℕ) (x : X) → k < length list → x ≡ get_or list k x → CatalogBecomes a s b t (with_items (flat_map f (take k list)) (nodes_in a s)) → HaveRoom (nodes_in a s) (flat_map f list) → HaveRoom (nodes_in b t) (f x)
next_room f a b s t list k x within is before h = room_then a b s t (flat_map f (take k list)) (f x) before (room_at f (nodes_in a s) list k x within is h)

pub next_written : {X : Type 0} (f : X → List CatalogItem) (a b c : Frames) (s t u : CatalogTree) (list : List X) (k : ℕ) (x : X) → k < length list → x ≡ get_or list k x → CatalogBecomes a s b t (with_items (flat_map f (take k list)) (nodes_in a s)) → CatalogBecomes b t c u (with_items (f x) (nodes_in b t))
    → CatalogBecomes a s c u (with_items (flat_map f (take (k + 1) list)) (nodes_in a s))
next_written f a b c s t u list k x within is before now =
    becomes_as a s c u (with_items (flat_map f (take k list) ++ f x) (nodes_in a s)) (with_items (flat_map f (take (k + 1) list)) (nodes_in a s))
    (ap (λ (l : List CatalogItem). with_items l (nodes_in a s)) (sym (flat_next f list k x within is) ∙ ap (λ n. flat_map f (take n list)) (sym (add-one k)))) (written_then a b c s t u (flat_map f (take k list)) (f x) before now)

-- ---- the parts of a table

pub parts_room : (a b : Frames) (s t : CatalogTree) (id : TableId) (table : Table) (columns : List Column) (rules : List IndexRule) → id.0 ≡ table.id → rules ≡ table.indexes → CatalogBecomes a s b t (with_items (flat_map (column_again id) columns) (nodes_in a s)) → HaveRoom (nodes_in a s) (items_again table)
    → HaveRoom (nodes_in b t) (flat_map (index_again id) rules)
parts_room a b s t id table columns rules e r before h =
    let own : List CatalogItem = flat_map (index_again (table_id table.id)) table.indexes in
    let same : own ≡ flat_map (index_again id) rules = λ i. flat_map (index_again (table_id (sym e i))) (sym r i) in
    room_then a b s t (flat_map (column_again id) columns) (flat_map (index_again id) rules) before (subst (HaveRoom (nodes_in a s)) same (room_right (nodes_in a s) (flat_map (column_again (table_id table.id)) table.columns) own h))

pub parts_written : (a b c : Frames) (s t u : CatalogTree) (id : TableId) (table : Table) (columns : List Column) (rules : List IndexRule) → id.0 ≡ table.id → columns ≡ table.columns → rules ≡ table.indexes
    → CatalogBecomes a s b t (with_items (flat_map (column_again id) columns) (nodes_in a s)) → CatalogBecomes b t c u (with_items (flat_map (index_again id) rules) (nodes_in b t)) → CatalogBecomes a s c u (with_items (items_again table) (nodes_in a s))
parts_written a b c s t u id table columns rules e d r before now =
    let xs = flat_map (column_again id) columns in
    let ys = flat_map (index_again id) rules in
    let same : xs ++ ys ≡ items_again table = λ i. flat_map (column_again (table_id (e i))) (d i) ++ flat_map (index_again (table_id (e i))) (r i) in
    becomes_as a s c u (with_items (xs ++ ys) (nodes_in a s)) (with_items (items_again table) (nodes_in a s)) (ap (λ (l : List CatalogItem). with_items l (nodes_in a s)) same) (written_then a b c s t u xs ys before now)
