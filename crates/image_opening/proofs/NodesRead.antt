-- Nodes that are read one after another.
use Rattle.std.proofs.Common.{◌≡◌, ℕ, zero, suc, ◌<◌, ◌≤◌, true, Option, Some, List, [], ◌∷◌, ◌++◌, length, map, take, refl, sym, ap, subst, ◌∙◌, arith, append_assoc}
use Rattle.std.specs.Prelude.{unwrap_or}
use Rattle.std.specs.List.{AllByRecursion, flat_map, list_all}
use Rattle.std.proofs.lemmas.Bool.{and_from}
use Rattle.std.proofs.lemmas.List.{append-nil, take_all}
use Rattle.common_lemmas.proofs.Booleans.{and_left, and_right}
use Rattle.common_lemmas.proofs.Lists.{all_parted}
use Rattle.page_image.specs.Page.{Node, PageContents, node_at}
use Rattle.page_space.specs.Frames.{Frames, IsTaken, empty_page, page_at}
use Rattle.btree_inplace.specs.Shape.{IsSubtree, child_of, entries, page_in}
use Rattle.catalog_grammar.specs.CatalogBytes.{Tells, item_data, item_fits, item_node}
use Rattle.catalog_grammar.specs.declared.items.CatalogItem.{CatalogItem}
use Rattle.catalog_record.specs.declared.fault.CatalogFault.{CatalogFault}
use Rattle.catalog_record.specs.declared.fault.CatalogFault.TheVariants as fault
use Rattle.image_opening.specs.ReadNodes.{IsItemNode, ReadsNodes, TellsNoItem}

-- ---- nodes of items

nodes_append : (xs ys : List CatalogItem) → map item_node (xs ++ ys) ≡ map item_node xs ++ map item_node ys
nodes_append [] ys = refl
nodes_append (x ∷ xs) ys = ap (λ (l : List Node). item_node x ∷ l) (nodes_append xs ys)

fit_append : (xs ys : List CatalogItem) → list_all item_fits xs ≡ true → list_all item_fits ys ≡ true → list_all item_fits (xs ++ ys) ≡ true
fit_append [] ys h k = k
fit_append (x ∷ xs) ys h k = and_from (item_fits x) (list_all item_fits (xs ++ ys)) (and_left (item_fits x) (list_all item_fits xs) h) (fit_append xs ys (and_right (item_fits x) (list_all item_fits xs) h) k)

pub reads_none : (before : List CatalogItem) → ReadsNodes [] before before
reads_none before = record { told = []; items = sym (append-nil before); nodes_are = refl; fit = refl }

pub reads_more : (a b : List Node) (before between after : List CatalogItem) → ReadsNodes a before between → ReadsNodes b between after → ReadsNodes (a ++ b) before after
reads_more a b before between after one more = record {
  told = one.told ++ more.told;
  items = more.items ∙ ap (λ (l : List CatalogItem). l ++ more.told) one.items ∙ append_assoc before one.told more.told;
  nodes_are = ap (λ (l : List Node). l ++ b) one.nodes_are ∙ ap (λ (l : List Node). map item_node one.told ++ l) more.nodes_are ∙ sym (nodes_append one.told more.told);
  fit = fit_append one.told more.told one.fit more.fit;
}

node_of : (n : Node) (x : CatalogItem) → Tells n.key n.data x → n.extent ≡ length n.data → n ≡ item_node x
node_of n x told extent =
    let whole : n.extent ≡ length (item_data x) = extent ∙ ap length told.2 in
    λ i. record { key = told.1 i; extent = whole i; «data» = told.2 i }

pub reads_one : (n : Node) (x : CatalogItem) (before : List CatalogItem) → Tells n.key n.data x → n.extent ≡ length n.data → ReadsNodes (n ∷ []) before (before ++ x ∷ [])
reads_one n x before told extent = record {
  told = x ∷ [];
  items = refl;
  nodes_are = ap (λ (m : Node). m ∷ []) (node_of n x told extent);
  fit = and_from (item_fits x) true told.0 refl;
}

-- ---- up to a place

take_next : (nodes : List Node) (i : ℕ) → i < length nodes → take (suc i) nodes ≡ take i nodes ++ node_at nodes i ∷ []
take_next [] i h = absurd (omega arith)
take_next (n ∷ nodes) zero h = refl
take_next (n ∷ nodes) (suc i) h = ap (λ (l : List Node). n ∷ l) (take_next nodes i (omega arith))

flat_next : (f : Node → List Node) (nodes : List Node) (i : ℕ) → i < length nodes → flat_map f (take (suc i) nodes) ≡ flat_map f (take i nodes) ++ f (node_at nodes i)
flat_next f [] i h = absurd (omega arith)
flat_next f (n ∷ nodes) zero h = append-nil (f n)
flat_next f (n ∷ nodes) (suc i) h = ap (λ (l : List Node). f n ++ l) (flat_next f nodes i (omega arith)) ∙ sym (append_assoc (f n) (flat_map f (take i nodes)) (f (node_at nodes i)))

pub reads_all : (nodes : List Node) (i : ℕ) (before after : List CatalogItem) → ReadsNodes (take i nodes) before after → length nodes ≤ i → ReadsNodes nodes before after
reads_all nodes i before after so h = subst (λ (l : List Node). ReadsNodes l before after) (take_all i nodes h) so

pub reads_place : (nodes : List Node) (i : ℕ) (before between after : List CatalogItem) → ReadsNodes (take i nodes) before between → i < length nodes → ReadsNodes (node_at nodes i ∷ []) between after → ReadsNodes (take (suc i) nodes) before after
reads_place nodes i before between after so h more =
    subst (λ (l : List Node). ReadsNodes l before after) (sym (take_next nodes i h)) (reads_more (take i nodes) (node_at nodes i ∷ []) before between after so more)

-- the nodes below the first children
abbrev pub below_first : ℕ → Frames → ℕ → ℕ → List Node
below_first depth frames page i = flat_map (λ n. entries depth frames (child_of n)) (take i (page_in frames page).nodes)

pub reads_child : (depth : ℕ) (frames : Frames) (page i : ℕ) (before between after : List CatalogItem) → ReadsNodes (below_first depth frames page i) before between → i < length (page_in frames page).nodes
    → ReadsNodes (entries depth frames (child_of (node_at (page_in frames page).nodes i))) between after → ReadsNodes (below_first depth frames page (suc i)) before after
reads_child depth frames page i before between after so h more =
    let f : Node → List Node = λ n. entries depth frames (child_of n) in
    subst (λ (l : List Node). ReadsNodes l before after) (sym (flat_next f (page_in frames page).nodes i h))
    (reads_more (below_first depth frames page i) (f (node_at (page_in frames page).nodes i)) before between after so more)

pub reads_below : (depth : ℕ) (frames : Frames) (page i : ℕ) (before after : List CatalogItem) → ReadsNodes (below_first depth frames page i) before after → length (page_in frames page).nodes ≤ i → ReadsNodes (entries (suc depth) frames page) before after
reads_below depth frames page i before after so h =
    subst (λ (l : List Node). ReadsNodes (flat_map (λ n. entries depth frames (child_of n)) l) before after) (take_all i (page_in frames page).nodes h) so

-- ---- nodes that tell nothing

item_at_place : (nodes : List Node) (i : ℕ) → AllByRecursion IsItemNode nodes → i < length nodes → IsItemNode (node_at nodes i)
item_at_place [] i all h = absurd (omega arith)
item_at_place (n ∷ nodes) zero all h = all.0
item_at_place (n ∷ nodes) (suc i) all h = item_at_place nodes i all.1 (omega arith)

pub longer : (n : Node) → ¬ (n.extent ≡ length n.data) → ¬ AllByRecursion IsItemNode (n ∷ [])
longer n refuted all = let x = all.0 in refuted (ap (λ (m : Node). m.extent) x.2 ∙ sym (ap (λ (m : Node). length m.data) x.2))

tells_of : (n : Node) (x : CatalogItem) → item_fits x ≡ true → n ≡ item_node x → Tells n.key n.data x
tells_of n x fits is = (fits, ap (λ (m : Node). m.key) is, ap (λ (m : Node). m.data) is)

pub unread : (n : Node) (why : CatalogFault) → ((x : CatalogItem) → Tells n.key n.data x → why ≡ fault.OutOfMemory) → TellsNoItem (n ∷ []) why
unread n fault.BadNode only = λ all.
    let x = all.0 in
    differ (only x.0 (tells_of n x.0 x.1 x.2))
  where
    differ : fault.BadNode ≡ fault.OutOfMemory → ⊥
    differ e = absurd cc
unread n fault.OutOfMemory only = tt

pub unread_memory : (nodes : List Node) (why : CatalogFault) → why ≡ fault.OutOfMemory → TellsNoItem nodes why
unread_memory nodes why e = subst (TellsNoItem nodes) (sym e) tt

pub unread_place : (nodes : List Node) (i : ℕ) (why : CatalogFault) → i < length nodes → TellsNoItem (node_at nodes i ∷ []) why → TellsNoItem nodes why
unread_place nodes i fault.BadNode h refuted = λ all. refuted (item_at_place nodes i all h, tt)
unread_place nodes i fault.OutOfMemory h refuted = tt

all_child : (f : Node → List Node) (nodes : List Node) (i : ℕ) → i < length nodes → AllByRecursion IsItemNode (flat_map f nodes) → AllByRecursion IsItemNode (f (node_at nodes i))
all_child f [] i h all = absurd (omega arith)
all_child f (n ∷ nodes) zero h all = (all_parted IsItemNode (f n) (flat_map f nodes) all).0
all_child f (n ∷ nodes) (suc i) h all = all_child f nodes i (omega arith) (all_parted IsItemNode (f n) (flat_map f nodes) all).1

pub unread_child : (depth : ℕ) (frames : Frames) (page i : ℕ) (why : CatalogFault) → i < length (page_in frames page).nodes → TellsNoItem (entries depth frames (child_of (node_at (page_in frames page).nodes i))) why → TellsNoItem (entries (suc depth) frames page) why
unread_child depth frames page i fault.BadNode h refuted = λ all. refuted (all_child (λ n. entries depth frames (child_of n)) (page_in frames page).nodes i h all)
unread_child depth frames page i fault.OutOfMemory h refuted = tt

-- ---- pages

pub page_is : (frames : Frames) (page : ℕ) (p : PageContents) → page_at frames page ≡ Some p → page_in frames page ≡ p
page_is frames page p e = ap (λ (o : Option PageContents). unwrap_or o (empty_page page)) e

pub root_taken : (depth : ℕ) (frames : Frames) (page : ℕ) → IsSubtree depth frames page → IsTaken frames page
root_taken zero frames page tree = tree.taken
root_taken (suc depth) frames page tree = tree.0.taken

-- ---- all nodes

pub all_items : (nodes : List Node) (before items : List CatalogItem) → before ≡ [] → ReadsNodes nodes before items → nodes ≡ map item_node items
all_items nodes before items none read = read.nodes_are ∙ ap (map item_node) (sym (read.items ∙ ap (λ (l : List CatalogItem). l ++ read.told) none))

pub all_fit : (nodes : List Node) (before items : List CatalogItem) → before ≡ [] → ReadsNodes nodes before items → list_all item_fits items ≡ true
all_fit nodes before items none read = ap (list_all item_fits) (read.items ∙ ap (λ (l : List CatalogItem). l ++ read.told) none) ∙ read.fit
