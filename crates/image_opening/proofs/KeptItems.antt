-- The items of a catalog as the engine keeps them, and the nodes of the catalog once those that may differ are written again.
use Rattle.std.proofs.Common.{◌≡◌, ℕ, ◌^◌, Bool, true, false, inl, inr, Some, List, [], ◌∷◌, length, map, refl, sym, ap, subst, ◌∙◌, arith}
use Rattle.std.specs.Prelude.{◌&&◌, ◌⊎◌, find, nat_lt, if◌then◌else◌}
use Rattle.std.specs.List.{list_all}
use Rattle.std.specs.Option.{option_map}
use Rattle.std.specs.Ordering.{nat_cmp, is_eq, ordering_reverse}
use Rattle.std.specs.declared.cmp.Ordering.TheVariants.{Less}
use Rattle.std.specs.Cmp.Lexicographic.{slice_cmp}
use Rattle.std.proofs.lemmas.Bool.{and_from}
use Rattle.std.proofs.lemmas.Cmp.{nat_list_cmp_total, tied_itself}
use Rattle.common_lemmas.proofs.Booleans.{and_left, and_right, by_test, impossible}
use Rattle.column_set.specs.declared.columns.Column.{Column}
use Rattle.column_set.specs.RecordValues.{tagged_if_long}
use Rattle.index_derive.specs.declared.rules.IndexRule.{IndexRule}
use Rattle.page_image.specs.Page.{Node}
use Rattle.log_grammar.specs.EntryBytes.{index_fits}
use Rattle.btree_inplace.specs.Changes.{with_data_at}
use Rattle.btree_inplace.specs.Order.{extent_in, has_key}
use Rattle.catalog_grammar.specs.CatalogBytes.{index_data, item_data, item_fits, item_key, item_node}
use Rattle.catalog_grammar.specs.declared.items.CatalogItem.{CatalogItem}
use Rattle.catalog_grammar.specs.declared.items.CatalogItem.TheVariants as item
use Rattle.catalog_grammar.proofs.Rising.{Below, Each, Rise}
use Rattle.image_opening.specs.KeptNodes.{HasRoom, HaveRoom, with_items}
use Rattle.image_opening.proofs.Exact.{In, all_in, each_in}
use Rattle.image_opening.proofs.Lists.{map_map}

-- an item as the engine keeps it
abbrev pub kept_item : CatalogItem → CatalogItem
kept_item (item.Greatest greatest) = item.Greatest greatest
kept_item (item.Table table) = item.Table table
kept_item (item.Column table column) = item.Column table (tagged_if_long column)
kept_item (item.Index table root index) = item.Index table (if index.flags.primary then 0 else root) index

-- ---- its key, and as many bytes

key_kept : (x : CatalogItem) → item_key (kept_item x) ≡ item_key x
key_kept (item.Greatest greatest) = refl
key_kept (item.Table table) = refl
key_kept (item.Column table column) = refl
key_kept (item.Index table root index) = refl

index_length : (index : IndexRule) (b : Bool) (root : ℕ) → length (index_data (if b then 0 else root) index) ≡ length (index_data root index)
unfolding index_data
index_length index true root = refl
index_length index false root = refl

length_kept : (x : CatalogItem) → length (item_data (kept_item x)) ≡ length (item_data x)
length_kept (item.Greatest greatest) = refl
length_kept (item.Table table) = refl
length_kept (item.Column table column) = refl
length_kept (item.Index table root index) = index_length index index.flags.primary root

root_fits : (b : Bool) (root : ℕ) → nat_lt root (2 ^ 32) ≡ true → nat_lt (if b then 0 else root) (2 ^ 32) ≡ true
root_fits true root h = refl
root_fits false root h = h

fits_kept : (x : CatalogItem) → item_fits x ≡ true → item_fits (kept_item x) ≡ true
fits_kept (item.Greatest greatest) h = h
fits_kept (item.Table table) h = h
fits_kept (item.Column table column) h = h
fits_kept (item.Index table root index) h =
    let rest = and_right (nat_lt table.0 (2 ^ 32)) (nat_lt root (2 ^ 32) && index_fits index) h in
    and_from (nat_lt table.0 (2 ^ 32)) (nat_lt (if index.flags.primary then 0 else root) (2 ^ 32) && index_fits index) (and_left (nat_lt table.0 (2 ^ 32)) (nat_lt root (2 ^ 32) && index_fits index) h)
    (and_from (nat_lt (if index.flags.primary then 0 else root) (2 ^ 32)) (index_fits index) (root_fits index.flags.primary root (and_left (nat_lt root (2 ^ 32)) (index_fits index) rest)) (and_right (nat_lt root (2 ^ 32)) (index_fits index) rest))

pub all_fit_kept : (items : List CatalogItem) → list_all item_fits items ≡ true → list_all item_fits (map kept_item items) ≡ true
all_fit_kept [] h = refl
all_fit_kept (x ∷ items) h =
    and_from (item_fits (kept_item x)) (list_all item_fits (map kept_item items)) (fits_kept x (and_left (item_fits x) (list_all item_fits items) h)) (all_fit_kept items (and_right (item_fits x) (list_all item_fits items) h))

-- ---- two items with one key are one

below_differs : (a b : List ℕ) → slice_cmp nat_cmp a b ≡ Less → is_eq (slice_cmp nat_cmp a b) ≡ false
below_differs a b lt = ap is_eq lt

above_differs : (a b : List ℕ) → slice_cmp nat_cmp b a ≡ Less → is_eq (slice_cmp nat_cmp a b) ≡ false
above_differs a b lt = ap is_eq (nat_list_cmp_total.antisymm a b) ∙ ap (λ r. is_eq (ordering_reverse r)) lt

itself : (a : List ℕ) → is_eq (slice_cmp nat_cmp a a) ≡ true
itself a = ap is_eq (tied_itself nat_list_cmp_total a)

same_by_key : (x y : CatalogItem) (items : List CatalogItem) → Rise items → In x items → In y items → has_key (item_key y) (item_node x) ≡ true → x ≡ y
same_by_key x y [] rise h k e = absurd h
same_by_key x y (z ∷ items) rise (inl a) (inl b) e = a ∙ sym b
same_by_key x y (z ∷ items) rise (inl a) (inr k) e =
    impossible (sym (below_differs (item_key x) (item_key y) (subst (λ w. Below w y) (sym a) (each_in (Below z) y items rise.0 k))) ∙ e)
same_by_key x y (z ∷ items) rise (inr h) (inl b) e =
    impossible (sym (above_differs (item_key x) (item_key y) (subst (λ w. Below w x) (sym b) (each_in (Below z) x items rise.0 h))) ∙ e)
same_by_key x y (z ∷ items) rise (inr h) (inr k) e = same_by_key x y items rise.1 h k e

found_in : (x : CatalogItem) (items : List CatalogItem) → Rise items → In x items → find (has_key (item_key x)) (map item_node items) ≡ Some (item_node x)
found_in x [] rise h = absurd h
found_in x (y ∷ items) rise (inl is) =
    ap (λ (b : Bool). if b then Some (item_node y) else find (has_key (item_key x)) (map item_node items)) (ap (λ w. is_eq (slice_cmp nat_cmp (item_key w) (item_key x))) (sym is) ∙ itself (item_key x)) ∙ ap (λ w. Some (item_node w)) (sym is)
found_in x (y ∷ items) rise (inr h) =
    ap (λ (b : Bool). if b then Some (item_node y) else find (has_key (item_key x)) (map item_node items)) (below_differs (item_key y) (item_key x) (each_in (Below y) x items rise.0 h)) ∙ found_in x items rise.1 h

-- ---- items that are written again

-- an item as it is kept, of one among these
pub record IsKeptOf (items : List CatalogItem) (w : CatalogItem) : Type 0 where
  pub x : CatalogItem
  pub there : In x items
  pub kept : w ≡ kept_item x

-- an item is written again as it is kept, or it is kept as it is
abbrev pub IsWritten : List CatalogItem → CatalogItem → Type 0
IsWritten again x = In (kept_item x) again ⊎ (kept_item x ≡ x)

-- each of them has room
room_of : (items : List CatalogItem) (w : CatalogItem) → Rise items → list_all item_fits items ≡ true → IsKeptOf items w → HasRoom (map item_node items) w
room_of items w rise fit of =
    subst (HasRoom (map item_node items)) (sym of.kept)
    (record {
      fits = fits_kept of.x (fits_in of.x items fit of.there);
      room = ap (extent_in (map item_node items)) (key_kept of.x) ∙ ap (option_map (λ (n : Node). n.extent)) (found_in of.x items rise of.there) ∙ ap Some (sym (length_kept of.x));
    })
  where
    fits_in : (x : CatalogItem) (all : List CatalogItem) → list_all item_fits all ≡ true → In x all → item_fits x ≡ true
    fits_in x [] h there = absurd there
    fits_in x (y ∷ all) h (inl is) = ap item_fits is ∙ and_left (item_fits y) (list_all item_fits all) h
    fits_in x (y ∷ all) h (inr there) = fits_in x all (and_right (item_fits y) (list_all item_fits all) h) there

pub have_room : (items again : List CatalogItem) → Rise items → list_all item_fits items ≡ true → Each (IsKeptOf items) again → HaveRoom (map item_node items) again
have_room items [] rise fit h = tt
have_room items (w ∷ again) rise fit h = (room_of items w rise fit h.0, have_room items again rise fit h.1)

-- ---- node by node

abbrev written : CatalogItem → Node → Node
written w n = if has_key (item_key w) n then record n { «data» = item_data w } else n

abbrev rewritten : List CatalogItem → Node → Node
rewritten [] n = n
rewritten (w ∷ again) n = rewritten again (written w n)

each_rewritten : (again : List CatalogItem) (nodes : List Node) → with_items again nodes ≡ map (rewritten again) nodes
each_rewritten [] nodes = same nodes
  where
    same : (l : List Node) → l ≡ map (λ n. n) l
    same [] = refl
    same (n ∷ l) = ap (λ (k : List Node). n ∷ k) (same l)
each_rewritten (w ∷ again) nodes = each_rewritten again (with_data_at nodes (item_key w) (item_data w)) ∙ sym (map_map (rewritten again) (written w) nodes)

-- the node of an item, or of the item as it is kept: the same key, and the same extent
abbrev node_with : CatalogItem → List ℕ → Node
node_with x bytes = record { key = item_key x; extent = length (item_data x); «data» = bytes }

kept_node : (x : CatalogItem) → node_with x (item_data (kept_item x)) ≡ item_node (kept_item x)
kept_node x = λ i. record { key = sym (key_kept x) i; extent = sym (length_kept x) i; «data» = item_data (kept_item x) }

-- an item with the key of another is that one as it is kept
kept_as : (items : List CatalogItem) (w x : CatalogItem) → Rise items → In x items → IsKeptOf items w → has_key (item_key w) (item_node x) ≡ true → w ≡ kept_item x
kept_as items w x rise there of is =
    let key : item_key w ≡ item_key of.x = ap item_key of.kept ∙ key_kept of.x in
    of.kept ∙ ap kept_item (sym (same_by_key x of.x items rise there of.there (ap (λ (k : List ℕ). has_key k (item_node x)) (sym key) ∙ is)))

-- what is left of a node that is as it is kept: the same
kept_left : (items again : List CatalogItem) (x : CatalogItem) → Rise items → In x items → Each (IsKeptOf items) again → rewritten again (node_with x (item_data (kept_item x))) ≡ node_with x (item_data (kept_item x))
kept_left items [] x rise there h = refl
kept_left items (w ∷ again) x rise there h =
    ap (rewritten again)
    (by_test (has_key (item_key w) (item_node x))
    (λ is. ap (λ (b : Bool). if b then node_with x (item_data w) else node_with x (item_data (kept_item x))) is ∙ ap (λ y. node_with x (item_data y)) (kept_as items w x rise there h.0 is))
    (λ refuted. ap (λ (b : Bool). if b then node_with x (item_data w) else node_with x (item_data (kept_item x))) refuted))
    ∙ kept_left items again x rise there h.1

-- what is left of a node where one of the items is as it is kept
left_of : (items again : List CatalogItem) (x : CatalogItem) → Rise items → In x items → Each (IsKeptOf items) again → IsWritten again x → rewritten again (item_node x) ≡ node_with x (item_data (kept_item x))
left_of items again x rise there h (inr same) = ap (λ y. rewritten again (node_with x (item_data y))) (sym same) ∙ kept_left items again x rise there h
left_of items [] x rise there h (inl none) = absurd none
left_of items (w ∷ again) x rise there h (inl (inl is)) =
    ap (rewritten again)
    (ap (λ (b : Bool). if b then node_with x (item_data w) else item_node x) (ap (λ (k : List ℕ). has_key k (item_node x)) (sym (ap item_key is) ∙ key_kept x) ∙ itself (item_key x)) ∙ ap (λ y. node_with x (item_data y)) (sym is))
    ∙ kept_left items again x rise there h.1
left_of items (w ∷ again) x rise there h (inl (inr later)) =
    by_test (has_key (item_key w) (item_node x))
    (λ is. ap (rewritten again) (ap (λ (b : Bool). if b then node_with x (item_data w) else item_node x) is ∙ ap (λ y. node_with x (item_data y)) (kept_as items w x rise there h.0 is)) ∙ kept_left items again x rise there h.1)
    (λ refuted. ap (rewritten again) (ap (λ (b : Bool). if b then node_with x (item_data w) else item_node x) refuted) ∙ left_of items again x rise there h.1 (inl later))

rewritten_each : (items again rest : List CatalogItem) → Rise items → Each (λ x. In x items) rest → Each (IsKeptOf items) again → Each (IsWritten again) rest → map (rewritten again) (map item_node rest) ≡ map item_node (map kept_item rest)
rewritten_each items again [] rise there h all = refl
rewritten_each items again (x ∷ rest) rise there h all =
    let first = left_of items again x rise there.0 h all.0 ∙ kept_node x in
    let others = rewritten_each items again rest rise there.1 h all.1 in
    λ i. first i ∷ others i

-- the nodes once the items are written again are those of the items as they are kept
pub written_nodes : (items again : List CatalogItem) → Rise items → Each (IsKeptOf items) again → Each (IsWritten again) items → with_items again (map item_node items) ≡ map item_node (map kept_item items)
written_nodes items again rise h all = each_rewritten again (map item_node items) ∙ rewritten_each items again items rise (all_in items) h all
