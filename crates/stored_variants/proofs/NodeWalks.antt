-- The nodes of a table, gone over in the order of their bookmarks.
use Rattle.std.proofs.Common.{◌≡◌, ℕ, ◌<◌, Bool, true, false, inl, inr, cond, List, [], ◌∷◌, length, Option, Some, None, filter, find, option_map, refl, sym, ap, subst, ◌∙◌}
use Rattle.std.specs.Prelude.{bytes_eq}
use Rattle.std.specs.List.{list_all}
use Rattle.std.specs.Cmp.Lexicographic.{texts_ties}
use Rattle.std.proofs.lemmas.Bool.{false_from_ne_true}
use Rattle.common_lemmas.proofs.Booleans.{and_left, and_right, impossible}
use Rattle.page_image.specs.Page.{Node}
use Rattle.btree_inplace.specs.Order.{has_key, key_and_data}
use Rattle.index_derive.specs.declared.entries.Place.{Place}
use Rattle.index_derive.specs.declared.entries.Place.TheVariants.{On}
use Rattle.cursor_nav.specs.Places.{Pair, are_sorted, is_beyond, pair_lt}
use Rattle.common_lemmas.proofs.Numbers.{equal_bytes}
use Rattle.table_trees.specs.StoredNodes.{bookmark_entries, node_after}
use Rattle.laws_engine.proofs.TableLemmas.Neighbours.{IsIn, all_in, fewer, found_in}
use Rattle.stored_variants.proofs.NodeRecords.{apart, key_is}
use Rattle.laws_engine.proofs.TableLemmas.Order.{beyond_more, not_back, not_itself}

-- whether a bookmark lies beyond a place, and a node does
abbrev pub is_past : Place → List ℕ → Bool
is_past place bookmark = is_beyond place (bookmark, bookmark)

abbrev pub is_node_past : Place → Node → Bool
is_node_past place n = is_past place n.key

-- the least node beyond a place
abbrev pub IsNext : Place → List Node → Node → Type 0
IsNext place nodes n = find (is_node_past place) nodes ≡ Some n

-- the node with a bookmark and a row that were found
pub record IsNode (place : Place) (nodes : List Node) (bookmark bytes : List ℕ) : Type 0 where
  pub node : Node
  pub next : IsNext place nodes node
  pub key : node.key ≡ bookmark
  pub row : node.data ≡ bytes

pub next_node : (place : Place) (nodes : List Node) (bookmark bytes : List ℕ) → node_after place nodes ≡ Some (bookmark, bytes) → IsNode place nodes bookmark bytes
next_node place nodes bookmark bytes e = by (find (is_node_past place) nodes) refl e
  where
    pair : Pair
    pair = (bookmark, bytes)

    pair_or : Option Pair → Pair
    pair_or None = pair
    pair_or (Some p) = p

    no : {A : Type 0} → None ≡ Some pair → A
    no e = cc

    by : (o : Option Node) → find (is_node_past place) nodes ≡ o → option_map key_and_data o ≡ Some pair → IsNode place nodes bookmark bytes
    by None f e = no e
    by (Some n) f e = record { node = n; next = f; key = ap (λ (o : Option Pair). (pair_or o).0) e; row = ap (λ (o : Option Pair). (pair_or o).1) e }

pub entry_in : (n : Node) (nodes : List Node) → IsIn n nodes → IsIn (n.key, n.key) (bookmark_entries nodes)
entry_in n [] i = absurd i
entry_in n (x ∷ nodes) (inl same) = inl (ap (λ (m : Node). (m.key, m.key)) same)
entry_in n (x ∷ nodes) (inr later) = inr (entry_in n nodes later)

pub below : (x n : Node) (nodes : List Node) → list_all (pair_lt (x.key, x.key)) (bookmark_entries nodes) ≡ true → IsIn n nodes → pair_lt (x.key, x.key) (n.key, n.key) ≡ true
below x n nodes low i = all_in (pair_lt (x.key, x.key)) (n.key, n.key) (bookmark_entries nodes) low (entry_in n nodes i)

pub has_own_key : (n : Node) (key : List ℕ) → n.key ≡ key → has_key key n ≡ true
has_own_key n key same = sym (texts_ties n.key key) ∙ equal_bytes n.key key same

-- the node that is found is the one under its bookmark
pub next_is_there : (place : Place) (nodes : List Node) (n : Node) → are_sorted (bookmark_entries nodes) ≡ true → IsNext place nodes n → find (has_key n.key) nodes ≡ Some n
next_is_there place [] n sorted e = cc
next_is_there place (x ∷ nodes) n sorted e = by (is_node_past place x) refl e (next_is_there place nodes n (and_right (list_all (pair_lt (x.key, x.key)) (bookmark_entries nodes)) _ sorted))
  where
    low : list_all (pair_lt (x.key, x.key)) (bookmark_entries nodes) ≡ true
    low = and_left _ _ sorted

    node_or : Option Node → Node
    node_or None = x
    node_or (Some m) = m

    by : (b : Bool) → is_node_past place x ≡ b → cond b (Some x) (find (is_node_past place) nodes) ≡ Some n → (find (is_node_past place) nodes ≡ Some n → find (has_key n.key) nodes ≡ Some n)
        → cond (has_key n.key x) (Some x) (find (has_key n.key) nodes) ≡ Some n
    by true f e rest =
        let same : x ≡ n = ap node_or e in
        ap (λ b. cond b (Some x) (find (has_key n.key) nodes)) (has_own_key x n.key (ap (λ (m : Node). m.key) same)) ∙ ap (λ (m : Node). Some m) same
    by false f e rest =
        let other : has_key n.key x ≡ false = false_from_ne_true (has_key n.key x) (λ same. apart x.key n.key (below x n nodes low (found_in (is_node_past place) n nodes e).0) (key_is x.key n.key same)) in
        ap (λ b. cond b (Some x) (find (has_key n.key) nodes)) other ∙ rest e

-- another bookmark of a node lies beyond the place just where it lies beyond the node that is found
pub past_next : (place : Place) (nodes : List Node) (n m : Node) (own : List ℕ) → are_sorted (bookmark_entries nodes) ≡ true → IsNext place nodes n → find (has_key own) nodes ≡ Some m → bytes_eq own n.key ≡ false
    → is_past place own ≡ is_past (On n.key n.key) own
past_next place [] n m own sorted e here other = cc
past_next place (x ∷ nodes) n m own sorted e here other =
    by (is_node_past place x) refl (has_key own x) refl e here (λ e here. past_next place nodes n m own (and_right (list_all (pair_lt (x.key, x.key)) (bookmark_entries nodes)) _ sorted) e here other)
  where
    low : list_all (pair_lt (x.key, x.key)) (bookmark_entries nodes) ≡ true
    low = and_left _ _ sorted

    node_or : Option Node → Node
    node_or None = x
    node_or (Some y) = y

    past_all : (k : List ℕ) → x.key ≡ k → bytes_eq own k ≡ false → pair_lt (x.key, x.key) (own, own) ≡ true → is_node_past place x ≡ true → is_past place own ≡ is_past (On k k) own
    past_all k same other above past = beyond_more place (x.key, x.key) (own, own) past above ∙ sym (ap (λ (b : List ℕ). pair_lt (b, b) (own, own)) (sym same) ∙ above)

    by : (b : Bool) → is_node_past place x ≡ b → (c : Bool) → has_key own x ≡ c → cond b (Some x) (find (is_node_past place) nodes) ≡ Some n → cond c (Some x) (find (has_key own) nodes) ≡ Some m
        → (find (is_node_past place) nodes ≡ Some n → find (has_key own) nodes ≡ Some m → is_past place own ≡ is_past (On n.key n.key) own) → is_past place own ≡ is_past (On n.key n.key) own
    by true f true g e here rest = impossible (sym other ∙ equal_bytes own n.key (sym (key_is x.key own g) ∙ ap (λ (o : Option Node). (node_or o).key) e))
    by true f false g e here rest =
        let found = found_in (has_key own) m nodes here in
        past_all n.key (ap (λ (o : Option Node). (node_or o).key) e) other (subst (λ (k : List ℕ). pair_lt (x.key, x.key) (k, k) ≡ true) (key_is m.key own found.1) (below x m nodes low found.0)) f
    by false f true g e here rest =
        let same : x.key ≡ own = key_is x.key own g in
        ap (is_past place) (sym same) ∙ f
        ∙ sym (ap (λ (k : List ℕ). pair_lt (n.key, n.key) (k, k)) (sym same) ∙ not_back (x.key, x.key) (n.key, n.key) (below x n nodes low (found_in (is_node_past place) n nodes e).0))
    by false f false g e here rest = rest e here

-- where none is found all nodes have been passed
pub none_past : (place : Place) (nodes : List Node) (m : Node) (own : List ℕ) → find (is_node_past place) nodes ≡ None → find (has_key own) nodes ≡ Some m → is_past place own ≡ false
none_past place [] m own e here = cc
none_past place (x ∷ nodes) m own e here = by (is_node_past place x) refl (has_key own x) refl e here (none_past place nodes m own)
  where
    no : {A : Type 0} → Some x ≡ None → A
    no e = cc

    by : (b : Bool) → is_node_past place x ≡ b → (c : Bool) → has_key own x ≡ c → cond b (Some x) (find (is_node_past place) nodes) ≡ None → cond c (Some x) (find (has_key own) nodes) ≡ Some m
        → (find (is_node_past place) nodes ≡ None → find (has_key own) nodes ≡ Some m → is_past place own ≡ false) → is_past place own ≡ false
    by true f c g e here rest = no e
    by false f true g e here rest = ap (is_past place) (sym (key_is x.key own g)) ∙ f
    by false f false g e here rest = rest e here

-- how many nodes are left beyond a place
abbrev pub nodes_left : Place → List Node → ℕ
nodes_left place nodes = length (filter (is_beyond place) (bookmark_entries nodes))

pub fewer_nodes : (place : Place) (nodes : List Node) (bookmark bytes : List ℕ) → node_after place nodes ≡ Some (bookmark, bytes) → nodes_left (On bookmark bookmark) nodes < nodes_left place nodes
fewer_nodes place nodes bookmark bytes e = subst (λ (k : List ℕ). nodes_left (On k k) nodes < nodes_left place nodes) (next_node place nodes bookmark bytes e).key (less (next_node place nodes bookmark bytes e).node (next_node place nodes bookmark bytes e).next)
  where
    less : (n : Node) → IsNext place nodes n → nodes_left (On n.key n.key) nodes < nodes_left place nodes
    less n next =
        let found = found_in (is_node_past place) n nodes next in
        fewer (pair_lt (n.key, n.key)) (is_beyond place) (n.key, n.key) (λ y above. beyond_more place (n.key, n.key) y found.1 above) (not_itself (n.key, n.key)) found.1 (bookmark_entries nodes) (entry_in n nodes found.0)
