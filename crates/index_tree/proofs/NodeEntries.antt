-- The nodes of a tree as entries.
use Rattle.std.proofs.Common.{◌≡◌, ℕ, ◌≤◌, Bool, true, false, ◌&&◌, nat_eq, List, [], ◌∷◌, ◌++◌, length, take, drop, reverse, map, filter, find, Option, Some, None, option_map, refl, sym, ap, subst, ◌∙◌, true≢false, bytes_eq, arith}
use Rattle.std.specs.Prelude.{All}
use Rattle.std.specs.List.{last_or}
use Rattle.std.proofs.lemmas.Bool.{and_parts, eqb-false, eqb-true}
use Rattle.std.proofs.lemmas.Slice.Eq.{bytes_eq-Decides}
use Rattle.std.proofs.lemmas.List.{append-nil}
use Rattle.std.proofs.lemmas.List.Elements.{All-head, All-tail, All-weaker}
use Rattle.std.proofs.Math.Seq.{take-append_seam, drop-append_seam}
use Rattle.std.specs.Ordering.{is_eq}
use Rattle.common_lemmas.proofs.Finding.{find_map, find_reverse, last_map}
use Rattle.common_lemmas.proofs.Orders.{is_equal}
use Rattle.common_lemmas.proofs.Booleans.{by_test}
use Rattle.common_lemmas.proofs.Numbers.{same_bytes}
use Rattle.byteorder.specs.Endian.{little_bytes, little_number}
use Rattle.byteorder.specs.Numbers.{length-bytes_low_first, little_number-reads_back}
use Rattle.page_image.specs.Page.{Node}
use Rattle.page_space.specs.Frames.{Frames}
use Rattle.btree_inplace.specs.Order.{get_in, has_key, key_and_data}
use Rattle.btree_inplace.specs.Trees.{IsTree, nodes_of}
use Rattle.cursor_nav.specs.Places.{Pair, are_sorted}
use Rattle.laws_versions.specs.KeptEntries.{has_entry}
use Rattle.index_tree.specs.Entries.{AreApart, IsApart, IsShort, entry_of_node, node_of_entry}
use Rattle.index_tree.specs.IndexTrees.{IsIndexTree, entries_of}
use Rattle.index_tree.specs.declared.index.IndexTree.{IndexTree}
use Rattle.index_tree.proofs.Bytes.{itself, order, tied}
use Rattle.index_tree.proofs.PairOrder.{is_same}
use Rattle.index_tree.proofs.Lists.{any_found, any_none, found_all, found_passes, none_passes}
use Rattle.index_tree.proofs.Cutting.{found_apart}

-- ---- an entry of a node

pub size_read : (n : ℕ) → n ≤ 255 → little_number 2 (little_bytes 2 n) ≡ n
size_read n le = ap (little_number 2) (sym (append-nil (little_bytes 2 n))) ∙ little_number-reads_back 2 n [] (omega arith)

pub size_length : (n : ℕ) → length (little_bytes 2 n) ≡ 2
size_length n = length-bytes_low_first 0 2 n

pub entry_again : (e : Pair) → IsShort e → entry_of_node (node_of_entry e) ≡ e
entry_again e h =
    ap (λ (n : ℕ). (take n (e.0 ++ e.1), drop n (e.0 ++ e.1))) (size_read (length e.0) h.key)
    ∙ (λ i. (take-append_seam e.0 e.1 i, drop-append_seam e.0 e.1 i))

pub entries_again : (es : List Pair) → All IsShort es → map entry_of_node (map node_of_entry es) ≡ es
entries_again [] h = refl
entries_again (e ∷ es) h = (λ i. entry_again e (All-head IsShort e es h) i ∷ entries_again es (All-tail IsShort e es h) i)

-- a tree of the nodes of entries that are in order
pub holds_entries : (frames : Frames) (index : IndexTree) (es : List Pair) → IsTree frames index.tree → nodes_of frames index.tree ≡ map node_of_entry es
    → are_sorted es ≡ true → All IsShort es → AreApart es → IsIndexTree frames index × (entries_of frames index ≡ es)
holds_entries frames index es tree nodes sorted short apart =
    let same : entries_of frames index ≡ es = ap (map entry_of_node) nodes ∙ entries_again es short in (
      record {
        tree = tree;
        nodes = nodes ∙ ap (map node_of_entry) (sym same);
        in_order = ap are_sorted same ∙ sorted;
        short = subst (All IsShort) (sym same) short;
        apart = subst AreApart (sym same) apart;
      },
      same,
    )

-- ---- found nodes

both_maps : (o : Option Pair) → option_map key_and_data (option_map node_of_entry o) ≡ option_map (λ e. key_and_data (node_of_entry e)) o
both_maps None = refl
both_maps (Some e) = refl

pub node_from : (nodes : List Node) (es : List Pair) (test : Node → Bool) → nodes ≡ map node_of_entry es
    → option_map key_and_data (find test nodes) ≡ option_map (λ e. key_and_data (node_of_entry e)) (find (λ e. test (node_of_entry e)) es)
node_from nodes es test same =
    ap (λ ns. option_map key_and_data (find test ns)) same
    ∙ ap (option_map key_and_data) (find_map node_of_entry test es)
    ∙ both_maps (find (λ e. test (node_of_entry e)) es)

pub node_upto : (nodes : List Node) (es : List Pair) (test : Node → Bool) → nodes ≡ map node_of_entry es
    → option_map key_and_data (find test (reverse nodes)) ≡ option_map (λ e. key_and_data (node_of_entry e)) (last_or None (filter (λ e. test (node_of_entry e)) es))
node_upto nodes es test same =
    ap (λ ns. option_map key_and_data (find test (reverse ns))) same
    ∙ ap (option_map key_and_data) (find_reverse test (map node_of_entry es) ∙ last_map node_of_entry test None es)
    ∙ both_maps (last_or None (filter (λ e. test (node_of_entry e)) es))

-- ---- whether an entry is there

cons_head : (x y : ℕ) (xs ys : List ℕ) → x ∷ xs ≡ y ∷ ys → x ≡ y
cons_head x y xs ys e = cc

cons_tail : (x y : ℕ) (xs ys : List ℕ) → x ∷ xs ≡ y ∷ ys → xs ≡ ys
cons_tail x y xs ys e = cc

not_empty : (x : ℕ) (xs : List ℕ) → x ∷ xs ≡ [] → ⊥
not_empty x xs e = cc

-- apart keys that begin the same string are the same
pub same_fronts : (a b s t : List ℕ) → IsApart a b → a ++ s ≡ b ++ t → a ≡ b
same_fronts [] [] s t h e = refl
same_fronts [] (y ∷ b) s t h e = absurd (not_empty y b (h.begins_not (y ∷ b) refl))
same_fronts (x ∷ a) [] s t h e = absurd (not_empty x a (h.begun_not (x ∷ a) refl))
same_fronts (x ∷ a) (y ∷ b) s t h e =
    let first : x ≡ y = cons_head x y (a ++ s) (b ++ t) e in
    let k : IsApart (x ∷ a) (x ∷ b) = subst (λ z. IsApart (x ∷ a) (z ∷ b)) (sym first) h in
    let rest : a ≡ b = same_fronts a b s t (record { begins_not = λ r f. k.begins_not r (ap (λ l. x ∷ l) f); begun_not = λ r f. k.begun_not r (ap (λ l. x ∷ l) f) }) (cons_tail x y (a ++ s) (b ++ t) e) in
    (λ i. first i ∷ rest i)

-- strings of the same length that begin the same string are the same
pub same_cut : (a b s t : List ℕ) → length a ≡ length b → a ++ s ≡ b ++ t → (a ≡ b) × (s ≡ t)
same_cut a b s t le e =
    let front : a ≡ b = sym (take-append_seam a s) ∙ (λ i. take (le i) (e i)) ∙ take-append_seam b t in
    let back : s ≡ t = sym (drop-append_seam a s) ∙ (λ i. drop (le i) (e i)) ∙ drop-append_seam b t in
    (front, back)

has_node : List ℕ → Pair → Bool
has_node key x = is_eq (order (x.0 ++ x.1) key)

pub same_pair : (k c : List ℕ) (x : Pair) → is_same (k, c) x ≡ true → (x.0 ≡ k) × (x.1 ≡ c)
same_pair k c x h =
    let both = and_parts (bytes_eq x.0 k) (bytes_eq x.1 c) h in
    (same_bytes x.0 k both.0, same_bytes x.1 c both.1)

node_of_pair : (k c : List ℕ) (x : Pair) → is_same (k, c) x ≡ true → has_node (k ++ c) x ≡ true
unfolding has_node
node_of_pair k c x h =
    let both = same_pair k c x h in
    ap is_eq ((λ i. order (both.0 i ++ both.1 i) (k ++ c)) ∙ itself (k ++ c))

other_node : (k c : List ℕ) (x : Pair) → has_node (k ++ c) x ≡ false → is_same (k, c) x ≡ false
other_node k c x h = by_test (is_same (k, c) x) (λ t. absurd (true≢false (sym (node_of_pair k c x t) ∙ h))) (λ t. t)

none_found : {X Y : Type 0} (f : X → Y) (o : Option X) → None ≡ option_map f o → None ≡ o
none_found f None e = refl
none_found f (Some x) e = absurd cc

some_found : {X Y : Type 0} (f : X → Y) (o : Option X) (y : Y) → Some y ≡ option_map f o → (x : X) × (Some x ≡ o) × (y ≡ f x)
some_found f None y e = absurd cc
some_found f (Some x) y e = (x, refl, cc)

data_found : (o : Option Pair) → option_map (λ (n : Node). n.data) (option_map node_of_entry o) ≡ option_map (λ (e : Pair). little_bytes 2 (length e.0)) o
data_found None = refl
data_found (Some e) = refl

-- the data that a look-up finds
data_in : (nodes : List Node) (es : List Pair) (key : List ℕ) → nodes ≡ map node_of_entry es
    → get_in nodes key ≡ option_map (λ (e : Pair). little_bytes 2 (length e.0)) (find (has_node key) es)
unfolding has_node
data_in nodes es key same =
    ap (λ ns. get_in ns key) same
    ∙ ap (option_map (λ (n : Node). n.data)) (find_map node_of_entry (has_key key) es)
    ∙ data_found (find (has_node key) es)

pub not_there : (nodes : List Node) (es : List Pair) (k c : List ℕ) → nodes ≡ map node_of_entry es → None ≡ get_in nodes (k ++ c) → false ≡ has_entry k c es
not_there nodes es k c same e =
    let none : None ≡ find (has_node (k ++ c)) es = none_found (λ (x : Pair). little_bytes 2 (length x.0)) (find (has_node (k ++ c)) es) (e ∙ data_in nodes es (k ++ c) same) in
    sym (any_none (is_same (k, c)) es
    (All-weaker (λ x. has_node (k ++ c) x ≡ false) (λ x. is_same (k, c) x ≡ false) (other_node k c) es (none_passes (has_node (k ++ c)) es none)))

-- an entry whose node has the same key, cut elsewhere, is the only one with that node
cut_elsewhere : (k c : List ℕ) (f x : Pair) → f.0 ++ f.1 ≡ k ++ c → nat_eq (length f.0) (length k) ≡ false → IsApart f.0 x.0 → is_same (k, c) x ≡ false
cut_elsewhere k c f x e n h =
    by_test (is_same (k, c) x)
    (λ t.
    let both = same_pair k c x t in
    let same : f.0 ≡ k = same_fronts f.0 k f.1 c (subst (λ z. IsApart f.0 z) both.0 h) e in
    absurd (eqb-false (length f.0) (length k) n (ap length same)))
    (λ t. t)

same_cut_there : (k c : List ℕ) (f : Pair) → f.0 ++ f.1 ≡ k ++ c → nat_eq (length f.0) (length k) ≡ true → is_same (k, c) f ≡ true
same_cut_there k c f e n =
    let both = same_cut f.0 k f.1 c (eqb-true (length f.0) (length k) n) e in
    (λ i. bytes_eq (both.0 i) k && bytes_eq (both.1 i) c) ∙ (λ i. own_bytes k i && own_bytes c i)
  where
    own_bytes : (a : List ℕ) → bytes_eq a a ≡ true
    own_bytes a = (bytes_eq-Decides a a).1 refl

found_cut : (es : List Pair) (k c : List ℕ) (f : Pair) → AreApart es → Some f ≡ find (has_node (k ++ c)) es → nat_eq (length f.0) (length k) ≡ has_entry k c es
unfolding has_node
found_cut es k c f apart e =
    let node : f.0 ++ f.1 ≡ k ++ c = tied (f.0 ++ f.1) (k ++ c) (is_equal (order (f.0 ++ f.1) (k ++ c)) (found_passes (has_node (k ++ c)) es f e)) in
    by_test (nat_eq (length f.0) (length k))
    (λ t. t ∙ sym (any_found (has_node (k ++ c)) (is_same (k, c)) es f e (same_cut_there k c f node t)))
    (λ t. t ∙ sym (any_none (is_same (k, c)) es
    (All-weaker (λ (x : Pair). IsApart f.0 x.0) (λ x. is_same (k, c) x ≡ false) (λ x h. cut_elsewhere k c f x node t h) es (found_apart (has_node (k ++ c)) es f e apart))))

-- a node's data tells where its key ends, and so whether the entry is the one asked for
pub size_found : (nodes : List Node) (es : List Pair) (k c size : List ℕ) → nodes ≡ map node_of_entry es → All IsShort es → AreApart es → Some size ≡ get_in nodes (k ++ c)
    → (length size ≡ 2) × (nat_eq (little_number 2 size) (length k) ≡ has_entry k c es)
size_found nodes es k c size same short apart e =
    let found = some_found (λ (x : Pair). little_bytes 2 (length x.0)) (find (has_node (k ++ c)) es) size (e ∙ data_in nodes es (k ++ c) same) in
    let f : Pair = found.0 in
    let is_short : IsShort f = found_all IsShort (has_node (k ++ c)) es f found.1 short in (
      ap length found.2 ∙ size_length (length f.0),
      ap (λ (s : List ℕ). nat_eq (little_number 2 s) (length k)) found.2 ∙ ap (λ (n : ℕ). nat_eq n (length k)) (size_read (length f.0) is_short.key) ∙ found_cut es k c f apart found.1,
    )
