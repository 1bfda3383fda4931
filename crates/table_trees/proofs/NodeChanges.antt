-- The nodes of a table: what is found among them, and that changes keep them in order and short.
use Rattle.std.proofs.Common.{◌≡◌, ℕ, ◌≤◌, length, Bool, true, false, ◌&&◌, if◌then◌else◌, reverse, List, [], ◌∷◌, map, filter, find, Option, Some, None, option_map, Result, Ok, Err, refl, sym, ap, subst, ◌∙◌, true≢false, T}
use Rattle.std.specs.Prelude.{All, IfOk, IfSome, IsSome, IsSomeAnd, OnOk, bytes_eq, is_some}
use Rattle.std.specs.List.{last_or, list_all}
use Rattle.std.proofs.lemmas.List.Elements.{All-cons, All-head, All-tail}
use Rattle.std.proofs.lemmas.Map.Text.{is_eq-slice_cmp}
use Rattle.std.proofs.lemmas.Slice.Eq.{bytes_eq-Decides}
use Rattle.std.specs.declared.cmp.Ordering.{Ordering}
use Rattle.std.specs.declared.cmp.Ordering.TheVariants.{Less, Equal, Greater}
use Rattle.std.specs.Ordering.{is_eq, is_lt, ordering_reverse}
use Rattle.std.specs.Cmp.Lexicographic.{nat_list_cmp_total}
use Rattle.std.specs.FinMap.Entries.{by_order, below_all, is_sorted, is_sorted-put}
use Rattle.std.proofs.lemmas.Bool.{and_from}
use Rattle.common_lemmas.proofs.Booleans.{and_left, and_right, by_test}
use Rattle.common_lemmas.proofs.Orders.{is_equal}
use Rattle.common_lemmas.proofs.Finding.{find_map, find_reverse, last_map}
use Rattle.page_image.specs.Page.{Node}
use Rattle.page_space.specs.Frames.{Frames}
use Rattle.btree_inplace.specs.Changes.{inserted, inserted_if_absent, without_key}
use Rattle.btree_inplace.specs.Order.{extent_in, has_key, key_and_data}
use Rattle.btree_inplace.specs.Trees.{Exchanges, IsTree, nodes_of, pages_of}
use Rattle.btree_inplace.specs.declared.Tree.{Tree}
use Rattle.column_set.specs.RecordValues.{put_by_key}
use Rattle.index_derive.specs.declared.entries.Place.{Place}
use Rattle.cursor_nav.specs.Places.{Pair, are_sorted, entry_after, entry_before, is_beyond, is_short_of, pair_lt}
use Rattle.table_trees.specs.Pages.{AreOwn}
use Rattle.table_trees.specs.StoredNodes.{IsShortNode, bookmark_entries, node_after, node_before}
use Rattle.table_trees.specs.NodeTrees.{NodesBecome, node_root}
use Rattle.table_trees.specs.declared.nodes.NodeTree.{NodeTree}
use Rattle.table_trees.proofs.BookmarkOrder.{order, own_pairs_rise, same_either_way}
use Rattle.table_trees.proofs.Pages.{rearranged}

-- ---- equal bookmarks

pub same_key : (key : List ℕ) (n : Node) → has_key key n ≡ true → n.key ≡ key
same_key key n t = (bytes_eq-Decides n.key key).0 (sym (is_eq-slice_cmp n.key key) ∙ t)

-- ---- neighbours of a place

pub after_is : (place : Place) (nodes : List Node) (test : Node → Bool) (row : Option (List ℕ × List ℕ)) → ((n : Node) → is_beyond place (n.key, n.key) ≡ test n)
    → row ≡ option_map key_and_data (find test nodes) → row ≡ node_after place nodes
after_is place nodes test row e is = is ∙ (λ i. option_map key_and_data (find (λ n. sym (e n) i) nodes))

pub before_is : (place : Place) (nodes : List Node) (test : Node → Bool) (row : Option (List ℕ × List ℕ)) → ((n : Node) → is_short_of place (n.key, n.key) ≡ test n)
    → row ≡ option_map key_and_data (find test (reverse nodes)) → row ≡ node_before place nodes
before_is place nodes test row e is =
    is ∙ ap (option_map key_and_data) (find_reverse test nodes)
    ∙ (λ i. option_map key_and_data (last_or None (filter (λ n. sym (e n) i) nodes)))

-- ---- one more node

put_by : (r : Ordering) (a b c : List (List ℕ × List ℕ)) → is_eq r ≡ false → by_order (ordering_reverse r) a b c ≡ (if is_lt r then c else a)
put_by Less a b c e = refl
put_by Equal a b c e = absurd (true≢false e)
put_by Greater a b c e = refl

inserted-rows : (nodes : List Node) (node : Node) → find (has_key node.key) nodes ≡ None → map key_and_data (inserted nodes node) ≡ put_by_key node.key node.data (map key_and_data nodes)
inserted-rows [] node e = refl
inserted-rows (n ∷ nodes) node e =
    by_test (has_key node.key n)
    (λ t. absurd (found t))
    (λ t.
    let rest : map key_and_data (inserted nodes node) ≡ put_by_key node.key node.data (map key_and_data nodes) = inserted-rows nodes node (rw t at e) in
    let a : List (List ℕ × List ℕ) = (node.key, node.data) ∷ key_and_data n ∷ map key_and_data nodes in
    let b : List (List ℕ × List ℕ) = (n.key, node.data) ∷ map key_and_data nodes in
    let c : List (List ℕ × List ℕ) = key_and_data n ∷ put_by_key node.key node.data (map key_and_data nodes) in
    let is : put_by_key node.key node.data (key_and_data n ∷ map key_and_data nodes) ≡ (if is_lt (order n.key node.key) then c else a) =
    ap (λ r. by_order r a b c) (nat_list_cmp_total.antisymm node.key n.key) ∙ put_by (order n.key node.key) a b c t in
    by_test (is_lt (order n.key node.key))
    (λ l. rw l (ap (λ r. key_and_data n ∷ r) rest ∙ sym (rw l at is)))
    (λ l. rw l (sym (rw l at is))))
  where
    found : has_key node.key n ≡ true → ⊥
    found t = let some : Some n ≡ None = rw t at e in cc

below_own : (a : List ℕ) (nodes : List Node) → list_all (pair_lt (a, a)) (bookmark_entries nodes) ≡ below_all order a (map key_and_data nodes)
below_own a [] = refl
below_own a (n ∷ nodes) = (λ i. own_pairs_rise a n.key i && below_own a nodes i)

own_sorted : (nodes : List Node) → are_sorted (bookmark_entries nodes) ≡ is_sorted order (map key_and_data nodes)
own_sorted [] = refl
own_sorted (n ∷ nodes) = (λ i. below_own n.key nodes i && own_sorted nodes i)

pub inserted_in_order : (nodes : List Node) (node : Node) → find (has_key node.key) nodes ≡ None → are_sorted (bookmark_entries nodes) ≡ true → are_sorted (bookmark_entries (inserted nodes node)) ≡ true
inserted_in_order nodes node absent h =
    own_sorted (inserted nodes node) ∙ ap (is_sorted order) (inserted-rows nodes node absent)
    ∙ true_from_T (is_sorted order (put_by_key node.key node.data (map key_and_data nodes)))
    (is_sorted-put order nat_list_cmp_total node.key node.data (map key_and_data nodes) (subst T (sym h ∙ own_sorted nodes) tt))
  where
    true_from_T : (b : Bool) → T b → b ≡ true
    true_from_T true t = refl
    true_from_T false t = absurd t

pub inserted_short : (P : Node → Type 0) (nodes : List Node) (node : Node) → P node → All P nodes → All P (inserted nodes node)
inserted_short P [] node is h = All-cons P node [] is h
inserted_short P (n ∷ nodes) node is h =
    by_test (is_lt (order n.key node.key))
    (λ l. rw l (All-cons P n (inserted nodes node) (All-head P n nodes h) (inserted_short P nodes node is (All-tail P n nodes h))))
    (λ l. rw l (All-cons P node (n ∷ nodes) is h))

-- ---- one node more where its key is not there

pub if_absent_in_order : (nodes : List Node) (node : Node) → are_sorted (bookmark_entries nodes) ≡ true → are_sorted (bookmark_entries (inserted_if_absent nodes node)) ≡ true
if_absent_in_order nodes node h = by_found (find (has_key node.key) nodes) refl
  where
    by_found : (o : Option Node) → find (has_key node.key) nodes ≡ o → are_sorted (bookmark_entries (inserted_if_absent nodes node)) ≡ true
    by_found None e = subst (λ (o : Option Node). are_sorted (bookmark_entries (if is_some o then nodes else inserted nodes node)) ≡ true) (sym e) (inserted_in_order nodes node e h)
    by_found (Some n) e = subst (λ (o : Option Node). are_sorted (bookmark_entries (if is_some o then nodes else inserted nodes node)) ≡ true) (sym e) h

pub if_absent_short : (P : Node → Type 0) (nodes : List Node) (node : Node) → P node → All P nodes → All P (inserted_if_absent nodes node)
if_absent_short P nodes node is h =
    let Q : Bool → Type 0 = λ b. All P (if b then nodes else inserted nodes node) in
    by_test (is_some (find (has_key node.key) nodes)) (λ t. subst Q (sym t) h) (λ t. subst Q (sym t) (inserted_short P nodes node is h))

-- ---- one node less

below_without : (a key : List ℕ) (nodes : List Node) → list_all (pair_lt (a, a)) (bookmark_entries nodes) ≡ true → list_all (pair_lt (a, a)) (bookmark_entries (without_key nodes key)) ≡ true
below_without a key [] h = refl
below_without a key (n ∷ nodes) h =
    let first : pair_lt (a, a) (n.key, n.key) ≡ true = and_left (pair_lt (a, a) (n.key, n.key)) (list_all (pair_lt (a, a)) (bookmark_entries nodes)) h in
    let rest : list_all (pair_lt (a, a)) (bookmark_entries (without_key nodes key)) ≡ true = below_without a key nodes (and_right (pair_lt (a, a) (n.key, n.key)) (list_all (pair_lt (a, a)) (bookmark_entries nodes)) h) in
    by_test (has_key key n)
    (λ t. rw t rest)
    (λ t. rw t (and_from (pair_lt (a, a) (n.key, n.key)) (list_all (pair_lt (a, a)) (bookmark_entries (without_key nodes key))) first rest))

pub without_in_order : (nodes : List Node) (key : List ℕ) → are_sorted (bookmark_entries nodes) ≡ true → are_sorted (bookmark_entries (without_key nodes key)) ≡ true
without_in_order [] key h = refl
without_in_order (n ∷ nodes) key h =
    let below : list_all (pair_lt (n.key, n.key)) (bookmark_entries nodes) ≡ true = and_left (list_all (pair_lt (n.key, n.key)) (bookmark_entries nodes)) (are_sorted (bookmark_entries nodes)) h in
    let rest : are_sorted (bookmark_entries (without_key nodes key)) ≡ true = without_in_order nodes key (and_right (list_all (pair_lt (n.key, n.key)) (bookmark_entries nodes)) (are_sorted (bookmark_entries nodes)) h) in
    by_test (has_key key n)
    (λ t. rw t rest)
    (λ t. rw t (and_from (list_all (pair_lt (n.key, n.key)) (bookmark_entries (without_key nodes key))) (are_sorted (bookmark_entries (without_key nodes key))) (below_without n.key key nodes below) rest))

-- ---- one node changed

-- a change that keeps the bookmark
abbrev pub changed_at : (Node → Node) → List ℕ → List Node → List Node
changed_at change key nodes = map (λ n. if has_key key n then change n else n) nodes

pub changed-entries : (change : Node → Node) (key : List ℕ) (nodes : List Node) → ((n : Node) → (change n).key ≡ n.key) → bookmark_entries (changed_at change key nodes) ≡ bookmark_entries nodes
changed-entries change key [] same = refl
changed-entries change key (n ∷ nodes) same =
    by_test (has_key key n)
    (λ t. rw t (λ i. (same n i, same n i) ∷ changed-entries change key nodes same i))
    (λ t. rw t (ap (λ (l : List Pair). (n.key, n.key) ∷ l) (changed-entries change key nodes same)))

-- behind the node with a key no other has it
above_differs : (a b key : List ℕ) → order a key ≡ Equal → is_lt (order a b) ≡ true → is_eq (order b key) ≡ false
above_differs a b key same less =
    same_either_way b key ∙ not_both (order key b) (ap is_lt (sym (nat_list_cmp_total.congr a key b same)) ∙ less)
  where
    not_both : (r : Ordering) → is_lt r ≡ true → is_eq r ≡ false
    not_both Less e = refl
    not_both Equal e = absurd (true≢false (sym e))
    not_both Greater e = refl

unchanged_above : (change : Node → Node) (key : List ℕ) (n : Node) (nodes : List Node) → has_key key n ≡ true → list_all (pair_lt (n.key, n.key)) (bookmark_entries nodes) ≡ true → changed_at change key nodes ≡ nodes
unchanged_above change key n [] t below = refl
unchanged_above change key n (m ∷ nodes) t below =
    let less : is_lt (order n.key m.key) ≡ true = sym (own_pairs_rise n.key m.key) ∙ and_left (pair_lt (n.key, n.key) (m.key, m.key)) (list_all (pair_lt (n.key, n.key)) (bookmark_entries nodes)) below in
    let other : has_key key m ≡ false = above_differs n.key m.key key (is_equal (order n.key key) t) less in
    (λ i. ap (λ (b : Bool). if b then change m else m) other i ∷ unchanged_above change key n nodes t (and_right (pair_lt (n.key, n.key) (m.key, m.key)) (list_all (pair_lt (n.key, n.key)) (bookmark_entries nodes)) below) i)

pub changed_short : (P : Node → Type 0) (change : Node → Node) (key : List ℕ) (nodes : List Node) → ((n : Node) → find (has_key key) nodes ≡ Some n → P n → P (change n)) → are_sorted (bookmark_entries nodes) ≡ true → All P nodes → All P (changed_at change key nodes)
changed_short P change key [] is sorted h = h
changed_short P change key (n ∷ nodes) is sorted h =
    let below : list_all (pair_lt (n.key, n.key)) (bookmark_entries nodes) ≡ true = and_left (list_all (pair_lt (n.key, n.key)) (bookmark_entries nodes)) (are_sorted (bookmark_entries nodes)) sorted in
    by_test (has_key key n)
    (λ t.
    let whole : changed_at change key (n ∷ nodes) ≡ change n ∷ nodes = (λ i. ap (λ (b : Bool). if b then change n else n) t i ∷ unchanged_above change key n nodes t below i) in
    let found : find (has_key key) (n ∷ nodes) ≡ Some n = rw t refl in
    subst (All P) (sym whole) (All-cons P (change n) nodes (is n found (All-head P n nodes h)) (All-tail P n nodes h)))
    (λ t.
    let whole : changed_at change key (n ∷ nodes) ≡ n ∷ changed_at change key nodes = ap (λ (b : Bool). (if b then change n else n) ∷ changed_at change key nodes) t in
    let skips : find (has_key key) (n ∷ nodes) ≡ find (has_key key) nodes = rw t refl in
    subst (All P) (sym whole) (All-cons P n (changed_at change key nodes) (All-head P n nodes h)
    (changed_short P change key nodes (λ m e. is m (skips ∙ e)) (and_right (list_all (pair_lt (n.key, n.key)) (bookmark_entries nodes)) (are_sorted (bookmark_entries nodes)) sorted) (All-tail P n nodes h))))

-- ---- what a node that is found has

pub found_and : {X Y : Type 0} (f : X → Y) (P : Y → Type 0) (o : Option X) (x : X) → IsSomeAnd (option_map f o) P → o ≡ Some x → P (f x)
found_and f P o x h e = subst (λ r. IsSomeAnd (option_map f r) P) e h

pub and_found : {X Y : Type 0} (f : X → Y) (P : Y → Type 0) (o : Option X) → IsSomeAnd (option_map f o) P → IsSomeAnd o (λ x. P (f x))
and_found f P None h = h
and_found f P (Some x) h = h

pub some_found : {X Y : Type 0} (f : X → Y) (o : Option X) → IsSome (option_map f o) → IsSome o
some_found f None h = h
some_found f (Some x) h = refl

pub key_is_short : (nodes : List Node) (key : List ℕ) → IsSome (find (has_key key) nodes) → All IsShortNode nodes → length key ≤ 255
key_is_short [] key some h = absurd (true≢false (sym some))
key_is_short (n ∷ nodes) key some h =
    by_test (has_key key n)
    (λ t. subst (λ (k : List ℕ). length k ≤ 255) (same_key key n t) (All-head IsShortNode n nodes h).bookmark)
    (λ t. key_is_short nodes key (rw t at some) (All-tail IsShortNode n nodes h))

-- ---- a tree of nodes that has become another

-- what the trees' law says
abbrev pub TreePagesAreOwn : Type 0
TreePagesAreOwn = (frames : Frames) (tree : Tree) → IsTree frames tree → AreOwn frames (pages_of frames tree)

pub become : TreePagesAreOwn → (old : Frames) (was : NodeTree) (new : Frames) (is : NodeTree) (list : List Node) → IsTree old was.tree → IsTree new is.tree → nodes_of new is.tree ≡ list
    → Exchanges old new (pages_of old was.tree) (pages_of new is.tree) → are_sorted (bookmark_entries list) ≡ true → All IsShortNode list → node_root is ≡ node_root was → NodesBecome old was new is list
become own old was new is list before after has e sorted short root = record {
  tree = record {
    tree = after;
    in_order = ap (λ (l : List Node). are_sorted (bookmark_entries l)) has ∙ sorted;
    short = subst (All IsShortNode) (sym has) short;
  };
  nodes = has;
  pages = rearranged old new (pages_of old was.tree) (pages_of new is.tree) e (own old was.tree before) (own new is.tree after);
  root = root;
}

-- where the key is there, the nodes stay
stays_where_there : (nodes : List Node) (node : Node) → IsSome (extent_in nodes node.key) → inserted_if_absent nodes node ≡ nodes
stays_where_there nodes node some = by (find (has_key node.key) nodes) some
  where
    by : (o : Option Node) → IsSome (option_map (λ (n : Node). n.extent) o) → (if is_some o then nodes else inserted nodes node) ≡ nodes
    by None h = absurd (true≢false (sym h))
    by (Some n) h = refl

pub where_there : {E R : Type 0} (P : List Node → Type 0) (r : Result (Option ℕ) E) (nodes : List Node) (node : Node) → (P nodes → R) → IfOk r (λ there. there ≡ extent_in nodes node.key) → OnOk r (P (inserted_if_absent nodes node))
    → IfOk r (λ there. IsSome there → R)
where_there P (Ok there) nodes node same is has = λ some. same (subst P (stays_where_there nodes node (subst IsSome is some)) has)
where_there P (Err fault) nodes node same is has = tt

pub some_of : {X Y : Type 0} (f : X → Y) (P : Y → Type 0) (o : Option X) → IsSomeAnd (option_map f o) P → IsSome o
some_of f P None h = absurd h
some_of f P (Some x) h = refl

-- ---- look-ups after a change

-- two keys that tie with a third: whether a node with the one has the other
has_alike : (key bookmark : List ℕ) (n : Node) → has_key key n ≡ true → has_key bookmark n ≡ bytes_eq key bookmark
has_alike key bookmark n t = is_eq-slice_cmp n.key bookmark ∙ ap (λ (k : List ℕ). bytes_eq k bookmark) (same_key key n t)

lower_differs : (n : Node) (key bookmark : List ℕ) → is_lt (order n.key key) ≡ true → has_key bookmark n ≡ true → bytes_eq key bookmark ≡ false
lower_differs n key bookmark less t =
    by_test (bytes_eq key bookmark)
    (λ e.
    let same : key ≡ bookmark = (bytes_eq-Decides key bookmark).0 e in
    absurd (not_both (order n.key bookmark) (ap (λ (k : List ℕ). is_lt (order n.key k)) (sym same) ∙ less) t))
    (λ e. e)
  where
    not_both : (r : Ordering) → is_lt r ≡ true → is_eq r ≡ true → ⊥
    not_both Less e f = true≢false (sym f)
    not_both Equal e f = true≢false (sym e)
    not_both Greater e f = true≢false (sym e)

pub find-inserted : (nodes : List Node) (node : Node) (bookmark : List ℕ) → find (has_key bookmark) (inserted nodes node) ≡ (if bytes_eq node.key bookmark then Some node else find (has_key bookmark) nodes)
find-inserted [] node bookmark = ap (λ (b : Bool). if b then Some node else None) (is_eq-slice_cmp node.key bookmark)
find-inserted (n ∷ nodes) node bookmark =
    by_test (is_lt (order n.key node.key))
    (λ l. rw l (by_test (has_key bookmark n)
    (λ t. let other : bytes_eq node.key bookmark ≡ false = lower_differs n node.key bookmark l t in rw (t, other) refl)
    (λ t. rw t (find-inserted nodes node bookmark))))
    (λ l. rw l (ap (λ (b : Bool). if b then Some node else find (has_key bookmark) (n ∷ nodes)) (is_eq-slice_cmp node.key bookmark)))

pub find-without : (nodes : List Node) (key bookmark : List ℕ) → find (has_key bookmark) (without_key nodes key) ≡ (if bytes_eq key bookmark then None else find (has_key bookmark) nodes)
find-without [] key bookmark = by_test (bytes_eq key bookmark) (λ e. rw e refl) (λ e. rw e refl)
find-without (n ∷ nodes) key bookmark =
    by_test (has_key key n)
    (λ t. rw t (find-without nodes key bookmark
    ∙ by_test (bytes_eq key bookmark)
    (λ e. rw e refl)
    (λ e. let other : has_key bookmark n ≡ false = has_alike key bookmark n t ∙ e in rw (e, other) refl)))
    (λ t. rw t (by_test (has_key bookmark n)
    (λ u.
    let other : bytes_eq key bookmark ≡ false = by_test (bytes_eq key bookmark)
    (λ e. absurd (true≢false (sym u ∙ ap (λ (k : List ℕ). has_key k n) (sym ((bytes_eq-Decides key bookmark).0 e)) ∙ t)))
    (λ e. e) in
    rw (u, other) refl)
    (λ u. rw u (find-without nodes key bookmark))))

pub find-changed : (change : Node → Node) (nodes : List Node) (key bookmark : List ℕ) → ((n : Node) → (change n).key ≡ n.key)
    → find (has_key bookmark) (changed_at change key nodes) ≡ option_map (λ (n : Node). if bytes_eq key bookmark then change n else n) (find (has_key bookmark) nodes)
find-changed change [] key bookmark same = refl
find-changed change (n ∷ nodes) key bookmark same =
    let rest = find-changed change nodes key bookmark same in
    by_test (has_key key n)
    (λ t. rw t (by_test (has_key bookmark n)
    (λ u.
    let moved : has_key bookmark (change n) ≡ true = ap (λ (k : List ℕ). is_eq (order k bookmark)) (same n) ∙ u in
    let own : bytes_eq key bookmark ≡ true = sym (has_alike key bookmark n t) ∙ u in
    rw (u, moved, own) refl)
    (λ u.
    let moved : has_key bookmark (change n) ≡ false = ap (λ (k : List ℕ). is_eq (order k bookmark)) (same n) ∙ u in
    rw (u, moved) rest)))
    (λ t. rw t (by_test (has_key bookmark n)
    (λ u.
    let other : bytes_eq key bookmark ≡ false = by_test (bytes_eq key bookmark)
    (λ e. absurd (true≢false (sym u ∙ ap (λ (k : List ℕ). has_key k n) (sym ((bytes_eq-Decides key bookmark).0 e)) ∙ t)))
    (λ e. e) in
    rw (u, other) refl)
    (λ u. rw u rest)))

-- ---- neighbours among bookmarks

own : Node → Pair
own n = (n.key, n.key)

own_found : (o : Option Node) → option_map (λ (found : Pair). (found.0, found.0)) (option_map key_and_data o) ≡ option_map own o
unfolding own
own_found None = refl
own_found (Some n) = refl

pub after-bookmarks : (place : Place) (nodes : List Node) → option_map (λ (found : Pair). (found.0, found.0)) (node_after place nodes) ≡ entry_after place (bookmark_entries nodes)
unfolding own
after-bookmarks place nodes = own_found (find (λ n. is_beyond place (n.key, n.key)) nodes) ∙ sym (find_map own (is_beyond place) nodes)

pub before-bookmarks : (place : Place) (nodes : List Node) → option_map (λ (found : Pair). (found.0, found.0)) (node_before place nodes) ≡ entry_before place (bookmark_entries nodes)
unfolding own
before-bookmarks place nodes = own_found (last_or None (filter (λ n. is_short_of place (n.key, n.key)) nodes)) ∙ sym (last_map own (is_short_of place) None nodes)

-- ---- a neighbour that was found is short

found_short : (test : Node → Bool) (nodes : List Node) → All IsShortNode nodes → IfSome (option_map key_and_data (find test nodes)) (λ r. length r.0 ≤ 255)
found_short test [] h = tt
found_short test (n ∷ nodes) h =
    by_test (test n)
    (λ t. let first : length n.key ≤ 255 = (All-head IsShortNode n nodes h).bookmark in rw t first)
    (λ t. rw t (found_short test nodes (All-tail IsShortNode n nodes h)))

last_short : (test : Node → Bool) (nodes : List Node) (o : Option Node) → IfSome (option_map key_and_data o) (λ r. length r.0 ≤ 255) → All IsShortNode nodes → IfSome (option_map key_and_data (last_or o (filter test nodes))) (λ r. length r.0 ≤ 255)
last_short test [] o low h = low
last_short test (n ∷ nodes) o low h =
    by_test (test n)
    (λ t. rw t (last_short test nodes (Some n) (All-head IsShortNode n nodes h).bookmark (All-tail IsShortNode n nodes h)))
    (λ t. rw t (last_short test nodes o low (All-tail IsShortNode n nodes h)))

shown_short : {R : Type 0} (shown : R → List ℕ × List ℕ) (r : Option R) (o : Option (List ℕ × List ℕ)) → option_map shown r ≡ o → IfSome o (λ x. length x.0 ≤ 255) → IfSome r (λ x. length (shown x).0 ≤ 255)
shown_short shown None o e h = tt
shown_short shown (Some x) o e h = subst (λ (p : Option (List ℕ × List ℕ)). IfSome p (λ y. length y.0 ≤ 255)) (sym e) h

pub after_short : {R : Type 0} (shown : R → List ℕ × List ℕ) (r : Option R) (place : Place) (nodes : List Node) → option_map shown r ≡ node_after place nodes → All IsShortNode nodes → IfSome r (λ x. length (shown x).0 ≤ 255)
after_short shown r place nodes e h = shown_short shown r (node_after place nodes) e (found_short (λ n. is_beyond place (n.key, n.key)) nodes h)

pub before_short : {R : Type 0} (shown : R → List ℕ × List ℕ) (r : Option R) (place : Place) (nodes : List Node) → option_map shown r ≡ node_before place nodes → All IsShortNode nodes → IfSome r (λ x. length (shown x).0 ≤ 255)
before_short shown r place nodes e h = shown_short shown r (node_before place nodes) e (last_short (λ n. is_short_of place (n.key, n.key)) nodes None tt h)
