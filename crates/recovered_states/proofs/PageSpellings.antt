-- A page has one spelling: what is spelled is read again as the page.
use Rattle.std.proofs.Common.{◌≡◌, ℕ, ◌+◌, ◌-◌, ◌*◌, ◌<◌, ◌≤◌, List, [], ◌∷◌, ◌++◌, length, take, drop, replicate, get_or, refl, sym, ap, ◌∙◌, arith, append_assoc, length-append}
use Rattle.std.specs.List.{flat_map, All}
use Rattle.std.specs.Prelude.{sum_by}
use Rattle.std.proofs.lemmas.List.{length-replicate, take_at, drop_at, drop-drop}
use Rattle.std.proofs.lemmas.List.Elements.{All-head, All-tail}
use Rattle.std.proofs.lemmas.List.Sums.{get_or-le-sum_by}
use Rattle.byteorder.specs.Endian.{little_bytes, little_number}
use Rattle.byteorder.specs.Numbers.{little_number-reads_back}
use Rattle.page_image.specs.declared.offsets.TheConstants.{MAX_NODES}
use Rattle.page_image.specs.Page.{Node, PageContents, IsPage, no_node, node_at, node_bytes, node_size, page_size, page_head, page_body, page_front, page_bytes}
use Rattle.page_image.specs.Reading.{front_node, front_size, nodes_in, contents_of}

-- the parts of a node's bytes, one behind the other
node_bytes-parts : (n : Node) (rest : List ℕ) → node_bytes n ++ rest ≡ little_bytes 2 (length n.key) ++ (little_bytes 2 (length n.data) ++ (little_bytes 2 n.extent ++ (n.key ++ (n.data ++ (replicate (n.extent - length n.data) 0 ++ rest)))))
unfolding node_bytes
node_bytes-parts n rest = simp append_assoc

-- a node whose data fits, of a size that a page can hold
record IsSmall (n : Node) : Type 0 where
  pub fits : length n.data ≤ n.extent
  pub size : node_size n ≤ 4064

length-node_bytes : (n : Node) → length n.data ≤ n.extent → length (node_bytes n) ≡ node_size n
unfolding node_bytes
length-node_bytes n h = omega (arith, length-append n.key (n.data ++ replicate (n.extent - length n.data) 0), length-append n.data (replicate (n.extent - length n.data) 0), length-replicate {A = ℕ} (n.extent - length n.data) 0)

-- what the three lengths of bytes cut out of them
front_from : (bytes : List ℕ) (n : Node) (rest : List ℕ) → little_number 2 bytes ≡ length n.key → little_number 2 (drop 2 bytes) ≡ length n.data → little_number 2 (drop 4 bytes) ≡ n.extent → drop 6 bytes ≡ n.key ++ (n.data ++ rest) → front_node bytes ≡ n
unfolding front_node
front_from bytes n rest k d e cut =
    let behind : drop (6 + length n.key) bytes ≡ n.data ++ rest = sym (drop-drop (length n.key) 6 bytes) ∙ ap (drop (length n.key)) cut ∙ drop_at n.key (n.data ++ rest) _ refl in
    let a : take (length n.key) (drop 6 bytes) ≡ n.key = ap (take (length n.key)) cut ∙ take_at n.key (n.data ++ rest) _ refl in
    let b : take (length n.data) (drop (6 + length n.key) bytes) ≡ n.data = ap (take (length n.data)) behind ∙ take_at n.data rest _ refl in
    rw (k, d, e, a, b) refl

-- a number of two bytes is read again
two_digits : (x : ℕ) → x < 65536 → little_number 2 (little_bytes 2 x) ≡ x
two_digits x h = little_number-reads_back 2 x [] h

-- the three lengths of a node's bytes
key_length : (n : Node) (rest : List ℕ) → IsSmall n → little_number 2 (node_bytes n ++ rest) ≡ length n.key
unfolding node_bytes
key_length n rest s = two_digits (length n.key) (omega (arith, s.size))

data_length : (n : Node) (rest : List ℕ) → IsSmall n → little_number 2 (drop 2 (node_bytes n ++ rest)) ≡ length n.data
unfolding node_bytes
data_length n rest s = two_digits (length n.data) (omega (arith, s.size, s.fits))

extent_length : (n : Node) (rest : List ℕ) → IsSmall n → little_number 2 (drop 4 (node_bytes n ++ rest)) ≡ n.extent
unfolding node_bytes
extent_length n rest s = two_digits n.extent (omega (arith, s.size))

-- a node's bytes read as the node, whatever follows
front_node-bytes : (n : Node) (rest : List ℕ) → IsSmall n → front_node (node_bytes n ++ rest) ≡ n
front_node-bytes n rest s = front_from (node_bytes n ++ rest) n (replicate (n.extent - length n.data) 0 ++ rest) (key_length n rest s) (data_length n rest s) (extent_length n rest s) (ap (drop 6) (node_bytes-parts n rest))

front_size-bytes : (n : Node) (rest : List ℕ) → IsSmall n → front_size (node_bytes n ++ rest) ≡ node_size n
unfolding front_size
front_size-bytes n rest s = rw (key_length n rest s, extent_length n rest s) refl

-- the nodes are read again, whatever follows them
nodes_in-bytes : (ns : List Node) (rest : List ℕ) → All IsSmall ns → nodes_in (length ns) (flat_map node_bytes ns ++ rest) ≡ ns
unfolding nodes_in
nodes_in-bytes [] rest small = refl
nodes_in-bytes (n ∷ ns) rest small =
    let here = All-head IsSmall n ns small in
    let cut : (node_bytes n ++ flat_map node_bytes ns) ++ rest ≡ node_bytes n ++ (flat_map node_bytes ns ++ rest) = append_assoc (node_bytes n) (flat_map node_bytes ns) rest in
    let first : front_node (node_bytes n ++ (flat_map node_bytes ns ++ rest)) ≡ n = front_node-bytes n (flat_map node_bytes ns ++ rest) here in
    let size : front_size (node_bytes n ++ (flat_map node_bytes ns ++ rest)) ≡ node_size n = front_size-bytes n (flat_map node_bytes ns ++ rest) here in
    let far : drop (node_size n) (node_bytes n ++ (flat_map node_bytes ns ++ rest)) ≡ flat_map node_bytes ns ++ rest = drop_at (node_bytes n) (flat_map node_bytes ns ++ rest) (node_size n) (length-node_bytes n here.fits) in
    rw (cut, first, size, far, nodes_in-bytes ns rest (All-tail IsSmall n ns small)) refl

-- a node is no larger than all of them
node_size-le : (ns : List Node) (k : ℕ) (d : Node) → k < length ns → node_size (get_or ns k d) ≤ sum_by node_size ns
node_size-le ns k d h = get_or-le-sum_by node_size ns k d h

-- the nodes of a page are small
small_nodes : (p : PageContents) → IsPage p → All IsSmall p.nodes
small_nodes p page k d h = record { fits = page.fits k d h; size = omega (arith, page.size, node_size-le p.nodes k d h) }

-- the bytes of a page read as the page
contents_of-page_bytes : (p : PageContents) → IsPage p → length p.nodes < 65536 → contents_of (page_bytes p) ≡ p
unfolding page_bytes page_front page_head contents_of
contents_of-page_bytes p page few =
    let number = little_number-reads_back 4 p.number [] page.number in
    let count = two_digits (length p.nodes) few in
    let nodes = nodes_in-bytes p.nodes (replicate (4096 - page_size p.nodes) 0) (small_nodes p page) in
    rw (number, count, nodes) refl

-- a page has few nodes
abbrev pub HasFewNodes : Type 0
HasFewNodes = (page : PageContents) → IsPage page → length page.nodes ≤ MAX_NODES

pub one_page : HasFewNodes → (a b : PageContents) → IsPage a → IsPage b → page_bytes a ≡ page_bytes b → a ≡ b
one_page few a b is also same =
    sym (contents_of-page_bytes a is (omega (arith, few a is))) ∙ ap contents_of same ∙ contents_of-page_bytes b also (omega (arith, few b also))
