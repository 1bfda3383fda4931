-- What is spelled by the format is read again.
use Rattle.std.proofs.Common.{◌≡◌, ℕ, ◌+◌, ◌-◌, ◌*◌, ◌<◌, ◌≤◌, List, [], ◌∷◌, ◌++◌, length, take, drop, replicate, get_or, refl, sym, ap, ◌∙◌, arith, append_assoc, length-append}
use Rattle.std.specs.List.{flat_map, All}
use Rattle.std.specs.Prelude.{sum_by}
use Rattle.std.proofs.lemmas.List.{get_or-drop, length-replicate, drop_more, take_at, drop_at, drop-drop, take-append-drop}
use Rattle.std.proofs.lemmas.List.Concat.{flat_map-append}
use Rattle.std.proofs.lemmas.List.Elements.{All-head, All-tail, All-take}
use Rattle.std.proofs.lemmas.List.Sums.{sum_by-cons, get_or-le-sum_by, sum_by_more_le}
use Rattle.byteorder.specs.Endian.{little_bytes, little_number}
use Rattle.byteorder.specs.Numbers.{little_number-reads_back}
use Rattle.page_image.specs.Page.{Node, PageContents, IsPage, no_node, node_at, node_bytes, node_size, page_size, page_head, page_body, page_front, page_bytes}
use Rattle.page_image.specs.Reading.{front_node, front_size, nodes_in, contents_of}

-- the parts of a node's bytes, one behind the other
pub node_bytes-parts : (n : Node) (rest : List ℕ) → node_bytes n ++ rest ≡ little_bytes 2 (length n.key) ++ (little_bytes 2 (length n.data) ++ (little_bytes 2 n.extent ++ (n.key ++ (n.data ++ (replicate (n.extent - length n.data) 0 ++ rest)))))
unfolding node_bytes
node_bytes-parts n rest = simp append_assoc

-- a node whose data fits, of a size that a page can hold
pub record IsSmall (n : Node) : Type 0 where
  pub fits : length n.data ≤ n.extent
  pub size : node_size n ≤ 4064

pub length-node_bytes : (n : Node) → length n.data ≤ n.extent → length (node_bytes n) ≡ node_size n
unfolding node_bytes
length-node_bytes n h = omega (arith, length-append n.key (n.data ++ replicate (n.extent - length n.data) 0), length-append n.data (replicate (n.extent - length n.data) 0), length-replicate {A = ℕ} (n.extent - length n.data) 0)

-- what the three lengths of bytes cut out of them
front_from : (bytes : List ℕ) (n : Node) (rest : List ℕ) → little_number 2 bytes ≡ length n.key → little_number 2 (drop 2 bytes) ≡ length n.data → little_number 2 (drop 4 bytes) ≡ n.extent → drop 6 bytes ≡ n.key ++ (n.data ++ rest) → front_node bytes ≡ n
unfolding front_node
front_from bytes n rest k d e cut =
    let behind : drop (6 + length n.key) bytes ≡ n.data ++ rest = sym (drop-drop (length n.key) 6 bytes) ∙ ap (drop (length n.key)) cut ∙ drop_at n.key (n.data ++ rest) _ refl in
    let a : take (length n.key) (drop 6 bytes) ≡ n.key = ap (take (length n.key)) cut ∙ take_at n.key (n.data ++ rest) _ refl in
    let b : take (length n.data) (drop (6 + length n.key) bytes) ≡ n.data = ap (take (length n.data)) behind ∙ take_at n.data rest _ refl in
    rw (k, d, e, a, b) refl

-- a number of two bytes is read again
pub two_digits : (x : ℕ) → x < 65536 → little_number 2 (little_bytes 2 x) ≡ x
two_digits x h = little_number-reads_back 2 x [] h

-- the three lengths of a node's bytes
key_length : (n : Node) (rest : List ℕ) → IsSmall n → little_number 2 (node_bytes n ++ rest) ≡ length n.key
unfolding node_bytes
key_length n rest s = two_digits (length n.key) (omega (arith, s.size))

data_length : (n : Node) (rest : List ℕ) → IsSmall n → little_number 2 (drop 2 (node_bytes n ++ rest)) ≡ length n.data
unfolding node_bytes
data_length n rest s = two_digits (length n.data) (omega (arith, s.size, s.fits))

extent_length : (n : Node) (rest : List ℕ) → IsSmall n → little_number 2 (drop 4 (node_bytes n ++ rest)) ≡ n.extent
unfolding node_bytes
extent_length n rest s = two_digits n.extent (omega (arith, s.size))

-- a node's bytes read as the node, whatever follows
pub front_node-bytes : (n : Node) (rest : List ℕ) → IsSmall n → front_node (node_bytes n ++ rest) ≡ n
front_node-bytes n rest s = front_from (node_bytes n ++ rest) n (replicate (n.extent - length n.data) 0 ++ rest) (key_length n rest s) (data_length n rest s) (extent_length n rest s) (ap (drop 6) (node_bytes-parts n rest))

pub front_size-bytes : (n : Node) (rest : List ℕ) → IsSmall n → front_size (node_bytes n ++ rest) ≡ node_size n
unfolding front_size
front_size-bytes n rest s = rw (key_length n rest s, extent_length n rest s) refl

-- the nodes are read again, whatever follows them
pub nodes_in-bytes : (ns : List Node) (rest : List ℕ) → All IsSmall ns → nodes_in (length ns) (flat_map node_bytes ns ++ rest) ≡ ns
unfolding nodes_in
nodes_in-bytes [] rest small = refl
nodes_in-bytes (n ∷ ns) rest small =
    let here = All-head IsSmall n ns small in
    let cut : (node_bytes n ++ flat_map node_bytes ns) ++ rest ≡ node_bytes n ++ (flat_map node_bytes ns ++ rest) = append_assoc (node_bytes n) (flat_map node_bytes ns) rest in
    let first : front_node (node_bytes n ++ (flat_map node_bytes ns ++ rest)) ≡ n = front_node-bytes n (flat_map node_bytes ns ++ rest) here in
    let size : front_size (node_bytes n ++ (flat_map node_bytes ns ++ rest)) ≡ node_size n = front_size-bytes n (flat_map node_bytes ns ++ rest) here in
    let far : drop (node_size n) (node_bytes n ++ (flat_map node_bytes ns ++ rest)) ≡ flat_map node_bytes ns ++ rest = drop_at (node_bytes n) (flat_map node_bytes ns ++ rest) (node_size n) (length-node_bytes n here.fits) in
    rw (cut, first, size, far, nodes_in-bytes ns rest (All-tail IsSmall n ns small)) refl

-- a node is no larger than all of them
pub node_size-le : (ns : List Node) (k : ℕ) (d : Node) → k < length ns → node_size (get_or ns k d) ≤ sum_by node_size ns
node_size-le ns k d h = get_or-le-sum_by node_size ns k d h

-- the nodes of a page are small
pub small_nodes : (p : PageContents) → IsPage p → All IsSmall p.nodes
small_nodes p page k d h = record { fits = page.fits k d h; size = omega (arith, page.size, node_size-le p.nodes k d h) }

pub length-nodes : (ns : List Node) → All IsSmall ns → length (flat_map node_bytes ns) ≡ sum_by node_size ns
length-nodes [] small = refl
length-nodes (n ∷ ns) small =
    omega (arith, length-append (node_bytes n) (flat_map node_bytes ns), length-node_bytes n (All-head IsSmall n ns small).fits, length-nodes ns (All-tail IsSmall n ns small), sum_by-cons node_size n ns)

-- the bytes behind the head
pub drop-head : (p : PageContents) → drop 32 (page_bytes p) ≡ flat_map node_bytes p.nodes ++ replicate (4096 - page_size p.nodes) 0
unfolding page_bytes page_front page_head
drop-head p = refl

-- the bytes of a page read as the page
pub contents_of-page_bytes : (p : PageContents) → IsPage p → length p.nodes < 65536 → contents_of (page_bytes p) ≡ p
unfolding page_bytes page_front page_head contents_of
contents_of-page_bytes p page few =
    let number = little_number-reads_back 4 p.number [] page.number in
    let count = two_digits (length p.nodes) few in
    let nodes = nodes_in-bytes p.nodes (replicate (4096 - page_size p.nodes) 0) (small_nodes p page) in
    rw (number, count, nodes) refl

-- ---- bytes that are a page's but for the checksum

pub drop-page_bytes : (p : PageContents) → drop 8 (page_bytes p) ≡ page_body p
unfolding page_bytes page_front page_body
drop-page_bytes p = refl

-- lists that are the same behind their first eight places
pub same_behind : (xs ys : List ℕ) (at : ℕ) → drop 8 xs ≡ drop 8 ys → 8 ≤ at → drop at xs ≡ drop at ys
same_behind xs ys at e h =
    let place : 8 + (at - 8) ≡ at = omega arith in
    ap (λ (k : ℕ). drop k xs) (sym place) ∙ sym (drop-drop (at - 8) 8 xs) ∙ ap (drop (at - 8)) e ∙ drop-drop (at - 8) 8 ys ∙ ap (λ (k : ℕ). drop k ys) place

same_kind : (xs ys : List ℕ) → drop 8 xs ≡ drop 8 ys → get_or xs 12 0 ≡ get_or ys 12 0
same_kind xs ys e = sym (get_or-drop 8 xs 4 0) ∙ ap (λ (x : List ℕ). get_or x 4 0) e ∙ get_or-drop 8 ys 4 0

same_contents : (xs ys : List ℕ) → drop 8 xs ≡ drop 8 ys → contents_of xs ≡ contents_of ys
unfolding contents_of
same_contents xs ys e =
    let kind = same_kind xs ys e in
    let count = same_behind xs ys 14 e (omega arith) in
    let nodes = same_behind xs ys 32 e (omega arith) in
    λ i. record {
      number = little_number 4 (e i);
      kind = kind i;
      nodes = nodes_in (little_number 2 (count i)) (nodes i);
    }

-- they read as the page
pub contents_of-body : (p : PageContents) (bytes : List ℕ) → IsPage p → length p.nodes < 65536 → drop 8 bytes ≡ page_body p → contents_of bytes ≡ p
contents_of-body p bytes page few body = same_contents bytes (page_bytes p) (body ∙ sym (drop-page_bytes p)) ∙ contents_of-page_bytes p page few

-- each node takes six bytes at least
pub few_nodes : (ns : List Node) → 6 * length ns ≤ sum_by node_size ns
few_nodes [] = omega arith
few_nodes (n ∷ ns) = omega (arith, few_nodes ns, sum_by-cons node_size n ns)

-- the nodes from place i on begin behind those before it
pub drop-nodes : (ns : List Node) (rest : List ℕ) (i : ℕ) → All IsSmall ns → drop (sum_by node_size (take i ns)) (flat_map node_bytes ns ++ rest) ≡ flat_map node_bytes (drop i ns) ++ rest
drop-nodes ns rest i small =
    let whole : flat_map node_bytes ns ≡ flat_map node_bytes (take i ns) ++ flat_map node_bytes (drop i ns) = sym (ap (flat_map node_bytes) (take-append-drop i ns)) ∙ flat_map-append node_bytes (take i ns) (drop i ns) in
    let far : length (flat_map node_bytes (take i ns)) ≡ sum_by node_size (take i ns) = length-nodes (take i ns) (All-take IsSmall i ns small) in
    ap (λ (x : List ℕ). drop (sum_by node_size (take i ns)) (x ++ rest)) whole
    ∙ ap (drop (sum_by node_size (take i ns))) (append_assoc (flat_map node_bytes (take i ns)) (flat_map node_bytes (drop i ns)) rest)
    ∙ drop_at (flat_map node_bytes (take i ns)) (flat_map node_bytes (drop i ns) ++ rest) _ far

-- a page from its node i on
pub drop-page_nodes : (p : PageContents) (i : ℕ) → IsPage p → drop (page_size (take i p.nodes)) (page_bytes p) ≡ flat_map node_bytes (drop i p.nodes) ++ replicate (4096 - page_size p.nodes) 0
drop-page_nodes p i page =
    sym (drop-drop (sum_by node_size (take i p.nodes)) 32 (page_bytes p))
    ∙ ap (drop (sum_by node_size (take i p.nodes))) (drop-head p)
    ∙ drop-nodes p.nodes (replicate (4096 - page_size p.nodes) 0) i (small_nodes p page)

-- what stands behind node i of a page
abbrev pub behind : PageContents → ℕ → List ℕ
behind p i = flat_map node_bytes (drop (i + 1) p.nodes) ++ replicate (4096 - page_size p.nodes) 0

pub page_bytes-at : (p : PageContents) (i : ℕ) → IsPage p → i < length p.nodes → drop (page_size (take i p.nodes)) (page_bytes p) ≡ node_bytes (node_at p.nodes i) ++ behind p i
page_bytes-at p i page h =
    drop-page_nodes p i page
    ∙ ap (λ (x : List Node). flat_map node_bytes x ++ replicate (4096 - page_size p.nodes) 0) (drop_more p.nodes i no_node h)
    ∙ append_assoc (node_bytes (node_at p.nodes i)) (flat_map node_bytes (drop (i + 1) p.nodes)) (replicate (4096 - page_size p.nodes) 0)

-- what stands at the place of a node
pub record HasNode (bytes : List ℕ) (at : ℕ) (n : Node) : Type 0 where
  pub key_length : little_number 2 (drop at bytes) ≡ length n.key
  pub data_length : little_number 2 (drop (at + 2) bytes) ≡ length n.data
  pub extent : little_number 2 (drop (at + 4) bytes) ≡ n.extent
  pub key : take (length n.key) (drop (at + 6) bytes) ≡ n.key
  pub «data» : take (length n.data) (drop (at + 6 + length n.key) bytes) ≡ n.data
  pub fits : length n.data ≤ n.extent
  pub within : at + node_size n ≤ 4096

pub has_node : (p : PageContents) (i : ℕ) (bytes : List ℕ) (at : ℕ) → IsPage p → i < length p.nodes → drop 8 bytes ≡ page_body p → at ≡ page_size (take i p.nodes) → HasNode bytes at (node_at p.nodes i)
has_node p i bytes at page h spelled at_is =
    let n = node_at p.nodes i in
    let rest = behind p i in
    let zeros = replicate {A = ℕ} (n.extent - length n.data) 0 in
    let here : drop at bytes ≡ node_bytes n ++ rest = same_behind bytes (page_bytes p) at (spelled ∙ sym (drop-page_bytes p)) (omega (arith, at_is)) ∙ ap (λ k. drop k (page_bytes p)) at_is ∙ page_bytes-at p i page h in
    let small = small_nodes p page i no_node h in
    let further : (k : ℕ) → drop (at + k) bytes ≡ drop k (node_bytes n ++ rest) = λ k. sym (drop-drop k at bytes) ∙ ap (drop k) here in
    let body : drop 6 (node_bytes n ++ rest) ≡ n.key ++ (n.data ++ (zeros ++ rest)) = ap (drop 6) (node_bytes-parts n rest) in
    let key_at : drop (at + 6) bytes ≡ n.key ++ (n.data ++ (zeros ++ rest)) = further 6 ∙ body in
    let data_at : drop (at + 6 + length n.key) bytes ≡ n.data ++ (zeros ++ rest) = sym (drop-drop (length n.key) (at + 6) bytes) ∙ ap (drop (length n.key)) key_at ∙ drop_at n.key (n.data ++ (zeros ++ rest)) (length n.key) refl in
    record {
      key_length = ap (little_number 2) here ∙ key_length n rest small;
      data_length = ap (little_number 2) (further 2) ∙ data_length n rest small;
      extent = ap (little_number 2) (further 4) ∙ extent_length n rest small;
      key = ap (take (length n.key)) key_at ∙ take_at n.key (n.data ++ (zeros ++ rest)) (length n.key) refl;
      «data» = ap (take (length n.data)) data_at ∙ take_at n.data (zeros ++ rest) (length n.data) refl;
      fits = small.fits;
      within = omega (arith, at_is, page.size, sum_by_more_le node_size p.nodes i no_node h);
    }

-- the bytes of a node, cut out of its page
pub node_slice : (p : PageContents) (i : ℕ) (bytes : List ℕ) (at size : ℕ) → IsPage p → i < length p.nodes → drop 8 bytes ≡ page_body p → at ≡ page_size (take i p.nodes) → size ≡ node_size (node_at p.nodes i) → take size (drop at bytes) ≡ node_bytes (node_at p.nodes i)
node_slice p i bytes at size page h spelled at_is size_is =
    let here : drop at bytes ≡ node_bytes (node_at p.nodes i) ++ behind p i = same_behind bytes (page_bytes p) at (spelled ∙ sym (drop-page_bytes p)) (omega (arith, at_is)) ∙ ap (λ k. drop k (page_bytes p)) at_is ∙ page_bytes-at p i page h in
    ap (take size) here ∙ take_at (node_bytes (node_at p.nodes i)) (behind p i) size (length-node_bytes (node_at p.nodes i) (small_nodes p page i no_node h).fits ∙ sym size_is)

-- a node's bytes with other data
pub node_bytes-replace : (node : List ℕ) (n : Node) (d head key value zeros buf : List ℕ) → node ≡ node_bytes n → head ≡ take 6 node → key ≡ take (length n.key) (drop 6 node) → buf ≡ little_bytes 2 (length d) ++ drop 2 (take 2 (drop 2 head)) → value ≡ d → zeros ≡ replicate (n.extent - length d) 0 → (take 2 head ++ (buf ++ drop 2 (drop 2 head))) ++ (key ++ (value ++ zeros)) ≡ node_bytes (record n { «data» = d })
unfolding node_bytes
node_bytes-replace node n d head key value zeros buf node_is head_is key_is buf_is value_is zeros_is =
    let front = ap (take 6) node_is in
    let body : take (length n.key) (drop 6 node) ≡ n.key = ap (λ x. take (length n.key) (drop 6 x)) node_is ∙ take_at n.key (n.data ++ replicate (n.extent - length n.data) 0) (length n.key) refl in
    rw (buf_is, key_is, body, value_is, zeros_is, head_is, front) refl
