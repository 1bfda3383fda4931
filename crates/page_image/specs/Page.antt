-- What a page holds, and how its bytes spell it.
use Rattle.std.specs.Prelude.{◌≡◌, ℕ, zero, suc, ◌+◌, ◌-◌, ◌*◌, ◌<◌, ◌≤◌, ◌^◌, ◌⊎◌, List, [], ◌∷◌, ◌++◌, length, get_or, drop, replicate, bit_xor, slice_index_or, slice_set, sum_by, All, AllPairs}
use Rattle.std.specs.List.{flat_map}
use Rattle.std.specs.Ordering.{nat_cmp}
use Rattle.std.specs.Cmp.Lexicographic.{slice_cmp}
use Rattle.std.specs.declared.cmp.Ordering.TheVariants.{Less}
use Rattle.byteorder.specs.Endian.{little_bytes, little_number}
use Rattle.page_image.specs.declared.spelling.TheConstants.{PAGE_BYTES, CHECKED_WORDS}

-- A node has a key, data, and an extent: how many bytes the page keeps for the data.
pub record Node : Type 0 where
  pub key : List ℕ
  pub extent : ℕ
  pub «data» : List ℕ

-- A page has a number, a kind, 1 for a leaf and 2 for an inner page, and nodes.
pub record PageContents : Type 0 where
  pub number : ℕ
  pub kind : ℕ
  pub nodes : List Node

-- A byte is below 256.
abbrev pub AreBytes : List ℕ → Type 0
AreBytes bytes = (i : ℕ) → get_or bytes i 0 < 256

-- what a place past the last node has
abbrev pub no_node : Node
no_node = record { key = []; extent = 0; «data» = [] }

-- the node at place i
abbrev pub node_at : List Node → ℕ → Node
node_at nodes i = slice_index_or nodes i no_node

-- the nodes with other data, or another extent, in the node at place i
abbrev pub with_data : List Node → ℕ → List ℕ → List Node
with_data nodes i value = slice_set nodes i (record (node_at nodes i) { «data» = value })

abbrev pub with_extent : List Node → ℕ → ℕ → List Node
with_extent nodes i extent = slice_set nodes i (record (node_at nodes i) { extent = extent })

-- A node takes six bytes, its key and its extent.
abbrev pub node_size : Node → ℕ
node_size n = 6 + length n.key + n.extent

-- The nodes take this much of a page, with the 32 bytes before them.
abbrev pub page_size : List Node → ℕ
page_size nodes = 32 + sum_by node_size nodes

-- A node is the lengths of its key and data, its extent, the key, and the extent: the data, then zeros.
unfoldable pub node_bytes : Node → List ℕ
node_bytes n =
    little_bytes 2 (length n.key) ++ little_bytes 2 (length n.data) ++ little_bytes 2 n.extent
    ++ (n.key ++ (n.data ++ replicate (n.extent - length n.data) 0))

-- the first 24 bytes behind the checksum: the number, the kind, 0, the count of nodes, and 16 zeros
unfoldable pub page_head : PageContents → List ℕ
page_head p =
    little_bytes 4 p.number ++ (p.kind ∷ 0 ∷ []) ++ little_bytes 2 (length p.nodes) ++ replicate 16 0

-- the nodes and the zeros behind them
abbrev pub node_area : List Node → List ℕ
node_area nodes = flat_map node_bytes nodes ++ replicate (PAGE_BYTES - page_size nodes) 0

-- the bytes behind the checksum
unfoldable pub page_body : PageContents → List ℕ
page_body p = page_head p ++ node_area p.nodes

-- the exclusive or of the first n words of eight bytes
unfoldable pub xor_of_words : ℕ → List ℕ → ℕ
xor_of_words zero bytes = 0
xor_of_words (suc n) bytes =
    bit_xor (xor_of_words n bytes) (little_number 8 (drop (8 * n) bytes))

-- the 32 bytes before the nodes: the exclusive or of the other words, and the head
unfoldable pub page_front : PageContents → List ℕ
page_front p = little_bytes 8 (xor_of_words CHECKED_WORDS (page_body p)) ++ page_head p

-- the bytes of a page, PAGE_BYTES of them
unfoldable pub page_bytes : PageContents → List ℕ
page_bytes p = page_front p ++ node_area p.nodes

-- Keys are compared as byte strings: at the first byte that differs, and a prefix is below what it begins.
abbrev pub IsBelow : List ℕ → List ℕ → Type 0
IsBelow a b = slice_cmp nat_cmp a b ≡ Less

abbrev pub HasRisingKeys : List Node → Type 0
HasRisingKeys nodes = AllPairs (λ a b. IsBelow a.key b.key) nodes

abbrev pub DataFits : Node → Type 0
DataFits n = length n.data ≤ n.extent

-- A page has one of the two kinds, its keys rise, its data fits and its nodes have room.
pub record IsPage (p : PageContents) : Type 0 where
  pub number : p.number < 2 ^ 32
  pub kind : (p.kind ≡ 1) ⊎ (p.kind ≡ 2)
  pub rising : HasRisingKeys p.nodes
  pub fits : All DataFits p.nodes
  pub size : page_size p.nodes ≤ PAGE_BYTES

-- A new node with this key stands at place i: behind each node with a lower key, before all others, and none has the key.
pub record IsInsertPlace (nodes : List Node) (key : List ℕ) (i : ℕ) : Type 0 where
  pub within : i ≤ length nodes
  pub below : (k : ℕ) → k < i → IsBelow (node_at nodes k).key key
  pub above : (k : ℕ) → i ≤ k → k < length nodes → IsBelow key (node_at nodes k).key
