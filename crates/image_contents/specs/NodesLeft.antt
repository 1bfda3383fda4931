-- The nodes of a tree that are still to come.
use Rattle.std.specs.Prelude.{◌≡◌, ℕ, List, [], filter, Option, Some, None, option_map, ⊤}
use Rattle.page_image.specs.Page.{Node}
use Rattle.btree_inplace.specs.Order.{get_in, is_from}
use Rattle.image_contents.specs.declared.nodes.NodeRef.{NodeRef}

abbrev pub node_of : List ℕ → ℕ → List ℕ → Node
node_of key extent bytes = record { key = key; extent = extent; «data» = bytes }

abbrev pub node_in : NodeRef → Node
node_in n = node_of n.key.now n.extent n.bytes.now

-- those from the key on, none behind the last one
abbrev pub nodes_from : List Node → Option (List ℕ × List ℕ) → List Node
nodes_from nodes None = []
nodes_from nodes (Some at) = filter (is_from at.0) nodes

-- a node is there, with its data
abbrev pub IsPlace : List Node → Option (List ℕ × List ℕ) → Type 0
IsPlace nodes None = ⊤
IsPlace nodes (Some at) = get_in nodes at.0 ≡ Some at.1
