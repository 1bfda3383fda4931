-- What bytes say when they are read as a page, whether they are one or not.
use Rattle.std.specs.Prelude.{ℕ, zero, suc, ◌+◌, List, [], ◌∷◌, take, drop, slice_index}
use Rattle.byteorder.specs.Endian.{little_number}
use Rattle.page_image.specs.Page.{Node, PageContents}

-- the node in front: its three lengths, and what they cut out
unfoldable pub front_node : List ℕ → Node
front_node bytes = record {
  key = take (little_number 2 bytes) (drop 6 bytes);
  extent = little_number 2 (drop 4 bytes);
  «data» = take (little_number 2 (drop 2 bytes)) (drop (6 + little_number 2 bytes) bytes);
}

-- how far the next node is
unfoldable pub front_size : List ℕ → ℕ
front_size bytes = 6 + little_number 2 bytes + little_number 2 (drop 4 bytes)

-- the first n nodes
unfoldable pub nodes_in : ℕ → List ℕ → List Node
nodes_in zero bytes = []
nodes_in (suc n) bytes = front_node bytes ∷ nodes_in n (drop (front_size bytes) bytes)

unfoldable pub contents_of : List ℕ → PageContents
contents_of bytes = record {
  number = little_number 4 (drop 8 bytes);
  kind = slice_index bytes 12;
  nodes = nodes_in (little_number 2 (drop 14 bytes)) (drop 32 bytes);
}
