-- The nodes of a table, by their bookmarks.
use Rattle.std.specs.Prelude.{ℕ, ◌≤◌, ◌<◌, Option, None, List, length, find, filter, map}
use Rattle.std.specs.List.{last_or}
use Rattle.std.specs.Option.{option_map}
use Rattle.page_image.specs.Page.{Node}
use Rattle.btree_inplace.specs.Order.{key_and_data}
use Rattle.index_derive.specs.declared.entries.Place.{Place}
use Rattle.cursor_nav.specs.Places.{Pair, is_beyond, is_short_of}

-- A bookmark has 1 to 255 bytes, as many as a cursor keeps, and a row fits the bytes that are kept for it, 1,700 at most.
pub record IsShortNode (n : Node) : Type 0 where
  pub some : 0 < length n.key
  pub bookmark : length n.key ≤ 255
  pub row : length n.data ≤ n.extent
  pub extent : n.extent ≤ 1700

-- a node with another row, and one with another extent
abbrev pub put_data : List ℕ → Node → Node
put_data row n = record n { «data» = row }

abbrev pub put_extent : ℕ → Node → Node
put_extent extent n = record n { extent = extent }

-- each bookmark as an entry, with itself as its key
abbrev pub bookmark_entries : List Node → List Pair
bookmark_entries nodes = map (λ n. (n.key, n.key)) nodes

-- the least node beyond a place, and the greatest before it: its bookmark and its row
abbrev pub node_after : Place → List Node → Option (List ℕ × List ℕ)
node_after place nodes = option_map key_and_data (find (λ n. is_beyond place (n.key, n.key)) nodes)

abbrev pub node_before : Place → List Node → Option (List ℕ × List ℕ)
node_before place nodes = option_map key_and_data (last_or None (filter (λ n. is_short_of place (n.key, n.key)) nodes))
