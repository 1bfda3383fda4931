-- What a store of long values holds, and what a change of its tree leaves.
use Rattle.std.specs.Prelude.{◌≡◌, ℕ, Some, None, List, ◌++◌, take, drop}
use Rattle.byteorder.specs.Endian.{big_bytes}
use Rattle.page_image.specs.Page.{Node}
use Rattle.page_space.specs.Frames.{Frames}
use Rattle.btree_inplace.specs.Trees.{Exchanges, IsTree, nodes_of, pages_of}
use Rattle.btree_inplace.specs.declared.Tree.{Tree}
use Rattle.long_value.specs.Values.{AreLong, LongValue, Values, nodes_of_values, value_of}
use Rattle.long_value.specs.declared.values.LongId.{LongId}
use Rattle.long_value.specs.declared.values.LongValues.{LongValues}

abbrev pub id_bytes : LongId → List ℕ
id_bytes id = big_bytes 8 id.entry ++ big_bytes 4 id.place

-- the pages of a store, which nothing else in its space has
abbrev pub own_pages : Frames → LongValues → List ℕ
own_pages frames store = pages_of frames store.tree

-- the root page of its tree
abbrev pub root_of : LongValues → ℕ
root_of store = store.tree.root

-- The store's tree has the nodes of these values and no other.
pub record HasValues (frames : Frames) (store : LongValues) (values : Values) : Type 0 where
  pub tree : IsTree frames store.tree
  pub whole : AreLong values
  pub nodes : nodes_of frames store.tree ≡ nodes_of_values values

abbrev pub IsLongStore : Frames → LongValues → Type 0
IsLongStore frames store = (values : Values) × HasValues frames store values

abbrev pub HoldsValue : Frames → LongValues → LongId → LongValue → Type 0
HoldsValue frames store id value = (values : Values) × HasValues frames store values × (value_of (id_bytes id) values ≡ Some value)

abbrev pub HasNoValue : Frames → LongValues → LongId → Type 0
HasNoValue frames store id = (values : Values) × HasValues frames store values × (value_of (id_bytes id) values ≡ None)

-- A tree has changed, so that it has these nodes and the same root page; other trees' pages are as they were.
pub record Becomes (old : Frames) (was : Tree) (new : Frames) (is : Tree) (nodes : List Node) : Type 0 where
  pub tree : IsTree new is
  pub has : nodes_of new is ≡ nodes
  pub pages : Exchanges old new (pages_of old was) (pages_of new is)
  pub root : is.root ≡ was.root

-- the first bytes of a value with what stood behind them
abbrev pub read_upto : ℕ → List ℕ → List ℕ → List ℕ
read_upto done bytes into = take done bytes ++ drop done into
