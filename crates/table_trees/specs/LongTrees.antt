-- The long values that a table's tree holds.
use Rattle.std.specs.Prelude.{◌≡◌, ℕ, List}
use Rattle.page_space.specs.Frames.{Frames}
use Rattle.long_value.specs.Shown.{values_in}
use Rattle.long_value.specs.Stores.{HasValues, own_pages, root_of}
use Rattle.long_value.specs.Values.{Values}
use Rattle.table_trees.specs.Pages.{Rearranges}
use Rattle.table_trees.specs.declared.long_values.LongTree.{LongTree}

abbrev pub long_values_in : Frames → LongTree → Values
long_values_in frames long = values_in frames long.store

abbrev pub long_pages : Frames → LongTree → List ℕ
long_pages frames long = own_pages frames long.store

-- the root page of the tree
abbrev pub long_root : LongTree → ℕ
long_root long = root_of long.store

-- The tree has the nodes of the values that it shows, and no other.
abbrev pub IsLongTree : Frames → LongTree → Type 0
IsLongTree frames long = HasValues frames long.store (long_values_in frames long)

-- A tree of long values has become another with these values and the same root page.
pub record LongBecomes (old : Frames) (was : LongTree) (new : Frames) (is : LongTree) (values : Values) : Type 0 where
  pub tree : IsLongTree new is
  pub values_are : long_values_in new is ≡ values
  pub pages : Rearranges old new (long_pages old was) (long_pages new is)
  pub root : long_root is ≡ long_root was
