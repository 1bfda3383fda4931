-- Long values that are whole, whatever their counts.
use Rattle.std.specs.Prelude.{◌≡◌, ℕ, ◌≤◌, true, List, length}
use Rattle.std.specs.List.{AllByRecursion}
use Rattle.std.specs.FinMap.Entries as entries
use Rattle.btree_inplace.specs.Trees.{IsTree, nodes_of}
use Rattle.btree_inplace.specs.declared.Tree.{Tree}
use Rattle.long_value.specs.Values.{LongValue, Values, nodes_of_values, order}
use Rattle.long_value.specs.declared.chunks.TheConstants.{MAX_REFERENCES, MAX_VALUE_BYTES, MIN_VALUE_BYTES}
use Rattle.page_space.specs.Frames.{Frames}

-- A value has MIN_VALUE_BYTES to MAX_VALUE_BYTES. Its count may be 0, or another than that of its references.
pub record IsWhole (row : List ℕ × LongValue) : Type 0 where
  pub id : length row.0 ≡ 12
  pub long : MIN_VALUE_BYTES ≤ length row.1.bytes
  pub short : length row.1.bytes ≤ MAX_VALUE_BYTES
  pub few : row.1.count ≤ MAX_REFERENCES

-- A tree has the nodes of these values and no other.
pub record HasWholeValues (frames : Frames) (at : Tree) (values : Values) : Type 0 where
  pub tree : IsTree frames at
  pub in_order : entries.is_sorted order values ≡ true
  pub whole : AllByRecursion IsWhole values
  pub nodes : nodes_of frames at ≡ nodes_of_values values
