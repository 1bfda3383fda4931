-- Whole values that each have a reference, as a store has them.
use Rattle.std.proofs.Common.{◌≡◌, ℕ, ◌≤◌, List, [], ◌∷◌, refl, sym, ap, subst, ◌∙◌}
use Rattle.std.specs.Prelude.{All}
use Rattle.std.specs.List.{AllByRecursion}
use Rattle.std.proofs.lemmas.List.Elements.{All-cons, All-nil}
use Rattle.btree_inplace.specs.Trees.{IsTree, nodes_of}
use Rattle.btree_inplace.specs.declared.Tree.{Tree}
use Rattle.image_findings.specs.TableContents.{TableContents, long_values}
use Rattle.image_findings.specs.ValueFindings.{broken_values}
use Rattle.image_opening.specs.OpenedTrees.{HasContents}
use Rattle.image_opening.specs.declared.opened.OpenedTable.{OpenedTable}
use Rattle.long_value.specs.Stores.{HasValues}
use Rattle.long_value.specs.Values.{IsLong, LongValue, Values, nodes_of_values}
use Rattle.long_value.specs.declared.values.LongValues.{LongValues}
use Rattle.page_image.specs.Page.{Node}
use Rattle.page_space.specs.Frames.{Frames}
use Rattle.image_contents.specs.WholeValues.{HasWholeValues, IsWhole}
use Rattle.image_contents.proofs.Told.{all_told}
use Rattle.image_contents.proofs.Walks.{Rise}

all_long : (values : Values) → AllByRecursion IsWhole values → AllByRecursion (λ (row : List ℕ × LongValue). 1 ≤ row.1.count) values → All IsLong values
all_long [] whole some = All-nil IsLong
all_long (row ∷ values) whole some =
    All-cons IsLong row values (record { id = whole.0.id; long = whole.0.long; short = whole.0.short; counted = some.0; few = whole.0.few }) (all_long values whole.1 some.1)

pub store_of : (frames : Frames) (tree : Tree) (store : LongValues) (values : Values) → store.tree ≡ tree → HasWholeValues frames tree values → AllByRecursion (λ (row : List ℕ × LongValue). 1 ≤ row.1.count) values → HasValues frames store values
store_of frames tree store values is has some = record {
  tree = subst (IsTree frames) (sym is) has.tree;
  whole = record { in_order = has.in_order; whole = all_long values has.whole some };
  nodes = ap (nodes_of frames) is ∙ has.nodes;
}

pub whole_of : (frames : Frames) (table : OpenedTable) (t : TableContents) (number : ℕ) → HasContents frames table t → Rise t.value_nodes → broken_values number t ≡ [] → HasWholeValues frames table.long_values (long_values t)
whole_of frames table t number has rise e =
    let told = all_told number t.value_nodes rise e in
    record { tree = has.values_tree; in_order = told.in_order; whole = told.whole; nodes = has.values_are ∙ sym told.nodes_are }
