use Rattle.std.proofs.Common.{◌≡◌, true, refl}
use Rattle.std.specs.Prelude.{All}
use Rattle.std.proofs.lemmas.List.Elements.{All-nil}
use Rattle.cursor_nav.specs.Places.{are_sorted}
use Rattle.table_trees.specs.StoredNodes.{IsShortNode, bookmark_entries}
use Rattle.table_trees.proofs.StoreChanges.{each_nodes}
use Rattle.table_trees.proofs.trees.TableTrees.nodes_are_in_order.Goals as goal

pub returns-clause-sorted : goal.returns-clause-sorted
returns-clause-sorted c table =
    each_nodes (λ nodes. are_sorted (bookmark_entries nodes) ≡ true) c.self.inside.space c.self.inside.tables.items c.args.self.now table c.self.invariant c.self.view_is refl (λ nodes is. is.in_order)

pub returns-clause-short : goal.returns-clause-short
returns-clause-short c table =
    each_nodes (All IsShortNode) c.self.inside.space c.self.inside.tables.items c.args.self.now table c.self.invariant c.self.view_is (All-nil IsShortNode) (λ nodes is. is.short)
