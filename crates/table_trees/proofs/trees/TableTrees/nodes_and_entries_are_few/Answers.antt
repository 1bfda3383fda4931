-- Each node and each entry is a node of a tree, which has no more of them than the pages of the space hold.
use Rattle.std.proofs.Common.{◌<◌, ◌^◌, length, arith}
use Rattle.table_trees.proofs.StoreChanges.{each_entries, each_nodes}
use Rattle.table_trees.proofs.trees.TableTrees.nodes_and_entries_are_few.Goals as goal

pub returns-clause-nodes : goal.returns-clause-nodes
returns-clause-nodes c table =
    each_nodes (λ nodes. length nodes < 2 ^ 34) c.self.inside.space c.self.inside.tables.items c.args.self.now table c.self.invariant c.self.view_is (omega arith)
    (λ nodes is. omega (arith, c.nodes_fit_their_space.ensures c.self.inside.space nodes.tree is.tree, c.len.ensures.value, c.len.ensures.limit))

pub returns-clause-entries : goal.returns-clause-entries
returns-clause-entries c table index =
    each_entries (λ entries. length entries < 2 ^ 34) c.self.inside.space c.self.inside.tables.items c.args.self.now table index c.self.invariant c.self.view_is (omega arith)
    (λ tree is. omega (arith, c.entries_fit_their_space.ensures c.self.inside.space tree is, c.len.ensures.value, c.len.ensures.limit))
