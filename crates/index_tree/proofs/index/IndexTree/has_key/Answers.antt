-- The first node at a key or after it has the key, where one has.
use Rattle.std.proofs.Common.{find, sym, ◌∙◌}
use Rattle.btree_inplace.specs.Order.{is_from}
use Rattle.btree_inplace.specs.Trees.{nodes_of}
use Rattle.index_tree.specs.Entries.{IsShort, is_at_or_after}
use Rattle.index_tree.specs.IndexTrees.{entries_of}
use Rattle.index_tree.proofs.Cutting.{no_key, same_key}
use Rattle.index_tree.proofs.Lists.{find_all}
use Rattle.index_tree.proofs.NodeEntries.{node_from}
use Rattle.index_tree.proofs.index.IndexTree.has_key.Goals as goal

pub parts-requires : goal.parts-requires
parts-requires c =
    let es = entries_of c.args.space.now c.args.self.now in (
      find (is_at_or_after c.args.key.now) es,
      find_all IsShort (is_at_or_after c.args.key.now) es c.requires.index.short,
      c.at_or_after.ensures ∙ node_from (nodes_of c.args.space.now c.args.self.now.tree) es (is_from c.args.key.now) c.requires.index.nodes,
    )

pub returns-in-Some : goal.returns-in-Some
returns-in-Some c =
    let es = entries_of c.args.space.now c.args.self.now in
    c.eq.ensures
    ∙ same_key c.args.key.now es (c.in-Some.found.now, c.in-Some.field-0-1.now) c.requires.index.in_order c.requires.index.apart
    (c.in-Some.ensures (find (is_at_or_after c.args.key.now) es) (find_all IsShort (is_at_or_after c.args.key.now) es c.requires.index.short)
    (c.at_or_after.ensures ∙ node_from (nodes_of c.args.space.now c.args.self.now.tree) es (is_from c.args.key.now) c.requires.index.nodes))

pub returns-in-None : goal.returns-in-None
returns-in-None c =
    let es = entries_of c.args.space.now c.args.self.now in
    sym (no_key c.args.key.now es
    (c.in-None.ensures (find (is_at_or_after c.args.key.now) es) (find_all IsShort (is_at_or_after c.args.key.now) es c.requires.index.short)
    (c.at_or_after.ensures ∙ node_from (nodes_of c.args.space.now c.args.self.now.tree) es (is_from c.args.key.now) c.requires.index.nodes)))
