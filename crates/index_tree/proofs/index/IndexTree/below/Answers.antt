-- The last node below the cut.
use Rattle.std.proofs.Common.{List, ℕ, None, filter, sym, subst, ◌∙◌}
use Rattle.std.proofs.lemmas.List.{append-nil}
use Rattle.std.specs.List.{last_or}
use Rattle.btree_inplace.specs.Order.{is_under}
use Rattle.btree_inplace.specs.Trees.{nodes_of}
use Rattle.index_tree.specs.Entries.{CutsAt, IsShort}
use Rattle.index_tree.specs.IndexTrees.{entries_of}
use Rattle.index_tree.proofs.Cutting.{found_below, is_before}
use Rattle.index_tree.proofs.Lists.{last_all}
use Rattle.index_tree.proofs.NodeEntries.{node_upto}
use Rattle.index_tree.proofs.index.IndexTree.below.Goals as goal

pub parts-requires : goal.parts-requires
parts-requires c =
    let es = entries_of c.args.space.now c.args.self.now in
    let key = c.as_slice.result.now in (
      last_or None (filter (is_before key) es),
      last_all IsShort (is_before key) None es tt c.requires.index.short,
      c.before-2.ensures ∙ node_upto (nodes_of c.args.space.now c.args.self.now.tree) es (is_under key) c.requires.index.nodes,
    )

pub returns : goal.returns
returns c =
    let es = entries_of c.args.space.now c.args.self.now in
    let key = c.as_slice.result.now in
    c.parts.ensures (last_or None (filter (is_before key) es)) (last_all IsShort (is_before key) None es tt c.requires.index.short)
    (c.before-2.ensures ∙ node_upto (nodes_of c.args.space.now c.args.self.now.tree) es (is_under key) c.requires.index.nodes)
    ∙ found_below key (c.args.key.now, c.args.bookmark.now) es
    (subst (λ (k : List ℕ). CutsAt k (c.args.key.now, c.args.bookmark.now) es) (sym c.as_slice.ensures.value) c.cut.ensures)
