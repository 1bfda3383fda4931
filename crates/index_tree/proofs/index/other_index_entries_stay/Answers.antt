use Rattle.std.proofs.Common.{◌∙◌}
use Rattle.index_tree.specs.IndexTrees.{entries_of}
use Rattle.index_tree.proofs.NodeEntries.{holds_entries}
use Rattle.index_tree.proofs.index.other_index_entries_stay.Goals as goal

pub returns : goal.returns
returns c old new before after index e is apart =
    let t = c.other_tree_stays.ensures old new before after index.tree e is.tree apart in
    let held = holds_entries new index (entries_of old index) t.0 (t.1 ∙ is.nodes) is.in_order is.short is.apart in
    (held.0, held.1, t.2, t.3)
