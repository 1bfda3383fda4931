use Rattle.std.proofs.Common.{◌≡◌, ◌++◌, length}
use Rattle.std.specs.List.{AllByRecursion, flat_map}
use Rattle.btree_inplace.specs.Trees.{nodes_of}
use Rattle.image_contents.specs.ReadVariants.{HasReadableRow, contents_of}
use Rattle.image_findings.specs.TableContents.{long_values}
use Rattle.image_live.specs.KeySpans.{spans_of_node}
use Rattle.image_live.proofs.keys.derived.push_newest.Given as goal

-- The spans so far and those of the nodes that are left are those of all.
abbrev pub invariant-loop-node : goal.invariant-loop-node
invariant-loop-node l =
    (l.spans.items ++ flat_map (spans_of_node l.rule (contents_of l.variants) l.variants.versions.now) l.walk ≡ l.initial.spans.items ++ flat_map (spans_of_node l.rule (contents_of l.variants) l.variants.versions.now) (nodes_of l.variants.space.now l.variants.opened.now.nodes))
    × AllByRecursion (HasReadableRow (long_values (contents_of l.variants))) l.walk

abbrev pub decreases-loop-node : goal.decreases-loop-node
decreases-loop-node l = length l.walk
