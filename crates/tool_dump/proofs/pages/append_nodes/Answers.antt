use Rattle.tool_dump.proofs.Walking.{nodes_told}
use Rattle.tool_dump.proofs.pages.append_nodes.Goals as goal

pub node_count-nodes-requires : goal.node_count-nodes-requires
node_count-nodes-requires c = c.walk-walked.ensures.below.is_tree

pub page_count-pages-requires : goal.page_count-pages-requires
page_count-pages-requires c = c.walk-walked.ensures.below.is_tree

pub returns : goal.returns
returns c =
    nodes_told c.append_counts.result c.args.space.now c.args.root c.walk-walked.result.depth c.walk-walked.result.tree c.args.counted.now c.node_count-nodes.result c.page_count-pages.result c.args.text.now.items c.append_counts.new.text.items c.args.marks.now c.walk-walked.new.marks
    c.walk-walked.ensures c.node_count-nodes.ensures c.page_count-pages.ensures c.append_counts.ensures
