use Rattle.std.specs.Prelude.{codes}
use Rattle.tool_dump.proofs.Walking.{few_walked, values_told}
use Rattle.tool_dump.proofs.pages.append_values.Goals as goal

pub heads_below-values-requires : goal.heads_below-values-requires
heads_below-values-requires c = record {
  tree = c.walk-walked.ensures.shape;
  few = few_walked c.args.space.now c.args.root c.walk-walked.result.depth c.walk-walked.result.tree c.args.marks.now c.walk-walked.new.marks c.walk-walked.ensures;
}

pub page_count-pages-requires : goal.page_count-pages-requires
page_count-pages-requires c = c.walk-walked.ensures.below.is_tree

pub returns : goal.returns
returns c =
    values_told c.append_counts.result c.args.space.now c.args.root c.walk-walked.result.depth c.walk-walked.result.tree (codes "long") c.heads_below-values.result c.page_count-pages.result c.args.text.now.items c.append_counts.new.text.items c.args.marks.now c.walk-walked.new.marks
    c.walk-walked.ensures c.heads_below-values.ensures c.page_count-pages.ensures c.append_counts.ensures
