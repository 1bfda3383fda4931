use Rattle.laws_versions.proofs.IndexLemmas.SameEntries.{same_sorted, sorted_filter}
use Rattle.laws_versions.proofs.index.order.entries_in_order_are_told_by_those_that_are_there.Goals as goal

pub returns : goal.returns
returns c = record { same = same_sorted; some = sorted_filter }
