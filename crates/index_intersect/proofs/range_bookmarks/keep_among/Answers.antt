use Rattle.std.proofs.Common.{rules, tests}
use Rattle.std.proofs.lemmas.Fn.{filter_same}
use Rattle.index_intersect.specs.Walks.{has}
use Rattle.index_intersect.proofs.range_bookmarks.keep_among.Goals as goal

pub returns : goal.returns
returns c = filter_same _ (has c.args.others.now) _ (λ x b q k. search (rules, tests)) _ _ c.retain.ensures.filtered
