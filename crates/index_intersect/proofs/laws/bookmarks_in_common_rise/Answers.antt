use Rattle.index_intersect.proofs.Sets.{intersection-rises}
use Rattle.index_intersect.proofs.laws.bookmarks_in_common_rise.Goals as goal

pub returns : goal.returns
returns c = intersection-rises
