use Rattle.index_intersect.proofs.Reading.{read_none}
use Rattle.index_intersect.proofs.range_bookmarks.RangeBookmarks.new.Goals as goal

pub returns : goal.returns
returns g c = read_none c.new.result _ _ c.new.ensures.empty c.new-2.ensures
