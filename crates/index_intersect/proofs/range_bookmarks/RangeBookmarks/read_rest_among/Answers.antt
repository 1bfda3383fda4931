use Rattle.std.proofs.Common.{◌∙◌}
use Rattle.index_intersect.specs.Walks.{bookmarks_ahead}
use Rattle.index_intersect.proofs.Reading.{kept}
use Rattle.index_intersect.proofs.range_bookmarks.RangeBookmarks.read_rest_among.Goals as goal

pub returns : goal.returns
returns g c = λ b.
    c.in_ok-read_among.ensures b
    ∙ kept c.args.others.now c.args.self.read c.keep_among.new.bookmarks (bookmarks_ahead (g.W.View.entries c.args.view.now) c.args.self.walk) c.keep_among.ensures b
