use Rattle.std.proofs.Common.{◌≡◌, ℕ, List, [], ◌∷◌, true, map, refl}
use Rattle.session_local.specs.IntersectCalls.{common_bookmarks, indexes_in}
use Rattle.session_local.specs.Local.{OpenCursor}
use Rattle.index_intersect.specs.CursorRanges.{cursor_range}
use Rattle.database_state.specs.View.{view}
use Rattle.session_local.proofs.FilledRows.{table_of_bookmarks-rising}
use Rattle.session_local.proofs.laws.a_filled_table_has_its_bookmarks_in_order.Goals as goal

pub returns-clause-rising : goal.returns-clause-rising
returns-clause-rising c = table_of_bookmarks-rising c.order_of_whole_keys.ensures.order

pub returns-clause-common : goal.returns-clause-common
returns-clause-common c asked [] fits = refl
returns-clause-common c asked (first ∷ others) fits =
    table_of_bookmarks-rising c.order_of_whole_keys.ensures.order (common_bookmarks asked (first ∷ others))
    (c.bookmarks_in_common_rise.ensures (indexes_in (view asked.state asked.session) first) (map (λ (o : OpenCursor). cursor_range o.cursor) (first ∷ others))) fits
