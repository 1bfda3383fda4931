-- The range of a cursor.
use Rattle.std.specs.Prelude.{ℕ, Bool, List, option_map}
use Rattle.jet_base.specs.Ids.{index_id, table_id}
use Rattle.cursor_nav.specs.Navigation.{CursorState}
use Rattle.cursor_nav.specs.Places.{place_bookmark, place_key, upper_limit}
use Rattle.index_intersect.specs.declared.ranges.IndexRange.{IndexRange}
use Rattle.index_intersect.specs.declared.ranges.Limit.{Limit}

abbrev pub limit_at : List ℕ × Bool → Limit
limit_at limit = record { key = limit.0; inclusive = limit.1 }

-- from the entry of its place to its upper limit, or to the end of its index: the entries that IndexRecordCount counts
abbrev pub cursor_range : CursorState → IndexRange
cursor_range cursor = record {
  table = table_id cursor.table;
  index = index_id cursor.index;
  from = record { key = place_key cursor.place; bookmark = place_bookmark cursor.place };
  upper = option_map limit_at (upper_limit cursor.range);
}
