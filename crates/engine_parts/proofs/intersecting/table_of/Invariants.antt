use Rattle.std.proofs.Common.{◌≡◌, drop, false}
use Rattle.session_local.specs.IntersectCalls.{bookmark_columns, table_of_bookmarks, with_bookmarks}
use Rattle.engine_parts.proofs.intersecting.table_of.Given as goal

-- the table with the bookmarks that are left is that of all of them
abbrev pub invariant-loop-bookmark : goal.invariant-loop-bookmark
invariant-loop-bookmark l = record {
  columns : l.table.columns ≡ bookmark_columns;
  many : l.table.unique ≡ false;
  told : with_bookmarks l.table (drop l.bookmark-index l.bookmarks) ≡ table_of_bookmarks l.bookmarks;
}
