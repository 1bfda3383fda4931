-- The records of a table rise as its nodes do.
use Rattle.std.proofs.Common.{◌≡◌, ℕ, Bool, true, false, ◌&&◌, ◌||◌, List, [], ◌∷◌, Option, Some, None, ap, ◌∙◌}
use Rattle.std.specs.Prelude.{T, bytes_eq}
use Rattle.std.specs.List.{list_all}
use Rattle.std.specs.Ordering.{nat_cmp, is_eq}
use Rattle.std.specs.Cmp.Lexicographic.{slice_cmp, nat_list_cmp_total, texts_ties}
use Rattle.std.specs.FinMap.Entries.{below_all, same_entries}
use Rattle.common_lemmas.proofs.Booleans.{and_left, and_right, impossible}
use Rattle.column_set.specs.RecordValues.{bytes_lt}
use Rattle.cursor_nav.specs.Places.{are_sorted, pair_lt}
use Rattle.page_image.specs.Page.{Node}
use Rattle.table_trees.specs.StoredNodes.{bookmark_entries}
use Rattle.laws_engine.specs.Holding.{RowsRise}
use Rattle.stored_variants.specs.RecordRows.{row_in_node, rows_of_nodes, with_record}
use Rattle.long_value.specs.Values.{Values}
use Rattle.std.specs.declared.cmp.Ordering.TheVariants.{Equal}
use Rattle.common_lemmas.proofs.Numbers.{same_bytes}
use Rattle.database_state.specs.Table.{Rows, row_at}

pub own_below : (a b : Bool) → (a || (b && a)) ≡ true → T a
own_below true b h = tt
own_below false true h = impossible h
own_below false false h = impossible h

pub both : (a b : Bool) → T a → T b → T (a && b)
both true b p q = q
both false b p q = p

below_is : (longs : Values) (key : List ℕ) (nodes : List Node) → list_all (pair_lt (key, key)) (bookmark_entries nodes) ≡ true → T (below_all (slice_cmp nat_cmp) key (rows_of_nodes longs nodes))
below_is longs key [] low = tt
below_is longs key (n ∷ nodes) low = by (row_in_node n.data) (below_is longs key nodes (and_right (pair_lt (key, key) (n.key, n.key)) _ low))
  where
    by : (row : Option (List ℕ)) → T (below_all (slice_cmp nat_cmp) key (rows_of_nodes longs nodes)) → T (below_all (slice_cmp nat_cmp) key (with_record longs n.key row (rows_of_nodes longs nodes)))
    by None rest = rest
    by (Some row) rest = both _ _ (own_below (bytes_lt key n.key) (bytes_eq key n.key) (and_left (pair_lt (key, key) (n.key, n.key)) _ low)) rest

pub rows_rise : (longs : Values) (nodes : List Node) → are_sorted (bookmark_entries nodes) ≡ true → RowsRise (rows_of_nodes longs nodes)
rows_rise longs [] sorted = tt
rows_rise longs (n ∷ nodes) sorted = by (row_in_node n.data) (rows_rise longs nodes (and_right (list_all (pair_lt (n.key, n.key)) (bookmark_entries nodes)) _ sorted))
  where
    by : (row : Option (List ℕ)) → RowsRise (rows_of_nodes longs nodes) → RowsRise (with_record longs n.key row (rows_of_nodes longs nodes))
    by None rest = rest
    by (Some row) rest = both _ _ (below_is longs n.key nodes (and_left _ _ sorted)) rest

-- ---- rows by their bookmarks

pub equal_keys : (x y : List ℕ) → slice_cmp nat_cmp x y ≡ Equal → x ≡ y
equal_keys x y e = same_bytes x y (texts_ties x y ∙ ap is_eq e)

pub same_rows : (a b : Rows) → RowsRise a → RowsRise b → ((own : List ℕ) → row_at a own ≡ row_at b own) → a ≡ b
same_rows a b one other same = same_entries (slice_cmp nat_cmp) nat_list_cmp_total equal_keys a b one other same
