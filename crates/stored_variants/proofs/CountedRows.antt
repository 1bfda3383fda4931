-- The newest rows of a table by their bookmarks, and the rows before its held changes.
use Rattle.std.proofs.Common.{◌≡◌, ℕ, zero, suc, Bool, true, false, T, not, ◌&&◌, ◌||◌, inl, inr, cond, List, [], ◌∷◌, ◌++◌, Option, Some, None, find, filter, map, option_map, refl, sym, ap, subst, ◌∙◌}
use Rattle.std.specs.Prelude.{◌==◌, bytes_eq, option_and_then, slice_get}
use Rattle.std.specs.List.{AllByRecursion, list_all}
use Rattle.std.specs.Ordering.{nat_cmp}
use Rattle.std.specs.Cmp.Lexicographic.{nat_list_cmp_total, slice_cmp, texts_ties}
use Rattle.std.specs.FinMap.Entries.{below_all, find-put, find-where_key, is_sorted, is_sorted-put, is_sorted-where_key, same_entries}
use Rattle.common_lemmas.proofs.Booleans.{and_left, and_right, is_true}
use Rattle.common_lemmas.proofs.Numbers.{bytes_turned, self_equal}
use Rattle.column_set.specs.RecordValues.{bytes_lt, lookup_by_key}
use Rattle.column_set.specs.RowReading.{row_in}
use Rattle.column_set.specs.Rows.{RowFields}
use Rattle.btree_inplace.specs.Order.{has_key}
use Rattle.cursor_nav.specs.Places.{are_sorted, pair_lt}
use Rattle.database_state.specs.State.{undone}
use Rattle.long_rows.specs.ReferenceCounts.{AreRows, NewestRows, RowBefore, as_undone, with_row}
use Rattle.page_image.specs.Page.{Node}
use Rattle.table_trees.specs.StoredNodes.{bookmark_entries}
use Rattle.version_store.specs.HeldChanges.{HeldChange, undone_at, with_status}
use Rattle.laws_engine.proofs.TableLemmas.Neighbours.{IsIn}
use Rattle.stored_variants.specs.CountedValues.{newest_rows, row_before, rows_before, with_own_row}
use Rattle.stored_variants.specs.RecordRows.{row_in_node, row_under}
use Rattle.stored_variants.proofs.NodeRecords.{key_is, none_behind, same_test}
use Rattle.stored_variants.proofs.RisingRows.{both, equal_keys, own_below}
use Rattle.common_lemmas.proofs.Options.{same_some, none_some}

-- ---- the row under a bookmark

pub own_row : (nodes : List Node) → are_sorted (bookmark_entries nodes) ≡ true → (bookmark : List ℕ) → lookup_by_key bookmark (newest_rows nodes) ≡ option_map row_in (row_under nodes bookmark)
own_row [] sorted bookmark = refl
own_row (n ∷ nodes) sorted bookmark =
    by (has_key bookmark n) refl (row_in_node n.data) refl (own_row nodes (and_right (list_all (pair_lt (n.key, n.key)) (bookmark_entries nodes)) _ sorted) bookmark)
  where
    low : list_all (pair_lt (n.key, n.key)) (bookmark_entries nodes) ≡ true
    low = and_left _ _ sorted

    by : (b : Bool) → has_key bookmark n ≡ b → (row : Option (List ℕ)) → row_in_node n.data ≡ row → lookup_by_key bookmark (newest_rows nodes) ≡ option_map row_in (row_under nodes bookmark)
        → lookup_by_key bookmark (with_own_row n.key row (newest_rows nodes)) ≡ option_map row_in (option_and_then row_in_node (option_map (λ (n : Node). n.data) (cond b (Some n) (find (has_key bookmark) nodes))))
    by true h None e rest =
        rest ∙ ap (λ o. option_map row_in (option_and_then row_in_node o)) (none_behind n.key bookmark nodes (key_is n.key bookmark h) low) ∙ sym (ap (option_map row_in) e)
    by true h (Some row) e rest =
        ap (λ t. cond t (Some (row_in row)) (lookup_by_key bookmark (newest_rows nodes))) (sym (same_test bookmark n.key) ∙ h) ∙ sym (ap (option_map row_in) e)
    by false h None e rest = rest
    by false h (Some row) e rest =
        ap (λ t. cond t (Some (row_in row)) (lookup_by_key bookmark (newest_rows nodes))) (sym (same_test bookmark n.key) ∙ h) ∙ rest

-- ---- they rise

low_rows : (key : List ℕ) (nodes : List Node) → list_all (pair_lt (key, key)) (bookmark_entries nodes) ≡ true → T (below_all (slice_cmp nat_cmp) key (newest_rows nodes))
low_rows key [] low = tt
low_rows key (n ∷ nodes) low = by (row_in_node n.data) (low_rows key nodes (and_right (pair_lt (key, key) (n.key, n.key)) _ low))
  where
    by : (row : Option (List ℕ)) → T (below_all (slice_cmp nat_cmp) key (newest_rows nodes)) → T (below_all (slice_cmp nat_cmp) key (with_own_row n.key row (newest_rows nodes)))
    by None rest = rest
    by (Some row) rest = both _ _ (own_below (bytes_lt key n.key) (bytes_eq key n.key) (and_left (pair_lt (key, key) (n.key, n.key)) _ low)) rest

pub own_rows_rise : (nodes : List Node) → are_sorted (bookmark_entries nodes) ≡ true → T (is_sorted (slice_cmp nat_cmp) (newest_rows nodes))
own_rows_rise [] sorted = tt
own_rows_rise (n ∷ nodes) sorted = by (row_in_node n.data) (own_rows_rise nodes (and_right (list_all (pair_lt (n.key, n.key)) (bookmark_entries nodes)) _ sorted))
  where
    by : (row : Option (List ℕ)) → T (is_sorted (slice_cmp nat_cmp) (newest_rows nodes)) → T (is_sorted (slice_cmp nat_cmp) (with_own_row n.key row (newest_rows nodes)))
    by None rest = rest
    by (Some row) rest = both _ _ (low_rows n.key nodes (and_left _ _ sorted)) rest

pub own_rows_are : (nodes : List Node) → are_sorted (bookmark_entries nodes) ≡ true → AreRows (newest_rows nodes)
own_rows_are nodes sorted = is_true (is_sorted (slice_cmp nat_cmp) (newest_rows nodes)) (own_rows_rise nodes sorted)

-- ---- other nodes

-- nodes with the same rows under all bookmarks have the same newest rows
pub same_newest : (one other : List Node) → are_sorted (bookmark_entries one) ≡ true → are_sorted (bookmark_entries other) ≡ true → ((own : List ℕ) → row_under one own ≡ row_under other own) → newest_rows one ≡ newest_rows other
same_newest one other a b same =
    same_entries (slice_cmp nat_cmp) nat_list_cmp_total equal_keys (newest_rows one) (newest_rows other) (own_rows_rise one a) (own_rows_rise other b)
    (λ own. own_row one a own ∙ ap (option_map row_in) (same own) ∙ sym (own_row other b own))

rise_with : (key : List ℕ) (row : Option RowFields) (rows : NewestRows) → T (is_sorted (slice_cmp nat_cmp) rows) → T (is_sorted (slice_cmp nat_cmp) (with_row key row rows))
rise_with key None rows rise = is_sorted-where_key (slice_cmp nat_cmp) (λ k. not (bytes_eq k key)) rows rise
rise_with key (Some row) rows rise = is_sorted-put (slice_cmp nat_cmp) nat_list_cmp_total key row rows rise

at_with : (key own : List ℕ) (row : Option RowFields) (rows : NewestRows) → lookup_by_key own (with_row key row rows) ≡ cond (bytes_eq key own) row (lookup_by_key own rows)
at_with key own None rows =
    find-where_key (slice_cmp nat_cmp) (λ k. not (bytes_eq k key)) own (λ x e. ap (λ k. not (bytes_eq k key)) (sym (equal_keys own x e))) rows
    ∙ ap (λ b. cond (not b) (lookup_by_key own rows) None) (bytes_turned own key) ∙ by (bytes_eq key own)
  where
    by : (b : Bool) → cond (not b) (lookup_by_key own rows) None ≡ cond b None (lookup_by_key own rows)
    by true = refl
    by false = refl
at_with key own (Some row) rows =
    find-put (slice_cmp nat_cmp) nat_list_cmp_total own key row rows
    ∙ sym (ap (λ t. cond t (Some row) (lookup_by_key own rows)) (bytes_turned key own ∙ texts_ties own key))

-- nodes with another row under one bookmark, or none
pub newest_with : (one other : List Node) (key : List ℕ) (row : Option (List ℕ)) → are_sorted (bookmark_entries one) ≡ true → are_sorted (bookmark_entries other) ≡ true
    → ((own : List ℕ) → row_under other own ≡ cond (bytes_eq key own) row (row_under one own)) → newest_rows other ≡ with_row key (option_map row_in row) (newest_rows one)
newest_with one other key row a b then =
    same_entries (slice_cmp nat_cmp) nat_list_cmp_total equal_keys (newest_rows other) (with_row key (option_map row_in row) (newest_rows one)) (own_rows_rise other b) (rise_with key (option_map row_in row) (newest_rows one) (own_rows_rise one a))
    (λ own. own_row other b own ∙ ap (option_map row_in) (then own) ∙ by own (bytes_eq key own) ∙ sym (at_with key own (option_map row_in row) (newest_rows one)))
  where
    by : (own : List ℕ) (b : Bool) → option_map row_in (cond b row (row_under one own)) ≡ cond b (option_map row_in row) (lookup_by_key own (newest_rows one))
    by own true = refl
    by own false = sym (own_row one a own)

-- ---- rows before held changes

-- a member stands between two parts
pub record IsAmid (change : RowBefore) (all : List RowBefore) : Type 0 where
  pub earlier : List RowBefore
  pub later : List RowBefore
  pub is : all ≡ earlier ++ change ∷ later

pub amid : (change : RowBefore) (all : List RowBefore) → IsIn change all → IsAmid change all
amid change [] i = absurd i
amid change (x ∷ xs) (inl same) = record { earlier = []; later = xs; is = ap (λ (y : RowBefore). y ∷ xs) same }
amid change (x ∷ xs) (inr i) =
    let rest = amid change xs i in
    record { earlier = x ∷ rest.earlier; later = rest.later; is = ap (λ (ys : List RowBefore). x ∷ ys) rest.is }

-- the row before a held change is among those of its table
pub among_rows : (h : HeldChange) (held : List HeldChange) → IsIn h held → IsIn (row_before h) (rows_before h.table held)
among_rows h [] i = absurd i
among_rows h (x ∷ held) (inl same) =
    subst (λ (y : HeldChange). IsIn (row_before h) (rows_before h.table (y ∷ held))) (sym same)
    (subst (λ (b : Bool). IsIn (row_before h) (map row_before (cond b (h ∷ filter (λ (y : HeldChange). y.table == h.table) held) (filter (λ (y : HeldChange). y.table == h.table) held)))) (sym (self_equal h.table)) (inl refl))
among_rows h (x ∷ held) (inr i) = by (x.table == h.table) (among_rows h held i)
  where
    by : (b : Bool) → IsIn (row_before h) (rows_before h.table held) → IsIn (row_before h) (map row_before (cond b (x ∷ filter (λ (y : HeldChange). y.table == h.table) held) (filter (λ (y : HeldChange). y.table == h.table) held)))
    by true rest = inr rest
    by false rest = rest

-- what holds of each member holds of all
pub all_members : (P : HeldChange → Type 0) (held : List HeldChange) → ((h : HeldChange) → IsIn h held → P h) → AllByRecursion P held
all_members P [] each = tt
all_members P (h ∷ held) each = (each h (inl refl), all_members P held (λ x i. each x (inr i)))

-- ---- a change that is undone

-- The rows before the changes of a table, once the change at a place is undone.
pub record AreUndone (table place : ℕ) (h : HeldChange) (held : List HeldChange) : Type 0 where
  pub earlier : List RowBefore
  pub later : List RowBefore
  pub was : rows_before table held ≡ earlier ++ row_before h ∷ later
  pub is : rows_before table (undone_at (Some place) held) ≡ earlier ++ as_undone (row_before h) ∷ later

pub own_undone : (table place : ℕ) (h : HeldChange) (held : List HeldChange) → (h.table == table) ≡ true → slice_get held place ≡ Some h → AreUndone table place h held
own_undone table place h [] own at = none_some h at
own_undone table zero h (x ∷ held) own at = record {
  earlier = [];
  later = rows_before table held;
  was =
      ap (λ (y : HeldChange). rows_before table (y ∷ held)) (same_some x h at)
      ∙ ap (λ b. map row_before (cond b (h ∷ filter (λ (y : HeldChange). y.table == table) held) (filter (λ (y : HeldChange). y.table == table) held))) own;
  is =
      ap (λ (y : HeldChange). rows_before table (with_status undone y ∷ held)) (same_some x h at)
      ∙ ap (λ b. map row_before (cond b (with_status undone h ∷ filter (λ (y : HeldChange). y.table == table) held) (filter (λ (y : HeldChange). y.table == table) held))) own;
}
own_undone table (suc place) h (x ∷ held) own at = by (x.table == table) refl (own_undone table place h held own at)
  where
    by : (b : Bool) → (x.table == table) ≡ b → AreUndone table place h held → AreUndone table (suc place) h (x ∷ held)
    by true e rest = record {
      earlier = row_before x ∷ rest.earlier;
      later = rest.later;
      was =
          ap (λ b. map row_before (cond b (x ∷ filter (λ (y : HeldChange). y.table == table) held) (filter (λ (y : HeldChange). y.table == table) held))) e
          ∙ ap (λ (rows : List RowBefore). row_before x ∷ rows) rest.was;
      is =
          ap (λ b. map row_before (cond b (x ∷ filter (λ (y : HeldChange). y.table == table) (undone_at (Some place) held)) (filter (λ (y : HeldChange). y.table == table) (undone_at (Some place) held)))) e
          ∙ ap (λ (rows : List RowBefore). row_before x ∷ rows) rest.is;
    }
    by false e rest = record {
      earlier = rest.earlier;
      later = rest.later;
      was = ap (λ b. map row_before (cond b (x ∷ filter (λ (y : HeldChange). y.table == table) held) (filter (λ (y : HeldChange). y.table == table) held))) e ∙ rest.was;
      is = ap (λ b. map row_before (cond b (x ∷ filter (λ (y : HeldChange). y.table == table) (undone_at (Some place) held)) (filter (λ (y : HeldChange). y.table == table) (undone_at (Some place) held)))) e ∙ rest.is;
    }

-- those of another table stay
pub others_undone : (table place : ℕ) (h : HeldChange) (held : List HeldChange) → (h.table == table) ≡ false → slice_get held place ≡ Some h → rows_before table (undone_at (Some place) held) ≡ rows_before table held
others_undone table place h [] other at = none_some h at
others_undone table zero h (x ∷ held) other at =
    let e : (x.table == table) ≡ false = ap (λ (y : HeldChange). y.table == table) (same_some x h at) ∙ other in
    ap (λ b. map row_before (cond b (with_status undone x ∷ filter (λ (y : HeldChange). y.table == table) held) (filter (λ (y : HeldChange). y.table == table) held))) e
    ∙ sym (ap (λ b. map row_before (cond b (x ∷ filter (λ (y : HeldChange). y.table == table) held) (filter (λ (y : HeldChange). y.table == table) held))) e)
others_undone table (suc place) h (x ∷ held) other at = by (x.table == table) (others_undone table place h held other at)
  where
    by : (b : Bool) → rows_before table (undone_at (Some place) held) ≡ rows_before table held
        → map row_before (cond b (x ∷ filter (λ (y : HeldChange). y.table == table) (undone_at (Some place) held)) (filter (λ (y : HeldChange). y.table == table) (undone_at (Some place) held)))
        ≡ map row_before (cond b (x ∷ filter (λ (y : HeldChange). y.table == table) held) (filter (λ (y : HeldChange). y.table == table) held))
    by true rest = ap (λ (rows : List RowBefore). row_before x ∷ rows) rest
    by false rest = rest

-- ---- a change that is of no table, or the first

pub first_of_table : (table : ℕ) (h : HeldChange) (held : List HeldChange) → (h.table == table) ≡ true → rows_before table (h ∷ held) ≡ row_before h ∷ rows_before table held
first_of_table table h held own = ap (λ b. map row_before (cond b (h ∷ filter (λ (y : HeldChange). y.table == table) held) (filter (λ (y : HeldChange). y.table == table) held))) own

pub first_of_other : (table : ℕ) (h : HeldChange) (held : List HeldChange) → (h.table == table) ≡ false → rows_before table (h ∷ held) ≡ rows_before table held
first_of_other table h held other = ap (λ b. map row_before (cond b (h ∷ filter (λ (y : HeldChange). y.table == table) held) (filter (λ (y : HeldChange). y.table == table) held))) other
