-- The newest records of a table, by its nodes.
use Rattle.std.proofs.Common.{◌≡◌, ℕ, suc, length, Bool, true, false, ◌&&◌, ◌||◌, cond, List, [], ◌∷◌, Option, Some, None, find, option_map, refl, sym, ap, ◌∙◌, arith}
use Rattle.std.proofs.lemmas.Bool.Decides.{nat_tests}
use Rattle.std.specs.Prelude.{◌==◌, bytes_eq, option_and_then}
use Rattle.std.specs.List.{list_all}
use Rattle.std.specs.Ordering.{eq_by_cmp, nat_cmp, is_eq}
use Rattle.std.specs.Cmp.Lexicographic.{slice_cmp, texts_ties}
use Rattle.std.proofs.lemmas.Bool.{false_from_ne_true}
use Rattle.page_image.specs.Page.{Node}
use Rattle.btree_inplace.specs.Order.{get_in, has_key}
use Rattle.column_set.specs.RecordValues.{bytes_lt}
use Rattle.cursor_nav.specs.Places.{are_sorted, pair_lt}
use Rattle.database_state.specs.Table.{row_at}
use Rattle.common_lemmas.proofs.Orders.{is_less, less-irreflexive}
use Rattle.common_lemmas.proofs.Booleans.{and_left, and_right, impossible}
use Rattle.common_lemmas.proofs.Numbers.{bytes_turned, same_bytes}
use Rattle.table_trees.specs.StoredNodes.{bookmark_entries}
use Rattle.stored_variants.specs.RecordRows.{record_of, row_in_node, row_under, rows_of_nodes, with_record}
use Rattle.long_value.specs.Values.{Values}

-- ---- tests of bookmarks

-- the test of a node and that of a record are one
pub same_test : (bookmark key : List ℕ) → is_eq (slice_cmp nat_cmp key bookmark) ≡ eq_by_cmp (slice_cmp nat_cmp) bookmark key
same_test bookmark key = sym (texts_ties key bookmark) ∙ bytes_turned key bookmark ∙ texts_ties bookmark key

pub key_is : (key bookmark : List ℕ) → is_eq (slice_cmp nat_cmp key bookmark) ≡ true → key ≡ bookmark
key_is key bookmark e = same_bytes key bookmark (texts_ties key bookmark ∙ e)

own_below : (a b : Bool) → (a || (b && a)) ≡ true → a ≡ true
own_below true b h = refl
own_below false true h = h
own_below false false h = h

-- a bookmark below another is another
pub apart : (key own : List ℕ) → pair_lt (key, key) (own, own) ≡ true → key ≡ own → ⊥
apart key own low same =
    less-irreflexive key (is_less (slice_cmp nat_cmp key key) (ap (λ k. bytes_lt key k) same ∙ own_below (bytes_lt key own) (bytes_eq key own) low))

-- ---- records

pub none_behind : (key bookmark : List ℕ) (nodes : List Node) → key ≡ bookmark → list_all (pair_lt (key, key)) (bookmark_entries nodes) ≡ true → get_in nodes bookmark ≡ None
none_behind key bookmark [] same low = refl
none_behind key bookmark (n ∷ nodes) same low =
    ap (λ b. option_map (λ (n : Node). n.data) (cond b (Some n) (find (has_key bookmark) nodes))) other
    ∙ none_behind key bookmark nodes same (and_right (pair_lt (key, key) (n.key, n.key)) _ low)
  where
    other : has_key bookmark n ≡ false
    other = false_from_ne_true (has_key bookmark n) (λ e. apart key n.key (and_left (pair_lt (key, key) (n.key, n.key)) _ low) (same ∙ sym (key_is n.key bookmark e)))

-- the newest record under a bookmark is the one of its row
pub record_at : (longs : Values) (nodes : List Node) → are_sorted (bookmark_entries nodes) ≡ true → (bookmark : List ℕ) → row_at (rows_of_nodes longs nodes) bookmark ≡ option_map (record_of longs) (row_under nodes bookmark)
record_at longs [] sorted bookmark = refl
record_at longs (n ∷ nodes) sorted bookmark =
    by (has_key bookmark n) refl (row_in_node n.data) refl (record_at longs nodes (and_right (list_all (pair_lt (n.key, n.key)) (bookmark_entries nodes)) _ sorted) bookmark)
  where
    low : list_all (pair_lt (n.key, n.key)) (bookmark_entries nodes) ≡ true
    low = and_left _ _ sorted

    by : (b : Bool) → has_key bookmark n ≡ b → (row : Option (List ℕ)) → row_in_node n.data ≡ row → row_at (rows_of_nodes longs nodes) bookmark ≡ option_map (record_of longs) (row_under nodes bookmark)
        → row_at (with_record longs n.key row (rows_of_nodes longs nodes)) bookmark ≡ option_map (record_of longs) (option_and_then row_in_node (option_map (λ (n : Node). n.data) (cond b (Some n) (find (has_key bookmark) nodes))))
    by true h None e rest =
        rest ∙ ap (λ o. option_map (record_of longs) (option_and_then row_in_node o)) (none_behind n.key bookmark nodes (key_is n.key bookmark h) low) ∙ sym (ap (option_map (record_of longs)) e)
    by true h (Some row) e rest =
        ap (λ t. cond t (Some (record_of longs row)) (row_at (rows_of_nodes longs nodes) bookmark)) (sym (same_test bookmark n.key) ∙ h) ∙ sym (ap (option_map (record_of longs)) e)
    by false h None e rest = rest
    by false h (Some row) e rest =
        ap (λ t. cond t (Some (record_of longs row)) (row_at (rows_of_nodes longs nodes) bookmark)) (sym (same_test bookmark n.key) ∙ h) ∙ rest

pub no_byte : (bytes : List ℕ) → (length bytes == 0) ≡ true → row_in_node bytes ≡ None
no_byte [] e = refl
no_byte (byte ∷ bytes) e = impossible (sym (not_zero (length bytes)) ∙ e)
  where
    not_zero : (n : ℕ) → (suc n == 0) ≡ false
    not_zero n = grind (arith, nat_tests)
