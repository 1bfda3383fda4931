-- A row is written anew, and gives up the references to long values that it has no more.
use Rattle.std.proofs.Common.{◌≡◌, ◌≢◌, ℕ, Bool, true, false, cond, List, [], Option, Some, None, find, option_map, refl, sym, ap, subst, ◌∙◌}
use Rattle.std.specs.Prelude.{◌<◌, IsSome, bytes_eq, is_some, option_and_then}
use Rattle.common_lemmas.proofs.Numbers.{same_bytes}
use Rattle.btree_inplace.specs.Changes.{with_data_at}
use Rattle.btree_inplace.specs.Order.{has_key}
use Rattle.column_set.specs.RowReading.{row_in}
use Rattle.column_set.specs.Rows.{RowFields}
use Rattle.column_set.specs.RecordValues.{lookup_by_key}
use Rattle.cursor_nav.specs.Places.{are_sorted}
use Rattle.table_trees.specs.ValuesChanged.{HasLongValues}
use Rattle.long_rows.specs.ReferenceCounts.{AreRows, HasCounts, NamesNoOther, NewestRows, RowBefore, with_all_released, with_row}
use Rattle.long_rows.specs.RowReferences.{references, removed_identifiers}
use Rattle.long_rows.proofs.Taken.{ValueLaws}
use Rattle.long_rows.specs.RowsInUse.{newest}
use Rattle.long_value.specs.Values.{Values, value_of}
use Rattle.page_image.specs.Page.{Node}
use Rattle.table_trees.specs.StoredNodes.{bookmark_entries, put_data}
use Rattle.table_trees.specs.StoredTables.{StoredTable, has_table, table_indexes, table_long_values, table_nodes, with_nodes}
use Rattle.stored_variants.specs.CountedValues.{newest_rows}
use Rattle.stored_variants.specs.RecordRows.{IsRecordRow, row_in_node, row_under}
use Rattle.stored_variants.proofs.CountedRows.{newest_with, own_row, own_rows_are}
use Rattle.variant_trees.specs.GoneKeys.{table_numbers}
use Rattle.variant_trees.specs.LostColumns.{GivesUp, HasNodes}
use Rattle.variant_trees.proofs.Released.{named_is_there, none_stays, used}
use Rattle.variant_trees.proofs.RoomMade.{same_table_numbers}
use Rattle.variant_trees.proofs.UndoneThere.{row_some}

-- what the laws say of nodes and of counts
pub record RewriteLaws : Type 0 where
  pub named : (tables : List StoredTable) (table : ℕ) (nodes : List Node) → has_table tables table ≡ true → table_nodes (with_nodes table nodes tables) table ≡ nodes
  pub others : (tables : List StoredTable) (table other : ℕ) (nodes : List Node) → other ≢ table → table_nodes (with_nodes table nodes tables) other ≡ table_nodes tables other
  pub values : (tables : List StoredTable) (table other : ℕ) (nodes : List Node) → table_long_values (with_nodes table nodes tables) other ≡ table_long_values tables other
  pub replaced : (nodes : List Node) (key row bookmark : List ℕ) → find (has_key bookmark) (with_data_at nodes key row) ≡ option_map (λ (n : Node). cond (bytes_eq key bookmark) (put_data row n) n) (find (has_key bookmark) nodes)
  pub counted : (values : Values) (bookmark : List ℕ) (is : Option RowFields) (rows : NewestRows) (held : List RowBefore) → AreRows rows → NamesNoOther is (lookup_by_key bookmark rows)
      → HasCounts values rows held → HasCounts (with_all_released (removed_identifiers (lookup_by_key bookmark rows) is) values) (with_row bookmark is rows) held

-- The row in a node has become another, and the trees have given up what it does not name any more.
pub record Rewrites (old mid new : List StoredTable) (id : ℕ) (bookmark row is : List ℕ) : Type 0 where
  pub there : has_table old id ≡ true
  pub node : row_under (table_nodes old id) bookmark ≡ Some row
  pub rewritten : IsRecordRow (table_long_values old id) is
  pub fewer : NamesNoOther (Some (row_in is)) (Some (row_in row))
  pub counts : HasCounts (table_long_values old id) (newest_rows (table_nodes old id)) []
  pub sorted : are_sorted (bookmark_entries (table_nodes old id)) ≡ true
  pub sorted_then : are_sorted (bookmark_entries (table_nodes mid id)) ≡ true
  pub replaced : mid ≡ with_nodes id (with_data_at (table_nodes old id) bookmark is) old
  pub released : HasLongValues id (with_all_released (removed_identifiers (Some (row_in row)) (Some (row_in is))) (table_long_values mid id)) mid new

-- ---- the nodes

mid_nodes : RewriteLaws → (old mid new : List StoredTable) (id : ℕ) (bookmark row is : List ℕ) → Rewrites old mid new id bookmark row is → table_nodes mid id ≡ with_data_at (table_nodes old id) bookmark is
mid_nodes laws old mid new id bookmark row is r = ap (λ (trees : List StoredTable). table_nodes trees id) r.replaced ∙ laws.named old id (with_data_at (table_nodes old id) bookmark is) r.there

-- what a law says of a node that has another row
abbrev pub ReplacedLaw : Type 0
ReplacedLaw = (nodes : List Node) (key row bookmark : List ℕ) → find (has_key bookmark) (with_data_at nodes key row) ≡ option_map (λ (n : Node). cond (bytes_eq key bookmark) (put_data row n) n) (find (has_key bookmark) nodes)

-- the rows under the bookmarks, once one that is there is another
pub under_replaced : ReplacedLaw → (nodes : List Node) (bookmark row is : List ℕ) → row_under nodes bookmark ≡ Some row → row_in_node is ≡ Some is → (own : List ℕ) → row_under (with_data_at nodes bookmark is) own ≡ cond (bytes_eq bookmark own) (Some is) (row_under nodes own)
under_replaced law nodes bookmark row is there some own =
    ap (λ (o : Option Node). option_and_then row_in_node (option_map (λ (n : Node). n.data) o)) (law nodes bookmark is own)
    ∙ by (bytes_eq bookmark own) refl (find (has_key own) nodes) refl
  where
    no_node : (o : Option Node) → o ≡ None → option_and_then row_in_node (option_map (λ (n : Node). n.data) o) ≡ Some row → false ≡ true
    no_node o none e = ap is_some (sym (ap (λ (x : Option Node). option_and_then row_in_node (option_map (λ (n : Node). n.data) x)) none) ∙ e)

    no : {A : Type 0} → false ≡ true → A
    no e = cc

    by : (b : Bool) → bytes_eq bookmark own ≡ b → (o : Option Node) → find (has_key own) nodes ≡ o
        → option_and_then row_in_node (option_map (λ (n : Node). n.data) (option_map (λ (n : Node). cond b (put_data is n) n) o)) ≡ cond b (Some is) (option_and_then row_in_node (option_map (λ (n : Node). n.data) o))
    by true e None f = no (no_node (find (has_key own) nodes) f (ap (row_under nodes) (sym (same_bytes bookmark own e)) ∙ there))
    by true e (Some n) f = some
    by false e None f = refl
    by false e (Some n) f = refl

under_then : RewriteLaws → (old mid new : List StoredTable) (id : ℕ) (bookmark row is : List ℕ) → Rewrites old mid new id bookmark row is → (own : List ℕ) → row_under (table_nodes mid id) own ≡ cond (bytes_eq bookmark own) (Some is) (row_under (table_nodes old id) own)
under_then laws old mid new id bookmark row is r own =
    ap (λ (nodes : List Node). row_under nodes own) (mid_nodes laws old mid new id bookmark row is r)
    ∙ under_replaced laws.replaced (table_nodes old id) bookmark row is r.node (row_some (table_long_values old id) is r.rewritten) own

pub nodes_rewritten : RewriteLaws → (indexes : (tables : List StoredTable) (table other : ℕ) (nodes : List Node) → table_indexes (with_nodes table nodes tables) other ≡ table_indexes tables other) → (old mid new : List StoredTable) (id : ℕ) (bookmark row is : List ℕ)
    → Rewrites old mid new id bookmark row is → HasNodes id (with_data_at (table_nodes old id) bookmark is) old new
nodes_rewritten laws indexes old mid new id bookmark row is r = record {
  nodes = r.released.nodes id ∙ mid_nodes laws old mid new id bookmark row is r;
  others = λ other apart. r.released.nodes other ∙ ap (λ (trees : List StoredTable). table_nodes trees other) r.replaced ∙ laws.others old id other (with_data_at (table_nodes old id) bookmark is) apart;
  indexes = λ other. r.released.indexes other ∙ ap (λ (trees : List StoredTable). table_indexes trees other) r.replaced ∙ indexes old id other (with_data_at (table_nodes old id) bookmark is);
  numbers = r.released.numbers ∙ ap table_numbers r.replaced ∙ same_table_numbers id (with_data_at (table_nodes old id) bookmark is) old;
}

-- ---- the long values

mid_values : RewriteLaws → (old mid new : List StoredTable) (id : ℕ) (bookmark row is : List ℕ) → Rewrites old mid new id bookmark row is → (other : ℕ) → table_long_values mid other ≡ table_long_values old other
mid_values laws old mid new id bookmark row is r other = ap (λ (trees : List StoredTable). table_long_values trees other) r.replaced ∙ laws.values old id other (with_data_at (table_nodes old id) bookmark is)

counts_then : RewriteLaws → (old mid new : List StoredTable) (id : ℕ) (bookmark row is : List ℕ) → Rewrites old mid new id bookmark row is
    → HasCounts (with_all_released (removed_identifiers (Some (row_in row)) (Some (row_in is))) (table_long_values old id)) (newest_rows (table_nodes mid id)) []
counts_then laws old mid new id bookmark row is r =
    let was : lookup_by_key bookmark (newest_rows (table_nodes old id)) ≡ Some (row_in row) = own_row (table_nodes old id) r.sorted bookmark ∙ ap (option_map row_in) r.node in
    subst (λ (rows : NewestRows). HasCounts (with_all_released (removed_identifiers (Some (row_in row)) (Some (row_in is))) (table_long_values old id)) rows [])
    (sym (newest_with (table_nodes old id) (table_nodes mid id) bookmark (Some is) r.sorted r.sorted_then (under_then laws old mid new id bookmark row is r)))
    (subst (λ (o : Option RowFields). HasCounts (with_all_released (removed_identifiers o (Some (row_in is))) (table_long_values old id)) (with_row bookmark (Some (row_in is)) (newest_rows (table_nodes old id))) []) was
    (laws.counted (table_long_values old id) bookmark (Some (row_in is)) (newest_rows (table_nodes old id)) [] (own_rows_are (table_nodes old id) r.sorted)
    (subst (λ (o : Option RowFields). NamesNoOther (Some (row_in is)) o) (sym was) r.fewer) r.counts))

pub gives_up : RewriteLaws → ValueLaws → (old mid new : List StoredTable) (id : ℕ) (bookmark row is : List ℕ) → Rewrites old mid new id bookmark row is → GivesUp id old new
gives_up laws value_laws old mid new id bookmark row is r = record {
  others = λ other apart. r.released.others other apart ∙ mid_values laws old mid new id bookmark row is r other;
  none = λ x none. ap (value_of x) now ∙ none_stays value_laws ids x (table_long_values old id) none;
  counts = counts;
  rows = λ own text there can.
      let stays = used value_laws ids (table_long_values old id) (table_long_values new id) (newest_rows (table_nodes new id)) [] text now counts
      (newest own (own_row (table_nodes new id) (subst (λ (nodes : List Node). are_sorted (bookmark_entries nodes) ≡ true) (sym (r.released.nodes id)) r.sorted_then) own ∙ ap (option_map row_in) there)) can in
      (record { formed = can.formed; spelled = can.spelled; whole = stays.whole; small = can.small }, stays.shown);
}
  where
    ids : List (List ℕ)
    ids = removed_identifiers (Some (row_in row)) (Some (row_in is))

    now : table_long_values new id ≡ with_all_released ids (table_long_values old id)
    now = r.released.named ∙ ap (with_all_released ids) (mid_values laws old mid new id bookmark row is r id)

    counts : HasCounts (table_long_values new id) (newest_rows (table_nodes new id)) []
    counts =
        subst (λ (v : Values). HasCounts v (newest_rows (table_nodes new id)) []) (sym now)
        (subst (λ (nodes : List Node). HasCounts (with_all_released ids (table_long_values old id)) (newest_rows nodes) []) (sym (r.released.nodes id)) (counts_then laws old mid new id bookmark row is r))

-- what the row names is there before
pub rewritten_there : (old mid : List StoredTable) (id : ℕ) (bookmark row : List ℕ) → are_sorted (bookmark_entries (table_nodes old id)) ≡ true → row_under (table_nodes old id) bookmark ≡ Some row → HasCounts (table_long_values old id) (newest_rows (table_nodes old id)) []
    → table_long_values mid id ≡ table_long_values old id → (k : List ℕ) → 0 < references k (Some (row_in row)) → IsSome (value_of k (table_long_values mid id))
rewritten_there old mid id bookmark row sorted node counts same k some =
    subst (λ (v : Values). IsSome (value_of k v)) (sym same)
    (named_is_there (table_long_values old id) (newest_rows (table_nodes old id)) [] (row_in row) counts (newest bookmark (own_row (table_nodes old id) sorted bookmark ∙ ap (option_map row_in) node)) k some)
