-- Trees of which a table loses a node without a byte.
use Rattle.std.proofs.Common.{◌≡◌, ℕ, Bool, true, false, not, ◌&&◌, ◌||◌, cond, List, [], ◌∷◌, Option, Some, None, find, option_map, refl, sym, ap, subst, ◌∙◌}
use Rattle.std.specs.Prelude.{◌==◌, bytes_eq, is_some, option_and_then}
use Rattle.std.specs.List.{list_all}
use Rattle.std.proofs.lemmas.Bool.{eqb-true}
use Rattle.common_lemmas.proofs.Booleans.{and_left, and_right, impossible}
use Rattle.common_lemmas.proofs.Numbers.{same_bytes}
use Rattle.btree_inplace.specs.Changes.{without_key}
use Rattle.btree_inplace.specs.Order.{get_in, has_key}
use Rattle.cursor_nav.specs.Places.{are_sorted, pair_lt}
use Rattle.page_image.specs.Page.{Node}
use Rattle.table_trees.specs.StoredNodes.{bookmark_entries}
use Rattle.table_trees.specs.StoredTables.{StoredTable, has_table, table_nodes, with_nodes, is_table}
use Rattle.laws_engine.specs.HeldRecords.{HeldRecord}
use Rattle.laws_engine.specs.Variants.{has_variant}
use Rattle.stored_variants.specs.CountedValues.{newest_rows, with_own_row}
use Rattle.stored_variants.specs.RecordRows.{TableValues, some_before, record_of, row_in_node, row_under, rows_of_nodes, with_record}
use Rattle.variant_trees.specs.LeftVariants.{LosesNode, is_empty_node, is_this}
use Rattle.stored_variants.proofs.Dropped.{TreeLaws, same_numbers}
use Rattle.variant_trees.proofs.EntryTrees.{no_part, other_number, there_or}
use Rattle.stored_variants.proofs.NodeRecords.{key_is, none_behind}
use Rattle.long_value.specs.Values.{Values}

abbrev pub Removes : Type 0
Removes = (nodes : List Node) (key bookmark : List ℕ) → find (has_key bookmark) (without_key nodes key) ≡ cond (bytes_eq key bookmark) None (find (has_key bookmark) nodes)

-- ---- a node that stays

lost_nothing : (v : Bool) (id : ℕ) (bookmark : List ℕ) (trees : List StoredTable) → (v ≡ false → find (has_key bookmark) (table_nodes trees id) ≡ None) → LosesNode v id bookmark trees trees
lost_nothing v id bookmark trees none = record {
  numbers = refl;
  indexes = λ other. refl;
  nodes = λ other own. by v none other own (is_this id bookmark other own) refl;
  rows = λ vals other. refl;
  newest = λ other. refl;
  values = λ other. refl;
}
  where
    by : (v : Bool) → (v ≡ false → find (has_key bookmark) (table_nodes trees id) ≡ None) → (other : ℕ) (own : List ℕ) (b : Bool) → is_this id bookmark other own ≡ b
        → find (has_key own) (table_nodes trees other) ≡ cond (not v && is_this id bookmark other own) None (find (has_key own) (table_nodes trees other))
    by true none other own b e = refl
    by false none other own true e =
        (λ i. find (has_key (sym (same_bytes bookmark own (and_right (id == other) (bytes_eq bookmark own) e)) i)) (table_nodes trees (sym (eqb-true id other (and_left (id == other) (bytes_eq bookmark own) e)) i)))
        ∙ none refl
        ∙ sym (ap (λ b. cond b None (find (has_key own) (table_nodes trees other))) e)
    by false none other own false e = sym (ap (λ b. cond b None (find (has_key own) (table_nodes trees other))) e)

pub node_with_variant : (longs : TableValues) (id : ℕ) (bookmark : List ℕ) (held : List HeldRecord) (trees : List StoredTable) → some_before is_some id bookmark held ≡ true
    → LosesNode (has_variant (option_map (record_of (longs id)) (row_under (table_nodes trees id) bookmark)) held id bookmark) id bookmark trees trees
node_with_variant longs id bookmark held trees some =
    lost_nothing (has_variant (option_map (record_of (longs id)) (row_under (table_nodes trees id) bookmark)) held id bookmark) id bookmark trees
    (λ none. impossible (sym none ∙ ap (λ b. is_some (option_map (record_of (longs id)) (row_under (table_nodes trees id) bookmark)) || b) some ∙ any (is_some (option_map (record_of (longs id)) (row_under (table_nodes trees id) bookmark)))))
  where
    any : (b : Bool) → (b || true) ≡ true
    any true = refl
    any false = refl

-- ---- a node that goes

without_none : (nodes : List Node) (bookmark : List ℕ) → get_in nodes bookmark ≡ None → without_key nodes bookmark ≡ nodes
without_none [] bookmark none = refl
without_none (n ∷ nodes) bookmark none = by (has_key bookmark n) none (without_none nodes bookmark)
  where
    by : (b : Bool) → option_map (λ (n : Node). n.data) (cond b (Some n) (find (has_key bookmark) nodes)) ≡ None → (get_in nodes bookmark ≡ None → without_key nodes bookmark ≡ nodes) → cond (not b) (n ∷ without_key nodes bookmark) (without_key nodes bookmark) ≡ n ∷ nodes
    by true e rest = no e
      where
        no : {A : Type 0} → Some n.data ≡ None → A
        no e = cc
    by false e rest = ap (λ ns. n ∷ ns) (rest e)

empty_is : (o : Option (List ℕ)) → is_empty_node o ≡ true → o ≡ Some []
empty_is None e = impossible e
empty_is (Some []) e = refl
empty_is (Some (byte ∷ bytes)) e = impossible e

-- the node without a byte has no row
rows_without : (vals : Values) (nodes : List Node) (bookmark : List ℕ) → are_sorted (bookmark_entries nodes) ≡ true → get_in nodes bookmark ≡ Some [] → rows_of_nodes vals (without_key nodes bookmark) ≡ rows_of_nodes vals nodes
rows_without vals [] bookmark sorted e = refl
rows_without vals (n ∷ nodes) bookmark sorted e =
    by (has_key bookmark n) refl e (rows_without vals nodes bookmark (and_right (list_all (pair_lt (n.key, n.key)) (bookmark_entries nodes)) (are_sorted (bookmark_entries nodes)) sorted))
  where
    low : list_all (pair_lt (n.key, n.key)) (bookmark_entries nodes) ≡ true
    low = and_left (list_all (pair_lt (n.key, n.key)) (bookmark_entries nodes)) (are_sorted (bookmark_entries nodes)) sorted

    no_row : (bytes : List ℕ) → Some bytes ≡ Some [] → row_in_node bytes ≡ None
    no_row [] e = refl
    no_row (byte ∷ bytes) e = cc

    by : (b : Bool) → has_key bookmark n ≡ b → option_map (λ (n : Node). n.data) (cond b (Some n) (find (has_key bookmark) nodes)) ≡ Some [] → (get_in nodes bookmark ≡ Some [] → rows_of_nodes vals (without_key nodes bookmark) ≡ rows_of_nodes vals nodes)
        → rows_of_nodes vals (cond (not b) (n ∷ without_key nodes bookmark) (without_key nodes bookmark)) ≡ with_record vals n.key (row_in_node n.data) (rows_of_nodes vals nodes)
    by true h e rest =
        ap (rows_of_nodes vals) (without_none nodes bookmark (none_behind n.key bookmark nodes (key_is n.key bookmark h) low))
        ∙ sym (ap (λ (row : Option (List ℕ)). with_record vals n.key row (rows_of_nodes vals nodes)) (no_row n.data e))
    by false h e rest = ap (with_record vals n.key (row_in_node n.data)) (rest e)

newest_without : (nodes : List Node) (bookmark : List ℕ) → are_sorted (bookmark_entries nodes) ≡ true → get_in nodes bookmark ≡ Some [] → newest_rows (without_key nodes bookmark) ≡ newest_rows nodes
newest_without [] bookmark sorted e = refl
newest_without (n ∷ nodes) bookmark sorted e =
    by (has_key bookmark n) refl e (newest_without nodes bookmark (and_right (list_all (pair_lt (n.key, n.key)) (bookmark_entries nodes)) (are_sorted (bookmark_entries nodes)) sorted))
  where
    low : list_all (pair_lt (n.key, n.key)) (bookmark_entries nodes) ≡ true
    low = and_left (list_all (pair_lt (n.key, n.key)) (bookmark_entries nodes)) (are_sorted (bookmark_entries nodes)) sorted

    no_row : (bytes : List ℕ) → Some bytes ≡ Some [] → row_in_node bytes ≡ None
    no_row [] e = refl
    no_row (byte ∷ bytes) e = cc

    by : (b : Bool) → has_key bookmark n ≡ b → option_map (λ (n : Node). n.data) (cond b (Some n) (find (has_key bookmark) nodes)) ≡ Some [] → (get_in nodes bookmark ≡ Some [] → newest_rows (without_key nodes bookmark) ≡ newest_rows nodes)
        → newest_rows (cond (not b) (n ∷ without_key nodes bookmark) (without_key nodes bookmark)) ≡ with_own_row n.key (row_in_node n.data) (newest_rows nodes)
    by true h e rest =
        ap newest_rows (without_none nodes bookmark (none_behind n.key bookmark nodes (key_is n.key bookmark h) low))
        ∙ sym (ap (λ (row : Option (List ℕ)). with_own_row n.key row (newest_rows nodes)) (no_row n.data e))
    by false h e rest = ap (with_own_row n.key (row_in_node n.data)) (rest e)

table_of_node : (trees : List StoredTable) (id : ℕ) (bookmark : List ℕ) → get_in (table_nodes trees id) bookmark ≡ Some [] → has_table trees id ≡ true
table_of_node trees id bookmark e = there_or (has_table trees id) (λ none. no (sym (ap (λ nodes. get_in nodes bookmark) (no_part (is_table id) (λ x. x.nodes) trees none)) ∙ e))
  where
    no : {A : Type 0} {bytes : List ℕ} → None ≡ Some bytes → A
    no e = cc

pub node_goes : (longs : TableValues) → TreeLaws → Removes → (id : ℕ) (bookmark : List ℕ) (held : List HeldRecord) (trees : List StoredTable) → are_sorted (bookmark_entries (table_nodes trees id)) ≡ true
    → is_empty_node (get_in (table_nodes trees id) bookmark) ≡ true → some_before is_some id bookmark held ≡ false
    → LosesNode (has_variant (option_map (record_of (longs id)) (row_under (table_nodes trees id) bookmark)) held id bookmark) id bookmark trees (with_nodes id (without_key (table_nodes trees id) bookmark) trees)
node_goes longs laws removes id bookmark held trees sorted empty none =
    subst (λ (v : Bool). LosesNode v id bookmark trees (with_nodes id left trees)) (sym no_variant) (record {
      numbers = same_numbers id left trees;
      indexes = λ other. laws.indexes trees id other left;
      nodes = λ other own. nodes_then other own (id == other) refl;
      rows = λ vals other. rows_then vals other (id == other) refl;
      newest = λ other. newest_then other (id == other) refl;
      values = λ other. laws.values trees id other left;
    })
  where
    left : List Node
    left = without_key (table_nodes trees id) bookmark

    is_empty : get_in (table_nodes trees id) bookmark ≡ Some []
    is_empty = empty_is (get_in (table_nodes trees id) bookmark) empty

    there : has_table trees id ≡ true
    there = table_of_node trees id bookmark is_empty

    no_variant : has_variant (option_map (record_of (longs id)) (row_under (table_nodes trees id) bookmark)) held id bookmark ≡ false
    no_variant = (λ i. is_some (option_map (record_of (longs id)) (option_and_then row_in_node (is_empty i))) || none i)

    here : (other : ℕ) → (id == other) ≡ true → table_nodes (with_nodes id left trees) other ≡ without_key (table_nodes trees other) bookmark
    here other e =
        ap (table_nodes (with_nodes id left trees)) (sym (eqb-true id other e)) ∙ laws.named trees id left there
        ∙ ap (λ n. without_key (table_nodes trees n) bookmark) (eqb-true id other e)

    there_too : (other : ℕ) → (id == other) ≡ false → table_nodes (with_nodes id left trees) other ≡ table_nodes trees other
    there_too other e = laws.others trees id other left (λ same. other_number id other e (sym same))

    nodes_then : (other : ℕ) (own : List ℕ) (b : Bool) → (id == other) ≡ b → find (has_key own) (table_nodes (with_nodes id left trees) other) ≡ cond (not false && is_this id bookmark other own) None (find (has_key own) (table_nodes trees other))
    nodes_then other own true e =
        ap (find (has_key own)) (here other e) ∙ removes (table_nodes trees other) bookmark own
        ∙ sym (ap (λ b. cond (b && bytes_eq bookmark own) None (find (has_key own) (table_nodes trees other))) e)
    nodes_then other own false e =
        ap (find (has_key own)) (there_too other e)
        ∙ sym (ap (λ b. cond (b && bytes_eq bookmark own) None (find (has_key own) (table_nodes trees other))) e)

    rows_then : (vals : Values) (other : ℕ) (b : Bool) → (id == other) ≡ b → rows_of_nodes vals (table_nodes (with_nodes id left trees) other) ≡ rows_of_nodes vals (table_nodes trees other)
    rows_then vals other true e =
        ap (rows_of_nodes vals) (here other e)
        ∙ subst (λ (n : ℕ). rows_of_nodes vals (without_key (table_nodes trees n) bookmark) ≡ rows_of_nodes vals (table_nodes trees n)) (eqb-true id other e) (rows_without vals (table_nodes trees id) bookmark sorted is_empty)
    rows_then vals other false e = ap (rows_of_nodes vals) (there_too other e)

    newest_then : (other : ℕ) (b : Bool) → (id == other) ≡ b → newest_rows (table_nodes (with_nodes id left trees) other) ≡ newest_rows (table_nodes trees other)
    newest_then other true e =
        ap newest_rows (here other e)
        ∙ subst (λ (n : ℕ). newest_rows (without_key (table_nodes trees n) bookmark) ≡ newest_rows (table_nodes trees n)) (eqb-true id other e) (newest_without (table_nodes trees id) bookmark sorted is_empty)
    newest_then other false e = ap newest_rows (there_too other e)
