-- A drop leaves a node without a byte, and holds the row that was there.
use Rattle.std.proofs.Common.{◌≡◌, ◌≢◌, ℕ, Bool, true, false, ◌&&◌, ◌||◌, cond, if◌then◌else◌, List, [], ◌∷◌, Option, Some, None, find, map, option_map, refl, sym, ap, ◌∙◌, ◌≤◌, not, length}
use Rattle.std.specs.Prelude.{◌==◌, bytes_eq, is_some, option_and_then, All, IfSome, IsSomeAnd}
use Rattle.btree_inplace.specs.Changes.{with_data_at}
use Rattle.btree_inplace.specs.Order.{extent_in, get_in, has_key}
use Rattle.database_state.specs.Table.{Table, table_with_id, without_row}
use Rattle.page_image.specs.Page.{Node}
use Rattle.table_trees.specs.StoredNodes.{put_data, IsShortNode}
use Rattle.table_trees.specs.StoredTables.{StoredTable, has_table, is_table, put_nodes, table_indexes, table_long_values, table_nodes, with_nodes, StoredIndex, index_entries, is_index, part_of}
use Rattle.stored_variants.specs.RecordRows.{row_in_node, row_under, record_of, rows_of_nodes, with_record}
use Rattle.stored_variants.specs.VersionsKept.{needed_trees, tree_numbers}
use Rattle.stored_variants.proofs.Tables.{others}
use Rattle.std.specs.Cmp.Lexicographic.{texts_ties}
use Rattle.std.proofs.lemmas.List.Elements.{All-head, All-tail}
use Rattle.std.proofs.lemmas.Bool.{eqb-true}
use Rattle.common_lemmas.proofs.Numbers.{self_equal}
use Rattle.common_lemmas.proofs.Booleans.{impossible}
use Rattle.long_value.specs.Values.{Values}

-- laws of tables and nodes
pub record TreeLaws : Type 0 where
  pub named : (tables : List StoredTable) (table : ℕ) (nodes : List Node) → has_table tables table ≡ true → table_nodes (with_nodes table nodes tables) table ≡ nodes
  pub others : (tables : List StoredTable) (table other : ℕ) (nodes : List Node) → other ≢ table → table_nodes (with_nodes table nodes tables) other ≡ table_nodes tables other
  pub indexes : (tables : List StoredTable) (table other : ℕ) (nodes : List Node) → table_indexes (with_nodes table nodes tables) other ≡ table_indexes tables other
  pub values : (tables : List StoredTable) (table other : ℕ) (nodes : List Node) → table_long_values (with_nodes table nodes tables) other ≡ table_long_values tables other
  pub replaced : (nodes : List Node) (key row bookmark : List ℕ) → find (has_key bookmark) (with_data_at nodes key row) ≡ option_map (λ (n : Node). if bytes_eq key bookmark then put_data row n else n) (find (has_key bookmark) nodes)

pub same_index : (laws : TreeLaws) (trees : List StoredTable) (id : ℕ) (nodes : List Node) (other index : ℕ) → index_entries (with_nodes id nodes trees) other index ≡ index_entries trees other index
same_index laws trees id nodes other index = ap (λ (indexes : List StoredIndex). part_of (is_index index) (λ x. x.1) indexes) (laws.indexes trees id other nodes)

-- the trees with a node that has no byte
abbrev pub emptied : List StoredTable → ℕ → List ℕ → List StoredTable
emptied trees id bookmark = with_nodes id (with_data_at (table_nodes trees id) bookmark []) trees

-- ---- look-ups

pub nodes_are : TreeLaws → (trees : List StoredTable) (id : ℕ) (bookmark : List ℕ) → has_table trees id ≡ true → (other : ℕ)
    → table_nodes (emptied trees id bookmark) other ≡ cond (id == other) (with_data_at (table_nodes trees other) bookmark []) (table_nodes trees other)
nodes_are laws trees id bookmark there other = by (id == other) refl
  where
    by : (b : Bool) → (id == other) ≡ b → table_nodes (emptied trees id bookmark) other ≡ cond b (with_data_at (table_nodes trees other) bookmark []) (table_nodes trees other)
    by true e =
        ap (table_nodes (emptied trees id bookmark)) (sym (eqb-true id other e))
        ∙ laws.named trees id (with_data_at (table_nodes trees id) bookmark []) there
        ∙ ap (λ n. with_data_at (table_nodes trees n) bookmark []) (eqb-true id other e)
    by false e =
        laws.others trees id other (with_data_at (table_nodes trees id) bookmark []) (λ same. impossible (sym e ∙ ap (λ n. n == other) (sym same) ∙ self_equal other))

abbrev pub emptied_where : Bool → Node → Node
emptied_where b n = cond b (put_data [] n) n

found_at : TreeLaws → (trees : List StoredTable) (id : ℕ) (bookmark : List ℕ) → has_table trees id ≡ true → (other : ℕ) (own : List ℕ)
    → find (has_key own) (table_nodes (emptied trees id bookmark) other) ≡ option_map (emptied_where ((id == other) && bytes_eq bookmark own)) (find (has_key own) (table_nodes trees other))
found_at laws trees id bookmark there other own = ap (find (has_key own)) (nodes_are laws trees id bookmark there other) ∙ by (id == other)
  where
    same : (o : Option Node) → o ≡ option_map (emptied_where false) o
    same None = refl
    same (Some n) = refl

    by : (b : Bool) → find (has_key own) (cond b (with_data_at (table_nodes trees other) bookmark []) (table_nodes trees other)) ≡ option_map (emptied_where (b && bytes_eq bookmark own)) (find (has_key own) (table_nodes trees other))
    by true = laws.replaced (table_nodes trees other) bookmark [] own
    by false = same (find (has_key own) (table_nodes trees other))

pub there_at : TreeLaws → (trees : List StoredTable) (id : ℕ) (bookmark : List ℕ) → has_table trees id ≡ true → (other : ℕ) (own : List ℕ)
    → is_some (get_in (table_nodes (emptied trees id bookmark) other) own) ≡ is_some (get_in (table_nodes trees other) own)
there_at laws trees id bookmark there other own =
    ap (λ o. is_some (option_map (λ (n : Node). n.data) o)) (found_at laws trees id bookmark there other own) ∙ by ((id == other) && bytes_eq bookmark own) (find (has_key own) (table_nodes trees other))
  where
    by : (b : Bool) (o : Option Node) → is_some (option_map (λ (n : Node). n.data) (option_map (emptied_where b) o)) ≡ is_some (option_map (λ (n : Node). n.data) o)
    by b None = refl
    by b (Some n) = refl

pub extent_at : TreeLaws → (trees : List StoredTable) (id : ℕ) (bookmark : List ℕ) → has_table trees id ≡ true → (other : ℕ) (own : List ℕ)
    → extent_in (table_nodes (emptied trees id bookmark) other) own ≡ extent_in (table_nodes trees other) own
extent_at laws trees id bookmark there other own =
    ap (option_map (λ (n : Node). n.extent)) (found_at laws trees id bookmark there other own) ∙ by ((id == other) && bytes_eq bookmark own) (find (has_key own) (table_nodes trees other))
  where
    by : (b : Bool) (o : Option Node) → option_map (λ (n : Node). n.extent) (option_map (emptied_where b) o) ≡ option_map (λ (n : Node). n.extent) o
    by b None = refl
    by true (Some n) = refl
    by false (Some n) = refl

pub row_then : TreeLaws → (trees : List StoredTable) (id : ℕ) (bookmark : List ℕ) → has_table trees id ≡ true → (other : ℕ) (own : List ℕ)
    → row_under (table_nodes (emptied trees id bookmark) other) own ≡ cond ((id == other) && bytes_eq bookmark own) None (row_under (table_nodes trees other) own)
row_then laws trees id bookmark there other own =
    ap (λ o. option_and_then row_in_node (option_map (λ (n : Node). n.data) o)) (found_at laws trees id bookmark there other own)
    ∙ by ((id == other) && bytes_eq bookmark own) (find (has_key own) (table_nodes trees other))
  where
    by : (b : Bool) (o : Option Node) → option_and_then row_in_node (option_map (λ (n : Node). n.data) (option_map (emptied_where b) o)) ≡ cond b None (option_and_then row_in_node (option_map (λ (n : Node). n.data) o))
    by true None = refl
    by false None = refl
    by true (Some n) = refl
    by false (Some n) = refl

-- ---- numbers of trees

pub same_numbers : (id : ℕ) (nodes : List Node) (trees : List StoredTable) → map tree_numbers (with_nodes id nodes trees) ≡ map tree_numbers trees
same_numbers id nodes [] = refl
same_numbers id nodes (x ∷ trees) = λ i. same (is_table id x) i ∷ same_numbers id nodes trees i
  where
    same : (b : Bool) → tree_numbers (cond b (put_nodes nodes x) x) ≡ tree_numbers x
    same true = refl
    same false = refl

abbrev first_number : List (ℕ × List ℕ) → ℕ
first_number [] = 0
first_number (x ∷ xs) = x.0

abbrev is_empty : List (ℕ × List ℕ) → Bool
is_empty [] = true
is_empty (x ∷ xs) = false

-- a table of the catalog has its trees
pub has_trees : (trees : List StoredTable) (tables : List Table) (id : ℕ) → map tree_numbers trees ≡ map needed_trees tables → has_table trees id ≡ is_some (table_with_id tables id)
has_trees [] [] id same = refl
has_trees [] (t ∷ tables) id same = impossible (sym (ap is_empty same))
has_trees (x ∷ trees) [] id same = impossible (ap is_empty same)
has_trees (x ∷ trees) (t ∷ tables) id same =
    (λ i. (first_number (same i) == id) || has_trees trees tables id (ap others same) i) ∙ by (t.id == id)
  where
    by : (b : Bool) → (b || is_some (table_with_id tables id)) ≡ is_some (cond b (Some t) (table_with_id tables id))
    by true = refl
    by false = refl

-- ---- by its records

-- a row has room in its node
pub room_in : (nodes : List Node) → All IsShortNode nodes → (own : List ℕ) → IfSome (row_under nodes own) (λ row. IsSomeAnd (extent_in nodes own) (λ n. length row ≤ n))
room_in [] short own = tt
room_in (n ∷ nodes) short own = by (has_key own n) (All-head IsShortNode n nodes short) (room_in nodes (All-tail IsShortNode n nodes short) own)
  where
    fits : (bytes : List ℕ) (extent : ℕ) → length bytes ≤ extent → IfSome (row_in_node bytes) (λ row. length row ≤ extent)
    fits [] extent h = tt
    fits (byte ∷ bytes) extent h = h

    by : (b : Bool) → IsShortNode n → IfSome (row_under nodes own) (λ row. IsSomeAnd (extent_in nodes own) (λ n. length row ≤ n))
        → IfSome (option_and_then row_in_node (option_map (λ (n : Node). n.data) (cond b (Some n) (find (has_key own) nodes)))) (λ row. IsSomeAnd (option_map (λ (n : Node). n.extent) (cond b (Some n) (find (has_key own) nodes))) (λ n. length row ≤ n))
    by true is rest = fits n.data n.extent is.row
    by false is rest = rest

pub rows_emptied : (longs : Values) (bookmark : List ℕ) (nodes : List Node) → rows_of_nodes longs (with_data_at nodes bookmark []) ≡ without_row (rows_of_nodes longs nodes) bookmark
rows_emptied longs bookmark [] = refl
rows_emptied longs bookmark (n ∷ nodes) =
    node (has_key bookmark n) ∙ by (has_key bookmark n) refl (row_in_node n.data) (rows_emptied longs bookmark nodes)
  where
    node : (b : Bool) → with_record longs (emptied_where b n).key (row_in_node (emptied_where b n).data) (rows_of_nodes longs (with_data_at nodes bookmark [])) ≡ with_record longs n.key (cond b None (row_in_node n.data)) (rows_of_nodes longs (with_data_at nodes bookmark []))
    node true = refl
    node false = refl

    test : (b : Bool) → has_key bookmark n ≡ b → bytes_eq n.key bookmark ≡ b
    test b e = texts_ties n.key bookmark ∙ e

    by : (b : Bool) → has_key bookmark n ≡ b → (row : Option (List ℕ)) → rows_of_nodes longs (with_data_at nodes bookmark []) ≡ without_row (rows_of_nodes longs nodes) bookmark
        → with_record longs n.key (cond b None row) (rows_of_nodes longs (with_data_at nodes bookmark [])) ≡ without_row (with_record longs n.key row (rows_of_nodes longs nodes)) bookmark
    by true e None rest = rest
    by true e (Some row) rest = rest ∙ sym (ap (λ b. cond (not b) ((n.key, record_of longs row) ∷ without_row (rows_of_nodes longs nodes) bookmark) (without_row (rows_of_nodes longs nodes) bookmark)) (test true e))
    by false e None rest = rest
    by false e (Some row) rest =
        ap (λ rows. (n.key, record_of longs row) ∷ rows) rest
        ∙ sym (ap (λ b. cond (not b) ((n.key, record_of longs row) ∷ without_row (rows_of_nodes longs nodes) bookmark) (without_row (rows_of_nodes longs nodes) bookmark)) (test false e))
