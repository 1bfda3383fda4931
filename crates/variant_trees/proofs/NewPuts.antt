-- A put whose row stands in a new node.
use Rattle.std.proofs.Common.{◌≡◌, ℕ, Bool, true, false, ◌&&◌, ◌||◌, cond, List, [], Option, Some, None, find, length, map, option_map, refl, sym, ap, subst, ◌∙◌}
use Rattle.std.specs.Prelude.{◌==◌, bytes_eq, if◌then◌else◌, is_none, is_some}
use Rattle.std.specs.Option.{option_and_then}
use Rattle.std.proofs.lemmas.Bool.{eqb-true}
use Rattle.common_lemmas.proofs.Numbers.{equal_bytes, same_bytes, self_equal}
use Rattle.common_lemmas.proofs.Booleans.{impossible}
use Rattle.btree_inplace.specs.Changes.{inserted, inserted_if_absent, with_data_at}
use Rattle.btree_inplace.specs.Order.{extent_in, get_in, has_key}
use Rattle.laws_versions.specs.KeptEntries.{has_entry}
use Rattle.table_trees.specs.ValuesChanged.{HasLongValues}
use Rattle.long_rows.specs.ReferenceCounts.{with_all_taken}
use Rattle.long_value.specs.Values.{Values}
use Rattle.page_image.specs.Page.{Node}
use Rattle.table_trees.specs.StoredNodes.{put_data}
use Rattle.table_trees.specs.StoredTables.{StoredIndex, StoredTable, has_table, index_entries, is_index, part_of, table_long_values, table_nodes, with_nodes}
use Rattle.stored_variants.specs.PutRecords.{Keys}
use Rattle.stored_variants.specs.RecordRows.{row_in_node, row_under}
use Rattle.variant_trees.specs.PutStages.{HasKeys, HasNewRow, IsHalfPut, IsNewPut, IsPut, IsWidened, MayHaveKeys, is_place, node_at_least}
use Rattle.variant_trees.proofs.HalfPuts.{values_given, own_place}
use Rattle.variant_trees.proofs.KeysPut.{may_have}
use Rattle.variant_trees.proofs.RoomMade.{NodeLaws, data_of, extent_of, found_then, no_less, same_table_numbers}

-- ---- the node

row_in_new : NodeLaws → (trees : List StoredTable) (table : ℕ) (bookmark row : List ℕ) → has_table trees table ≡ true → get_in (table_nodes trees table) bookmark ≡ None
    → HasNewRow table bookmark row trees (with_nodes table (inserted (table_nodes trees table) (record { key = bookmark; extent = length row; «data» = row })) trees)
row_in_new laws trees table bookmark row there absent = record {
  numbers = same_table_numbers table (inserted (table_nodes trees table) node) trees;
  indexes = λ other. laws.indexes trees table other (inserted (table_nodes trees table) node);
  values = λ other. laws.values trees table other (inserted (table_nodes trees table) node);
  rows = λ other own. ap data_of (found other own) ∙ row_is other own (table == other) (bytes_eq bookmark own) refl;
  extents = λ other own. subst (λ (o : Option Node). IsWidened (extent_in (table_nodes trees other) own) (extent_of o)) (sym (found other own)) (wide other own (table == other) (bytes_eq bookmark own) refl refl);
}
  where
    node : Node
    node = record { key = bookmark; extent = length row; «data» = row }

    found : (other : ℕ) (own : List ℕ) → find (has_key own) (table_nodes (with_nodes table (inserted (table_nodes trees table) node) trees) other)
        ≡ cond (table == other) (cond (bytes_eq bookmark own) (Some node) (find (has_key own) (table_nodes trees table))) (find (has_key own) (table_nodes trees other))
    found other own =
        found_then laws trees table (inserted (table_nodes trees table) node) there other own
        ∙ ap (λ o. cond (table == other) o (find (has_key own) (table_nodes trees other))) (laws.put (table_nodes trees table) node own)

    none : (other : ℕ) (own : List ℕ) → (table == other) ≡ true → bytes_eq bookmark own ≡ true → get_in (table_nodes trees other) own ≡ None
    none other own e f = (λ i. get_in (table_nodes trees (sym (eqb-true table other e) i)) (sym (same_bytes bookmark own f) i)) ∙ absent

    no_extent : (o : Option Node) → data_of o ≡ None → extent_of o ≡ None
    no_extent None e = refl
    no_extent (Some n) e = absurd (no n.data e)
      where
        no : (row : List ℕ) → Some row ≡ None → ⊥
        no row h = cc

    row_is : (other : ℕ) (own : List ℕ) (a b : Bool) → (table == other) ≡ a
        → data_of (cond a (cond b (Some node) (find (has_key own) (table_nodes trees table))) (find (has_key own) (table_nodes trees other))) ≡ cond (a && b) (Some row) (get_in (table_nodes trees other) own)
    row_is other own true true e = refl
    row_is other own true false e = λ i. get_in (table_nodes trees (eqb-true table other e i)) own
    row_is other own false b e = refl

    wide : (other : ℕ) (own : List ℕ) (a b : Bool) → (table == other) ≡ a → bytes_eq bookmark own ≡ b
        → IsWidened (extent_in (table_nodes trees other) own) (extent_of (cond a (cond b (Some node) (find (has_key own) (table_nodes trees table))) (find (has_key own) (table_nodes trees other))))
    wide other own true true e f = subst (λ (o : Option ℕ). IsWidened o (Some (length row))) (sym (no_extent (find (has_key own) (table_nodes trees other)) (none other own e f))) tt
    wide other own true false e f = subst (λ (n : ℕ). IsWidened (extent_in (table_nodes trees other) own) (extent_in (table_nodes trees n) own)) (sym (eqb-true table other e)) (no_less (extent_in (table_nodes trees other) own))
    wide other own false b e f = no_less (extent_in (table_nodes trees other) own)

-- a node without an extent is none
no_data : (o : Option Node) → extent_of o ≡ None → data_of o ≡ None
no_data None e = refl
no_data (Some n) e = absurd (no n.extent e)
  where
    no : (k : ℕ) → Some k ≡ None → ⊥
    no k h = cc

pub no_row : (nodes : List Node) (bookmark : List ℕ) → extent_in nodes bookmark ≡ None → get_in nodes bookmark ≡ None
no_row nodes bookmark e = no_data (find (has_key bookmark) nodes) e

pub no_row_under : (nodes : List Node) (bookmark : List ℕ) → extent_in nodes bookmark ≡ None → row_under nodes bookmark ≡ None
no_row_under nodes bookmark e = ap (option_and_then row_in_node) (no_row nodes bookmark e)

pub row_if_absent : NodeLaws → (trees : List StoredTable) (table : ℕ) (bookmark row : List ℕ) → has_table trees table ≡ true → extent_in (table_nodes trees table) bookmark ≡ None
    → HasNewRow table bookmark row trees (with_nodes table (inserted_if_absent (table_nodes trees table) (record { key = bookmark; extent = length row; «data» = row })) trees)
row_if_absent laws trees table bookmark row there none =
    subst (λ (nodes : List Node). HasNewRow table bookmark row trees (with_nodes table nodes trees)) (by (find (has_key bookmark) (table_nodes trees table)) none)
    (row_in_new laws trees table bookmark row there (no_row (table_nodes trees table) bookmark none))
  where
    node : Node
    node = record { key = bookmark; extent = length row; «data» = row }

    by : (o : Option Node) → extent_of o ≡ None → inserted (table_nodes trees table) node ≡ (if is_some o then table_nodes trees table else inserted (table_nodes trees table) node)
    by None e = refl
    by (Some n) e = absurd (no n.extent e)
      where
        no : (k : ℕ) → Some k ≡ None → ⊥
        no k h = cc

-- ---- the keys

pub new_put : (table : ℕ) (bookmark row : List ℕ) (keys : Keys) (old mid new : List StoredTable) → HasNewRow table bookmark row old mid → MayHaveKeys table bookmark keys mid new → IsNewPut table bookmark row keys old new
new_put table bookmark row keys old mid new node may = record {
  numbers = may.others.numbers ∙ node.numbers;
  indexes = λ other. may.others.indexes other ∙ ap (map (λ (x : StoredIndex). x.0)) (node.indexes other);
  rows = λ other own. ap (λ (nodes : List Node). get_in nodes own) (may.others.nodes other) ∙ node.rows other own;
  extents = λ other own. subst (λ (nodes : List Node). IsWidened (extent_in (table_nodes old other) own) (extent_in nodes own)) (sym (may.others.nodes other)) (node.extents other own);
  others = λ other index apart. may.others.entries other index apart ∙ same other index;
  stay = λ index key own is. may.stay index key own (ap (has_entry key own) (same table index) ∙ is);
  only = λ index key own is. ap (λ es. has_entry key own es || (bytes_eq own bookmark && keys index key)) (sym (same table index)) ∙ may.only index key own is;
}
  where
    same : (other index : ℕ) → index_entries mid other index ≡ index_entries old other index
    same other index = ap (λ (indexes : List StoredIndex). part_of (is_index index) (λ x. x.1) indexes) (node.indexes other)

pub new_put_with_keys : (table : ℕ) (bookmark row : List ℕ) (keys : Keys) (old mid new : List StoredTable) → HasNewRow table bookmark row old mid → HasKeys table bookmark keys mid new → IsNewPut table bookmark row keys old new
new_put_with_keys table bookmark row keys old mid new node has = new_put table bookmark row keys old mid new node (may_have table bookmark keys keys mid new (λ i k e. e) has)

-- the trees with other long values are those of the put too
pub new_put_moved : (table : ℕ) (bookmark row : List ℕ) (keys : Keys) (old new moved : List StoredTable) (values : Values) → IsNewPut table bookmark row keys old new → HasLongValues table values new moved → IsNewPut table bookmark row keys old moved
new_put_moved table bookmark row keys old new moved values put long = record {
  numbers = long.numbers ∙ put.numbers;
  indexes = λ other. ap (map (λ (x : StoredIndex). x.0)) (long.indexes other) ∙ put.indexes other;
  rows = λ other own. ap (λ (nodes : List Node). get_in nodes own) (long.nodes other) ∙ put.rows other own;
  extents = λ other own. subst (λ (nodes : List Node). IsWidened (extent_in (table_nodes old other) own) (extent_in nodes own)) (sym (long.nodes other)) (put.extents other own);
  others = λ other index apart. same other index ∙ put.others other index apart;
  stay = λ index key own is. ap (has_entry key own) (same table index) ∙ put.stay index key own is;
  only = λ index key own is. put.only index key own (ap (has_entry key own) (sym (same table index)) ∙ is);
}
  where
    same : (other index : ℕ) → index_entries moved other index ≡ index_entries new other index
    same other index = ap (λ (indexes : List StoredIndex). part_of (is_index index) (λ x. x.1) indexes) (long.indexes other)

-- with all keys and the long values it is done
pub new_put_done : (table : ℕ) (bookmark row : List ℕ) (given : List (List ℕ × List ℕ)) (keys : Keys) (old mid ready new : List StoredTable) → HasNewRow table bookmark row old mid → HasKeys table bookmark keys mid ready
    → HasLongValues table (with_all_taken given (table_long_values ready table)) ready new → IsPut table bookmark row given keys old new
new_put_done table bookmark row given keys old mid ready new node has long =
    let put : IsNewPut table bookmark row keys old new = new_put_moved table bookmark row keys old ready new (with_all_taken given (table_long_values ready table)) (new_put_with_keys table bookmark row keys old mid ready node has) long in record {
      numbers = put.numbers;
      indexes = put.indexes;
      rows = put.rows;
      extents = put.extents;
      values = values_given table given old ready new (λ other. has.others.values other ∙ node.values other) long;
      others = put.others;
      entries = λ index key own.
          ap (λ (indexes : List StoredIndex). has_entry key own (part_of (is_index index) (λ x. x.1) indexes)) (long.indexes table)
          ∙ has.entries index key own
          ∙ ap (λ es. has_entry key own es || (bytes_eq own bookmark && keys index key)) (ap (λ (indexes : List StoredIndex). part_of (is_index index) (λ x. x.1) indexes) (node.indexes table));
    }

pub new_node_is_there : (table : ℕ) (bookmark row : List ℕ) (keys : Keys) (old new : List StoredTable) → IsNewPut table bookmark row keys old new → is_some (get_in (table_nodes new table) bookmark) ≡ true
new_node_is_there table bookmark row keys old new put = ap is_some (put.rows table bookmark) ∙ ap (λ b. is_some (cond b (Some row) (get_in (table_nodes old table) bookmark))) (own_place table bookmark)

-- ---- a node that is emptied

-- the data under a key, where the row of a node is put
found_data : (laws : NodeLaws) (table : ℕ) (bookmark row : List ℕ) (ready : List StoredTable) → has_table ready table ≡ true → (other : ℕ) (own : List ℕ)
    → find (has_key own) (table_nodes (with_nodes table (with_data_at (table_nodes ready table) bookmark row) ready) other)
    ≡ cond (table == other) (option_map (λ (n : Node). cond (bytes_eq bookmark own) (put_data row n) n) (find (has_key own) (table_nodes ready table))) (find (has_key own) (table_nodes ready other))
found_data laws table bookmark row ready there other own =
    found_then laws ready table (with_data_at (table_nodes ready table) bookmark row) there other own
    ∙ ap (λ o. cond (table == other) o (find (has_key own) (table_nodes ready other))) (laws.replaced (table_nodes ready table) bookmark row own)

put_there : (row : List ℕ) (o : Option Node) → is_some (data_of o) ≡ true → data_of (option_map (put_data row) o) ≡ Some row
put_there row None e = impossible e
put_there row (Some n) e = refl

-- the node that has the row has no byte any more
pub emptied_at : NodeLaws → (table : ℕ) (bookmark : List ℕ) (ready : List StoredTable) → has_table ready table ≡ true → is_some (get_in (table_nodes ready table) bookmark) ≡ true
    → get_in (table_nodes (with_nodes table (with_data_at (table_nodes ready table) bookmark []) ready) table) bookmark ≡ Some []
emptied_at laws table bookmark ready there node =
    ap data_of (found_data laws table bookmark [] ready there table bookmark)
    ∙ (λ i. data_of (cond (self_equal table i) (option_map (λ (n : Node). cond (equal_bytes bookmark bookmark refl i) (put_data [] n) n) (find (has_key bookmark) (table_nodes ready table))) (find (has_key bookmark) (table_nodes ready table))))
    ∙ put_there [] (find (has_key bookmark) (table_nodes ready table)) node

-- and the put is one that is not done
pub emptied : NodeLaws → (table : ℕ) (bookmark row : List ℕ) (keys : Keys) (old ready : List StoredTable) → has_table ready table ≡ true → get_in (table_nodes old table) bookmark ≡ None → IsNewPut table bookmark row keys old ready
    → IsHalfPut table bookmark keys old (with_nodes table (with_data_at (table_nodes ready table) bookmark []) ready)
emptied laws table bookmark row keys old ready there absent put = record {
  numbers = same_table_numbers table (with_data_at (table_nodes ready table) bookmark []) ready ∙ put.numbers;
  indexes = λ other. ap (map (λ (x : StoredIndex). x.0)) (laws.indexes ready table other (with_data_at (table_nodes ready table) bookmark [])) ∙ put.indexes other;
  rows = λ other own. ap data_of (found_data laws table bookmark [] ready there other own) ∙ data_is other own (table == other) (bytes_eq bookmark own) refl refl;
  extents = λ other own. subst (λ (o : Option Node). IsWidened (extent_in (table_nodes old other) own) (extent_of o)) (sym (found_data laws table bookmark [] ready there other own)) (wide other own (table == other) (bytes_eq bookmark own) refl);
  others = λ other index apart. same other index ∙ put.others other index apart;
  stay = λ index key own is. ap (has_entry key own) (same table index) ∙ put.stay index key own is;
  only = λ index key own is. put.only index key own (ap (has_entry key own) (sym (same table index)) ∙ is);
}
  where
    new : List StoredTable
    new = with_nodes table (with_data_at (table_nodes ready table) bookmark []) ready

    same : (other index : ℕ) → index_entries new other index ≡ index_entries ready other index
    same other index = ap (λ (indexes : List StoredIndex). part_of (is_index index) (λ x. x.1) indexes) (laws.indexes ready table other (with_data_at (table_nodes ready table) bookmark []))

    kept : (other : ℕ) (own : List ℕ) → is_place table bookmark other own ≡ false → get_in (table_nodes ready other) own ≡ get_in (table_nodes old other) own
    kept other own miss = put.rows other own ∙ ap (λ b. cond b (Some row) (get_in (table_nodes old other) own)) miss

    unchanged : (o : Option Node) → data_of (option_map (λ (n : Node). n) o) ≡ data_of o
    unchanged None = refl
    unchanged (Some n) = refl

    none : (other : ℕ) (own : List ℕ) → (table == other) ≡ true → bytes_eq bookmark own ≡ true → get_in (table_nodes old other) own ≡ None
    none other own e f = (λ i. get_in (table_nodes old (sym (eqb-true table other e) i)) (sym (same_bytes bookmark own f) i)) ∙ absent

    data_is : (other : ℕ) (own : List ℕ) (a b : Bool) → (table == other) ≡ a → bytes_eq bookmark own ≡ b
        → data_of (cond a (option_map (λ (n : Node). cond b (put_data [] n) n) (find (has_key own) (table_nodes ready table))) (find (has_key own) (table_nodes ready other))) ≡ node_at_least (a && b) (get_in (table_nodes old other) own)
    data_is other own true true e f =
        put_there [] (find (has_key own) (table_nodes ready table)) ((λ i. is_some (get_in (table_nodes ready table) (sym (same_bytes bookmark own f) i))) ∙ new_node_is_there table bookmark row keys old ready put)
        ∙ sym (ap (node_at_least true) (none other own e f))
    data_is other own true false e f =
        unchanged (find (has_key own) (table_nodes ready table)) ∙ (λ i. get_in (table_nodes ready (eqb-true table other e i)) own) ∙ kept other own (λ i. e i && f i)
    data_is other own false b e f = kept other own (ap (λ x. x && bytes_eq bookmark own) e)

    same_extent : (b : Bool) (o : Option Node) → extent_of (option_map (λ (n : Node). cond b (put_data [] n) n) o) ≡ extent_of o
    same_extent b None = refl
    same_extent true (Some n) = refl
    same_extent false (Some n) = refl

    wide : (other : ℕ) (own : List ℕ) (a b : Bool) → (table == other) ≡ a
        → IsWidened (extent_in (table_nodes old other) own) (extent_of (cond a (option_map (λ (n : Node). cond b (put_data [] n) n) (find (has_key own) (table_nodes ready table))) (find (has_key own) (table_nodes ready other))))
    wide other own true b e =
        subst (λ (o : Option ℕ). IsWidened (extent_in (table_nodes old other) own) o) (sym (same_extent b (find (has_key own) (table_nodes ready table)) ∙ (λ i. extent_in (table_nodes ready (eqb-true table other e i)) own))) (put.extents other own)
    wide other own false b e = put.extents other own

-- a node that has room is there
pub node_there : (o : Option Node) (n : ℕ) → extent_of o ≡ Some n → false ≡ is_none (data_of o)
node_there None n e = cc
node_there (Some x) n e = refl
